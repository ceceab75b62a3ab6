-- No more pass a test than there are.
use Rattle.std.proofs.Common.{◌≤◌, Bool, List, length, arith}
use Rattle.std.specs.List.{filter}
use Rattle.std.proofs.lemmas.List.Sums.{length-filter, count_by-le-length}

pub few_pass : {X : Type 0} (p : X → Bool) (xs : List X) → length (filter p xs) ≤ length xs
few_pass p xs = omega (arith, length-filter p xs, count_by-le-length p xs)
