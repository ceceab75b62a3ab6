-- What a test that holds is.
use Rattle.std.specs.Prelude.{◌≡◌, Bool, true, false, T, refl}

pub true_from : (b : Bool) → T b → b ≡ true
true_from true h = refl
true_from false h = absurd h
