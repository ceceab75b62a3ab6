-- The matchers so far stand at the end, each after a comma.
use Rattle.std.proofs.Common.{◌≡◌, ◌++◌, ◌∷◌, take, map, string_bytes}
use Rattle.std.specs.List.{flat_map}
use Rattle.rl_query.specs.Form.{matcher_form}
use Rattle.rl_query.specs.MatcherPrinting.{matcher_text}
use Rattle.rl_query.proofs.printer.push_others.Given as goal

abbrev pub invariant-loop-matcher : goal.invariant-loop-matcher
invariant-loop-matcher l = string_bytes l.text ≡ string_bytes l.fn.text ++ flat_map (λ other. 44 ∷ 32 ∷ matcher_text other) (map matcher_form (take l.matcher-index l.matchers))
