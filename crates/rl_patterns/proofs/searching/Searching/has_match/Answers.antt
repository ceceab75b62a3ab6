use Rattle.rl_patterns.proofs.Readings.{has_match_of}
use Rattle.rl_patterns.proofs.searching.Searching.has_match.Goals as goal

pub returns-clause-found : goal.returns-clause-found
returns-clause-found c =
    rw (c.is_match.ensures.found, c.self.invariant.1, ← c.self.view_is)
    (has_match_of c.self.inside.regex.now c.args.text.now c.self.invariant.0 (λ k. (c.type_inv.text k).fits))
