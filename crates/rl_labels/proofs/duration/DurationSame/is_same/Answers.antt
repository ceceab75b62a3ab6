-- Lists of parts are one where their parts are.
use Rattle.std.proofs.Common.{rules}
use Rattle.std.proofs.lemmas.Slice.Eq.{slice_eq-Decides}
use Rattle.rl_labels.specs.contracts.duration.DurationPartPartialEq.TheImpl as parts
use Rattle.rl_labels.proofs.duration.DurationSame.is_same.Goals as goal

pub returns : goal.returns
returns c = slice_eq-Decides {E = (parts.ghosts).eq} (λ a b. search rules) c.args.self.now c.args.other.now c.eq.result c.eq.ensures
