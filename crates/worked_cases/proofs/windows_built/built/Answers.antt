-- Both terms have one selector.
use Rattle.std.proofs.Common.{refl, ap}
use Rattle.worked_cases.proofs.windows_built.built.Goals as goal

pub build-requires-clause-of_one : goal.build-requires-clause-of_one
build-requires-clause-of_one c = (c.args.first.now.left.range.selector.matchers, (refl, (ap (λ selector. selector.matchers) c.requires, tt)))
