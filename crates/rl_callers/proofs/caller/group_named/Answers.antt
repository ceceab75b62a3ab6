-- The place of the first group with the name.
use Rattle.std.proofs.Common.{◌∙◌, rules}
use borrow.Author.Tests.{tests}
use Rattle.std.proofs.lemmas.Iterator.{YieldsList-from_slice}
use Rattle.std.proofs.lemmas.Iterator.Adapters.{position_from-zero}
use Rattle.std.proofs.lemmas.Iterator.Search.{position_from_yields_List}
use Rattle.rl_labels.specs.Name.{is_text}
use Rattle.rl_callers.specs.declared.caller.Listing.{Listing}
use Rattle.rl_callers.proofs.Passes.{place_named}
use Rattle.rl_callers.proofs.caller.group_named.Goals as goal

pub returns : goal.returns
returns c =
    position_from_yields_List (λ (group : Listing). is_text group.name c.args.name.now) _ _ c.position.result c.position.ensures.ran (YieldsList-from_slice c.args.groups.now cc) (λ x b q k. search (rules, tests))
    ∙ position_from-zero (λ (group : Listing). is_text group.name c.args.name.now) c.args.groups.now
    ∙ place_named c.args.name.now c.args.groups.now
