-- The first refusal that is found.
use Rattle.std.proofs.Common.{length, sym, ap, ◌∙◌, arith, rules}
use borrow.Author.Tests.{tests}
use Rattle.std.specs.Prelude.{is_some}
use Rattle.std.proofs.lemmas.Iterator.Adapters.{YieldsList-from_vec, option_map_id}
use Rattle.std.proofs.lemmas.Iterator.Search.{find_from_yields_List}
use Rattle.rl_session.specs.Names.{shard_refusal}
use Rattle.rl_callers.proofs.Passes.{first_found}
use Rattle.rl_callers.proofs.caller.first_refused.Goals as goal

pub returns : goal.returns
returns c =
    sym (option_map_id c.find.result)
    ∙ find_from_yields_List (λ reply. is_some (shard_refusal reply)) c.find.new.self _ c.find.result c.find.ensures.ran (YieldsList-from_vec {s = c.into_iter.result} c.args.replies (cc) (omega (arith, c.into_iter.ensures.len, c.into_vec.result.ok.0, ap length c.into_vec.ensures))) (λ x b q k. search (rules, tests))
    ∙ first_found c.args.replies
