-- A member with the key is found, or passed over.
use Rattle.std.proofs.Common.{◌≡◌, ◌<◌, length, sym, ◌∙◌, arith, nat_cmp}
use Rattle.std.specs.Cmp.Lexicographic.{slice_cmp}
use Rattle.std.specs.declared.cmp.Ordering.TheVariants.{Equal, Greater}
use Rattle.rl_json.proofs.JsonData.{above_more, placed_on}
use Rattle.rl_json.proofs.members.span_of.Goals as goal

pub returns-in-Equal-clause-placed : goal.returns-in-Equal-clause-placed
returns-in-Equal-clause-placed c = λ d.
    let here = c.index-found-index.result in
    let in' : c.loop-index.index < length c.args.found.now = omega arith in
    let tied : slice_cmp nat_cmp c.args.key.now here.0.now ≡ Equal = sym c.cmp.ensures ∙ c.in-Equal.is in
    placed_on c.args.key.now c.args.found.now c.loop-index.index here d in' c.index-found-index.is tied c.loop-index.invariant

pub loop-index-preserved : goal.loop-index-preserved
loop-index-preserved c =
    let here = c.index-found-index.result in
    let in' : c.loop-index.index < length c.args.found.now = omega arith in
    let above : slice_cmp nat_cmp c.args.key.now here.0.now ≡ Greater = sym c.cmp.ensures ∙ c.in-Greater.is in
    above_more c.args.key.now c.args.found.now c.loop-index.index here in' c.index-found-index.is above c.loop-index.invariant
