-- A shard more answered by its record.
use Rattle.std.proofs.Common.{◌≡◌, ◌<◌, ℕ, List, map, length, Some, IfSome, option_map, slice_get, slice_set, get_or, refl, ap, subst, ◌∙◌, arith}
use Rattle.std.proofs.lemmas.List.{set-get_or}
use Rattle.std.proofs.lemmas.Option.{slice_get-map, slice_get_read}
use Rattle.rl_query.specs.declared.query.Term.{Term}
use Rattle.rl_shard.specs.ShardState.{ShardView}
use Rattle.rl_world.specs.Evaluating.{group_terms}
use Rattle.rl_audit.specs.Driven.{AreGathered}
use Rattle.rl_audit.specs.Founded.{IsAsked}
use Rattle.rl_audit.proofs.Regathering.{free_next, gathered_more}
use Rattle.rl_audit.proofs.driving.gather_again.Goals as goal

pub put_again-requires-clause-free : goal.put_again-requires-clause-free
put_again-requires-clause-free g c =
    let below : c.loop-number.number < c.args.driven.now.shards = omega (arith, c.loop-number-test.true, c.requires.shards) in
    free_next (map (λ (shard : ShardView). shard.journal) c.args.shards.now) c.loop-number.number c.args.evaluation.now.t c.args.driven.now c.loop-number.driven c.loop-number.invariant.gathered below

pub loop-number-preserved : goal.loop-number-preserved
loop-number-preserved g c =
    let shards = c.args.shards.now in
    let number = c.loop-number.number in
    let read = c.index-shards-number.result in
    let shard : ShardView = get_or c.loop-number.shards number read in
    let place = c.in-Some.own.now in
    let shown = c.in-Some-2.shown in
    let t = c.args.evaluation.now.t in
    let old = c.args.driven.now in
    let below : number < old.shards = omega (arith, c.loop-number-test.true, c.requires.shards) in
    let is : slice_get shards number ≡ Some shard = slice_get_read shards (length shards) number read refl (omega (arith, c.loop-number-test.true)) (c.index-shards-number.is ∙ ap (λ (all : List ShardView). get_or all number read) c.loop-number.invariant.same) ∙ ap Some c.index-shards-number.is in
    let there = slice_get-map (λ (shard : ShardView). shard.journal) shards number ∙ ap (option_map (λ (shard : ShardView). shard.journal)) is in
    let Asked : ℕ → List Term → Type 0 = λ slot terms. IsAsked slot terms t shard.journal (record { place = place; shown = shown }) in
    let found : Asked c.slot.result c.in_ok-try_copy.field-0 = subst (λ maybe. IfSome maybe (λ shown. IsAsked c.slot.result c.in_ok-try_copy.field-0 t shard.journal (record { place = place; shown = shown }))) c.in-Some-2.is c.in_ok-shown.ensures.asked in
    let asked = subst (λ slot. Asked slot (group_terms old.history.group)) c.slot.ensures (subst (Asked c.slot.result) (c.in_ok-try_copy.ensures ∙ c.terms.ensures) found) in
    record {
      gathered = gathered_more (map (λ (shard : ShardView). shard.journal) shards) number t old c.loop-number.driven c.loop-number.invariant.gathered c.put_again.new.driven shard.journal (record { place = place; shown = shown }) below there asked c.put_again.ensures;
      same = ap (slice_set c.loop-number.shards number) c.partials_at.ensures.same ∙ set-get_or c.loop-number.shards number read ∙ c.loop-number.invariant.same;
    }

pub returns-clause-gathered : goal.returns-clause-gathered
returns-clause-gathered g c =
    let all : c.loop-number.number ≡ length c.args.shards.now = omega (arith, c.loop-number-test.false, c.loop-number.auto.number-end) in
    subst (λ n. AreGathered (map (λ (shard : ShardView). shard.journal) c.args.shards.now) n c.args.evaluation.now.t c.args.driven.now c.loop-number.driven) all c.loop-number.invariant.gathered
