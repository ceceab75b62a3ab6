-- Each sample goes to the count of its group, and is kept where that was low.
use Rattle.std.proofs.Common.{◌≡◌, ◌++◌, [], ◌∷◌, length, true, false, sym, ap, ◌∙◌, arith, append_assoc, length-append}
use Rattle.std.proofs.lemmas.Bool.{lt-ltb, le-ltb}
use Rattle.std.proofs.lemmas.List.{append-nil}
use Rattle.std.specs.FinMap.{get}
use Rattle.rl_aggregate.specs.GroupsMap.{numerator_at}
use Rattle.rl_aggregate.specs.Grouping.{group_of, groups}
use Rattle.rl_query.specs.declared.aggregation.VectorOperator.TheVariants.{Count}
use Rattle.rl_aggregate.proofs.Ranked.{kept_more, next_counted, next_count_fits}
use Rattle.rl_aggregate.proofs.topk.first_of_each.Goals as goal

pub add-requires : goal.add-requires
add-requires c =
    let loop = c.loop-sample in
    let next : loop.sample-iterator.rest.items ≡ c.in-Some.sample ∷ c.next.new.self.rest.items = c.in-Some.ensures.steps.0 in
    let all = ap (λ rest. loop.yielded ++ rest) (sym next) ∙ loop.invariant.split in
    omega (
      arith,
      next_count_fits c.args.grouping.now loop.yielded c.in-Some.sample loop.counts c.in_ok-labels-2.labels loop.invariant.counts c.in_ok-labels-2.ensures,
      ap length all,
      length-append loop.yielded (c.in-Some.sample ∷ c.next.new.self.rest.items),
      c.args.ranked.ok.0,
    )

pub loop-sample-preserved-in-Continue-branch-5 : goal.loop-sample-preserved-in-Continue-branch-5
loop-sample-preserved-in-Continue-branch-5 c =
    let loop = c.loop-sample in
    let g = c.args.grouping.now in
    let sample = c.in-Some.sample in
    let next : loop.sample-iterator.rest.items ≡ sample ∷ c.next.new.self.rest.items = c.in-Some.ensures.steps.0 in
    let all = ap (λ rest. loop.yielded ++ rest) (sym next) ∙ loop.invariant.split in
    let before : c.count-before.result ≡ numerator_at (get (groups Count g loop.yielded) (group_of g sample.labels)) =
    c.count-before.ensures ∙ (λ i. numerator_at (get (loop.invariant.counts i) (c.in_ok-labels-2.ensures i))) in
    record {
      split = append_assoc loop.yielded (sample ∷ []) c.next.new.self.rest.items ∙ all;
      counts = c.in_ok-add.ensures ∙ next_counted g loop.yielded sample loop.counts c.in_ok-labels-2.labels loop.invariant.counts c.in_ok-labels-2.ensures;
      kept = c.in_ok-push.ensures.items ∙ ap (λ l. l ++ sample ∷ []) loop.invariant.kept
          ∙ kept_more c.args.k g c.args.ranked.items loop.yielded sample c.next.new.self.rest.items c.count-before.result true all c.requires before (lt-ltb c.count-before.result c.args.k (omega arith));
    }

pub loop-sample-preserved : goal.loop-sample-preserved
loop-sample-preserved c =
    let loop = c.loop-sample in
    let g = c.args.grouping.now in
    let sample = c.in-Some.sample in
    let next : loop.sample-iterator.rest.items ≡ sample ∷ c.next.new.self.rest.items = c.in-Some.ensures.steps.0 in
    let all = ap (λ rest. loop.yielded ++ rest) (sym next) ∙ loop.invariant.split in
    let before : c.count-before.result ≡ numerator_at (get (groups Count g loop.yielded) (group_of g sample.labels)) =
    c.count-before.ensures ∙ (λ i. numerator_at (get (loop.invariant.counts i) (c.in_ok-labels-2.ensures i))) in
    record {
      split = append_assoc loop.yielded (sample ∷ []) c.next.new.self.rest.items ∙ all;
      counts = c.in_ok-add.ensures ∙ next_counted g loop.yielded sample loop.counts c.in_ok-labels-2.labels loop.invariant.counts c.in_ok-labels-2.ensures;
      kept = sym (append-nil c.loop-sample.kept.items) ∙ ap (λ l. l ++ []) loop.invariant.kept
          ∙ kept_more c.args.k g c.args.ranked.items loop.yielded sample c.next.new.self.rest.items c.count-before.result false all c.requires before (le-ltb c.count-before.result c.args.k (omega arith));
    }
