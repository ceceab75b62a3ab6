-- Each turn looks into the next part, over a store that only reads have changed.
use Rattle.std.proofs.Common.{sym, subst, ◌∙◌}
use Rattle.std.proofs.lemmas.Result.{err_from_is_err_and}
use Rattle.std.specs.List.{AllByRecursion}
use Rattle.std.proofs.lemmas.List.{take_all}
use Rattle.std.proofs.lemmas.List.Elements.{All-from_recursion}
use Rattle.rl_parts.specs.Reading.{IsOutside, IsWithout, in_store}
use Rattle.rl_parts.specs.laws.UseLaws.{Reads-then, kept_at}
use Rattle.rl_parts.proofs.Finding.{yes, no, not_both, absent_part, absent_parts, found_part, one_more}
use Rattle.rl_parts.specs.laws.AnswerLaws.{right_on}
use Rattle.rl_parts.proofs.searching.any_there.Goals as goal

pub returns-in_err-has_there-clause-right : goal.returns-in_err-has_there-clause-right
returns-in_err-has_there-clause-right g c = λ kept honest.
    let p = err_from_is_err_and c.from_residual.result c.from_residual.ensures.1 in
    let start = c.args.chunks.now in
    let now = c.loop-part.chunks in
    let here = kept_at start now c.args.entry.now.labels c.args.parts.now c.loop-part.part-index c.part-item.result c.loop-part-test.true c.part-item.is c.loop-part.invariant.reads kept in
    rw (p.1, p.2) (right_on c.in_err-has_there.field-0.0 _ _ (c.in_err-has_there.ensures.right here (c.loop-part.invariant.reads.seen.honest ∙ honest)))

pub returns-then-branch-clause-right : goal.returns-then-branch-clause-right
returns-then-branch-clause-right g c = λ kept honest.
    let start = c.args.chunks.now in
    let now = c.loop-part.chunks in
    let here = kept_at start now c.args.entry.now.labels c.args.parts.now c.loop-part.part-index c.part-item.result c.loop-part-test.true c.part-item.is c.loop-part.invariant.reads kept in
    yes (found_part in_store c.args.parts.now c.loop-part.part-index c.part-item.result c.args.entry.now c.loop-part-test.true c.part-item.is ((c.in_ok-has_there.ensures.right here (c.loop-part.invariant.reads.seen.honest ∙ honest)).0 c.if-branch.true))

pub loop-part-preserved : goal.loop-part-preserved
loop-part-preserved g c =
    let start = c.args.chunks.now in
    let now = c.loop-part.chunks in
    let ts = c.args.entry.now.timestamp in
    record {
      reads = Reads-then start now c.has_there.new.chunks c.loop-part.invariant.reads c.has_there.ensures.reads;
      counted = c.in_ok-has_there.ensures.counted ∙ c.loop-part.invariant.counted;
      unread = λ apart. c.has_there.ensures.unread (subst (IsOutside ts ts) (sym c.part-item.is) (All-from_recursion (IsOutside ts ts) c.args.parts.now apart c.loop-part.part-index c.part-item.result c.loop-part-test.true)) ∙ c.loop-part.invariant.unread apart;
      absent = λ kept honest.
          let here = kept_at start now c.args.entry.now.labels c.args.parts.now c.loop-part.part-index c.part-item.result c.loop-part-test.true c.part-item.is c.loop-part.invariant.reads kept in
          absent_part in_store c.args.parts.now c.loop-part.part-index c.part-item.result c.args.entry.now c.loop-part-test.true c.part-item.is (c.loop-part.invariant.absent kept honest)
          (λ there. not_both ((c.in_ok-has_there.ensures.right here (c.loop-part.invariant.reads.seen.honest ∙ honest)).1 there) c.if-branch.false);
      without = one_more (IsWithout c.args.entry.now) c.args.parts.now c.loop-part.part-index c.part-item.result c.loop-part-test.true c.part-item.is c.loop-part.invariant.without (c.in_ok-has_there.ensures.no c.if-branch.false);
    }

pub returns-clause-right : goal.returns-clause-right
returns-clause-right g c = λ kept honest. no (absent_parts in_store c.args.parts.now c.loop-part.part-index c.args.entry.now c.loop-part-test.false (c.loop-part.invariant.absent kept honest))

pub returns-then-branch-clause-yes : goal.returns-then-branch-clause-yes
returns-then-branch-clause-yes g c = λ found. (c.part-item.result, (c.loop-part.part-index, c.loop-part-test.true, sym c.part-item.is), c.in_ok-has_there.ensures.yes c.if-branch.true)

pub returns-clause-no : goal.returns-clause-no
returns-clause-no g c = λ found. subst (AllByRecursion (IsWithout c.args.entry.now)) (take_all c.loop-part.part-index c.args.parts.now c.loop-part-test.false) c.loop-part.invariant.without
