-- A book more is audited, and in the end all are.
use Rattle.std.proofs.Common.{◌∙◌, List, map, subst}
use Rattle.std.proofs.lemmas.List.{take_all}
use Rattle.std.specs.List.{AllByRecursion}
use Rattle.rl_records.specs.declared.record.Record.{Record}
use Rattle.rl_shard.specs.ShardState.{ShardView}
use Rattle.rl_world.specs.WorldState.{BookState}
use Rattle.rl_audit.specs.Founded.{IsAudited, IsLegal}
use Rattle.rl_audit.proofs.FromScratch.{books_shown}
use Rattle.rl_audit.proofs.Fronts.{all_more}
use Rattle.rl_audit.proofs.auditing.audit.Goals as goal

pub loop-book-preserved : goal.loop-book-preserved
loop-book-preserved g c =
    let journals : List (List Record) = map (λ (shard : ShardView). shard.journal) c.args.shards.now in
    let book : BookState = c.book-item.result in
    let audited : IsAudited journals book = subst (λ (shards : List ShardView). IsAudited (map (λ (shard : ShardView). shard.journal) shards) book) c.loop-book.invariant.same c.in_ok-audit_book.ensures.audited in
    record {
      audited = all_more (IsAudited journals) c.args.books.now c.loop-book.book-index book c.loop-book-test.true c.book-item.is c.loop-book.invariant.audited audited;
      same = c.in_ok-audit_book.ensures.same ∙ c.loop-book.invariant.same;
    }

pub returns-clause-audited : goal.returns-clause-audited
returns-clause-audited g c =
    let journals : List (List Record) = map (λ (shard : ShardView). shard.journal) c.args.shards.now in
    subst (AllByRecursion (IsAudited journals)) (take_all c.loop-book.book-index c.args.books.now c.loop-book-test.false) c.loop-book.invariant.audited

pub returns-clause-from_scratch : goal.returns-clause-from_scratch
returns-clause-from_scratch g c = λ honest.
    let journals : List (List Record) = map (λ (shard : ShardView). shard.journal) c.args.shards.now in
    let audited : AllByRecursion (IsAudited journals) c.args.books.now = subst (AllByRecursion (IsAudited journals)) (take_all c.loop-book.book-index c.args.books.now c.loop-book-test.false) c.loop-book.invariant.audited in
    books_shown c.args.shards.now (subst (AllByRecursion IsLegal) c.in_ok-audit_receipts.ensures.same c.are_legal.ensures) honest c.args.books.now audited
