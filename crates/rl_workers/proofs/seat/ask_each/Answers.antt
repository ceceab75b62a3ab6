-- A shard more answers, or the first that does not.
use Rattle.std.proofs.Common.{◌≡◌, ◌<◌, None, length, refl, ap, subst, ◌∙◌, arith}
use Rattle.std.proofs.lemmas.Result.{err_from_is_err_and}
use Rattle.rl_world.specs.History.{gather_fault}
use Rattle.rl_world.specs.WorldState.{BookState}
use Rattle.rl_workers.proofs.Committing.{not_begun}
use Rattle.rl_audit.proofs.Answered.{free_after}
use Rattle.rl_workers.proofs.Gathering.{gathered_more, gathered_none}
use Rattle.rl_workers.proofs.seat.ask_each.Goals as goal

pub returns-in_err-begin-clause-refused : goal.returns-in_err-begin-clause-refused
returns-in_err-begin-clause-refused g c =
    let error = err_from_is_err_and c.from_residual.result c.from_residual.ensures.1 in
    rw (error.1, error.2) (not_begun _ c.args.t c.args.book.now c.begin.new.book c.args.pass.now _ c.in_err-begin.ensures.refused c.in_err-begin.ensures.err refl)

pub loop-number-init : goal.loop-number-init
loop-number-init g c = gathered_none c.args.t c.args.book.now c.begin.new.book c.args.pass.now c.in_ok-begin.ensures.ok.0 c.in_ok-begin.ensures.ok.1

pub gather-requires-clause-free : goal.gather-requires-clause-free
gather-requires-clause-free g c =
    let made = c.loop-number.invariant in
    let below : c.loop-number.number < c.args.book.now.shards = omega (arith, c.loop-number-test.true, c.len-number-end.ensures, c.requires.shards) in
    let few : length made.answers < c.args.book.now.shards = omega (arith, below, made.each) in
    subst (λ n. gather_fault c.loop-number.book.history n ≡ None) made.each
    (ap (λ (b : BookState). gather_fault b.history (length made.answers)) made.kept ∙ free_after c.args.book.now.shards c.args.t made.answers c.args.book.now.history few)

pub loop-number-preserved : goal.loop-number-preserved
loop-number-preserved g c =
    let below : c.loop-number.number < c.args.book.now.shards = omega (arith, c.loop-number-test.true, c.len-number-end.ensures, c.requires.shards) in
    gathered_more c.loop-number.number c.args.t c.args.book.now c.loop-number.book c.gather.new.book c.args.pass.now c.loop-number.pass c.gather.new.pass below c.loop-number.invariant c.in-Ok.ensures.gathered
