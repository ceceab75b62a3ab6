-- Each turn gives a piece more, fails, or gives too much.
use Rattle.std.proofs.Common.{ℕ, ◌+◌, Vec, Global, arith}
use Rattle.std.proofs.lemmas.Result.{err_from_is_err_and}
use Rattle.rl_session.proofs.Gathering.{Gathered-turn, Reads-more, GivesOne-failed}
use Rattle.rl_session.proofs.front.gather.Goals as goal

pub loop-preserved : goal.loop-preserved
loop-preserved g c =
    let remaining = g.R.Read.remaining in
    let turn = c.in_ok-take_turn.ensures.ok in
    record {
      gathered = Gathered-turn (remaining c.args.reader.now) (remaining c.loop.reader) (remaining c.take_turn.new.reader) c.loop.counter c.loop.bytes.items turn.0 c.take_turn.new.bytes.items c.loop.invariant.gathered turn.1 turn.2;
      fits = omega arith;
    }

pub returns-in_err-take_turn : goal.returns-in_err-take_turn
returns-in_err-take_turn g c =
    let remaining = g.R.Read.remaining in
    let error = err_from_is_err_and c.from_residual.result c.from_residual.ensures.1 in
    rw (error.1, error.2) (GivesOne-failed (λ (bytes : Vec ℕ Global). bytes.items) c.args.most (remaining c.args.reader.now) (remaining c.loop.reader) (remaining c.take_turn.new.reader) c.loop.counter c.loop.bytes.items c.in_err-take_turn.field-0.0 c.loop.invariant.gathered c.loop-test.true c.loop.invariant.fits c.in_err-take_turn.ensures.err)

pub returns-then-len-most : goal.returns-then-len-most
returns-then-len-most g c =
    let remaining = g.R.Read.remaining in
    let turn = c.in_ok-take_turn.ensures.ok in
    Reads-more c.args.most (remaining c.args.reader.now) (remaining c.take_turn.new.reader) (c.loop.counter + 1) c.take_turn.new.bytes.items
    (Gathered-turn (remaining c.args.reader.now) (remaining c.loop.reader) (remaining c.take_turn.new.reader) c.loop.counter c.loop.bytes.items turn.0 c.take_turn.new.bytes.items c.loop.invariant.gathered turn.1 turn.2)
    (omega arith) (omega arith)
