-- The first line of the rest is the mark, or is one line more that was seen.
use Rattle.std.proofs.Common.{sym, refl}
use Rattle.rl_session.proofs.Cut.{IsUtf8-following, IsCut-front_of}
use Rattle.rl_session.proofs.Lines.{Seen-line, front_of-here}
use Rattle.rl_session.proofs.front.split_front.Goals as goal

pub returns-then-eq : goal.returns-then-eq
returns-then-eq c =
    let found = front_of-here c.args.text.now c.loop-rest.rest.now c.first_line.result.0.now c.split_at.result.0.now c.first_line.result.1 c.unwrap_or.result _ c.loop-rest.invariant.1 c.first_line.ensures (sym c.if-eq.ensures) c.split_at.ensures.front c.unwrap_or.ensures refl in
    record {
      front = found;
      cut = IsCut-front_of c.args.text.now (c.split_at.result.0.now, c.unwrap_or.result.now) (sym found);
    }

pub loop-rest-preserved : goal.loop-rest-preserved
loop-rest-preserved c =
    let rest = c.loop-rest.rest.now in
    let line = c.first_line.result.0.now in
    let following = c.in_ok-rest.rest.now in
    let first = rw c.in_ok-rest.was at c.first_line.ensures in
    (IsUtf8-following rest line following c.loop-rest.invariant.0 first.1, Seen-line c.args.text.now rest line following c.loop-rest.invariant.1 first.0 first.1 (sym c.if-eq.ensures))
