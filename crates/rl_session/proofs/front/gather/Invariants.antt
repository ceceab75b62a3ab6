-- What the turns so far gave.
use Rattle.std.proofs.Common.{◌≤◌, length}
use Rattle.rl_session.proofs.Gathering.{Gathered}
use Rattle.rl_session.proofs.front.gather.Given as goal

-- each turn so far gave its bytes, and there are not too many
abbrev pub invariant-loop : goal.invariant-loop
invariant-loop g l = record {
  gathered : Gathered (g.R.Read.remaining l.fn.reader) (g.R.Read.remaining l.reader) l.counter l.bytes.items;
  fits : length l.bytes.items ≤ l.most;
}
