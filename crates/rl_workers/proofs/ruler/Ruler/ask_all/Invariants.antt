-- The shards so far decided the step, with these replies.
use Rattle.std.proofs.Common.{◌≡◌, ◌+◌, ◌≤◌, length, vec_capacity}
use Rattle.rl_workers.specs.Rulers.{AreDecidedBy}
use Rattle.rl_workers.proofs.ruler.Ruler.ask_all.Given as goal

abbrev pub invariant-loop-number : goal.invariant-loop-number
invariant-loop-number g l = record {
  decided : AreDecidedBy l.number l.step l.fn.pass l.replies.items l.pass;
  room : l.shards ≤ l.pass.receipt_room + l.number;
  count : length l.replies.items ≡ l.number;
  capacity : l.shards ≤ vec_capacity l.replies;
}
