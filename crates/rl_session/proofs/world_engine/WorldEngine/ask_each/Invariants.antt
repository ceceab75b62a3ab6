-- The shards so far decided the step, with these replies.
use Rattle.std.proofs.Common.{◌≡◌, List, length}
use Rattle.rl_records.specs.declared.step.ShardReply.{ShardReply}
use Rattle.rl_session.specs.WorldEngine.{AreDecided, IsAlike, first_refused}
use Rattle.rl_session.proofs.world_engine.WorldEngine.ask_each.Given as goal

abbrev pub invariant-loop-number : goal.invariant-loop-number
invariant-loop-number g l = record {
  replies : List ShardReply;
  many : length replies ≡ l.number;
  refused : l.refused ≡ first_refused replies;
  made : AreDecided l.fn.self l.step 0 replies l.self;
  alike : IsAlike l.fn.self l.self;
}
