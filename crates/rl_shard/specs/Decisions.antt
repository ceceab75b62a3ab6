-- What is decided of a step.
use Rattle.std.specs.Prelude.{Result, Ok, Err}
use Rattle.rl_records.specs.declared.step.ShardReply.{ShardReply}
use Rattle.rl_records.specs.declared.step.ShardStep.{ShardStep}
use Rattle.rl_records.specs.declared.step.ShardStep.TheVariants as steps
use Rattle.rl_shard.specs.declared.deciding.Decision.{Decision}
use Rattle.rl_shard.specs.declared.deciding.TwoReplies.{TwoReplies}
use Rattle.rl_shard.specs.declared.step.ShardFault.{ShardFault}

-- the reply, without the record
abbrev pub reply_of : Result Decision ShardFault → Result ShardReply ShardFault
reply_of (Ok decision) = Ok decision.reply
reply_of (Err fault) = Err fault

-- the reply, without the copy that its record keeps
abbrev pub first_of : Result TwoReplies ShardFault → Result ShardReply ShardFault
first_of (Ok replies) = Ok replies.reply
first_of (Err fault) = Err fault

-- a step that asks for no partials
abbrev pub IsChange : ShardStep → Type 0
IsChange (steps.Collect slot terms t) = ⊥
IsChange step = Unit {0}
