-- Replies.
use Rattle.rl_records.specs.declared.step.ShardReply.{ShardReply}
use Rattle.rl_records.specs.declared.step.ShardReply.TheVariants as replies

-- one without partials
abbrev pub IsPlain : ShardReply → Type 0
IsPlain (replies.Collected partials) = ⊥
IsPlain reply = Unit {0}
