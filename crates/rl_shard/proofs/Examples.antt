-- What no step of today can show, because none sets the horizon: pushes below it and at it, by values worked out by hand.
use Rattle.std.specs.Prelude.{◌≡◌, ◌≤◌, ℕ, false, IsTrue, List, length, refl}
use Rattle.std.specs.FinMap.{FinMap}
use Rattle.rl_labels.specs.EntryOrder.{EntrySet}
use Rattle.rl_labels.specs.EntryParts.{is_stream, longest_line}
use Rattle.rl_labels.specs.LabelSet.{LabelSet}
use Rattle.rl_labels.specs.LabelText.{label_set_cmp}
use Rattle.rl_labels.specs.declared.entry.Entry.{Entry}
use Rattle.rl_labels.specs.declared.limits.Limits.{Limits}
use Rattle.rl_deletes.specs.Deletes.{no_requests}
use Rattle.rl_shard.specs.ShardState.{ShardState}
use Rattle.rl_shard.specs.ShardStep.{is_expired, push_reply, pushed}
use Rattle.rl_records.specs.declared.step.ShardReply.TheVariants.{Expired}

-- any limits, anything held, and a stream with a line
module _ (limits : Limits) (held : EntrySet) (newest : FinMap label_set_cmp ℕ) (labels : LabelSet) (of_stream : IsTrue (is_stream labels)) (line : List ℕ) (fits : length line ≤ longest_line) where
  -- the horizon is at 10
  abbrev shard : ShardState
  shard = record { held = held; newest = newest; requests = no_requests limits; horizon = 10 }

  abbrev entry_at : ℕ → Entry
  entry_at timestamp = record { labels = labels; timestamp = timestamp; line = line; of_stream = of_stream; fits = fits }

  -- also where it is too far behind, held, or the shard full
  below_the_horizon : push_reply limits shard (entry_at 9) ≡ Expired 10
  below_the_horizon = refl

  expired_changes_nothing : pushed limits shard (entry_at 9) ≡ shard
  expired_changes_nothing = refl

  at_the_horizon : is_expired shard (entry_at 10) ≡ false
  at_the_horizon = refl
