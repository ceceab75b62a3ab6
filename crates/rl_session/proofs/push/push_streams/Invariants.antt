-- The entries so far, and those of the streams that are left.
use Rattle.std.proofs.Common.{◌≡◌, map, drop}
use Rattle.json.specs.Value.{items_view}
use Rattle.rl_json.specs.JsonData.{items_data}
use Rattle.rl_plain.specs.Answers.{with_front}
use Rattle.rl_session.specs.PushForms.{entry_form}
use Rattle.rl_session.specs.PushBody.{streams_entries}
use Rattle.rl_session.proofs.push.push_streams.Given as goal

abbrev pub invariant-loop-stream : goal.invariant-loop-stream
invariant-loop-stream l =
    with_front (map entry_form l.entries.items) (streams_entries (items_data (items_view (drop l.stream-index l.streams)))) ≡ with_front (map entry_form l.initial.entries.items) (streams_entries (items_data (items_view l.streams)))
