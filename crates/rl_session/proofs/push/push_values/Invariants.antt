-- The entries so far, and those of the values that are left.
use Rattle.std.proofs.Common.{◌≡◌, map, drop}
use Rattle.json.specs.Value.{items_view}
use Rattle.rl_json.specs.JsonData.{items_data}
use Rattle.rl_plain.specs.Answers.{with_front}
use Rattle.rl_session.specs.PushForms.{entry_form}
use Rattle.rl_session.specs.PushBody.{entries_from}
use Rattle.rl_session.proofs.push.push_values.Given as goal

abbrev pub invariant-loop-value : goal.invariant-loop-value
invariant-loop-value l =
    with_front (map entry_form l.entries.items) (entries_from l.labels (items_data (items_view (drop l.value-index l.values)))) ≡ with_front (map entry_form l.initial.entries.items) (entries_from l.labels (items_data (items_view l.values)))
