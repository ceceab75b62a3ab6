-- Alerts: what becomes of an alert at a moment, by the sample with its label set and by what it was before.
use Rattle.std.specs.Prelude.{ℕ, ◌+◌, ◌*◌, ◌^◌, nat_le, Bool, true, false, List, ◌++◌, map, flat_map, option_to_list, Option, None, Some, if◌then◌else◌}
use Rattle.std.specs.FinMap.{entries, from_entries}
use Rattle.std.specs.FinMap.Entries.{find}
use Rattle.rl_labels.specs.LabelSet.{LabelSet}
use Rattle.rl_labels.specs.LabelText.{label_set_cmp}
use Rattle.rl_aggregate.specs.declared.outcome.Fraction.{Fraction}
use Rattle.rl_aggregate.specs.declared.outcome.Sample.{Sample}
use Rattle.rl_rules.specs.declared.alert.Alert.{Alert}
use Rattle.rl_rules.specs.declared.alert.AlertState.{AlertState}
use Rattle.rl_rules.specs.declared.alert.AlertState.TheVariants as states

-- alerts by their label sets
abbrev pub keyed : List Alert → List (LabelSet × Alert)
keyed alerts = map (λ alert. (alert.labels, alert)) alerts

-- pending or firing
abbrev pub is_active : AlertState → Bool
is_active states.Pending = true
is_active states.Firing = true
is_active states.Resolved = false

-- the moment from which it is active: of an alert that is active already this stays
abbrev pub active_from : ℕ → Option Alert → ℕ
active_from t None = t
active_from t (Some alert) = if is_active alert.state then alert.active_at else t

-- when an alert that fires now became firing: of one that was firing this stays
abbrev pub fired_from : ℕ → AlertState → Option ℕ → Option ℕ
fired_from t states.Firing fired = fired
fired_from t _ fired = Some t

abbrev pub fired_of : ℕ → Option Alert → Option ℕ
fired_of t None = Some t
fired_of t (Some alert) = fired_from t alert.state alert.fired

-- its series has been there for `hold` seconds
abbrev pub is_due : ℕ → ℕ → ℕ → Bool
is_due hold active_at t = nat_le (active_at + hold * 10 ^ 9) t

-- an alert whose series is there, with the value that this has now: it fires once the rule's time has passed
abbrev pub standing : ℕ → ℕ → LabelSet → Fraction → Option Alert → Alert
standing hold t labels value before =
    if is_due hold (active_from t before) t
    then record { labels = labels; value = value; active_at = active_from t before; fired = fired_of t before; state = states.Firing }
    else record { labels = labels; value = value; active_at = active_from t before; fired = None; state = states.Pending }

-- an alert whose series is gone: one that was firing is resolved, with its last value; any other is forgotten
abbrev pub gone_from : AlertState → Alert → Option Alert
gone_from states.Firing alert = Some (record { labels = alert.labels; value = alert.value; active_at = alert.active_at; fired = alert.fired; state = states.Resolved })
gone_from _ alert = None

abbrev pub gone : Alert → Option Alert
gone alert = gone_from alert.state alert

-- those whose series are there, by the first alert before with the label set
abbrev pub all_standing : ℕ → ℕ → List Sample → List Alert → List Alert
all_standing hold t samples before = map (λ sample. standing hold t sample.labels sample.value (find label_set_cmp sample.labels (keyed before))) samples

-- those that are resolved where their series are gone
abbrev pub all_gone : List Alert → List Alert
all_gone before = flat_map (λ alert. option_to_list (gone alert)) before

-- in the order of their label sets, of which the first with one counts
abbrev pub in_label_order : List Alert → List Alert
in_label_order alerts = map (λ entry. entry.1) (entries (from_entries {R = label_set_cmp} (keyed alerts)))

-- the alerts after the moment: a sample that is there counts before an alert that was
abbrev pub alerts_after : ℕ → ℕ → List Sample → List Alert → List Alert
alerts_after hold t samples before = in_label_order (all_standing hold t samples before ++ all_gone before)
