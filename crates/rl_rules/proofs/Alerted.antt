-- Alerts by their label sets: one more goes in before the others, and the samples find theirs.
use Rattle.std.proofs.Common.{◌≡◌, ℕ, suc, ◌<◌, cond, List, [], ◌∷◌, map, length, get_or, drop, drop-cons, Some, refl, sym, ap, ◌∙◌}
use Rattle.std.specs.BTreeMap.{is_at}
use Rattle.std.specs.FinMap.{entries, from_entries, insert, get-entries, get-from_entries}
use Rattle.std.specs.FinMap.Entries.{find}
use Rattle.std.specs.Map.{lookup}
use Rattle.rl_plain.specs.laws.TreeMaps.{find_lookup, one_set}
use Rattle.rl_labels.specs.LabelSet.{LabelSet}
use Rattle.rl_labels.specs.LabelText.{label_set_cmp}
use Rattle.rl_labels.specs.laws.TextLaws.{label_set_cmp_total, label_set_cmp-IsAntisymmetric}
use Rattle.rl_aggregate.specs.declared.outcome.Sample.{Sample}
use Rattle.rl_rules.specs.declared.alert.Alert.{Alert}
use Rattle.rl_rules.specs.Alerts.{keyed, standing, all_standing}

abbrev Entries : Type 0
Entries = List (LabelSet × Alert)

-- the alert before those that are in
pub first_set : (alerts : List Alert) (j : ℕ) (x : Alert) (es fs : Entries) (labels : LabelSet) (copy : Alert) → j < length alerts
    → from_entries {R = label_set_cmp} es ≡ from_entries {R = label_set_cmp} (keyed (drop (suc j) alerts))
    → labels ≡ (get_or alerts j x).labels → copy ≡ get_or alerts j x
    → ((q : LabelSet) → lookup (is_at (label_set_cmp q)) fs ≡ cond (is_at (label_set_cmp labels) q) (Some copy) (lookup (is_at (label_set_cmp q)) es))
    → from_entries {R = label_set_cmp} fs ≡ from_entries {R = label_set_cmp} (keyed (drop j alerts))
first_set alerts j x es fs labels copy within so_far key value answers =
    one_set label_set_cmp_total label_set_cmp-IsAntisymmetric es fs labels copy answers
    ∙ (λ i. insert (so_far i) (key i) (value i))
    ∙ ap (λ (xs : List Alert). from_entries {R = label_set_cmp} (keyed xs)) (sym (drop-cons alerts j x within))

-- what a tree with the entries of the alerts has at a label set is the first alert with it
found_first : (alerts : List Alert) (es : Entries) → es ≡ entries (from_entries {R = label_set_cmp} (keyed alerts)) → (q : LabelSet) → lookup (is_at (label_set_cmp q)) es ≡ find label_set_cmp q (keyed alerts)
found_first alerts es is q =
    sym (find_lookup label_set_cmp es q)
    ∙ ap (find label_set_cmp q) is
    ∙ sym (get-entries (from_entries {R = label_set_cmp} (keyed alerts)) q)
    ∙ get-from_entries label_set_cmp_total (keyed alerts) q

pub standing_all : (hold t : ℕ) (samples : List Sample) (alerts : List Alert) (es : Entries) → es ≡ entries (from_entries {R = label_set_cmp} (keyed alerts))
    → map (λ (sample : Sample). standing hold t sample.labels sample.value (lookup (is_at (label_set_cmp sample.labels)) es)) samples ≡ all_standing hold t samples alerts
standing_all hold t [] alerts es is = refl
standing_all hold t (sample ∷ samples) alerts es is =
    (λ i. standing hold t sample.labels sample.value (found_first alerts es is sample.labels i) ∷ standing_all hold t samples alerts es is i)
