-- One line more in an accumulator, and lines of one stream at once.
use Rattle.std.proofs.Common.{◌≡◌, ℕ, ◌+◌, ◌<◌, ◌≤◌, ◌^◌, true, false, cond, not, List, [], ◌∷◌, length, map, codes, Option, None, Some, Bor, refl, sym, ap, subst, ◌∙◌, zero-add, add-zero, arith}
use Rattle.std.specs.Prelude.{option_to_list, IfSome}
use Rattle.std.specs.Option.{unwrap_or, is_some, option_copied, option_eq}
use Rattle.std.specs.Ordering.{eq_by_cmp}
use Rattle.std.specs.List.{list_all}
use Rattle.std.specs.FinMap.{get, empty, contains_key, get-empty}
use Rattle.std.specs.FinMap.Entries.{find, is_sorted}
use Rattle.std.proofs.lemmas.Bool.{and_parts, true≢false}
use Rattle.rl_plain.specs.laws.Bools.{true_from}
use Rattle.rl_labels.specs.EntryParts.{longest_line}
use Rattle.rl_labels.specs.Name.{name_cmp, is_name}
use Rattle.rl_labels.specs.LabelSet.{LabelSet, Pair, is_empty, is_label, label, labels_of, labels_are_proper}
use Rattle.rl_labels.specs.LabelText.{label_set_cmp}
use Rattle.rl_pipeline.specs.Running as through
use Rattle.rl_query.specs.declared.stages.Stage.{Stage}
use Rattle.rl_aggregate.specs.InRange.{has_error, line_run, runs_of}
use Rattle.rl_aggregate.specs.Limited.{IsWithin}
use Rattle.rl_aggregate.specs.Partials.{has_labels, partial_of, both_totals, merge, VolumeFits, Fits}
use Rattle.rl_aggregate.specs.Accumulators.{HasRoom}
use Rattle.rl_aggregate.specs.Runs.{with_volume, with_run, IsProper}
use Rattle.rl_aggregate.specs.TotalsMap.{TotalsMap, no_total, plus, total_at, added}
use Rattle.rl_aggregate.specs.declared.volume.Volume.{Volume}
use Rattle.rl_aggregate.specs.declared.run.Run.{Run}
use Rattle.rl_aggregate.specs.declared.partial.Partial.{Partial}
use Rattle.rl_aggregate.specs.laws.Runs.{partial_of-more}
use Rattle.rl_aggregate.specs.laws.Sums.{total_at-sum_of}
use Rattle.rl_aggregate.specs.laws.Totals.{added-twice, get-added, get-both_totals, same_key, same_totals, ties_itself, total_at-added_there}
use Rattle.rl_aggregate.specs.laws.Within.{within-fits, within-run}
use Rattle.rl_aggregate.proofs.Merging.{joined, joined-None, joined-Some}

-- a label that the set has is not empty
found_full : (name : List ℕ) (pairs : List Pair) → list_all is_label pairs ≡ true → is_some (find name_cmp name pairs) ≡ not (is_empty (unwrap_or (find name_cmp name pairs) []))
found_full name [] h = refl
found_full name (e ∷ es) h =
    let parts = and_parts (is_label e) (list_all is_label es) h in
    elim (eq_by_cmp name_cmp name e.0) as (λ b. is_some (cond b (Some e.1) (find name_cmp name es)) ≡ not (is_empty (unwrap_or (cond b (Some e.1) (find name_cmp name es)) []))) [
      | true ↦ sym (and_parts (is_name e.0) (not (is_empty e.1)) parts.0).1
      | false ↦ found_full name es parts.1
    ]

some_copied : {X : Type 0} (r : Option (Bor X)) → is_some r ≡ is_some (option_copied r)
some_copied None = refl
some_copied (Some x) = refl

-- so a set has an error exactly where it has the label of one
pub has_error-found : (labels : LabelSet) (found : Option (Bor (List ℕ))) → option_copied found ≡ label labels (codes "__error__") → is_some found ≡ has_error labels
has_error-found labels found is =
    some_copied found ∙ ap is_some is
    ∙ found_full (codes "__error__") (labels_of labels) (and_parts (is_sorted name_cmp (labels_of labels)) (list_all is_label (labels_of labels)) (true_from _ (labels_are_proper labels))).1

-- merged with none, totals stay
both_totals-empty : (totals : TotalsMap) → both_totals totals empty ≡ totals
both_totals-empty totals = same_totals _ _ (λ q. get-both_totals totals empty q ∙ ap (joined (get totals q)) (get-empty label_set_cmp q) ∙ joined-None (get totals q))

-- merged with one, they have it added
both_totals-one : (totals : TotalsMap) (k : LabelSet) (v : Volume) → both_totals totals (added empty k v) ≡ added totals k v
both_totals-one totals k v =
    let nothing : plus (total_at (empty {R = label_set_cmp}) k) v ≡ v = ap (λ t. plus (unwrap_or t no_total) v) (get-empty label_set_cmp k) ∙ (λ i. record { count = zero-add v.count i; bytes = zero-add v.bytes i }) in
    same_totals _ _ (λ q.
    get-both_totals totals (added empty k v) q
    ∙ ap (joined (get totals q)) (get-added empty k v q ∙ (λ i. cond (eq_by_cmp label_set_cmp q k) (Some (nothing i)) (get-empty label_set_cmp q i)))
    ∙ elim (eq_by_cmp label_set_cmp q k) as (λ b. eq_by_cmp label_set_cmp q k ≡ b → joined (get totals q) (cond b (Some v) None) ≡ cond b (Some (plus (total_at totals k) v)) (get totals q)) [
      | true ↦ λ is. joined-Some (get totals q) v ∙ ap (λ s. Some (plus (total_at totals s) v)) (same_key q k is)
      | false ↦ λ _. joined-None (get totals q)
    ] refl
    ∙ sym (get-added totals k v q))

-- what no line adds up to, merged
merge-nothing : (found : Partial) → merge found (partial_of []) ≡ found
merge-nothing found = λ i. record { errors = add-zero found.errors i; totals = both_totals-empty found.totals i }

merge-volume : (found : Partial) (labels : Option LabelSet) (volume : Volume) → merge found (with_volume labels volume (partial_of [])) ≡ with_volume labels volume found
merge-volume found None volume = λ i. record { errors = found.errors + zero-add volume.count i; totals = both_totals-empty found.totals i }
merge-volume found (Some k) volume = λ i. record { errors = add-zero found.errors i; totals = both_totals-one found.totals k volume i }

-- so one run more is one merged
merge-run : (found : Partial) (run : Run) → merge found (partial_of (run ∷ [])) ≡ with_run run found
merge-run found run = ap (merge found) (partial_of-more run []) ∙ merge-volume found run.labels run.volume

-- a line that stays is one run more
pub line_stays : (stages : List Stage) (labels : LabelSet) (text : List ℕ) (labels_after : LabelSet) (bytes : ℕ) (found : Partial) → Some labels_after ≡ through.run stages text labels → bytes ≡ length text
    → with_run (line_run labels_after bytes) found ≡ merge found (partial_of (runs_of stages labels text))
line_stays stages labels text labels_after bytes found ran is =
    ap (λ n. with_run (line_run labels_after n) found) is
    ∙ sym (merge-run found (line_run labels_after (length text)))
    ∙ ap (λ o. merge found (partial_of (map (λ (kept : LabelSet). line_run kept (length text)) (option_to_list o)))) ran

-- one that does not adds nothing
pub line_leaves : (stages : List Stage) (labels : LabelSet) (text : List ℕ) (found : Partial) → None ≡ through.run stages text labels → found ≡ merge found (partial_of (runs_of stages labels text))
line_leaves stages labels text found ran =
    sym (merge-nothing found)
    ∙ ap (λ o. merge found (partial_of (map (λ (kept : LabelSet). line_run kept (length text)) (option_to_list o)))) ran

-- a volume at a label set that fits with all others fits alone
pub added-fits : (found : Partial) (k : LabelSet) (v : Volume) → Fits (with_volume (Some k) v found) → VolumeFits (plus (total_at found.totals k) v)
added-fits found k v fits = subst VolumeFits (total_at-added_there found.totals k v) (fits.1 k)

-- the label set is there
pub added-has : (totals : TotalsMap) (k : LabelSet) (v : Volume) → contains_key (added totals k v) k ≡ true
added-has totals k v = ap is_some (get-added totals k v k ∙ ap (λ b. cond b (Some (plus (total_at totals k) v)) (get totals k)) (ties_itself k))

-- what has room fits
pub room-fits : (found : Partial) → HasRoom 0 found → Fits found
room-fits found room = within-fits room.0 found room.2 (omega (arith, room.1))

-- also with one line more, where there is room for it
pub line-fits : (labels : LabelSet) (bytes : ℕ) (found : Partial) → bytes ≤ longest_line → HasRoom 1 found → Fits (with_run (line_run labels bytes) found)
line-fits labels bytes found short room = within-fits (room.0 + 1) _ (within-run room.0 found (line_run labels bytes) (omega arith) (omega (arith, short)) room.2) room.1

-- labels that are tested equal are those of the run
pub labels_had : (run : Run) (labels : LabelSet) → has_labels (Some labels) run ≡ true → run.labels ≡ Some labels
labels_had run labels = elim (run.labels) as (λ o. option_eq (eq_by_cmp label_set_cmp) (Some labels) o ≡ true → o ≡ Some labels) [
  | None ↦ λ h. absurd (true≢false (sym h))
  | Some own ↦ λ h. ap (λ l. Some l) (sym (same_key labels own h))
]

module _ (run : Run) (labels : LabelSet) (found : Partial) (is : run.labels ≡ Some labels) where
  -- lines that wait have room for one more of their label set
  pub waiting-few : HasRoom 1 (with_run run found) → (run.volume.count + 1 < 2 ^ 64) × (run.volume.bytes + longest_line < 2 ^ 64)
  waiting-few room =
      let within : IsWithin room.0 (with_volume (Some labels) run.volume found) = subst (λ own. IsWithin room.0 (with_volume own run.volume found)) is room.2 in
      let more = added found.totals labels run.volume in
      let total = total_at-added_there found.totals labels run.volume in
      let counts = within.counts in
      let bytes = within.bytes in (
        omega (arith, counts, room.1, total_at-sum_of (λ t. t.count) refl more labels, ap (λ (t : Volume). t.count) total),
        omega (arith, bytes, room.1, total_at-sum_of (λ t. t.bytes) refl more labels, ap (λ (t : Volume). t.bytes) total),
      )

  -- and are then counted as one after the other
  pub waiting-more : (bytes : ℕ) → IsProper run → with_run (record { labels = run.labels; volume = plus run.volume (record { count = 1; bytes = bytes }) }) found ≡ with_run (line_run labels bytes) (with_run run found)
  waiting-more bytes proper =
      let one : Volume = record { count = 1; bytes = bytes } in
      let good : has_error labels ≡ false = subst (λ own. IfSome own (λ l. has_error l ≡ false)) is proper in
      (λ i. with_volume (is i) (plus run.volume one) found)
      ∙ (λ i. record { errors = found.errors; totals = sym (added-twice found.totals labels run.volume one) i })
      ∙ (λ i. with_volume (cond (sym good i) None (Some labels)) one (with_volume (sym is i) run.volume found))
