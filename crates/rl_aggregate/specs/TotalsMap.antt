-- Totals by label set, and by other keys.
use Rattle.std.specs.Prelude.{ℕ, ◌+◌, ◌-◌, ◌==◌, nat_le, Bool, false, ◌&&◌, IsTrue, Option, None, Some, if◌then◌else◌, refl}
use Rattle.std.specs.Coded.{Coded, code_by, coded×, coded_ℕ}
use Rattle.std.specs.Option.{unwrap_or}
use Rattle.std.specs.declared.cmp.Ordering.{Ordering}
use Rattle.std.specs.FinMap.{FinMap, get, insert, remove, contains_key, code}
use Rattle.rl_labels.specs.LabelSet.{LabelSet, label_set_code}
use Rattle.rl_labels.specs.LabelText.{label_set_cmp}
use Rattle.rl_aggregate.specs.declared.volume.Volume.{Volume}

abbrev pub TotalsMap : Type 0
TotalsMap = FinMap label_set_cmp Volume

-- totals as numbers, for a store
abbrev pub totals_code : Coded TotalsMap
totals_code = code label_set_code (code_by (ℕ × ℕ) (coded× coded_ℕ coded_ℕ) (λ t. (t.count, t.bytes)) (λ p. record { count = p.0; bytes = p.1 }) (λ _. refl))

abbrev pub no_total : Volume
no_total = record { count = 0; bytes = 0 }

abbrev pub plus : Volume → Volume → Volume
plus a b = record { count = a.count + b.count; bytes = a.bytes + b.bytes }

-- the total at a key, 0 where there is none
abbrev pub total_at : {K : Type 0} {R : K → K → Ordering} → FinMap R Volume → K → Volume
total_at totals key = unwrap_or (get totals key) no_total

-- the totals with one added at a key
abbrev pub added : {K : Type 0} {R : K → K → Ordering} → FinMap R Volume → K → Volume → FinMap R Volume
added totals key total = insert totals key (plus (total_at totals key) total)

abbrev pub minus : Volume → Volume → Volume
minus a b = record { count = a.count - b.count; bytes = a.bytes - b.bytes }

-- the totals with one taken out at a key, which goes where no line is left
abbrev pub taken : {K : Type 0} {R : K → K → Ordering} → FinMap R Volume → K → Volume → FinMap R Volume
taken totals key volume =
    if (minus (total_at totals key) volume).count == 0 then remove totals key
    else insert totals key (minus (total_at totals key) volume)

-- a volume, if it has a line
abbrev pub if_any : Volume → Option Volume
if_any volume = if volume.count == 0 then None else Some volume

-- there is a total of at least the volume
abbrev pub has_volume : Option Volume → Volume → Bool
has_volume None volume = false
has_volume (Some total) volume = nat_le volume.count total.count && nat_le volume.bytes total.bytes

-- the first totals have each label set that the others have
abbrev pub HasAll : TotalsMap → TotalsMap → Type 0
HasAll totals others = (labels : LabelSet) → IsTrue (contains_key others labels) → IsTrue (contains_key totals labels)
