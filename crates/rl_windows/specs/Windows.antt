-- Windows: the lines of a range that its moment and later ones need, and what they add up to at the moment.
use Rattle.std.specs.Prelude.{◌≡◌, ℕ, ◌+◌, ◌-◌, ◌*◌, ◌≤◌, nat_eq, nat_le, nat_lt, Bool, true, ◌&&◌, List, map, length, ◌++◌, Option, None, Some, IfSome, if◌then◌else◌, refl}
use Rattle.std.specs.Coded.{Coded, code_by, coded×, coded_ℕ}
use Rattle.std.specs.FinMap.{entries, get}
use Rattle.std.specs.List.{filter}
use Rattle.std.specs.Set.{distinct_count}
use Rattle.rl_query.specs.Limits.{longest_range}
use Rattle.rl_aggregate.specs.InRange.{in_window, second}
use Rattle.rl_aggregate.specs.Partials.{partial_of, most_entries}
use Rattle.rl_aggregate.specs.TotalsMap.{added}
use Rattle.rl_aggregate.specs.declared.partial.Partial.{Partial}
use Rattle.rl_aggregate.specs.declared.run.Run.{Run}
use Rattle.rl_aggregate.specs.declared.volume.Volume.{Volume}
use Rattle.rl_windows.specs.Buckets.{BucketsMap, buckets_code, Lines, volume_of, AreAlike, AreShort, IsShort}
use Rattle.rl_windows.specs.declared.element.Element.{Element}
use Rattle.rl_windows.specs.declared.element.Stamp.{Stamp}

-- the range in seconds, the moment, the lines, and how many there may be
pub record WindowView : Type 0 where
  pub seconds : ℕ
  pub moment : ℕ
  pub buckets : BucketsMap
  pub most : ℕ

-- as its parts, for a store
abbrev pub window_code : Coded WindowView
window_code =
    code_by (ℕ × (ℕ × (BucketsMap × ℕ))) (coded× coded_ℕ (coded× coded_ℕ (coded× buckets_code coded_ℕ)))
    (λ w. (w.seconds, (w.moment, (w.buckets, w.most))))
    (λ p. record { seconds = p.0; moment = p.1.0; buckets = p.1.1.0; most = p.1.1.1 })
    (λ _. refl)

-- lines of one stamp count alike
abbrev pub run_of : Stamp × Volume → Run
run_of line = record { labels = line.0.labels; volume = line.1 }

-- what the lines at the stamps that pass a test add up to
abbrev pub partial_in : (Stamp → Bool) → Lines → Partial
partial_in test lines = partial_of (map run_of (filter (λ line. test line.0) lines))

abbrev pub lines_of : List Element → Lines
lines_of elements = map (λ element. (element.stamp, element.volume)) elements

-- a range at the moment or at a later one has lines of the stamp
abbrev pub is_needed : (seconds moment : ℕ) → Stamp → Bool
is_needed seconds moment stamp = nat_lt moment (stamp.timestamp + seconds * second)

-- lines of the stamp were written by the moment
abbrev pub is_due : (moment : ℕ) → Stamp → Bool
is_due moment stamp = nat_le stamp.timestamp moment

-- a window stands for elements: it has the lines of those that are still needed
abbrev pub StandsFor : WindowView → List Element → Type 0
StandsFor window elements = AreShort (lines_of elements) × AreAlike (entries window.buckets) (filter (λ line. is_needed window.seconds window.moment line.0) (lines_of elements))

-- a window with the lines of an element more, if they are needed
abbrev pub with_element : Element → WindowView → WindowView
with_element element window = if is_needed window.seconds window.moment element.stamp then record window { buckets = added window.buckets element.stamp element.volume } else window

-- what the range has of elements at a moment, added up
abbrev pub in_range : (seconds moment : ℕ) → List Element → Partial
in_range seconds moment elements = partial_in (λ stamp. in_window seconds moment stamp.timestamp) (lines_of elements)

-- windows of one range at one moment, for as many lines
abbrev pub IsOfSameRange : WindowView → WindowView → Type 0
IsOfSameRange before after = (after.seconds ≡ before.seconds) × (after.moment ≡ before.moment) × (after.most ≡ before.most)

-- how many lines there are
abbrev pub count_of : BucketsMap → ℕ
count_of buckets = (volume_of (λ _. true) (entries buckets)).count

-- the partial is what is due adds up to, in buckets whose lines are short
abbrev pub IsSumOf : (moment : ℕ) → BucketsMap → Partial → Type 0
IsSumOf moment buckets found = ((stamp : Stamp) → IfSome (get buckets stamp) IsShort) × (found ≡ partial_in (is_due moment) (entries buckets))

-- what holds of a window's parts
pub record IsWindow (seconds moment : ℕ) (buckets : BucketsMap) (found : Partial) (lines most : ℕ) : Type 0 where
  pub range : seconds ≤ longest_range
  pub sum : IsSumOf moment buckets found
  pub counted : lines ≡ count_of buckets
  pub room : lines ≤ most
  pub few : most ≤ most_entries

-- SLIDING

-- lines of the stamp were written at the first moment or later, and before the second
abbrev pub is_between : (low high : ℕ) → Stamp → Bool
is_between low high stamp = nat_le low stamp.timestamp && nat_lt stamp.timestamp high

-- the first timestamp that a range needs at a moment
abbrev pub first_needed : (seconds moment : ℕ) → ℕ
first_needed seconds moment = moment + 1 - seconds * second

-- how many different timestamps lines have
abbrev pub moments : Lines → ℕ
moments lines = distinct_count nat_eq (map (λ line. line.0.timestamp) lines)

-- what a slide to a later moment visits: the timestamps that come due, and those that leave
abbrev pub visits : WindowView → (later : ℕ) → ℕ
visits window later =
    moments (filter (λ line. is_between (window.moment + 1) (later + 1) line.0) (entries window.buckets))
    + moments (filter (λ line. is_between 0 (first_needed window.seconds later) line.0) (entries window.buckets))

-- a partial is that of the first of some lines, so many, and of others
abbrev pub HaveEntered : ℕ → Lines → Lines → Partial → Type 0
HaveEntered n lines others found = (first : Lines) × (rest : Lines) × (first ++ rest ≡ lines) × (length first ≡ n) × (found ≡ partial_of (map run_of (first ++ others)))

-- 1 for a timestamp that is not the last
abbrev pub one_if_new : Option ℕ → ℕ → ℕ
one_if_new None timestamp = 1
one_if_new (Some last) timestamp = if nat_eq last timestamp then 0 else 1
