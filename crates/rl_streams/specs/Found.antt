-- Whether streams have an entry, over any store: in memory, or in bytes with the digest that was kept.
use Rattle.std.specs.Prelude.{◌≡◌, ℕ, ◌<◌, ◌≤◌, nat_le, ◌⊎◌, Bool, true, false, List, length, Some, Result, Ok, Err, MatchBool, MatchResult, slice_get}
use Rattle.std.specs.FinMap.{contains_key}
use Rattle.rl_labels.specs.LabelSet.{LabelSet}
use Rattle.rl_labels.specs.declared.entry.Entry.{Entry}
use Rattle.rl_parts.specs.StreamParts.{StreamView}
use Rattle.rl_parts.specs.Reading.{NoneReaches, IsFoundIn, IsMissingIn}
use Rattle.rl_parts.specs.declared.fault.ReadFault.TheVariants as reads
use Rattle.rl_streams.specs.StreamRows.{Row, joined}
use Rattle.rl_streams.specs.RowSteps.{AreOthers}
use Rattle.rl_streams.specs.StreamsState.{StreamsView, Looks, Takes}
use Rattle.rl_streams.specs.declared.refusal.AddRefusal.{AddRefusal}
use Rattle.rl_streams.specs.declared.refusal.AddRefusal.TheVariants.{Expired, TooFarBehind, Full, Read}

-- the stream stands under the labels
pub record IsStreamOf (rows : List Row) (labels : LabelSet) (stream : StreamView) : Type 0 where
  pub position : ℕ
  pub stands : slice_get rows position ≡ Some (labels, stream)

-- the stream of its labels has the entry
abbrev pub IsFound : List Row → Entry → Type 0
IsFound rows entry = (stream : StreamView) × IsStreamOf rows entry.labels stream × IsFoundIn entry stream

-- no stream has its labels, or the one that has them has not the entry
abbrev pub IsMissing : List Row → Entry → Type 0
IsMissing rows entry = AreOthers entry.labels rows ⊎ ((stream : StreamView) × IsStreamOf rows entry.labels stream × IsMissingIn entry stream)

-- no written part of its stream reaches its timestamp
abbrev pub IsUnreached : List Row → Entry → Type 0
IsUnreached rows entry = (stream : StreamView) → IsStreamOf rows entry.labels stream → NoneReaches entry.timestamp entry.timestamp stream

-- what is answered of an entry that is offered, over any store: it is held, or it is missing, and there is room for it or none
abbrev pub IsAnswered : Result Bool AddRefusal → Type 0 → Type 0 → Bool → Type 0
IsAnswered (Ok true) Found Missing is_full = Missing × (is_full ≡ false)
IsAnswered (Ok false) Found Missing is_full = Found
IsAnswered (Err Full) Found Missing is_full = Missing × (is_full ≡ true)
IsAnswered (Err (Read _)) Found Missing is_full = Unit {0}
IsAnswered (Err (Expired _)) Found Missing is_full = ⊥
IsAnswered (Err (TooFarBehind _)) Found Missing is_full = ⊥

-- the same where no written part reaches it: exactly
abbrev pub IsAnsweredUnread : Result Bool AddRefusal → Bool → Bool → Type 0
IsAnsweredUnread result held is_full = MatchBool held (result ≡ Ok false) (MatchBool is_full (result ≡ Err Full) ((result ≡ Ok true) ⊎ (result ≡ Err (Read reads.Memory))))

-- what becomes of an entry that is not too old, over any store: it was missing and is held now, or it was held
abbrev pub IsSettled : Result Bool AddRefusal → StreamsView → Entry → StreamsView → Type 0
IsSettled (Ok true) old entry new = IsMissing old.rows entry × ((length (joined old.rows) < old.limits.entries) × Takes old entry new)
IsSettled (Ok false) old entry new = IsFound old.rows entry × Looks old new
IsSettled (Err Full) old entry new = IsMissing old.rows entry × ((old.limits.entries ≤ length (joined old.rows)) × Looks old new)
IsSettled (Err (Read _)) old entry new = Looks old new
IsSettled (Err (Expired _)) old entry new = ⊥
IsSettled (Err (TooFarBehind _)) old entry new = ⊥

-- the same where no written part reaches it: exactly, and the store is not asked
abbrev pub IsSettledUnread : Result Bool AddRefusal → StreamsView → Entry → StreamsView → Type 0
IsSettledUnread result old entry new =
    MatchBool (contains_key old.held entry) ((result ≡ Ok false) × (new ≡ old))
    (MatchBool (nat_le old.limits.entries (length (joined old.rows))) ((result ≡ Err Full) × (new ≡ old))
    (MatchResult result (λ taken. (taken ≡ true) × (Takes old entry new × (new.seen ≡ old.seen))) (λ refusal. (refusal ≡ Read reads.Memory) × (new ≡ old))))
