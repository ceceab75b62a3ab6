-- What streams answer to an entry that they are offered, by whether it is held.
use Rattle.std.proofs.Common.{◌≡◌, ℕ, Bool, true, false, true≢false, inr, Contains, List, ◌++◌, Some, slice_get, Result, Ok, Err, refl, sym, ap, subst, ◌∙◌}
use Rattle.std.specs.Prelude.{IfOk, OnErr, if◌then◌else◌}
use Rattle.std.specs.List.{AllByRecursion, IsDistinct}
use Rattle.std.specs.Map.{keys_of, values_of}
use Rattle.indexmap.specs.IndexMap.{set_value_at}
use Rattle.std.proofs.lemmas.List.Elements.{Contains-append_right}
use Rattle.rl_labels.specs.LabelText.{label_set_eq}
use Rattle.rl_labels.specs.declared.entry.Entry.{Entry}
use Rattle.rl_parts.specs.ChunksState.{ChunksView}
use Rattle.rl_parts.specs.StreamParts.{StreamView, entries_of}
use Rattle.rl_parts.specs.Reading.{IsFoundIn, IsMissingIn}
use Rattle.rl_parts.specs.StoreUse.{Right, AreKept}
use Rattle.rl_parts.specs.declared.fault.ReadFault.{ReadFault}
use Rattle.rl_parts.specs.declared.fault.ReadFault.TheVariants as reads
use Rattle.rl_streams.specs.StreamRows.{Row, joined, is_among, IsOwn, AreStreams}
use Rattle.rl_streams.specs.Found.{IsAnswered, IsAnsweredUnread, IsFound, IsMissing}
use Rattle.rl_streams.specs.RowSteps.{IsOffered, AreOffered, IsOfferedRight, IsPositionOf}
use Rattle.rl_streams.specs.declared.refusal.AddRefusal.{AddRefusal}
use Rattle.rl_streams.specs.declared.refusal.AddRefusal.TheVariants.{Expired, TooFarBehind, Full, Read}
use Rattle.rl_streams.proofs.Added.{added_at, row_of_position}
use Rattle.rl_streams.proofs.Held.{held_at}
use Rattle.rl_streams.proofs.RowChanges.{at_row, set_itself}
use Rattle.rl_streams.proofs.Visited.{stream_there}

-- a search that failed
pub search_failed : (P : Bool → Type 0) (fault : ReadFault) (held : Bool) → Right (Err fault) P → IsOfferedRight (Err (Read fault)) held
search_failed P reads.Fault held h = tt
search_failed P reads.Damaged held h = h
search_failed P reads.Memory held h = tt

-- a stream that could not begin, of an entry that was not held
pub not_begun : (refusal : AddRefusal) (is_full held : Bool) → held ≡ false → refusal ≡ (if is_full then Full else Read reads.Memory) → IsOfferedRight (Err refusal) held
not_begun refusal true held is_new is = subst (λ (r : AddRefusal). IsOfferedRight (Err r) held) (sym is) is_new
not_begun refusal false held is_new is = subst (λ (r : AddRefusal). IsOfferedRight (Err r) held) (sym is) tt

pub not_begun_any : (refusal : AddRefusal) (is_full : Bool) (Found Missing : Type 0) → Missing → refusal ≡ (if is_full then Full else Read reads.Memory) → IsAnswered (Err refusal) Found Missing is_full
not_begun_any refusal true Found Missing missing is = subst (λ (r : AddRefusal). IsAnswered (Err r) Found Missing true) (sym is) (missing, refl)
not_begun_any refusal false Found Missing missing is = subst (λ (r : AddRefusal). IsAnswered (Err r) Found Missing false) (sym is) tt

-- what is answered without a read, by whether it is held and whether there is room
pub unread_by : (result : Result Bool AddRefusal) (held is_full is_held no_room : Bool) → held ≡ is_held → is_full ≡ no_room → IsAnsweredUnread result is_held no_room → IsAnsweredUnread result held is_full
unread_by result held is_full is_held no_room of full is = subst (λ b. IsAnsweredUnread result b is_full) (sym of) (subst (λ b. IsAnsweredUnread result is_held b) (sym full) is)

pub not_begun_unread : (refusal : AddRefusal) (is_full held : Bool) → held ≡ false → refusal ≡ (if is_full then Full else Read reads.Memory) → IsAnsweredUnread (Err refusal) held is_full
not_begun_unread refusal true held is_new is = unread_by (Err refusal) held true false true is_new refl (ap Err is)
not_begun_unread refusal false held is_new is = unread_by (Err refusal) held false false false is_new refl (inr (ap Err is))

module _ (rows : List Row) (i : ℕ) (entry : Entry) (stream new : StreamView) (position : IsPositionOf rows entry.labels (Some i)) (at : slice_get (values_of rows) i ≡ Some stream) where
  row : slice_get rows i ≡ Some (entry.labels, stream)
  row = row_of_position rows i entry.labels stream position at

  -- what the stream at the index became, the rows became
  pub offered_at : (most : ℕ) (result : Result Bool AddRefusal) → IsDistinct label_set_eq (keys_of rows) → IfOk result (λ more. IsOffered most more stream entry new) → IfOk result (λ more. AreOffered most more rows entry (set_value_at rows i new))
  offered_at most (Ok true) apart gains = added_at most rows i entry stream new apart row gains
  offered_at most (Ok false) apart same = ap (set_value_at rows i) same ∙ set_itself rows i stream at
  offered_at most (Err refusal) apart h = tt

  pub refused_at : (result : Result Bool AddRefusal) → OnErr result (new ≡ stream) → OnErr result (set_value_at rows i new ≡ rows)
  refused_at (Ok more) same = tt
  refused_at (Err refusal) same = ap (set_value_at rows i) same ∙ set_itself rows i stream at

  -- what is answered of it over any store is answered of all
  pub answered_at : (result : Result Bool AddRefusal) (is_full : Bool) → IsAnswered result (IsFoundIn entry stream) (IsMissingIn entry stream) is_full → IsAnswered result (IsFound rows entry) (IsMissing rows entry) is_full
  answered_at (Ok true) is_full (missing, room) = (inr (stream, stream_there rows i entry stream position at, missing), room)
  answered_at (Ok false) is_full found = (stream, stream_there rows i entry stream position at, found)
  answered_at (Err Full) is_full (missing, full) = (inr (stream, stream_there rows i entry stream position at, missing), full)
  answered_at (Err (Read _)) is_full h = tt
  answered_at (Err (Expired _)) is_full h = h
  answered_at (Err (TooFarBehind _)) is_full h = h

  pub unread_at : (result : Result Bool AddRefusal) (is_full : Bool) → AllByRecursion IsOwn rows → IsDistinct label_set_eq (keys_of rows) → IsAnsweredUnread result (is_among entry (entries_of stream)) is_full → IsAnsweredUnread result (is_among entry (joined rows)) is_full
  unread_at result is_full own apart = subst (λ b. IsAnsweredUnread result b is_full) (sym (held_at entry rows i stream own apart row))

  -- it has the entry's labels
  pub labels_at : AllByRecursion IsOwn rows → entry.labels ≡ stream.labels
  labels_at own = sym ((at_row IsOwn rows i (entry.labels, stream) own row).labels)

  -- what is right of the stream is right of all
  pub right_at : (result : Result Bool AddRefusal) (chunks : ChunksView) → AreStreams rows chunks → (AreKept chunks stream → IsOfferedRight result (is_among entry (entries_of stream))) → IsOfferedRight result (is_among entry (joined rows))
  right_at result chunks are right =
      subst (IsOfferedRight result) (sym (held_at entry rows i stream are.own are.apart row)) (right (at_row (λ row. AreKept chunks row.1) rows i (entry.labels, stream) are.kept row))

answered : Result Bool ReadFault → Bool
answered (Ok found) = found
answered (Err _) = false

-- an entry that was not found is not in the head
pub not_in_head : (parts head : List Entry) (entry : Entry) (found : Bool) (P : Type 0) → found ≡ false → (Contains (parts ++ head) entry → (◌≡◌ {A = Result Bool ReadFault} (Ok found) (Ok true)) × P) → Contains head entry → ⊥
unfolding answered
not_in_head parts head entry found P is here there = true≢false (sym (ap answered ((here (Contains-append_right parts head entry there)).0)) ∙ is)
