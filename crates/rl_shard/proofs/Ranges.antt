-- Windows of some terms after others.
use Rattle.std.proofs.Common.{◌≡◌, ◌≤◌, ℕ, zero, suc, ◌+◌, ◌<◌, Bor, List, [], ◌∷◌, ◌++◌, length, map, take, drop, get_or, slice_get, Some, None, refl, sym, ap, subst, ◌∙◌, append_assoc}
use Rattle.std.specs.List.{AllByRecursion, AllZip}
use Rattle.std.proofs.Math.Seq.{take-add}
use Rattle.std.proofs.lemmas.List.{append-nil, length-take-le, map-append, nil_from_length, take_more}
use Rattle.rl_parts.specs.laws.UseLaws.{Looked-then}
use Rattle.rl_parts.specs.laws.VisitorLaws.{AllZip-append}
use Rattle.rl_labels.specs.declared.limits.Limits.{Limits}
use Rattle.rl_query.specs.declared.query.Term.{Term}
use Rattle.rl_deletes.specs.Deletes.{RequestsView}
use Rattle.rl_windows.specs.Ranges.{elements_for}
use Rattle.rl_windows.specs.Windows.{StandsFor}
use Rattle.rl_windows.specs.declared.range.RangeCode.{RangeCode}
use Rattle.rl_slots.specs.Slots.{key_of, term_key}
use Rattle.rl_slots.specs.declared.range_window.RangeWindow.{RangeWindow}
use Rattle.rl_streams.specs.StreamsState.{Looks, StreamsView}
use Rattle.rl_shard.specs.Collecting.{IsRead}
use Rattle.rl_shard.specs.Live.{IsBuiltFrom, IsRangeAt}
use Rattle.rl_shard.proofs.Right.{stood}

-- so of lists that are appended
all_append : {A : Type 0} (P : A → Type 0) (xs ys : List A) → AllByRecursion P xs → AllByRecursion P ys → AllByRecursion P (xs ++ ys)
all_append P [] ys p q = q
all_append P (x ∷ xs) ys p q = (p.0, all_append P xs ys p.1 q)

-- what holds of some items and of others holds of both together
pub all_joined : {A : Type 0} (P : A → Type 0) (xs ys all : List A) → all ≡ xs ++ ys → AllByRecursion P xs → AllByRecursion P ys → AllByRecursion P all
all_joined P xs ys all is p q = subst (AllByRecursion P) (sym is) (all_append P xs ys p q)

-- two looks one after the other
pub looks_then : (first mid last : StreamsView) → Looks first mid → Looks mid last → Looks first last
looks_then first mid last p q = record {
  limits = q.limits ∙ p.limits;
  held = q.held ∙ p.held;
  newest = q.newest ∙ p.newest;
  next = q.next ∙ p.next;
  loose = q.loose ∙ p.loose;
  unwritten = q.unwritten ∙ p.unwritten;
  rows = q.rows ∙ p.rows;
  seen = Looked-then first.seen mid.seen last.seen p.seen q.seen;
}

-- what was built after a look was built of what there was before it
pub built_back : (old new : StreamsView) (requests : RequestsView) (t : ℕ) (it : RangeWindow) → Looks old new → IsBuiltFrom new requests t it → IsBuiltFrom old requests t it
built_back old new requests t it look built = record {
  moment = built.moment;
  most = built.most ∙ ap (λ (l : Limits). l.entries) look.limits;
  elements = built.elements;
  stands = built.stands;
  reads = λ term found key is. subst (λ rows. IsRead rows requests term.range t found) look.rows (built.reads term found key is);
  exact = λ honest. subst (λ held. StandsFor it.window (elements_for it.code (stood requests held))) look.held (built.exact (look.seen.honest ∙ honest));
}

-- and so of all windows
pub all_back : (old new : StreamsView) (requests : RequestsView) (t : ℕ) → Looks old new → (windows : List RangeWindow) → AllByRecursion (IsBuiltFrom new requests t) windows → AllByRecursion (IsBuiltFrom old requests t) windows
all_back old new requests t look [] built = tt
all_back old new requests t look (it ∷ windows) built = (built_back old new requests t it look built.0, all_back old new requests t look windows built.1)

-- the keys of some windows more, of terms that stand after the first ones
pub keys_more : (windows more all : List RangeWindow) (terms rest : List (Bor Term)) (i n : ℕ) → rest ≡ drop i terms → n ≤ length rest → all ≡ windows ++ more → map key_of windows ≡ map (λ (one : Bor Term). term_key one.now) (take i terms) → map key_of more ≡ map (λ (one : Bor Term). term_key one.now) (take n rest)
    → map key_of all ≡ map (λ (one : Bor Term). term_key one.now) (take (i + length (take n rest)) terms)
keys_more windows more all terms rest i n rest_is within all_is same keys =
    let key = λ (one : Bor Term). term_key one.now in
    ap (map key_of) all_is
    ∙ map-append key_of windows more
    ∙ (λ j. same j ++ keys j)
    ∙ sym (map-append key (take i terms) (take n rest))
    ∙ ap (λ after. map key (take i terms ++ take n after)) rest_is
    ∙ ap (map key) (sym (take-add i n terms))
    ∙ ap (λ m. map key (take (i + m) terms)) (sym (length-take-le n rest within))

-- what was done with one item more
pub moved_on : {A B : Type 0} (f : A → B) (done more : List A) (it : A) (left rest : List B) (item : B) (all : List B) → more ≡ done ++ it ∷ [] → left ≡ item ∷ rest → f it ≡ item → map f done ++ left ≡ all → map f more ++ rest ≡ all
moved_on f done more it left rest item all more_is left_is same so_far =
    ap (λ items. map f items ++ rest) more_is
    ∙ ap (λ items. items ++ rest) (map-append f done (it ∷ []))
    ∙ append_assoc (map f done) (f it ∷ []) rest
    ∙ ap (λ one. map f done ++ one ∷ rest) same
    ∙ sym (ap (λ items. map f done ++ items) left_is)
    ∙ so_far

-- where none is left all is done
pub moved_all : {A B : Type 0} (f : A → B) (done : List A) (left all : List B) → length left ≡ 0 → map f done ++ left ≡ all → map f done ≡ all
moved_all f done left all none so_far = sym (ap (λ items. map f done ++ items) (nil_from_length left none) ∙ append-nil (map f done)) ∙ so_far

-- what stands at an index stands there before others too
slice_get-front : {A : Type 0} (xs ys : List A) (i : ℕ) (x : A) → slice_get xs i ≡ Some x → slice_get (xs ++ ys) i ≡ Some x
slice_get-front [] ys i x is = absurd (none_some x is)
  where
    none_some : {X : Type 0} (x : X) → None ≡ Some x → ⊥
    none_some x h = cc
slice_get-front (z ∷ xs) ys zero x is = is
slice_get-front (z ∷ xs) ys (suc i) x is = slice_get-front xs ys i x is

ranges_stay : (ranges more : List (RangeCode × ℕ)) (terms : List Term) (indices : List ℕ) → AllZip (IsRangeAt ranges) terms indices → AllZip (IsRangeAt (ranges ++ more)) terms indices
ranges_stay ranges more [] [] all = tt
ranges_stay ranges more [] (index ∷ indices) all = absurd all
ranges_stay ranges more (term ∷ terms) [] all = absurd all
ranges_stay ranges more (term ∷ terms) (index ∷ indices) all = (slice_get-front ranges more index (term_key term) all.0, ranges_stay ranges more terms indices all.1)

-- the ranges of one term more
pub ranges_more : (old new more : List (RangeCode × ℕ)) (terms : List Term) (i : ℕ) (term : Term) (indices : List ℕ) (index : ℕ) → i < length terms → term ≡ get_or terms i term → new ≡ old ++ more → AllZip (IsRangeAt old) (take i terms) indices → IsRangeAt new term index
    → AllZip (IsRangeAt new) (take (i + 1) terms) (indices ++ index ∷ [])
ranges_more old new more terms i term indices index within there is all found =
    subst (λ ts. AllZip (IsRangeAt new) ts (indices ++ index ∷ [])) (sym (take_more terms i term within ∙ ap (λ x. take i terms ++ x ∷ []) (sym there)))
    (AllZip-append (IsRangeAt new) (take i terms) indices (term ∷ []) (index ∷ []) (subst (λ ranges. AllZip (IsRangeAt ranges) (take i terms) indices) (sym is) (ranges_stay old more (take i terms) indices all)) (found, tt))

-- one after all stands at the end
pub range_last : (ranges : List (RangeCode × ℕ)) (range : RangeCode × ℕ) → slice_get (ranges ++ range ∷ []) (length ranges) ≡ Some range
range_last [] range = refl
range_last (first ∷ ranges) range = range_last ranges range
