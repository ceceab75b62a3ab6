-- Ranges of terms, each once, in the order of the terms.
use Rattle.std.proofs.Common.{◌≡◌, ◌⊎◌, inl, inr, ℕ, ◌+◌, ◌<◌, Bor, List, [], ◌∷◌, ◌++◌, length, map, take, get_or, refl, sym, ap, subst, ◌∙◌, append-nil}
use Rattle.std.proofs.lemmas.List.{map-append, take_more}
use Rattle.rl_query.specs.declared.query.Term.{Term}
use Rattle.rl_windows.specs.declared.range.RangeCode.{RangeCode}
use Rattle.rl_slots.specs.Slots.{term_key, ArePicked}

module _ {X : Type 0} where
  -- what is picked of some is picked of more
  picked_before : (xs ys : List X) (y : X) → ArePicked xs ys → ArePicked xs (ys ++ y ∷ [])
  picked_before [] ys y picked = tt
  picked_before (x ∷ xs) [] y picked = absurd picked
  picked_before (x ∷ xs) (z ∷ ys) y (inl both) = inl (both.0, picked_before xs ys y both.1)
  picked_before (x ∷ xs) (z ∷ ys) y (inr picked) = inr (picked_before (x ∷ xs) ys y picked)

  -- and with the one more
  picked_last : (xs ys : List X) (y : X) → ArePicked xs ys → ArePicked (xs ++ y ∷ []) (ys ++ y ∷ [])
  picked_last [] [] y picked = inl (refl, tt)
  picked_last [] (z ∷ ys) y picked = inr (picked_last [] ys y tt)
  picked_last (x ∷ xs) [] y picked = absurd picked
  picked_last (x ∷ xs) (z ∷ ys) y (inl both) = inl (both.0, picked_last xs ys y both.1)
  picked_last (x ∷ xs) (z ∷ ys) y (inr picked) = inr (picked_last (x ∷ xs) ys y picked)

abbrev key : Bor Term → RangeCode × ℕ
key one = term_key one.now

-- a term of whose range there was none is the last
pub ranges_grown : (old new : List (Bor Term)) (term : Bor Term) → (new ≡ old) ⊎ (new ≡ old ++ term ∷ []) → (more : List (RangeCode × ℕ)) × (map key new ≡ map key old ++ more)
ranges_grown old new term (inl same) = ([], ap (map key) same ∙ sym (append-nil (map key old)))
ranges_grown old new term (inr more) = (key term ∷ [], ap (map key) more ∙ map-append key old (term ∷ []))

-- the ranges of one term more
pub picked_more : (old new : List (Bor Term)) (term : Bor Term) (terms : List Term) (i : ℕ) → i < length terms → term.now ≡ get_or terms i term.now → (new ≡ old) ⊎ (new ≡ old ++ term ∷ []) → ArePicked (map key old) (map term_key (take i terms))
    → ArePicked (map key new) (map term_key (take (i + 1) terms))
picked_more old new term terms i within there grown picked =
    subst (ArePicked (map key new)) (sym (ap (map term_key) (take_more terms i term.now within ∙ ap (λ x. take i terms ++ x ∷ []) (sym there)) ∙ map-append term_key (take i terms) (term.now ∷ []))) (by grown)
  where
    by : (new ≡ old) ⊎ (new ≡ old ++ term ∷ []) → ArePicked (map key new) (map term_key (take i terms) ++ key term ∷ [])
    by (inl same) = subst (λ ts. ArePicked (map key ts) (map term_key (take i terms) ++ key term ∷ [])) (sym same) (picked_before (map key old) (map term_key (take i terms)) (key term) picked)
    by (inr more) = subst (λ ks. ArePicked ks (map term_key (take i terms) ++ key term ∷ [])) (sym (ap (map key) more ∙ map-append key old (term ∷ []))) (picked_last (map key old) (map term_key (take i terms)) (key term) picked)
