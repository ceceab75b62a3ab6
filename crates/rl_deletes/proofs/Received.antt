-- Requests in a tree, those of them that are received, and what these cover.
use Rattle.std.proofs.Common.{◌≡◌, ℕ, Bool, true, false, cond, not, ◌&&◌, List, [], ◌∷◌, length, Option, None, Some, IsSome, refl, sym, ap, subst, ◌∙◌, arith}
use Rattle.std.specs.Prelude.{◌==◌}
use Rattle.std.specs.BTreeMap.{is_at}
use Rattle.std.specs.Cmp.{unsigned_tied}
use Rattle.std.specs.FinMap as map
use Rattle.std.specs.FinMap.{FinMap, from_entries, get-remove, nat_cmp-IsAntisymmetric}
use Rattle.std.specs.FinMap.Entries.{find}
use Rattle.std.specs.List.{list_any}
use Rattle.std.specs.List.Sorted.{IsStrictlySortedBy}
use Rattle.std.specs.Map.{lookup, keys_of, values_of}
use Rattle.std.specs.Option.{option_map}
use Rattle.std.specs.Ordering.{nat_cmp}
use Rattle.std.proofs.lemmas.Bool.{true≢false}
use Rattle.std.proofs.lemmas.Cmp.{nat_cmp_total}
use Rattle.rl_plain.specs.laws.TreeMaps.{find_lookup, get-of_tree, one_set, sorted_entries}
use Rattle.rl_deletes.specs.Deletes.{RequestsView, ended, ended_from, if_received, is_received, received_at, with_request, with_status}
use Rattle.rl_deletes.specs.Views.{AreBuilt, view_of}
use Rattle.rl_deletes.specs.laws.Passing.{passes_at, any_alike, any_values, tied_one}
use Rattle.rl_deletes.specs.declared.request.RequestStatus.{RequestStatus}
use Rattle.rl_deletes.specs.declared.request.Request.{Request}

abbrev pub Tree : Type 0
Tree = List (ℕ × Request)

abbrev pub map_of : Tree → FinMap nat_cmp Request
map_of es = from_entries es

-- of no requests none passes a test
pub none_pass : (p : Request → Bool) (es : Tree) → length es ≡ 0 → list_any p (values_of es) ≡ false
none_pass p [] none = refl
none_pass p (e ∷ es) none = absurd (omega (arith, none))

-- what the tree finds at a number
pub found_at : (es : Tree) (q : ℕ) → lookup (is_at (nat_cmp q)) es ≡ map.get (map_of es) q
found_at es q = sym (get-of_tree nat_cmp_total es q)

-- a tree that has another request at one number
pub one_put : (es fs : Tree) (id : ℕ) (request : Request) → ((q : ℕ) → lookup (is_at (nat_cmp q)) fs ≡ cond (is_at (nat_cmp id) q) (Some request) (lookup (is_at (nat_cmp q)) es)) → map_of fs ≡ map.insert (map_of es) id request
one_put es fs id request answers = one_set nat_cmp_total nat_cmp-IsAntisymmetric es fs id request answers

-- where what was put at a new number is taken again, a tree finds what it found before
pub taken_again : (es puts takes : Tree) (id : ℕ) (request : Request) → lookup (is_at (nat_cmp id)) es ≡ None
    → ((q : ℕ) → lookup (is_at (nat_cmp q)) puts ≡ cond (is_at (nat_cmp id) q) (Some request) (lookup (is_at (nat_cmp q)) es))
    → ((q : ℕ) → lookup (is_at (nat_cmp q)) takes ≡ cond (is_at (nat_cmp id) q) None (lookup (is_at (nat_cmp q)) puts))
    → (q : ℕ) → lookup (is_at (nat_cmp q)) takes ≡ lookup (is_at (nat_cmp q)) es
taken_again es puts takes id request absent put taken q =
    taken q
    ∙ ap (cond (is_at (nat_cmp id) q) None) (put q)
    ∙ elim (is_at (nat_cmp id) q) as (λ b. is_at (nat_cmp id) q ≡ b → cond b None (cond b (Some request) (lookup (is_at (nat_cmp q)) es)) ≡ lookup (is_at (nat_cmp q)) es) [
      | true ↦ λ is. sym (subst (λ n. lookup (is_at (nat_cmp n)) es ≡ None) (tied_one id q is) absent)
      | false ↦ λ _. refl
    ] refl

pub passing_received : (p : Request → Bool) (known : Option Request) → passes_at p (if_received known) ≡ passes_at (λ request. is_received request && p request) known
passing_received p None = refl
passing_received p (Some request) = elim (is_received request) as (λ b. passes_at p (cond b (Some request) None) ≡ (b && p request)) [ true ↦ refl | false ↦ refl ]

module _ (cancel latest : ℕ) (requests active : Tree) (are : AreBuilt cancel requests active latest) where
  -- what is built under a number
  pub built_at : (q : ℕ) → lookup (is_at (nat_cmp q)) active ≡ if_received (map.get (map_of requests) q)
  built_at q = are.built q ∙ ap if_received (found_at requests q)

  found_built : (q : ℕ) → find nat_cmp q active ≡ if_received (map.get (map_of requests) q)
  found_built q = find_lookup nat_cmp active q ∙ built_at q

  module _ (sorted : IsStrictlySortedBy nat_cmp (keys_of active)) (p : Request → Bool) where
    -- a test passes of one that is built where it passes of one that is received
    pub any_built : list_any p (values_of active) ≡ list_any (λ request. is_received request && p request) (map.values (map_of requests))
    any_built = any_values p active ∙ any_alike (λ _. p) _ active (map_of requests) (sorted_entries nat_cmp active sorted) (λ q.
        ap (passes_at p) (found_built q) ∙ passing_received p (map.get (map_of requests) q))

    -- and so but for one number
    pub any_beside : (id : ℕ) → list_any (λ e. not (e.0 == id) && p e.1) active ≡ list_any (λ request. is_received request && p request) (map.values (map.remove (map_of requests) id))
    any_beside id = any_alike (λ q request. not (q == id) && p request) _ active (map.remove (map_of requests) id) (sorted_entries nat_cmp active sorted) (λ q.
        ap (passes_at (λ request. not (q == id) && p request)) (found_built q)
        ∙ beside (q == id) (map.get (map_of requests) q)
        ∙ ap (λ b. passes_at (λ request. is_received request && p request) (cond b None (map.get (map_of requests) q))) (sym (unsigned_tied q id))
        ∙ ap (passes_at (λ request. is_received request && p request)) (sym (get-remove nat_cmp_total (map_of requests) id q)))
      where
        beside : (b : Bool) (known : Option Request) → passes_at (λ request. not b && p request) (if_received known) ≡ passes_at (λ request. is_received request && p request) (cond b None known)
        beside true None = refl
        beside true (Some request) = elim (is_received request) as (λ b. passes_at (λ request. false) (cond b (Some request) None) ≡ false) [ true ↦ refl | false ↦ refl ]
        beside false known = passing_received p known

ended_known : (cancel : ℕ) (es fs : Tree) (id : ℕ) (status : RequestStatus) (known : Option Request) → map.get (map_of es) id ≡ known → IsSome (if_received known)
    → ((q : ℕ) → lookup (is_at (nat_cmp q)) fs ≡ cond (is_at (nat_cmp id) q) (option_map (with_status status) (lookup (is_at (nat_cmp id)) es)) (lookup (is_at (nat_cmp q)) es))
    → view_of cancel fs ≡ ended_from known status (view_of cancel es) id
ended_known cancel es fs id status None there some answers = absurd (true≢false (sym some))
ended_known cancel es fs id status (Some request) there some answers =
    elim (is_received request) as (λ b. IsSome (cond b (Some request) None) → view_of cancel fs ≡ cond b (with_request (view_of cancel es) id (with_status status request)) (view_of cancel es)) [
      | true ↦ λ _. ap (λ (m : FinMap nat_cmp Request). let all : RequestsView = record { requests = m; cancel = cancel } in all) (one_put es fs id (with_status status request) (λ q.
          answers q ∙ ap (λ known. cond (is_at (nat_cmp id) q) (option_map (with_status status) known) (lookup (is_at (nat_cmp q)) es)) (found_at es id ∙ there)))
      | false ↦ λ none. absurd (true≢false (sym none))
    ] some

-- a tree in which a received request has another status
pub ended_tree : (cancel : ℕ) (es fs : Tree) (id : ℕ) (status : RequestStatus) → IsSome (received_at (view_of cancel es) id)
    → ((q : ℕ) → lookup (is_at (nat_cmp q)) fs ≡ cond (is_at (nat_cmp id) q) (option_map (with_status status) (lookup (is_at (nat_cmp id)) es)) (lookup (is_at (nat_cmp q)) es))
    → view_of cancel fs ≡ ended status (view_of cancel es) id
ended_tree cancel es fs id status = ended_known cancel es fs id status (map.get (map_of es) id) refl
