-- When requests in a tree end, and that none of them covers what is later.
use Rattle.std.proofs.Common.{◌≡◌, ◌≤◌, ◌<◌, ℕ, Bool, true, false, ◌&&◌, cond, List, [], ◌∷◌, None, Some, refl, sym, ap, ◌∙◌, arith}
use Rattle.std.specs.Prelude.{nat_le}
use Rattle.std.specs.BTreeMap.{insert_entry, is_at}
use Rattle.std.specs.FinMap as map
use Rattle.std.specs.FinMap.{FinMap, get-remove}
use Rattle.std.specs.List.{AllByRecursion, list_any}
use Rattle.std.specs.Map.{lookup, remove_entry}
use Rattle.std.specs.Ordering.{nat_cmp, eq_by_cmp, match_ordering}
use Rattle.std.specs.declared.cmp.Ordering.TheVariants.{Less, Equal, Greater}
use Rattle.std.proofs.lemmas.Bool.{and_left, and_right, lt-leb, true≢false}
use Rattle.std.proofs.lemmas.Cmp.{nat_cmp_total}
use Rattle.rl_labels.specs.LabelSet.{LabelSet}
use Rattle.rl_pipeline.specs.Sieving.{selects_line}
use Rattle.rl_deletes.specs.Deletes.{covered_line, covers_line, is_received, without_request}
use Rattle.rl_deletes.specs.Views.{AreBuilt, view_of}
use Rattle.rl_deletes.specs.laws.Passing.{passes_at, passing_number, same_bool}
use Rattle.rl_deletes.specs.declared.request.Request.{Request}
use Rattle.rl_deletes.proofs.Received.{Tree, map_of, built_at, passing_received}

-- none of the requests ends later
abbrev pub EndBy : ℕ → Tree → Type 0
EndBy latest es = AllByRecursion (λ request. request.1.deletion.end ≤ latest) es

-- then none ends later than a later moment
pub ends_raised : (latest later : ℕ) → latest ≤ later → (es : Tree) → EndBy latest es → EndBy later es
ends_raised latest later rise [] ends = tt
ends_raised latest later rise (e ∷ es) ends = (omega (arith, rise, ends.0), ends_raised latest later rise es ends.1)

-- nor does one where one more is put that does not
pub ends_put : (latest later : ℕ) → latest ≤ later → (es : Tree) (id : ℕ) (request : Request) → request.deletion.end ≤ later → EndBy latest es → EndBy later (insert_entry nat_cmp es id request)
ends_put latest later rise [] id request last ends = (last, tt)
ends_put latest later rise (e ∷ es) id request last ends =
    elim (nat_cmp id e.0) as (λ o. EndBy later (match_ordering o ((id, request) ∷ e ∷ es) ((e.0, request) ∷ es) (e ∷ insert_entry nat_cmp es id request))) [
      | Less ↦ (last, ends_raised latest later rise (e ∷ es) ends)
      | Equal ↦ (last, ends_raised latest later rise es ends.1)
      | Greater ↦ (omega (arith, rise, ends.0), ends_put latest later rise es id request last ends.1)
    ]

-- nor where one is taken
pub ends_taken : (latest : ℕ) (test : ℕ → Bool) (es : Tree) → EndBy latest es → EndBy latest (remove_entry test es)
ends_taken latest test [] ends = tt
ends_taken latest test (e ∷ es) ends = elim (test e.0) as (λ b. EndBy latest (cond b es (e ∷ remove_entry test es))) [ true ↦ ends.1 | false ↦ (ends.0, ends_taken latest test es ends.1) ]

-- where at no number something passes, nothing does
none_passes : (p : Request → Bool) (m : FinMap nat_cmp Request) → ((q : ℕ) → passes_at p (map.get m q) ≡ false) → list_any p (map.values m) ≡ false
none_passes p m none = same_bool _ false (λ any. let there = passing_number p m any in sym (none there.0) ∙ there.1) (λ h. absurd (true≢false (sym h)))

module _ (labels : LabelSet) (timestamp : ℕ) (line : List ℕ) where
  abbrev covers_it : Request → Bool
  covers_it request = covers_line request labels timestamp line

  abbrev covers_if_received : Request → Bool
  covers_if_received request = is_received request && covers_it request

  -- none of requests that end before the timestamp covers the line
  found_no_later : (latest : ℕ) → latest < timestamp → (test : ℕ → Bool) (es : Tree) → EndBy latest es → passes_at covers_it (lookup test es) ≡ false
  found_no_later latest later test [] ends = refl
  found_no_later latest later test (e ∷ es) ends =
      elim (test e.0) as (λ b. passes_at covers_it (cond b (Some e.1) (lookup test es)) ≡ false) [
        | true ↦ and_left _ (selects_line e.1.deletion.selector labels line) (and_right (nat_le e.1.deletion.start timestamp) _ (lt-leb timestamp e.1.deletion.end (omega (arith, later, ends.0))))
        | false ↦ found_no_later latest later test es ends.1
      ]

  module _ (cancel latest : ℕ) (requests active : Tree) (are : AreBuilt cancel requests active latest) (later : latest < timestamp) where
    none_at : (q : ℕ) → passes_at covers_if_received (map.get (map_of requests) q) ≡ false
    none_at q =
        sym (passing_received covers_it (map.get (map_of requests) q))
        ∙ ap (passes_at covers_it) (sym (built_at cancel latest requests active are q))
        ∙ found_no_later latest later (is_at (nat_cmp q)) active are.ends

    -- no received request covers what is later than all of them end
    pub none_later : covered_line (view_of cancel requests) labels timestamp line ≡ false
    none_later = none_passes covers_if_received (map_of requests) none_at

    -- and so but for one number
    pub none_later_beside : (id : ℕ) → covered_line (without_request (view_of cancel requests) id) labels timestamp line ≡ false
    none_later_beside id = none_passes covers_if_received (map.remove (map_of requests) id) (λ q.
        ap (passes_at covers_if_received) (get-remove nat_cmp_total (map_of requests) id q)
        ∙ elim (eq_by_cmp nat_cmp q id) as (λ b. passes_at covers_if_received (cond b None (map.get (map_of requests) q)) ≡ false) [ true ↦ refl | false ↦ none_at q ])
