-- What is visible after each step, by what it gains and loses.
use Rattle.std.specs.Prelude.{◌≡◌, ℕ, ◌+◌, ◌==◌, nat_le, Bool, true, false, cond, not, ◌&&◌, ◌||◌, List, [], ◌∷◌, Option, None, Some, is_none, is_some, if◌then◌else◌, refl}
use Rattle.std.specs.List.{filter, sum_by}
use Rattle.std.specs.FinMap.{contains_key, get, keys, len}
use Rattle.std.specs.Option.{option_map}
use Rattle.std.proofs.Common.{sym, ap, ◌∙◌, zero-add, true≢false, arith}
use Rattle.std.proofs.lemmas.List.Sums.{sum_by-cons}
use Rattle.std.proofs.lemmas.List.Sorted.{sum_by-IsPermutation}
use Rattle.rl_labels.specs.laws.OrderLaws.{entry_cmp_total, entry_cmp-IsAntisymmetric}
use Rattle.rl_labels.specs.declared.entry.Entry.{Entry}
use Rattle.rl_labels.specs.declared.limits.Limits.{Limits}
use Rattle.rl_aggregate.specs.laws.Counting.{filter-both}
use Rattle.rl_deletes.specs.Deletes.{RequestsView, asked, covered, covered_beside, covers_one, ended, ended_from, if_received, is_in_force, is_received, most_requests, process_fault, received_at, received_beside, with_request, with_status}
use Rattle.rl_deletes.specs.Horizons.{advanced, is_below}
use Rattle.rl_deletes.specs.laws.Covering.{covered-ended, covered-new, covered-parts}
use Rattle.rl_deletes.specs.laws.Passing.{passes_at}
use Rattle.rl_deletes.specs.declared.deletion.Deletion.{Deletion}
use Rattle.rl_deletes.specs.declared.fault.ProcessFault.{ProcessFault}
use Rattle.rl_deletes.specs.declared.request.Request.{Request}
use Rattle.rl_deletes.specs.declared.request.RequestStatus.{RequestStatus}
use Rattle.rl_deletes.specs.declared.request.RequestStatus.TheVariants.{Cancelled, Processed}
use Rattle.rl_query.specs.declared.filter.Sieve.{Sieve}
use Rattle.rl_streams.specs.Rewritten.{without}
use Rattle.rl_streams.specs.laws.HeldLaws.{keys-inserted, keys-kept}
use Rattle.rl_shard.specs.ShardState.{ShardState, visible}
use Rattle.rl_shard.specs.Showing.{Shows, gains, losses}
use Rattle.rl_shard.specs.ShardStep.{is_expired, is_full, is_taken, is_too_far_behind, left_of, newest_of, processed_if, removed_if, stepped, with_entry}
use Rattle.rl_records.specs.declared.step.ShardStep.{ShardStep}
use Rattle.rl_records.specs.declared.step.ShardStep.TheVariants as steps
use Rattle.rl_records.specs.declared.step.ShardReply.TheVariants as replies

mixed : (a b : Bool) (n k l m : ℕ) → k + l ≡ m → (cond (a && not b) n 0 + k) + (cond (a && b) n 0 + l) ≡ cond a n 0 + m
mixed true true n k l m e = omega (arith, e)
mixed true false n k l m e = omega (arith, e)
mixed false b n k l m e = omega (arith, e)

-- an entry is new where nothing speaks against it
is_new : {R : Type 0} (is_expired is_far is_held is_full : Bool) (a b c d : R) → is_none (if is_expired then Some a else (if is_far then Some b else (if is_held then Some c else (if is_full then Some d else None)))) ≡ true → is_held ≡ false
is_new true is_far is_held is_full a b c d taken = absurd (true≢false (sym taken))
is_new false true is_held is_full a b c d taken = absurd (true≢false (sym taken))
is_new false false true is_full a b c d taken = absurd (true≢false (sym taken))
is_new false false false is_full a b c d taken = refl

or_hidden : (first second : Bool) → not (first || second) ≡ (not second && not first)
or_hidden true true = refl
or_hidden true false = refl
or_hidden false true = refl
or_hidden false false = refl

beside : (first second : Bool) → (not second && not (first || second)) ≡ not (first || second)
beside true true = refl
beside true false = refl
beside false true = refl
beside false false = refl

and_swap : (a b : Bool) → (a && b) ≡ (b && a)
and_swap true true = refl
and_swap true false = refl
and_swap false true = refl
and_swap false false = refl

-- a request that is not received is not ended
pub ended-none : (all : RequestsView) (id : ℕ) (status : RequestStatus) (known : Option Request) → if_received known ≡ None → ended_from known status all id ≡ all
ended-none all id status None none = refl
ended-none all id status (Some request) none = by (is_received request) none
  where
    by : (b : Bool) → (if b then Some request else None) ≡ None → (if b then with_request all id (with_status status request) else all) ≡ all
    by true some = absurd (true≢false (ap is_some some))
    by false _ = refl

module _ (all : RequestsView) (id : ℕ) (status : RequestStatus) (over : is_in_force status ≡ false) (entry : Entry) where
  -- what is covered after a request was ended is what others cover
  covered-over : covered (ended status all id) entry ≡ covered_beside all id entry
  covered-over = by (received_at all id) refl
    where
      by : (known : Option Request) → received_at all id ≡ known → covered (ended status all id) entry ≡ covered_beside all id entry
      by (Some request) is = covered-ended all id entry status over (ap is_some is)
      by None is =
          ap (λ requests. covered requests entry) (ended-none all id status (get all.requests id) is)
          ∙ covered-parts all id entry
          ∙ ap (λ known. passes_at (λ request. covers_one request entry) known || covered_beside all id entry) is

module _ (number : Entry → ℕ) where
  abbrev total : List Entry → ℕ
  total entries = sum_by number entries

  first_passes : (p : Entry → Bool) (e : Entry) (es : List Entry) → total (filter p (e ∷ es)) ≡ cond (p e) (number e) 0 + total (filter p es)
  first_passes p e es = elim (p e) as (λ b. total (cond b (e ∷ filter p es) (filter p es)) ≡ cond b (number e) 0 + total (filter p es)) [
    | true ↦ sum_by-cons number e (filter p es)
    | false ↦ sym (zero-add (total (filter p es)))
  ]

  -- of those that pass a test some pass another too
  parted : (p q : Entry → Bool) (es : List Entry) → total (filter (λ e. p e && not (q e)) es) + total (filter (λ e. p e && q e) es) ≡ total (filter p es)
  parted p q [] = refl
  parted p q (e ∷ es) =
      (λ i. first_passes (λ e. p e && not (q e)) e es i + first_passes (λ e. p e && q e) e es i)
      ∙ mixed (p e) (q e) (number e) _ _ _ (parted p q es)
      ∙ sym (first_passes p e es)

  module _ (limits : Limits) (shard : ShardState) where
    abbrev before : ℕ
    before = total (visible shard)

    abbrev IsBalanced : ShardStep → Type 0
    IsBalanced step = total (visible (stepped limits shard step)) + total (losses limits shard step) ≡ before + total (gains limits shard step)

    abbrev shown : Entry → Bool
    shown e = not (covered shard.requests e)

    push : (entry : Entry) → IsBalanced (steps.Push entry)
    push entry = elim (is_taken limits shard entry) as (λ b. is_taken limits shard entry ≡ b → total (visible (if b then with_entry shard entry else shard)) + 0 ≡ before + total (if b && shown entry then entry ∷ [] else [])) [
      | true ↦ λ taken.
          let is_missing = is_new (is_expired shard entry) (is_too_far_behind limits shard entry) (contains_key shard.held entry) (is_full limits shard) (replies.Expired shard.horizon) (replies.TooFarBehind (newest_of shard entry.labels)) replies.Accepted replies.Full taken in
          ap (λ n. n + 0) (sum_by-IsPermutation number _ _ (keys-inserted entry_cmp_total shown shard.held entry is_missing) ∙ first_passes shown entry (keys shard.held))
          ∙ moved (shown entry) before
      | false ↦ λ _. refl
    ] refl
      where
        moved : (b : Bool) (k : ℕ) → (cond b (number entry) 0 + k) + 0 ≡ k + total (if b then entry ∷ [] else [])
        moved true k = omega arith
        moved false k = omega arith

    delete : (deletion : Deletion Sieve) → IsBalanced (steps.Delete deletion)
    delete deletion = by (nat_le most_requests (len shard.requests.requests)) (get shard.requests.requests deletion.id) refl
      where
        newly : get shard.requests.requests deletion.id ≡ None → total (filter (λ e. not (covered (with_request shard.requests deletion.id (asked deletion)) e)) (keys shard.held)) + total (filter (covers_one (asked deletion)) (visible shard)) ≡ before
        newly none =
            (λ i. total (filter (λ e. (ap not (covered-new shard.requests deletion.id e (asked deletion) none) ∙ or_hidden (covers_one (asked deletion) e) (covered shard.requests e)) i) (keys shard.held)) + total (filter-both shown (covers_one (asked deletion)) (keys shard.held) i))
            ∙ parted shown (covers_one (asked deletion)) (keys shard.held)

        by : (is_full : Bool) (known : Option Request) → get shard.requests.requests deletion.id ≡ known
            → total (filter (λ e. not (covered (if is_full then shard.requests else received_beside known shard.requests deletion.id (asked deletion)) e)) (keys shard.held)) + total (if not is_full && is_none known then filter (covers_one (asked deletion)) (visible shard) else []) ≡ before + 0
        by true known is = refl
        by false (Some known) is = refl
        by false None is = let h = newly is in omega (arith, h)

    -- no other than the numbered request covers it
    abbrev by_no_other : ℕ → Entry → Bool
    by_no_other id e = not (covered_beside shard.requests id e)

    cancel : (id : ℕ) → IsBalanced (steps.Cancel id)
    cancel id =
        let others = by_no_other id in
        let hidden = covered shard.requests in
        let parts = λ (e : Entry). covered-parts shard.requests id e in
        let by = λ (e : Entry). passes_at (λ request. covers_one request e) (received_at shard.requests id) in
        let here = λ (e : Entry). ap (λ b. others e && not b) (parts e) ∙ beside (by e) (covered_beside shard.requests id e) ∙ ap not (sym (parts e)) in
        let gained = λ (e : Entry). and_swap (others e) (hidden e) in
        let after : total (visible (stepped limits shard (steps.Cancel id))) ≡ total (filter others (keys shard.held)) = λ i. total (filter (λ e. not (covered-over shard.requests id Cancelled refl e i)) (keys shard.held)) in
        let both = parted others hidden (keys shard.held) in
        let seen : total (filter (λ e. others e && not (hidden e)) (keys shard.held)) ≡ before = λ i. total (filter (λ e. here e i) (keys shard.held)) in
        let more : total (filter (λ e. others e && hidden e) (keys shard.held)) ≡ total (gains limits shard (steps.Cancel id)) = λ i. total (filter (λ e. gained e i) (keys shard.held)) in
        omega (arith, after, both, seen, more)

    process : (id now : ℕ) → IsBalanced (steps.Process id now)
    process id now = ap (λ n. n + 0) (by (process_fault shard.requests id now))
      where
        parts : (e : Entry) (known : Option Request) → received_at shard.requests id ≡ known → covered shard.requests e ≡ (passes_at (λ request. covers_one request e) known || covered_beside shard.requests id e)
        parts e known is = covered-parts shard.requests id e ∙ ap (λ known. passes_at (λ request. covers_one request e) known || covered_beside shard.requests id e) is

        removed : (known : Option Request) → received_at shard.requests id ≡ known → total (filter (by_no_other id) (keys (left_of (option_map covers_one known) shard.held))) ≡ before
        removed None is = λ i. total (filter (λ e. not (sym (parts e None is) i)) (keys shard.held))
        removed (Some request) is =
            ap (λ es. total (filter (by_no_other id) es)) (keys-kept entry_cmp_total entry_cmp-IsAntisymmetric shard.held (λ e. not (covers_one request e)))
            ∙ ap total (filter-both (λ e. not (covers_one request e)) (by_no_other id) (keys shard.held))
            ∙ (λ i. total (filter (λ e. (and_swap (not (covers_one request e)) (by_no_other id e) ∙ sym (or_hidden (covers_one request e) (covered_beside shard.requests id e)) ∙ ap not (sym (parts e (Some request) is))) i) (keys shard.held)))

        by : (fault : Option ProcessFault) → total (filter (λ e. not (covered (processed_if fault shard.requests id) e)) (keys (left_of (removed_if fault shard.requests id) shard.held))) ≡ before
        by (Some fault) = refl
        by None =
            (λ i. total (filter (λ e. not (covered-over shard.requests id Processed refl e i)) (keys (left_of (option_map covers_one (received_at shard.requests id)) shard.held))))
            ∙ removed (received_at shard.requests id) refl

    retain : (now : ℕ) → IsBalanced (steps.Retain now)
    retain now = by (is_below (advanced limits.keep shard.horizon now)) (limits.keep == 0)
      where
        by : (below : Entry → Bool) (b : Bool) → total (filter shown (keys (left_of (if b then None else Some below) shard.held))) + total (if b then [] else filter below (visible shard)) ≡ before + 0
        by below true = refl
        by below false =
            let left : total (filter shown (keys (without below shard.held))) ≡ total (filter (λ e. shown e && not (below e)) (keys shard.held)) =
            ap (λ es. total (filter shown es)) (keys-kept entry_cmp_total entry_cmp-IsAntisymmetric shard.held (λ e. not (below e)))
            ∙ ap total (filter-both (λ e. not (below e)) shown (keys shard.held))
            ∙ (λ i. total (filter (λ e. and_swap (not (below e)) (shown e) i) (keys shard.held))) in
            let lost = ap total (filter-both shown below (keys shard.held)) in
            let both = parted shown below (keys shard.held) in
            omega (arith, left, lost, both)

-- what a step of the definition leaves is what was visible, less its losses, more its gains
pub shows-stepped : (limits : Limits) (shard : ShardState) (step : ShardStep) → Shows limits shard step (visible (stepped limits shard step))
shows-stepped limits shard (steps.Push entry) = record { sums = λ number. push number limits shard entry }
shows-stepped limits shard steps.Cut = record { sums = λ number. refl }
shows-stepped limits shard steps.Flush = record { sums = λ number. refl }
shows-stepped limits shard (steps.Delete deletion) = record { sums = λ number. delete number limits shard deletion }
shows-stepped limits shard (steps.Cancel id) = record { sums = λ number. cancel number limits shard id }
shows-stepped limits shard (steps.Process id now) = record { sums = λ number. process number limits shard id now }
shows-stepped limits shard (steps.Retain now) = record { sums = λ number. retain number limits shard now }
shows-stepped limits shard (steps.Collect slot terms t) = record { sums = λ number. refl }
