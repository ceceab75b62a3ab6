-- Windows stand for what is shown also where entries turned.
use Rattle.std.proofs.Common.{◌≡◌, ◌≤◌, ◌<◌, ◌⊎◌, ℕ, ◌+◌, Bool, true, false, cond, not, ◌&&◌, ◌||◌, List, [], ◌∷◌, ◌++◌, length, map, Option, None, Some, is_some, refl, sym, ap, subst, ◌∙◌, zero-add, true≢false, arith}
use Rattle.std.specs.Prelude.{nat_le, is_none, if◌then◌else◌}
use Rattle.std.specs.FinMap.{get, keys, len}
use Rattle.std.specs.List.{filter, sum_by}
use Rattle.std.proofs.lemmas.List.Sums.{sum_by-append, sum_by-cons}
use Rattle.rl_labels.specs.EntryOrder.{EntrySet}
use Rattle.rl_labels.specs.laws.OrderLaws.{entry_cmp_total, entry_cmp-IsAntisymmetric}
use Rattle.rl_labels.specs.declared.entry.Entry.{Entry}
use Rattle.rl_labels.specs.declared.limits.Limits.{Limits}
use Rattle.rl_aggregate.specs.laws.Counting.{filter-both}
use Rattle.rl_deletes.specs.Deletes.{RequestsView, cancelled, covered, covered_beside, covers_one, ended, hidden_alone, is_in_force, is_new_request, most_requests, received, received_at, received_beside, with_request, IsFaultBeside, IsReceiveFault}
use Rattle.rl_deletes.specs.declared.fault.ReceiveFault.TheVariants.{Full}
use Rattle.rl_deletes.specs.Horizons.{is_below, newly_expired}
use Rattle.rl_deletes.specs.laws.Covering.{covered-ended, covered-new, covered-parts, hidden-new}
use Rattle.rl_deletes.specs.laws.Passing.{passes_at}
use Rattle.rl_deletes.specs.declared.request.Request.{Request}
use Rattle.rl_deletes.specs.declared.request.RequestStatus.{RequestStatus}
use Rattle.rl_deletes.specs.declared.request.RequestStatus.TheVariants.{Cancelled}
use Rattle.rl_parts.specs.StoreUse.{FaultsRise}
use Rattle.rl_streams.specs.StreamRows.{AreGiven, numbers_in}
use Rattle.rl_streams.specs.Rewritten.{with_faults, without, IsGone, Rewrites}
use Rattle.rl_streams.specs.StreamsState.{Looks, StreamsView}
use Rattle.rl_streams.specs.laws.HeldLaws.{keys-kept}
use Rattle.rl_windows.specs.Built.{timely}
use Rattle.rl_slots.specs.Slots.{changes_of_all, outline, AreExact, AreOfMost, SlotView}
use Rattle.rl_slots.specs.laws.Alike.{exact-alike}
use Rattle.rl_slots.specs.laws.Exact.{exact-needed, exact-unneeded, needed-outline}
use Rattle.rl_slots.specs.laws.Living.{most-outline}
use Rattle.rl_slots.specs.declared.change.Change.{Change}
use Rattle.rl_shard.specs.Live.{AreRight}
use Rattle.rl_shard.specs.Turning.{AreTurned}
use Rattle.rl_shard.proofs.Right.{few_stood, stood, timed, timely_sum}

-- EXACT

module _ (turns : Entry → Bool) (held : EntrySet) (slots after : List SlotView) (changes : List Change) (turned : AreTurned turns held slots changes) (same : map outline after ≡ map outline slots) (before left : List Entry) where
  abbrev all_turned : (number : Entry → ℕ) → ℕ
  all_turned number = sum_by number (filter turns (timely (keys held)))

  -- windows without what turned stand for what is left
  pub exact_lost : ((number : Entry → ℕ) → sum_by number before ≡ sum_by number left + all_turned number) → ((lost entries : List Entry) → changes ≡ changes_of_all lost slots → AreExact slots (lost ++ entries) → AreExact after entries) → AreExact slots before → AreExact after left
  exact_lost sums take exact =
      exact-needed turned.first after turned.others left (needed-outline turned.first slots after same turned.needed) turned.before
      (take turned.entries (turned.others ++ left) turned.listed
      (exact-alike slots before (turned.entries ++ (turned.others ++ left)) (λ number. omega (
        arith,
        sums number,
        turned.sums number,
        sum_by-append number turned.entries (turned.others ++ left),
        sum_by-append number turned.others left,
      )) exact))

  -- and with it for all
  pub exact_gained : ((number : Entry → ℕ) → sum_by number left ≡ sum_by number before + all_turned number) → ((gained entries : List Entry) → changes ≡ changes_of_all gained slots → AreExact slots entries → AreExact after (gained ++ entries)) → AreExact slots before → AreExact after left
  exact_gained sums add exact =
      exact-alike after (turned.others ++ (turned.entries ++ before)) left (λ number. omega (
        arith,
        sums number,
        turned.sums number,
        sum_by-append number turned.others (turned.entries ++ before),
        sum_by-append number turned.entries before,
      ))
      (exact-unneeded turned.first after turned.others (turned.entries ++ before) (needed-outline turned.first slots after same turned.needed) turned.before (add turned.entries before turned.listed exact))

-- SUMS

module _ (number : Entry → ℕ) (p q r : Entry → Bool) (each : (e : Entry) (n : ℕ) → cond (p e) n 0 ≡ cond (q e) n 0 + cond (r e) n 0) where
  one_more : (t : Entry → Bool) (e : Entry) (es : List Entry) → sum_by number (filter t (e ∷ es)) ≡ cond (t e) (number e) 0 + sum_by number (filter t es)
  one_more t e es = elim (t e) as (λ b. sum_by number (cond b (e ∷ filter t es) (filter t es)) ≡ cond b (number e) 0 + sum_by number (filter t es)) [
    | true ↦ sum_by-cons number e (filter t es)
    | false ↦ sym (zero-add (sum_by number (filter t es)))
  ]

  -- those that pass one test are those that pass two others, of which none passes both
  pub sums_parted : (es : List Entry) → sum_by number (filter p es) ≡ sum_by number (filter q es) + sum_by number (filter r es)
  sums_parted [] = refl
  sums_parted (e ∷ es) = omega (arith, one_more p e es, one_more q e es, one_more r e es, each e (number e), sums_parted es)

module _ (number : Entry → ℕ) (all : RequestsView) (id : ℕ) (held : EntrySet) where
  -- what a new request hides
  pub sums_deleted : (request : Request) → get all.requests id ≡ None → (status : is_in_force request.status ≡ true) → sum_by number (stood all held) ≡ sum_by number (stood (with_request all id request) held) + sum_by number (filter (hidden_alone all id request) (timely (keys held)))
  sums_deleted request none status = sums_parted number (λ e. not (covered all e)) (λ e. not (covered (with_request all id request) e)) (hidden_alone all id request) (λ e n.
      let new = covered-new all id e request none ∙ ap (λ b. (b && covers_one request e) || covered all e) status in
      (by (covers_one request e) (covered all e) n ∙ (λ i. cond (not (sym new i)) n 0 + cond (covers_one request e && not (sym (hidden-new all id e none) i)) n 0))) (timely (keys held))
    where
      by : (own other : Bool) (n : ℕ) → cond (not other) n 0 ≡ cond (not (own || other)) n 0 + cond (own && not other) n 0
      by true true n = omega arith
      by true false n = omega arith
      by false true n = omega arith
      by false false n = omega arith

  -- what an ended request hid alone
  pub sums_ended : (own : Request) (status : RequestStatus) → is_in_force status ≡ false → received_at all id ≡ Some own
      → sum_by number (stood (ended status all id) held) ≡ sum_by number (stood all held) + sum_by number (filter (hidden_alone all id own) (timely (keys held)))
  sums_ended own status over is = sums_parted number (λ e. not (covered (ended status all id) e)) (λ e. not (covered all e)) (hidden_alone all id own) (λ e n.
      let after = covered-ended all id e status over (ap is_some is) in
      let before = covered-parts all id e ∙ ap (λ known. passes_at (λ request. covers_one request e) known || covered_beside all id e) is in
      (λ i. cond (not (after i)) n 0) ∙ by (covers_one own e) (covered_beside all id e) n ∙ (λ i. cond (not (sym before i)) n 0 + cond (hidden_alone all id own e) n 0)) (timely (keys held))
    where
      by : (own other : Bool) (n : ℕ) → cond (not other) n 0 ≡ cond (not (own || other)) n 0 + cond (own && not other) n 0
      by true true n = omega arith
      by true false n = omega arith
      by false true n = omega arith
      by false false n = omega arith

  -- what is below a horizon and shown
  pub sums_retained : (horizon : ℕ) → sum_by number (stood all held) ≡ sum_by number (stood all (without (is_below horizon) held)) + sum_by number (filter (newly_expired all horizon) (timely (keys held)))
  sums_retained horizon =
      let shown = λ (e : Entry). not (covered all e) in
      let kept = ap (λ es. sum_by (timed number) (filter shown es)) (keys-kept entry_cmp_total entry_cmp-IsAntisymmetric held (λ e. not (is_below horizon e))) ∙ ap (sum_by (timed number)) (filter-both (λ e. not (is_below horizon e)) shown (keys held)) in
      let parts = sums_parted (timed number) shown (λ e. not (is_below horizon e) && shown e) (newly_expired all horizon) (λ e n. by (is_below horizon e) (covered all e) n) (keys held) in
      omega (arith, timely_sum number shown (keys held), timely_sum number shown (keys (without (is_below horizon) held)), timely_sum number (newly_expired all horizon) (keys held), kept, parts)
    where
      by : (below is_covered : Bool) (n : ℕ) → cond (not is_covered) n 0 ≡ cond (not below && not is_covered) n 0 + cond (below && not is_covered) n 0
      by true true n = omega arith
      by true false n = omega arith
      by false true n = omega arith
      by false false n = omega arith

-- RIGHT

module _ (old new : StreamsView) (requests after : RequestsView) (slots left : List SlotView) (changes : List Change) (limits : new.limits ≡ old.limits) (honest : new.seen.honest ≡ old.seen.honest) (same : map outline left ≡ map outline slots) (right : AreRight old requests slots) where
  abbrev Takes : Type 0
  Takes = (lost entries : List Entry) → changes ≡ changes_of_all lost slots → AreExact slots (lost ++ entries) → AreExact left entries

  abbrev Adds : Type 0
  Adds = (gained entries : List Entry) → changes ≡ changes_of_all gained slots → AreExact slots entries → AreExact left (gained ++ entries)

  right_where : (old.seen.honest ≡ true → AreExact left (stood after new.held)) → AreRight new after left
  right_where exact = record {
    most = subst (λ (l : Limits). AreOfMost l.entries left) (sym limits) (most-outline slots left same old.limits.entries right.most);
    exact = λ is. exact (sym honest ∙ is);
  }

  -- windows from which a new request took what it hides are right, and so where it was known
  pub right_deleted : (id : ℕ) (request : Request) → new.held ≡ old.held → is_in_force request.status ≡ true → IsReceiveFault requests id request None → after ≡ received requests id request
      → (is_new_request requests id ≡ false → changes ≡ []) → (old.seen.honest ≡ true → is_new_request requests id ≡ true → AreTurned (hidden_alone requests id request) old.held slots changes) → Takes → AreRight new after left
  right_deleted id request held status fault received none lost take = right_where (λ was. subst (λ hs. AreExact left (stood after hs)) (sym held) (by (get requests.requests id) refl fault received was))
    where
      has_room : (b : Bool) → None ≡ (if b then Some Full else None) → not b ≡ true
      has_room true is = absurd (true≢false (sym (ap is_some is)))
      has_room false is = refl

      by : (known : Option Request) → get requests.requests id ≡ known → IsFaultBeside known (len requests.requests) request None → after ≡ received_beside known requests id request → old.seen.honest ≡ true → AreExact left (stood after old.held)
      by None missing fault is was =
          let is_new : is_new_request requests id ≡ true = (λ i. has_room (nat_le most_requests (len requests.requests)) fault i && is_none (missing i)) in
          subst (λ own. AreExact left (stood own old.held)) (sym is)
          (exact_lost (hidden_alone requests id request) old.held slots left changes (lost was is_new) same (stood requests old.held) (stood (with_request requests id request) old.held) (λ number. sums_deleted number requests id old.held request missing status) take (right.exact was))
      by (Some known) there fault is was =
          let is_old : is_new_request requests id ≡ false = ap (λ o. not (nat_le most_requests (len requests.requests)) && is_none o) there ∙ no (not (nat_le most_requests (len requests.requests))) in
          subst (λ own. AreExact left (stood own old.held)) (sym is) (take [] (stood requests old.held) (none is_old) (right.exact was))
        where
          no : (b : Bool) → (b && false) ≡ false
          no true = refl
          no false = refl

  -- windows that took what a cancelled request alone hid
  pub right_cancelled : (id : ℕ) (own : Request) → new.held ≡ old.held → received_at requests id ≡ Some own → after ≡ cancelled requests id → (old.seen.honest ≡ true → AreTurned (hidden_alone requests id own) old.held slots changes) → Adds → AreRight new after left
  right_cancelled id own held there is gained add = right_where (λ was. subst (λ hs. AreExact left (stood after hs)) (sym held) (subst (λ all. AreExact left (stood all old.held)) (sym is)
      (exact_gained (hidden_alone requests id own) old.held slots left changes (gained was) same (stood requests old.held) (stood (cancelled requests id) old.held) (λ number. sums_ended number requests id old.held own Cancelled refl there) add (right.exact was))))

  -- windows from which went what expired
  pub right_retained : (horizon : ℕ) → after ≡ requests → (old.seen.honest ≡ true → new.held ≡ without (is_below horizon) old.held) → (old.seen.honest ≡ true → AreTurned (newly_expired requests horizon) old.held slots changes) → Takes → AreRight new after left
  right_retained horizon is held lost take = right_where (λ was. subst (λ all. AreExact left (stood all new.held)) (sym is) (subst (λ hs. AreExact left (stood requests hs)) (sym (held was))
      (exact_lost (newly_expired requests horizon) old.held slots left changes (lost was) same (stood requests old.held) (stood requests (without (is_below horizon) old.held)) (λ number. sums_retained number requests 0 old.held horizon) take (right.exact was))))

-- one for each
length-sum : {X : Type 0} (xs : List X) → sum_by (λ _. 1) xs ≡ length xs
length-sum [] = refl
length-sum (x ∷ xs) = omega (arith, sum_by-cons (λ _. 1) x xs, length-sum xs)

-- a window without room for what a cancelled request alone hides shows more than may be held
pub not_crowded : (streams : StreamsView) (requests : RequestsView) (slots : List SlotView) (id : ℕ) (own : Request) (changes : List Change) → received_at requests id ≡ Some own → len streams.held ≤ streams.limits.entries → AreRight streams requests slots
    → AreTurned (hidden_alone requests id own) streams.held slots changes → ((most : ℕ) (gained entries : List Entry) → AreOfMost most slots → changes ≡ changes_of_all gained slots → AreExact slots entries → most < length gained + length entries) → streams.seen.honest ≡ true → ⊥
not_crowded streams requests slots id own changes there few right turned full honest =
    let held = streams.held in
    let one : Entry → ℕ = λ _. 1 in
    let over = full streams.limits.entries turned.entries (stood requests held) right.most turned.listed (right.exact honest) in
    let all = sums_ended one requests id held own Cancelled refl there in
    let shown = few_stood (cancelled requests id) held in
    omega (arith, over, all, shown, few, turned.sums one, length-sum turned.entries, length-sum turned.others, length-sum (stood requests held), length-sum (stood (cancelled requests id) held))

-- a rewrite after a look
pub looked_rewrites : (old mid new : StreamsView) → Looks old mid → mid.seen.faults ≡ old.seen.faults → Rewrites mid new → Rewrites old new
looked_rewrites old mid new look faults rewritten = record {
  limits = rewritten.limits ∙ look.limits;
  newest = rewritten.newest ∙ look.newest;
  next = subst (λ n. n ≤ new.next) look.next rewritten.next;
  honest = rewritten.honest ∙ look.seen.honest;
  faults = subst (λ n. FaultsRise n new.seen.faults) faults rewritten.faults;
  refused = rewritten.refused;
  counted = rewritten.counted ∙ ap (with_faults (length rewritten.refused)) faults;
  removed = λ number gone stays. rewritten.removed number (subst (λ rows. IsGone rows new.rows number) (sym look.rows) gone) stays;
  others = λ number apart stays. rewritten.others number (subst (λ n. (number < n) ⊎ (new.next ≤ number)) (sym look.next) apart) (λ gone. stays (subst (λ rows. IsGone rows new.rows number) look.rows gone)) ∙ ap (λ blobs. get blobs number) look.seen.blobs;
  given = subst (λ n. AreGiven (numbers_in old.rows) n new.next (numbers_in new.rows)) look.next (subst (λ rows. AreGiven (numbers_in rows) mid.next new.next (numbers_in new.rows)) look.rows rewritten.given);
}
