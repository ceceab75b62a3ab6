-- What a cancelled request alone hid has come into the windows.
use Rattle.std.proofs.Common.{◌≡◌, ◌≤◌, ℕ, Bool, true, false, Bor, Option, None, Some, Result, Ok, Err, is_some, length, map, not, refl, sym, ap, subst, ◌∙◌, true≢false, arith}
use Rattle.std.specs.FinMap.{entries, get, keys, len, len-entries}
use Rattle.std.specs.Option.{option_map}
use Rattle.std.specs.Prelude.{MatchResult, IfSome, if◌then◌else◌}
use Rattle.std.proofs.lemmas.List.{length-map}
use Rattle.rl_labels.specs.EntryOrder.{EntrySet}
use Rattle.rl_labels.specs.declared.limits.Limits.{Limits}
use Rattle.rl_deletes.specs.Deletes.{cancelled, cancel_fault, cancel_fault_in, cancel_fault_of, hidden_alone, if_received, is_in_force, received_at, RequestsView}
use Rattle.rl_deletes.specs.declared.fault.CancelFault.{CancelFault}
use Rattle.rl_deletes.specs.declared.request.Request.{Request}
use Rattle.rl_deletes.specs.declared.request.RequestStatus.{RequestStatus}
use Rattle.rl_deletes.specs.declared.request.RequestStatus.TheVariants.{Received, Cancelled, Processed}
use Rattle.rl_slots.specs.Slots.{outline}
use Rattle.rl_slots.specs.declared.change.AddFault.{AddFault}
use Rattle.rl_slots.specs.declared.change.AddFault.TheVariants.{Full, Memory}
use Rattle.rl_slots.specs.laws.Living.{collected-outline, live-outline, most-outline}
use Rattle.rl_streams.specs.StreamsState.{StreamsView}
use Rattle.rl_shard.specs.Live.{AreRight}
use Rattle.rl_shard.specs.ShardFault.{fault_of_windows, IsOfStore}
use Rattle.rl_shard.specs.ShardState.{PartsView}
use Rattle.rl_shard.specs.Turning.{AreTurned}
use Rattle.rl_shard.specs.laws.Shown.{ended-none}
use Rattle.rl_shard.proofs.Right.{right_others}
use Rattle.rl_shard.proofs.Turned.{not_crowded, right_cancelled}
use Rattle.rl_shard.proofs.parts.ShardParts.cancel.Goals as goal

-- whether a request is received
none_there : (found : Option (Bor Request)) (received : Option Request) (is_none : Bool) → option_map (λ (active : Bor Request). active.now) found ≡ received → is_some found ≡ not is_none → is_none ≡ true → received ≡ None
none_there None received is_none is some none = sym is
none_there (Some active) received is_none is some none = absurd (true≢false (some ∙ ap not none))

one_there : (found : Option (Bor Request)) (received : Option Request) (is_none : Bool) → option_map (λ (active : Bor Request). active.now) found ≡ received → is_some found ≡ not is_none → is_none ≡ false → (own : Request) × (received ≡ Some own)
one_there (Some active) received is_none is some none = (active.now, sym is)
one_there None received is_none is some none = absurd (true≢false (sym (some ∙ ap not none)))

-- a request that is not received is as it was
unchanged : (requests after : RequestsView) (id : ℕ) (result : Result (Unit {0}) CancelFault) → received_at requests id ≡ None → MatchResult result (λ _. (cancel_fault requests id ≡ None) × (after ≡ cancelled requests id)) (λ fault. (cancel_fault requests id ≡ Some fault) × (after ≡ requests)) → after ≡ requests
unchanged requests after id (Ok _) none is = is.1 ∙ ended-none requests id Cancelled (get requests.requests id) none
unchanged requests after id (Err _) none is = is.1

-- nothing speaks against the cancel of one that is received
no_fault : (known : Option Request) (own : Request) → if_received known ≡ Some own → cancel_fault_of known ≡ None
no_fault None own is = absurd (true≢false (sym (ap is_some is)))
no_fault (Some request) own is = by request.status is
  where
    by : (status : RequestStatus) → (if is_in_force status then Some request else None) ≡ Some own → cancel_fault_in status ≡ None
    by Received is = refl
    by Cancelled is = refl
    by Processed is = absurd (true≢false (sym (ap is_some is)))

-- and it is cancelled
changed : (requests after : RequestsView) (id : ℕ) (own : Request) (result : Result (Unit {0}) CancelFault) → received_at requests id ≡ Some own → MatchResult result (λ _. (cancel_fault requests id ≡ None) × (after ≡ cancelled requests id)) (λ fault. (cancel_fault requests id ≡ Some fault) × (after ≡ requests)) → after ≡ cancelled requests id
changed requests after id own (Ok _) there is = is.1
changed requests after id own (Err fault) there is = absurd (apart (sym (no_fault (get requests.requests id) own there) ∙ is.0))
  where
    apart : {fault : CancelFault} → None ≡ Some fault → ⊥
    apart h = cc

-- windows are full over a store that lies alone
of_store : (fault : AddFault) (old new : StreamsView) → (fault ≡ Full → old.seen.honest ≡ true → ⊥) → IsOfStore old (fault_of_windows fault) new
of_store Full old new not_honest = by old.seen.honest (not_honest refl)
  where
    by : (b : Bool) → (b ≡ true → ⊥) → b ≡ false
    by true apart = absurd (apart refl)
    by false apart = refl
of_store Memory old new not_honest = tt

pub invariant_of-self : goal.invariant_of-self
invariant_of-self g c =
    let none = none_there c.received.result _ c.is_none.result c.received.ensures c.is_none.ensures c.if-is_none.true in (
      c.self.invariant.0,
      subst (λ requests. AreRight c.self.inside.streams requests c.self.inside.slots) (sym (unchanged c.self.inside.requests c.cancel.new.self c.args.id c.cancel.result none c.cancel.ensures)) c.self.invariant.1,
    )

-- no more are held than may be
few_held : (streams : StreamsView) → length (keys streams.held) ≤ streams.limits.entries → len streams.held ≤ streams.limits.entries
few_held streams few =
    let many : length (keys streams.held) ≡ length (entries streams.held) = length-map (entries streams.held) (λ e. e.0) in
    omega (arith, few, many, len-entries streams.held)

pub invariant_of-self-in-Err : goal.invariant_of-self-in-Err
invariant_of-self-in-Err g c =
    let old = c.self-2.inside.streams in
    let slots = c.self-2.inside.slots in (
      c.self-2.invariant.0,
      right_others old c.self-2.inside.requests slots c.add.new.self (most-outline slots c.add.new.self c.add.ensures.outline old.limits.entries) c.in-Err.ensures.refused c.self-2.invariant.1,
    )

pub returns-in-Err-clause-of_store : goal.returns-in-Err-clause-of_store
returns-in-Err-clause-of_store g c =
    let old = c.self-2.inside.streams in
    let requests = c.self-2.inside.requests in
    let slots = c.self-2.inside.slots in
    let before = c.args.self.now in
    let id = c.args.id in
    let changes = c.in_ok-gained.gained.items in
    let same_requests : requests ≡ before.requests = ap (λ (p : PartsView). p.requests) c.self-2.view_is ∙ c.gained_by.ensures.others.0 in
    let same_slots : slots ≡ before.slots = ap (λ (p : PartsView). p.slots) c.self-2.view_is ∙ c.gained_by.ensures.others.2 in
    let same_held : old.held ≡ before.streams.held = ap (λ (p : PartsView). p.streams.held) c.self-2.view_is ∙ c.gained_by.ensures.same.held in
    let same_honest : old.seen.honest ≡ before.streams.seen.honest = ap (λ (p : PartsView). p.streams.seen.honest) c.self-2.view_is ∙ c.gained_by.ensures.same.seen.honest in
    let found = one_there c.received.result _ c.is_none.result c.received.ensures c.is_none.ensures c.if-is_none.false in
    let own = found.0 in
    let there_before : received_at before.requests id ≡ Some own = ap (λ (p : PartsView). received_at p.requests id) (sym c.self.view_is) ∙ found.1 in
    let there : received_at requests id ≡ Some own = ap (λ (r : RequestsView). received_at r id) same_requests ∙ there_before in
    let turned = λ (was : old.seen.honest ≡ true).
    subst (λ (r : RequestsView). AreTurned (hidden_alone r id own) old.held slots changes) (sym same_requests)
    (subst (λ (h : EntrySet). AreTurned (hidden_alone before.requests id own) h slots changes) (sym same_held)
    (subst (λ ss. AreTurned (hidden_alone before.requests id own) before.streams.held ss changes) (sym same_slots)
    (subst (λ o. IfSome o (λ own. AreTurned (hidden_alone before.requests id own) before.streams.held before.slots changes)) there_before (c.in_ok-gained.ensures.gained (sym same_honest ∙ was))))) in
    let same_limits : old.limits ≡ before.streams.limits = ap (λ (p : PartsView). p.streams.limits) c.self-2.view_is ∙ c.gained_by.ensures.same.limits in
    let few_before = subst (λ (p : PartsView). len p.streams.held ≤ p.streams.limits.entries) c.self.view_is (few_held c.self.inside.streams c.show_few.ensures.held) in
    let few : len old.held ≤ old.limits.entries = subst (λ (h : EntrySet). len h ≤ old.limits.entries) (sym same_held) (subst (λ (l : Limits). len before.streams.held ≤ l.entries) (sym same_limits) few_before) in
    subst (λ fault. IsOfStore before.streams fault old) (sym c.from.ensures)
    (of_store c.in-Err.fault before.streams old (λ full honest.
    not_crowded old requests slots id own changes there few c.self-2.invariant.1 (turned (same_honest ∙ honest)) (λ most gained others of_most listed exact. c.add.ensures.full (c.in-Err.is ∙ ap Err full) most gained others of_most (c.deref.ensures.value ∙ listed) exact) (same_honest ∙ honest)))

pub returns-in-Err-clause-live : goal.returns-in-Err-clause-live
returns-in-Err-clause-live g c = live-outline c.args.self.now.slots c.add.new.self (c.add.ensures.outline ∙ ap (λ (p : PartsView). map outline p.slots) c.self-2.view_is ∙ ap (map outline) c.gained_by.ensures.others.2)

pub returns-in-Err-clause-collected : goal.returns-in-Err-clause-collected
returns-in-Err-clause-collected g c = collected-outline c.args.self.now.slots c.add.new.self (c.add.ensures.outline ∙ ap (λ (p : PartsView). map outline p.slots) c.self-2.view_is ∙ ap (map outline) c.gained_by.ensures.others.2)

pub invariant_of-self-2 : goal.invariant_of-self-2
invariant_of-self-2 g c =
    let old = c.self-2.inside.streams in
    let requests = c.self-2.inside.requests in
    let slots = c.self-2.inside.slots in
    let before = c.args.self.now in
    let id = c.args.id in
    let changes = c.in_ok-gained.gained.items in
    let same_requests : requests ≡ before.requests = ap (λ (p : PartsView). p.requests) c.self-2.view_is ∙ c.gained_by.ensures.others.0 in
    let same_slots : slots ≡ before.slots = ap (λ (p : PartsView). p.slots) c.self-2.view_is ∙ c.gained_by.ensures.others.2 in
    let same_held : old.held ≡ before.streams.held = ap (λ (p : PartsView). p.streams.held) c.self-2.view_is ∙ c.gained_by.ensures.same.held in
    let same_honest : old.seen.honest ≡ before.streams.seen.honest = ap (λ (p : PartsView). p.streams.seen.honest) c.self-2.view_is ∙ c.gained_by.ensures.same.seen.honest in
    let found = one_there c.received.result _ c.is_none.result c.received.ensures c.is_none.ensures c.if-is_none.false in
    let own = found.0 in
    let there_before : received_at before.requests id ≡ Some own = ap (λ (p : PartsView). received_at p.requests id) (sym c.self.view_is) ∙ found.1 in
    let there : received_at requests id ≡ Some own = ap (λ (r : RequestsView). received_at r id) same_requests ∙ there_before in
    let turned = λ (was : old.seen.honest ≡ true).
    subst (λ (r : RequestsView). AreTurned (hidden_alone r id own) old.held slots changes) (sym same_requests)
    (subst (λ (h : EntrySet). AreTurned (hidden_alone before.requests id own) h slots changes) (sym same_held)
    (subst (λ ss. AreTurned (hidden_alone before.requests id own) before.streams.held ss changes) (sym same_slots)
    (subst (λ o. IfSome o (λ own. AreTurned (hidden_alone before.requests id own) before.streams.held before.slots changes)) there_before (c.in_ok-gained.ensures.gained (sym same_honest ∙ was))))) in (
      c.self-2.invariant.0,
      right_cancelled old old requests c.cancel-2.new.self slots c.add.new.self changes refl refl c.add.ensures.outline c.self-2.invariant.1 id own refl there (changed requests c.cancel-2.new.self id own c.cancel-2.result there c.cancel-2.ensures) turned
          (λ gained others listed exact. c.in_default.ensures.exact gained others (c.deref.ensures.value ∙ listed) exact),
    )

pub returns-clause-live : goal.returns-clause-live
returns-clause-live g c = live-outline c.args.self.now.slots c.add.new.self (c.add.ensures.outline ∙ ap (λ (p : PartsView). map outline p.slots) c.self-2.view_is ∙ ap (map outline) c.gained_by.ensures.others.2)

pub returns-clause-collected : goal.returns-clause-collected
returns-clause-collected g c = collected-outline c.args.self.now.slots c.add.new.self (c.add.ensures.outline ∙ ap (λ (p : PartsView). map outline p.slots) c.self-2.view_is ∙ ap (map outline) c.gained_by.ensures.others.2)
