-- What becomes of an entry that streams were offered.
use Rattle.std.proofs.Common.{◌≡◌, ◌≤◌, ◌<◌, ◌⊎◌, ℕ, Bool, true, false, Option, None, Some, MatchOption, Result, Ok, Err, refl, sym, ap, subst, ◌∙◌, inl, true≢false, arith}
use Rattle.std.specs.FinMap.{contains_key, insert, len}
use Rattle.rl_labels.specs.declared.entry.Entry.{Entry}
use Rattle.rl_chunks.specs.StoreState.{greatest}
use Rattle.rl_parts.specs.StoreUse.{FaultsRise}
use Rattle.rl_parts.specs.declared.fault.ReadFault.TheVariants as reads
use Rattle.rl_parts.specs.laws.UseLaws.{with_fault-rises}
use Rattle.rl_streams.specs.Found.{IsSettled, IsSettledUnread, IsUnreached}
use Rattle.rl_streams.specs.StreamsState.{after_add, IsDecided, Looks, StreamsView}
use Rattle.rl_streams.specs.declared.refusal.AddRefusal.{AddRefusal}
use Rattle.rl_streams.specs.declared.refusal.AddRefusal.TheVariants.{Expired, TooFarBehind, Full, Read}
use Rattle.rl_shard.specs.Deciding.{Lasts}
use Rattle.rl_shard.specs.Pushing.{is_taken, reply_to_add, IsSought, IsUnsought}
use Rattle.rl_shard.specs.ShardFault.{refused}
use Rattle.rl_records.specs.declared.step.ShardReply.{ShardReply}
use Rattle.rl_shard.specs.declared.step.ShardFault.{ShardFault}

-- it is refused for its age, or settled
abbrev pub IsOffered : Option AddRefusal → Result Bool AddRefusal → StreamsView → Entry → StreamsView → Type 0
IsOffered age result old entry new = MatchOption age (IsSettled result old entry new) (λ refusal. (result ≡ Err refusal) × (new ≡ old))

-- what streams keep of themselves, and what they hold where they took nothing
pub record Stays (result : Result Bool AddRefusal) (old new : StreamsView) : Type 0 where
  pub limits : new.limits ≡ old.limits
  pub honest : new.seen.honest ≡ old.seen.honest
  pub next : new.next ≡ old.next
  pub held : is_taken result ≡ false → new.held ≡ old.held

looked : (result : Result Bool AddRefusal) (old new : StreamsView) → Looks old new → Stays result old new
looked result old new look = record { limits = look.limits; honest = look.seen.honest; next = look.next; held = λ _. look.held }

pub stays : (age : Option AddRefusal) (result : Result Bool AddRefusal) (old : StreamsView) (entry : Entry) (new : StreamsView) → IsOffered age result old entry new → Stays result old new
stays None (Ok true) old entry new is = record { limits = is.1.1.limits; honest = is.1.1.seen.honest; next = is.1.1.next; held = λ not. absurd (true≢false not) }
stays None (Ok false) old entry new is = looked (Ok false) old new is.1
stays None (Err Full) old entry new is = looked (Err Full) old new is.1.1
stays None (Err (Read fault)) old entry new is = looked (Err (Read fault)) old new is
stays None (Err (Expired _)) old entry new is = absurd is
stays None (Err (TooFarBehind _)) old entry new is = absurd is
stays (Some refusal) result old entry new is = record {
  limits = ap (λ (s : StreamsView). s.limits) is.1;
  honest = ap (λ (s : StreamsView). s.seen.honest) is.1;
  next = ap (λ (s : StreamsView). s.next) is.1;
  held = λ _. ap (λ (s : StreamsView). s.held) is.1;
}

-- one that was taken was missing over an honest store, and there was room for it
pub was_missing : (age : Option AddRefusal) (result : Result Bool AddRefusal) (old : StreamsView) (entry : Entry) (new : StreamsView) → IsOffered age result old entry new → (age ≡ None → old.seen.honest ≡ true → IsDecided result old entry new)
    → old.seen.honest ≡ true → is_taken result ≡ true → (contains_key old.held entry ≡ false) × ((len old.held < old.limits.entries) × (new.held ≡ insert old.held entry tt))
was_missing None (Ok true) old entry new is decided honest taken = let found = decided refl honest in (found.0, (found.1.0, found.1.1.held))
was_missing None (Ok false) old entry new is decided honest taken = absurd (true≢false (sym taken))
was_missing None (Err _) old entry new is decided honest taken = absurd (true≢false (sym taken))
was_missing (Some refusal) (Ok b) old entry new is decided honest taken = absurd (no is.0)
  where
    no : {b : Bool} {refusal : AddRefusal} → Ok b ≡ Err refusal → ⊥
    no h = cc
was_missing (Some refusal) (Err _) old entry new is decided honest taken = absurd (true≢false (sym taken))

-- what is answered of it
pub sought : (age : Option AddRefusal) (added : Result Bool AddRefusal) (old : StreamsView) (entry : Entry) (new : StreamsView) (result : Result ShardReply ShardFault) → IsOffered age added old entry new → (age ≡ None → IsUnreached old.rows entry → IsSettledUnread added old entry new)
    → result ≡ reply_to_add added → MatchOption age (IsSought old entry result new ⊎ IsUnsought old result new) (λ refusal. (result ≡ refused refusal) × (new ≡ old))
sought None added old entry new result is exact answered = inl (record { added = added; answered = answered; settled = is; exact = exact refl })
sought (Some refusal) added old entry new result is exact answered = (answered ∙ ap reply_to_add is.0, is.1)

-- faults never go down
rises : (result : Result Bool AddRefusal) (old new : ℕ) → new ≡ after_add result old → FaultsRise old new
rises (Ok _) old new is = omega (arith, is)
rises (Err (Expired _)) old new is = omega (arith, is)
rises (Err (TooFarBehind _)) old new is = omega (arith, is)
rises (Err Full) old new is = omega (arith, is)
rises (Err (Read reads.Fault)) old new is = subst (FaultsRise old) (sym is) (with_fault-rises old)
rises (Err (Read reads.Damaged)) old new is = omega (arith, is)
rises (Err (Read reads.Memory)) old new is = omega (arith, is)

pub lasts : (age : Option AddRefusal) (result : Result Bool AddRefusal) (old : StreamsView) (entry : Entry) (new : StreamsView) → IsOffered age result old entry new → new.seen.faults ≡ after_add result old.seen.faults → old.next ≤ greatest → Lasts old new
lasts age result old entry new is counted few =
    let s = stays age result old entry new is in
    let next = s.next in
    record {
      limits = s.limits;
      numbers = omega (arith, next, few);
      stored = record { honest = s.honest; faults = rises result old.seen.faults new.seen.faults counted; next = omega (arith, next) };
    }
