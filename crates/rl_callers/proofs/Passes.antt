-- What a caller's pass has of its calls.
use Rattle.std.proofs.Common.{◌≡◌, ℕ, suc, ◌+◌, true, false, cond, List, [], ◌∷◌, map, Option, None, Some, Err, refl, sym, ap, subst, ◌∙◌, arith, append-nil}
use Rattle.std.specs.Prelude.{is_some, option_map}
use Rattle.std.specs.List.{find, position_from}
use Rattle.rl_labels.specs.Name.{is_text}
use Rattle.rl_records.specs.declared.step.ShardReply.{ShardReply}
use Rattle.rl_records.specs.declared.step.ShardStep.{ShardStep}
use Rattle.rl_session.specs.Engine.{number_named}
use Rattle.rl_session.specs.Names.{shard_refusal}
use Rattle.rl_session.specs.WorldEngine.{first_refused, or_else}
use Rattle.rl_session.specs.declared.engine.Partly.{Partly}
use Rattle.rl_workers.specs.Receipts.{PassView}
use Rattle.rl_workers.specs.Rulers.{AreDecided, AreDecidedBy}
use Rattle.rl_workers.specs.declared.fault.AllFault.{AllFault}
use Rattle.rl_workers.specs.declared.fault.AllFault.TheVariants as all_faults
use Rattle.rl_callers.specs.Callers.{AreAsked, listed, partly_of}
use Rattle.rl_callers.specs.declared.caller.Listing.{Listing}

-- a step that not all shards decided
pub asked_partly : (shards : ℕ) (step : ShardStep) (old new : PassView) (fault : AllFault) (partly : Partly) → partly ≡ partly_of fault → AreDecided shards step old (Err fault) new → AreAsked shards old step (Err partly) new
asked_partly shards step old new fault partly same decided = let rest = by_fault fault same decided in (fault, same, rest.0, rest.1)
  where
    by_fault : (fault : AllFault) → partly ≡ partly_of fault → AreDecided shards step old (Err fault) new → (replies : List ShardReply) × AreDecidedBy partly.done step old replies new
    by_fault (all_faults.Partly done why) same decided = (decided.1, subst (λ (other : Partly). AreDecidedBy other.done step old decided.1 new) (sym same) decided.2)
    by_fault all_faults.Memory same kept =
        let none : AreDecidedBy 0 step old [] new = record { answers = []; replied = refl; each = refl; received = record { receipts = kept.receipts ∙ sym (append-nil old.receipts); notes = kept.notes } } in
        ([], subst (λ (other : Partly). AreDecidedBy other.done step old [] new) (sym same) none)

-- the first refusal that is found
pub first_found : (replies : List ShardReply) → find (λ reply. is_some (shard_refusal reply)) replies ≡ first_refused replies
first_found [] = refl
first_found (reply ∷ replies) =
    elim (is_some (shard_refusal reply)) as (λ b. cond b (Some reply) (find (λ reply. is_some (shard_refusal reply)) replies) ≡ or_else (cond b (Some reply) None) (first_refused replies)) [
      | true ↦ refl
      | false ↦ first_found replies
    ]

-- the first group with a name, by its place
shifted : (i : ℕ) (number : Option ℕ) → option_map (λ n. (i + 1) + n) number ≡ option_map (λ n. i + n) (option_map suc number)
shifted i None = refl
shifted i (Some n) = ap Some (omega arith)

place_from : (name : List ℕ) (groups : List Listing) (i : ℕ) → position_from (λ (group : Listing). is_text group.name name) i groups ≡ option_map (λ n. i + n) (number_named name (map listed groups))
place_from name [] i = refl
place_from name (group ∷ groups) i =
    elim (is_text group.name name) as (λ b. cond b (Some i) (position_from (λ (group : Listing). is_text group.name name) (i + 1) groups) ≡ option_map (λ n. i + n) (cond b (Some 0) (option_map suc (number_named name (map listed groups))))) [
      | true ↦ ap Some (omega arith)
      | false ↦ place_from name groups (i + 1) ∙ shifted i (number_named name (map listed groups))
    ]

unshifted : (number : Option ℕ) → option_map (λ n. 0 + n) number ≡ number
unshifted None = refl
unshifted (Some n) = ap Some (omega arith)

pub place_named : (name : List ℕ) (groups : List Listing) → position_from (λ (group : Listing). is_text group.name name) 0 groups ≡ number_named name (map listed groups)
place_named name groups = place_from name groups 0 ∙ unshifted (number_named name (map listed groups))
