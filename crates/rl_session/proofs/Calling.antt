-- Calls of an engine, one after another.
use Rattle.std.proofs.Common.{◌≡◌, ℕ, zero, suc, ◌+◌, Bool, true, false, List, [], ◌∷◌, ◌++◌, Result, refl, sym, ap, subst, arith}
use Rattle.rl_labels.specs.declared.entry.Entry.{Entry}
use Rattle.rl_records.specs.declared.step.ShardReply.{ShardReply}
use Rattle.rl_world.specs.declared.fault.Refusal.{Refusal}
use Rattle.rl_world.specs.declared.step.Committed.{Committed}
use Rattle.rl_session.specs.Asking.{PushesAll, IsTurn, TakesTurn, EvaluatesDue}
use Rattle.rl_session.specs.Engine.{Calls}

module _ {E : Type 0} (calls : Calls E) where
  -- an entry more
  pub pushes_more : (old : E) (entries : List Entry) (answers : List (Result ShardReply Refusal)) (mid : E) (entry : Entry) (answer : Result ShardReply Refusal) (new : E) → PushesAll calls old entries answers mid → calls.pushes mid entry answer new → PushesAll calls old (entries ++ entry ∷ []) (answers ++ answer ∷ []) new
  pushes_more old [] [] mid entry answer new pushed pushes = (new, subst (λ engine. calls.pushes engine entry answer new) pushed pushes, refl)
  pushes_more old (first ∷ entries) (said ∷ answers) mid entry answer new pushed pushes = (pushed.0, pushed.1, pushes_more pushed.0 entries answers mid entry answer new pushed.2 pushes)
  pushes_more old [] (said ∷ answers) mid entry answer new pushed pushes = absurd pushed
  pushes_more old (first ∷ entries) [] mid entry answer new pushed pushes = absurd pushed

  -- a group more
  pub due_more : (old : E) (now from left at : ℕ) (results : List (Result Committed Refusal)) (mid : E) (due : Bool) (more : List (Result Committed Refusal)) (new : E) → at ≡ from + left → EvaluatesDue calls old now from left results mid → calls.is_due mid at now due
      → IsTurn calls due mid now at (λ engine rest. (rest ≡ []) × (new ≡ engine)) more → EvaluatesDue calls old now from (suc left) (results ++ more) new
  due_more old now from zero at results mid due more new same_number evaluated is_due turn =
      let here : at ≡ from = omega (arith, same_number) in
      subst (λ r. EvaluatesDue calls old now from (suc zero) (r ++ more) new) (sym evaluated.0) (
        due,
        subst (λ n. calls.is_due old n now due) here (subst (λ engine. calls.is_due engine at now due) evaluated.1 is_due),
        subst (λ n. IsTurn calls due old now n (λ engine rest. (rest ≡ []) × (new ≡ engine)) more) here (subst (λ engine. IsTurn calls due engine now at (λ engine rest. (rest ≡ []) × (new ≡ engine)) more) evaluated.1 turn),
      )
  due_more old now from (suc left) at results mid due more new same_number (true, first, turned) is_due turn =
      (true, first, (turned.0, turned.1, turned.2 ++ more, turned.3, ap (λ r. r ++ more) turned.4, due_more turned.1 now (suc from) left at turned.2 mid due more new (omega (arith, same_number)) turned.5 is_due turn))
  due_more old now from (suc left) at results mid due more new same_number (false, first, turned) is_due turn =
      (false, first, due_more old now (suc from) left at results mid due more new (omega (arith, same_number)) turned is_due turn)

  -- the next group, in the words of a loop
  pub due_next : (old : E) (now group : ℕ) (results : List (Result Committed Refusal)) (mid : E) (all : List (Result Committed Refusal)) (new : E) → EvaluatesDue calls old now 0 group results mid → TakesTurn calls mid now group results all new → EvaluatesDue calls old now 0 (group + 1) all new
  due_next old now group results mid all new evaluated turn =
      let next : suc group ≡ group + 1 = omega arith in
      subst (λ n. EvaluatesDue calls old now 0 n all new) next (subst (λ r. EvaluatesDue calls old now 0 (suc group) r new) (sym turn.4) (due_more old now 0 group group results mid turn.0 turn.1 new (omega arith) evaluated turn.2 turn.3))
