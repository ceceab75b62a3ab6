-- Chains, turn by turn.
use Rattle.std.proofs.Common.{◌≡◌, List, [], ◌∷◌, refl, sym, subst}
use Rattle.rl_rule_tests.specs.Playing.{Chain}

-- from the state that was reached, what is left goes on to where all of it leads
pub record Goes {S A : Type 0} (Makes : S → A → S → Type 0) (start : S) (all left : List A) (now : S) : Type 0 where
  pub on : (end : S) → Chain Makes now left end → Chain Makes start all end

pub goes_next : {S A : Type 0} (Makes : S → A → S → Type 0) (start : S) (all left next : List A) (now : S) (item : A) (mid : S) → Goes Makes start all left now → left ≡ item ∷ next → Makes now item mid → Goes Makes start all next mid
goes_next Makes start all left next now item mid goes first made = record { on = λ end chain. goes.on end (subst (λ items. Chain Makes now items end) (sym first) (mid, made, chain)) }

pub goes_all : {S A : Type 0} (Makes : S → A → S → Type 0) (start : S) (all left : List A) (now : S) → Goes Makes start all left now → left ≡ [] → Chain Makes start all now
goes_all Makes start all left now goes none = goes.on now (subst (λ items. Chain Makes now items now) (sym none) refl)
