-- What the calls of an engine over a world make of the world.
use Rattle.std.proofs.Common.{◌≡◌, ℕ, zero, suc, ◌+◌, Bool, true, false, cond, List, [], ◌∷◌, ◌++◌, map, length, take, Option, None, Some, Ok, refl, sym, ap, subst, ◌∙◌, arith}
use Rattle.std.specs.Prelude.{slice_get, option_map}
use Rattle.rl_labels.specs.Name.{is_text}
use Rattle.rl_rules.specs.declared.rule.Group.{Group}
use Rattle.rl_records.specs.declared.step.ShardReply.{ShardReply}
use Rattle.rl_records.specs.declared.step.ShardStep.{ShardStep}
use Rattle.rl_world.specs.WorldState.{BookState, WorldBooks}
use Rattle.rl_session.specs.Engine.{Listed, number_named}
use Rattle.rl_session.specs.WorldEngine.{IsAskedFor, AreDecided, first_refused, listed, or_else, refusing}

-- a shard more decided a step
pub decided_more : (old : WorldBooks) (step : ShardStep) (from at : ℕ) (replies : List ShardReply) (mid : WorldBooks) (reply : ShardReply) (new : WorldBooks) → at ≡ from + length replies → AreDecided old step from replies mid → IsAskedFor mid step at (Ok reply) new → AreDecided old step from (replies ++ reply ∷ []) new
decided_more old step from at [] mid reply new same_number decided next =
    (new, subst (λ n. IsAskedFor old step n (Ok reply) new) (omega (arith, same_number)) (subst (λ world. IsAskedFor world step at (Ok reply) new) decided next), refl)
decided_more old step from at (first ∷ replies) mid reply new same_number decided next =
    (decided.0, decided.1, decided_more decided.0 step (suc from) at replies mid reply new (omega (arith, same_number)) decided.2 next)

none_after : (refused : Option ShardReply) → or_else refused None ≡ refused
none_after None = refl
none_after (Some reply) = refl

or_else_in_turn : (a b c : Option ShardReply) → or_else a (or_else b c) ≡ or_else (or_else a b) c
or_else_in_turn None b c = refl
or_else_in_turn (Some reply) b c = refl

-- the first refusal, with one reply more
pub first_more : (replies : List ShardReply) (reply : ShardReply) → first_refused (replies ++ reply ∷ []) ≡ or_else (first_refused replies) (refusing reply)
first_more [] reply = none_after (refusing reply)
first_more (first ∷ replies) reply = ap (or_else (refusing first)) (first_more replies reply) ∙ or_else_in_turn (refusing first) (first_refused replies) (refusing reply)

none_some : {X : Type 0} (x : X) → None ≡ Some x → ⊥
none_some x h = cc

some_none : {X : Type 0} (x : X) → Some x ≡ None → ⊥
some_none x h = cc

some_is : {X : Type 0} (a b : X) → Some a ≡ Some b → a ≡ b
some_is a b h = cc

-- the first group has another name, and no other has this one
apart : (name : List ℕ) (first : Listed) (groups : List Listed) → number_named name (first ∷ groups) ≡ None → (is_text first.name name ≡ false) × (number_named name groups ≡ None)
apart name first groups none =
    elim (is_text first.name name) as (λ b. is_text first.name name ≡ b → cond b (Some 0) (option_map suc (number_named name groups)) ≡ None → (is_text first.name name ≡ false) × (number_named name groups ≡ None)) [
      | true ↦ λ is h. absurd (some_none 0 h)
      | false ↦ λ is h. (is, within (number_named name groups) h)
    ] refl none
  where
    within : (number : Option ℕ) → option_map suc number ≡ None → number ≡ None
    within None h = refl
    within (Some n) h = absurd (some_none (suc n) h)

named_by : (name : List ℕ) (first : Listed) (groups : List Listed) (t : Bool) → is_text first.name name ≡ t → number_named name (first ∷ groups) ≡ cond t (Some 0) (option_map suc (number_named name groups))
named_by name first groups t is = ap (λ b. cond b (Some 0) (option_map suc (number_named name groups))) is

-- what a comparison of a name with that of a book's group says
pub named_test : (name text : List ℕ) (book : BookState) (group : Group) (t : Bool) → text ≡ group.name → group ≡ book.history.group → t ≡ is_text text name → is_text book.history.group.name name ≡ t
named_test name text book group t text_is group_is test = sym (test ∙ ap (λ n. is_text n name) (text_is ∙ ap (λ (g : Group). g.name) group_is))

-- a group more that has another name
pub none_more : (name : List ℕ) (books : List BookState) (i : ℕ) (book : BookState) → number_named name (map listed (take i books)) ≡ None → slice_get books i ≡ Some book → is_text book.history.group.name name ≡ false → number_named name (map listed (take (suc i) books)) ≡ None
none_more name [] i book none there other = absurd (none_some book there)
none_more name (first ∷ books) zero book none there other = named_by name (listed first) [] false (ap (λ (b : BookState). is_text b.history.group.name name) (some_is first book there) ∙ other)
none_more name (first ∷ books) (suc i) book none there other =
    let both = apart name (listed first) (map listed (take i books)) none in
    named_by name (listed first) (map listed (take (suc i) books)) false both.0 ∙ ap (option_map suc) (none_more name books i book both.1 there other)

-- the first that has the name
pub named_here : (name : List ℕ) (books : List BookState) (i : ℕ) (book : BookState) → number_named name (map listed (take i books)) ≡ None → slice_get books i ≡ Some book → is_text book.history.group.name name ≡ true → Some i ≡ number_named name (map listed books)
named_here name [] i book none there same = absurd (none_some book there)
named_here name (first ∷ books) zero book none there same = sym (named_by name (listed first) (map listed books) true (ap (λ (b : BookState). is_text b.history.group.name name) (some_is first book there) ∙ same))
named_here name (first ∷ books) (suc i) book none there same =
    let both = apart name (listed first) (map listed (take i books)) none in
    sym (named_by name (listed first) (map listed books) false both.0 ∙ ap (option_map suc) (sym (named_here name books i book both.1 there same)))
