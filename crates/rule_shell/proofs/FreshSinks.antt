-- Lists of sinks that are those that are asked for, and have taken nothing.
use Rattle.std.proofs.Common.{ℕ, List, [], ◌∷◌, ◌++◌, ◌≡◌, ◌∙◌, Bool, true, false, None, Some, if◌then◌else◌, map, length, refl, ap, ap₂, sym, subst, Vec, Global, arith}
use Rattle.std.specs.List.{AllByRecursion}
use Rattle.rl_rules.specs.declared.rule.Group.{Group}
use Rattle.rl_sinks.specs.SinkState.{SinkState}
use Rattle.rl_sinks.specs.declared.sink.SinkKind.TheVariants as kinds
use Rattle.rl_world.specs.BookCalls.{IsFresh}
use Rattle.rule_shell.specs.declared.options.SinkOptions.{SinkOptions}
use Rattle.rule_shell.specs.Runs.{new_sink, sinks_asked}

pub all_more : {X : Type 0} (P : X → Type 0) (xs : List X) (x : X) → AllByRecursion P xs → P x → AllByRecursion P (xs ++ x ∷ [])
all_more P [] x all last = (last, tt)
all_more P (y ∷ ys) x all last = (all.0, all_more P ys x all.1 last)

rest_fresh : (all : Bool) (tail : ℕ) → AllByRecursion IsFresh (if all then new_sink kinds.Notifier None ∷ new_sink kinds.Tail (Some tail) ∷ [] else [])
rest_fresh true tail = ((refl, refl), ((refl, refl), tt))
rest_fresh false tail = tt

asked_fresh : (asked : SinkOptions) → AllByRecursion IsFresh (sinks_asked asked)
asked_fresh asked = ((refl, refl), rest_fresh asked.all asked.tail)

module _ {B : Type 0} (state : B → SinkState) (asked : SinkOptions) where
  -- each group has the sinks that are asked for
  abbrev pub AreAsked : List (Vec B Global) → Type 0
  AreAsked = AllByRecursion (λ own. map state own.items ≡ sinks_asked asked)

  pub all_fresh : (sinks : List (Vec B Global)) → AreAsked sinks → AllByRecursion (λ own. AllByRecursion IsFresh (map state own.items)) sinks
  all_fresh [] all = tt
  all_fresh (own ∷ sinks) all = (subst (AllByRecursion IsFresh) (sym all.0) (asked_fresh asked), all_fresh sinks all.1)

  pub all_asked : (sinks : List (Vec B Global)) (groups : List Group) → length sinks ≡ length groups → AreAsked sinks → map (λ own. map state own.items) sinks ≡ map (λ _. sinks_asked asked) groups
  all_asked [] [] same all = refl
  all_asked [] (group ∷ groups) same all = absurd (omega (arith, same))
  all_asked (own ∷ sinks) [] same all = absurd (omega (arith, same))
  all_asked (own ∷ sinks) (group ∷ groups) same all =
      let fewer : length sinks ≡ length groups = omega (arith, same) in
      ap₂ (λ x xs. x ∷ xs) all.0 (all_asked sinks groups fewer all.1)

  -- a recorder alone
  pub one_asked : (own : Vec B Global) (sink : B) → asked.all ≡ false → own.items ≡ sink ∷ [] → state sink ≡ new_sink kinds.Recorder None → map state own.items ≡ sinks_asked asked
  one_asked own sink alone items is =
      ap (map state) items ∙ ap (λ one. one ∷ []) is
      ∙ ap (λ all. new_sink kinds.Recorder None ∷ (if all then new_sink kinds.Notifier None ∷ new_sink kinds.Tail (Some asked.tail) ∷ [] else [])) (sym alone)

  -- a recorder, a notifier and a tail
  pub three_asked : (own : Vec B Global) (a b c : B) → asked.all ≡ true → own.items ≡ a ∷ b ∷ c ∷ [] → state a ≡ new_sink kinds.Recorder None → state b ≡ new_sink kinds.Notifier None → state c ≡ new_sink kinds.Tail (Some asked.tail) → map state own.items ≡ sinks_asked asked
  three_asked own a b c every items first second third =
      ap (map state) items ∙ ap (λ one. one ∷ state b ∷ state c ∷ []) first ∙ ap (λ one. new_sink kinds.Recorder None ∷ one ∷ state c ∷ []) second ∙ ap (λ one. new_sink kinds.Recorder None ∷ new_sink kinds.Notifier None ∷ one ∷ []) third
      ∙ ap (λ all. new_sink kinds.Recorder None ∷ (if all then new_sink kinds.Notifier None ∷ new_sink kinds.Tail (Some asked.tail) ∷ [] else [])) (sym every)
