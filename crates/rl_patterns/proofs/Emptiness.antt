-- Where a tree matches the empty text.
use Rattle.std.proofs.Common.{◌≡◌, ℕ, zero, suc, ◌+◌, ◌-◌, Bool, true, false, cond, ◌&&◌, ◌||◌, List, [], ◌∷◌, Option, Some, None, is_some, option_map, option_and_then, if◌then◌else◌, refl, sym, ap, ap₂, ◌∙◌, arith}
use Rattle.std.proofs.Math.Bool.{and_assoc, and-true, and_self, or-true, and-or_distrib_right}
use Rattle.std.specs.Option.{option_or}
use Rattle.std.specs.Char.{len_utf8}
use Rattle.regex_class.specs.Ranges.{in_ranges}
use Rattle.regex_hir.specs.Looks.{Side, holds, holds_between}
use Rattle.regex_hir.specs.Text.{byte_before, has_bytes_at, char_at, is_boundary}
use Rattle.regex_hir.specs.Re.{Re, empty, literal, byte_in, char_in, look, cat, alt, group, plus, Rest, accept, attempt}
use Rattle.regex_hir.specs.Meaning.{meaning, optional, copies, up_to, repeat}
use Rattle.regex_hir.specs.Find.{first_from, find_str}
use Rattle.regex_hir.proofs.OptionLemmas.{is_some-write}
use Rattle.regex_hir.proofs.TextLemmas.{char_at_past, char_before-zero}
use Rattle.regex_hir.specs.declared.hir.Hir.{Hir}
use Rattle.regex_hir.specs.declared.look.Look.{Look}
use Rattle.regex_syntax.specs.Grammar.{Names}
use Rattle.regex.specs.Patterns.{Reads, default_config}
use Rattle.rl_patterns.specs.Empty.{tree_matches_empty}
use Rattle.rl_patterns.specs.Matching.{has_match}
use Rattle.rl_patterns.proofs.Readings.{has_match-read}

is_some-or : {A : Type 0} (o p : Option A) → is_some (option_or o p) ≡ is_some o || is_some p
is_some-or None p = refl
is_some-or (Some x) p = refl

is_some-cond : {A : Type 0} (b : Bool) (o : Option A) → is_some (cond b o None) ≡ b && is_some o
is_some-cond true o = refl
is_some-cond false o = refl

and_follows : (a b : Bool) → (a ≡ true → b ≡ true) → a && b ≡ a
and_follows true b h = h refl
and_follows false b h = refl

-- from the one position of the empty text a match is found exactly where the tree matches it and what follows is found
attempt_empty : (re : Re) (k : Rest) → is_some (attempt [] re k 0) ≡ tree_matches_empty re && is_some (k 0)
unfolding attempt has_bytes_at char_at
attempt_empty empty k = refl
attempt_empty (literal []) k = refl
attempt_empty (literal (b ∷ bs)) k = refl
attempt_empty (byte_in rs) k = refl
attempt_empty (char_in rs) k =
    ap (λ o. is_some (option_and_then (λ c. if in_ranges rs c then k (0 + len_utf8 c) else None) o)) (char_at_past [] 0 (omega arith))
attempt_empty (look l) k = is_some-cond (holds l [] 0) (k 0)
attempt_empty (cat a b) k =
    attempt_empty a (attempt [] b k) ∙ ap (λ s. tree_matches_empty a && s) (attempt_empty b k)
    ∙ sym (and_assoc (tree_matches_empty a) (tree_matches_empty b) (is_some (k 0)))
attempt_empty (alt a b) k =
    is_some-or (attempt [] a k 0) (attempt [] b k 0) ∙ ap₂ ◌||◌ (attempt_empty a k) (attempt_empty b k)
    ∙ sym (and-or_distrib_right (tree_matches_empty a) (tree_matches_empty b) (is_some (k 0)))
attempt_empty (group n a) k = is_some-write _ _ _ ∙ attempt_empty a _ ∙ ap (λ s. tree_matches_empty a && s) (is_some-write _ _ _)
attempt_empty (plus greedy a) k = attempt_empty a _

is_some-first : {A B : Type 0} (f : A → B) (o : Option A) → is_some (option_or (option_map f o) None) ≡ is_some o
is_some-first f None = refl
is_some-first f (Some x) = refl

-- a tree has a match in the empty text exactly where it matches it
find_empty : (re : Re) → is_some (find_str re [] 0) ≡ tree_matches_empty re
unfolding find_str first_from is_boundary
find_empty re = is_some-first _ (attempt [] re accept 0) ∙ attempt_empty re accept ∙ and-true (tree_matches_empty re)

optional_empty : (greedy : Bool) (a : Re) → tree_matches_empty (optional greedy a) ≡ true
optional_empty true a = or-true (tree_matches_empty a)
optional_empty false a = refl

up_to_empty : (greedy : Bool) (n : ℕ) (a : Re) → tree_matches_empty (up_to greedy n a) ≡ true
up_to_empty greedy zero a = refl
up_to_empty greedy (suc n) a = optional_empty greedy _

-- copies of a part and then what matches the empty text where the part does
copies_empty : (n : ℕ) (a b : Re) → (tree_matches_empty a ≡ true → tree_matches_empty b ≡ true) →
    tree_matches_empty (copies (suc n) a b) ≡ tree_matches_empty a
copies_empty zero a b h = and_follows (tree_matches_empty a) (tree_matches_empty b) h
copies_empty (suc n) a b h = ap (λ s. tree_matches_empty a && s) (copies_empty n a b h) ∙ and_self (tree_matches_empty a)

-- a repetition that may have no round matches the empty text
pub repeat_none : (max : Option ℕ) (greedy : Bool) (a : Re) → tree_matches_empty (repeat 0 max greedy a) ≡ true
unfolding repeat
repeat_none None greedy a = optional_empty greedy _
repeat_none (Some max) greedy a = up_to_empty greedy (max - 0) a

-- and any other where its part does
pub repeat_some : (min : ℕ) (max : Option ℕ) (greedy : Bool) (a : Re) → (min ≡ 0 → ⊥) → tree_matches_empty (repeat min max greedy a) ≡ tree_matches_empty a
unfolding repeat
repeat_some zero max greedy a some = absurd (some refl)
repeat_some (suc zero) None greedy a some = refl
repeat_some (suc (suc n)) None greedy a some = copies_empty n a (plus greedy a) (λ h. h)
repeat_some (suc n) (Some max) greedy a some = copies_empty n a _ (λ _. up_to_empty greedy (max - suc n) a)

-- the edge of a text
abbrev edge : Side
edge = record { byte = None; char = None }

-- on the empty text an assertion sees an edge on both sides
pub holds_empty : (l : Look) → holds l [] 0 ≡ holds_between l edge edge
unfolding holds byte_before
holds_empty l = ap₂ (λ before after. holds_between l (record { byte = None; char = before }) (record { byte = None; char = after }))
    (char_before-zero []) (char_at_past [] 0 (omega arith))

-- a tree that was read matches the empty text exactly where its pattern has a match there
pub empty_read : (source : List ℕ) (hir : Hir) (names : Names) → Reads default_config source hir names →
    tree_matches_empty (meaning hir) ≡ has_match source []
empty_read source hir names read = sym (find_empty (meaning hir)) ∙ has_match-read source hir names [] read (λ k. omega arith)
