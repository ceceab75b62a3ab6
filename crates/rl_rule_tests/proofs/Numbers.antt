-- What `replace` makes of a text, as pieces.
use Rattle.std.proofs.Common.{◌≡◌, ℕ, zero, suc, ◌+◌, ◌<◌, ◌≤◌, min, List, [], ◌∷◌, ◌++◌, take, drop, length, refl, ap, sym, subst, ◌∙◌, arith, inl, inr, append_assoc}
use Rattle.std.proofs.Math.Seq.{drop-append_seam}
use Rattle.std.proofs.lemmas.List.{length-take, length-append, take-append-drop}
use Rattle.std.specs.Borrow.{Bor}
use Rattle.std.specs.Str.Pattern.{FindsText, LacksTextAt, HasTextAt}
use Rattle.std.specs.Str.Replace.{ReplacesMatches}
use Rattle.rl_rule_tests.specs.Numbering.{IsReplaced, IsWithout}

-- a text that stands at none of the places of another stands nowhere in it
nowhere : (from s : List ℕ) → ((i : ℕ) → i ≤ length s → LacksTextAt from s i) → IsWithout from s
nowhere from s lacks before after is =
    let below : length before ≤ length s = rw (ap length is, length-append before (from ++ after)) (omega arith) in
    lacks (length before) below after (ap (drop (length before)) is ∙ drop-append_seam before (from ++ after))

-- the same before the first place at which it stands
before_first : (from s : List ℕ) (a : ℕ) → 0 < length from → ((i : ℕ) → i < a → LacksTextAt from s i) → IsWithout from (take a s)
before_first from s a some lacks before after is =
    let cut : length (take a s) ≡ min a (length s) = length-take a s in
    let whole : length (take a s) ≡ length before + (length from + length after) = ap length is ∙ length-append before (from ++ after) ∙ ap (λ n. length before + n) (length-append from after) in
    let below : length before < a = omega (arith, cut, whole, some) in
    let split : s ≡ before ++ ((from ++ after) ++ drop a s) = sym (take-append-drop a s) ∙ ap (λ xs. xs ++ drop a s) is ∙ append_assoc before (from ++ after) (drop a s) in
    lacks (length before) below (after ++ drop a s) (ap (drop (length before)) split ∙ drop-append_seam before ((from ++ after) ++ drop a s) ∙ append_assoc from after (drop a s))

-- one piece more in front
one_more : (from to s out rest : List ℕ) (a b : ℕ) → HasTextAt from s a b → IsWithout from (take a s) → out ≡ take a s ++ (to ++ rest) → IsReplaced from to (drop b s) rest → IsReplaced from to s out
one_more from to s out rest a b has without made replaced = record {
  first = take a s;
  others = replaced.first ∷ replaced.others;
  old_is = sym (take-append-drop a s) ∙ ap (λ xs. take a s ++ xs) (has.split ∙ ap (λ xs. from ++ xs) replaced.old_is);
  new_is = made ∙ ap (λ xs. take a s ++ (to ++ xs)) replaced.new_is;
  all = (without, replaced.all);
}

abbrev Replaces : List ℕ → ℕ → Bor (List ℕ) → List ℕ → List ℕ → Type 0
Replaces to n from s out = ReplacesMatches (λ (p : Bor (List ℕ)). FindsText p.now) (λ p q. q.now ≡ p.now) to n from s out

pub replaced : (to : List ℕ) (n : ℕ) (from : Bor (List ℕ)) (old s out : List ℕ) → from.now ≡ old → 0 < length old → Replaces to n from s out → IsReplaced old to s out
replaced to zero from old s out is some done = record {
  first = s;
  others = [];
  old_is = refl;
  new_is = done.1;
  all = (nowhere old s (λ i below. subst (λ text. LacksTextAt text s i) is (done.0 i below)), tt);
}
replaced to (suc n) from old s out is some found =
    let a = found.0 in
    let b = found.1 in
    let q = found.2 in
    let rest = found.3 in
    let finds = found.4 in
    let same : q.now ≡ from.now = found.5 in
    let goes = found.6 in
    let made : out ≡ take a s ++ (to ++ rest) = found.7 in
    let has : HasTextAt old s a b = subst (λ text. HasTextAt text s a b) is finds.1 in
    let without = before_first old s a some (λ i below. subst (λ text. LacksTextAt text s i) is (finds.0 i below)) in
    let ends : b ≡ a + length old = has.ends in
    elim goes [
      | inl on ↦ one_more old to s out rest a b has without made (replaced to n q old (drop b s) rest (same ∙ is) some on.1)
      | inr still ↦ let at : a ≡ b = still.0 in absurd (omega (arith, at, ends, some))
    ]
