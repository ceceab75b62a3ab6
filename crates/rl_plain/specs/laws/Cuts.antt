-- Where a text may be cut: after an ASCII byte, and before one. What stands at the front of what is left.
use Rattle.std.proofs.Common.{◌≡◌, ℕ, zero, suc, ◌+◌, ◌-◌, ◌<◌, ◌≤◌, ◌==◌, Bool, true, false, cond, List, [], ◌∷◌, length, get_or, drop, refl, sym, subst, arith}
use Rattle.std.specs.List.{prefix_len}
use Rattle.std.specs.Str.{IsUtf8, IsCharBoundary}
use Rattle.std.proofs.lemmas.Bool.{eqb-true, true≢false}
use Rattle.std.proofs.lemmas.List.Sums.{prefix_len-le-length, prefix_len_passes}
use Rattle.std.proofs.lemmas.Str.{IsCharBoundary-from_take, IsCharBoundary-after_ascii}
use Rattle.rl_plain.specs.Runs.{IsCutAfter}

-- a cut after an ASCII byte, or at the front
pub rest_ascii : (bytes : List ℕ) (n : ℕ) → IsUtf8 bytes → n ≤ length bytes → (0 < n → get_or bytes (n - 1) 0 < 128) → IsCharBoundary bytes n
rest_ascii bytes zero utf8 fits ascii = IsCharBoundary-from_take bytes 0 utf8 (omega arith) ([], (refl, refl))
rest_ascii bytes (suc m) utf8 fits ascii =
    let same : suc m - 1 ≡ m = omega arith in
    let next : m + 1 ≡ suc m = omega arith in
    subst (IsCharBoundary bytes) next (IsCharBoundary-after_ascii bytes m utf8 (omega arith) (subst (λ k. get_or bytes k 0 < 128) same (ascii (omega arith))))

-- after a run of ASCII bytes
pub run_boundary : (p : ℕ → Bool) → ((b : ℕ) → p b ≡ true → b < 128) → IsCutAfter p
run_boundary p small bytes utf8 = rest_ascii bytes (prefix_len p bytes) utf8 (prefix_len-le-length p bytes) (λ some. small _ (prefix_len_passes p bytes (prefix_len p bytes - 1) 0 (omega arith)))

-- before a byte that ends a run, which is ASCII, or at the end
pub stop_boundary : (p : ℕ → Bool) → ((b : ℕ) → p b ≡ false → b < 128) → IsCutAfter p
stop_boundary p small bytes utf8 = at_stop bytes
  where
    at_stop : (bytes : List ℕ) → IsCharBoundary bytes (prefix_len p bytes)
    at_stop [] = (omega arith, λ below _. absurd (omega arith))
    at_stop (b ∷ bytes) =
        elim (p b) as (λ t. p b ≡ t → IsCharBoundary (b ∷ bytes) (cond t (1 + prefix_len p bytes) 0)) [
          | true ↦ λ _.
              let rest = at_stop bytes in
              let next : 1 + prefix_len p bytes ≡ suc (prefix_len p bytes) = omega arith in
              subst (IsCharBoundary (b ∷ bytes)) (sym next) (omega (arith, rest.0), λ below. rest.1 (omega arith))
          | false ↦ λ stops. (omega arith, λ _ high. absurd (let low = small b stops in omega arith))
        ] refl

-- what stands where a run ends
abbrev at_stop : (ℕ → Bool) → List ℕ → Type 0
at_stop p [] = Unit {0}
at_stop p (b ∷ rest) = p b ≡ false

stop_at : (p : ℕ → Bool) (bytes : List ℕ) → at_stop p (drop (prefix_len p bytes) bytes)
stop_at p [] = tt
stop_at p (b ∷ bytes) =
    elim (p b) as (λ t. p b ≡ t → at_stop p (drop (cond t (1 + prefix_len p bytes) 0) (b ∷ bytes))) [
      | true ↦ λ _. let next : 1 + prefix_len p bytes ≡ suc (prefix_len p bytes) = omega arith in subst (λ n. at_stop p (drop n (b ∷ bytes))) (sym next) (stop_at p bytes)
      | false ↦ λ stops. stops
    ] refl

pub stops : (p : ℕ → Bool) (bytes : List ℕ) (b : ℕ) (rest : List ℕ) → drop (prefix_len p bytes) bytes ≡ b ∷ rest → p b ≡ false
stops p bytes b rest is = subst (at_stop p) is (stop_at p bytes)

-- the first byte, and what follows it
pub first_of : (bytes : List ℕ) → (length bytes == 0) ≡ false → bytes ≡ get_or bytes 0 0 ∷ drop 1 bytes
first_of [] h = absurd (true≢false h)
first_of (b ∷ bytes) h = refl

pub none_left : (bytes : List ℕ) → (length bytes == 0) ≡ true → bytes ≡ []
none_left [] h = refl
none_left (b ∷ bytes) h = absurd (let is : length (b ∷ bytes) ≡ 0 = eqb-true _ _ h in omega arith)
