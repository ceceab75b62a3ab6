-- Where a text is cut at a byte that is escaped.
use Rattle.std.proofs.Common.{◌≡◌, ℕ, suc, ◌+◌, ◌<◌, ◌==◌, nat_lt, true, false, cond, ◌&&◌, List, [], ◌∷◌, ◌++◌, length, get_or, take, drop, refl, sym, ap, ◌∙◌, arith, drop-cons, take-append-drop}
use Rattle.std.proofs.lemmas.Bool.{and_parts, eqb-true, ltb-true}
use Rattle.std.proofs.lemmas.Grind.{flat_map-append}
use Rattle.rl_plain.specs.Escapes.{Escapes, escape, escaped, are_ascii}

-- a byte that is escaped and its letter are ASCII
pub escape_ascii : (table : Escapes) (byte letter : ℕ) → are_ascii table ≡ true → escape table byte ≡ 92 ∷ letter ∷ [] → (byte < 128) × (letter < 128)
escape_ascii [] byte letter ascii is = cc
escape_ascii (entry ∷ table) byte letter ascii is =
    let parts = and_parts (nat_lt entry.0 128 && nat_lt entry.1 128) (are_ascii table) ascii in
    let both = and_parts (nat_lt entry.0 128) (nat_lt entry.1 128) parts.0 in
    elim (byte == entry.0) as (λ b. (byte == entry.0) ≡ b → cond b (92 ∷ entry.1 ∷ []) (escape table byte) ≡ 92 ∷ letter ∷ [] → (byte < 128) × (letter < 128)) [
      | true ↦ λ same is. (let e = eqb-true byte entry.0 same in let b = ltb-true entry.0 128 both.0 in omega arith, let e : entry.1 ≡ letter = cc in let b = ltb-true entry.1 128 both.1 in omega arith)
      | false ↦ λ _ is. escape_ascii table byte letter parts.1 is
    ] refl is

-- what is written before the first byte that is escaped, and after it
pub escaped_at : (table : Escapes) (bytes : List ℕ) (i letter : ℕ) → i < length bytes → escaped table (take i bytes) ≡ take i bytes → escape table (get_or bytes i 0) ≡ 92 ∷ letter ∷ [] → escaped table bytes ≡ take i bytes ++ 92 ∷ letter ∷ escaped table (drop (i + 1) bytes)
escaped_at table bytes i letter below plain is =
    let next : suc i ≡ i + 1 = omega arith in
    ap (escaped table) (sym (take-append-drop i bytes) ∙ ap (λ t. take i bytes ++ t) (drop-cons bytes i 0 below))
    ∙ flat_map-append (escape table) (take i bytes) (get_or bytes i 0 ∷ drop (suc i) bytes)
    ∙ ap (λ t. t ++ (escape table (get_or bytes i 0) ++ escaped table (drop (suc i) bytes))) plain
    ∙ ap (λ t. take i bytes ++ (t ++ escaped table (drop (suc i) bytes))) is
    ∙ ap (λ n. take i bytes ++ 92 ∷ letter ∷ escaped table (drop n bytes)) next
