-- The names that keys become are names of labels.
use Rattle.std.proofs.Common.{◌≡◌, ℕ, Bool, true, false, cond, not, ◌||◌, List, [], ◌∷◌, ◌++◌, map, codes, refl, sym, ap, ◌∙◌, arith}
use Rattle.std.specs.List.{list_all}
use Rattle.std.specs.Char.{is_ascii_digit}
use Rattle.std.proofs.lemmas.Bool.{and_parts, and_from, true≢false}
use Rattle.std.proofs.lemmas.Bool.Decides.{nat_tests}
use Rattle.rl_labels.specs.Name.{is_name, is_name_start, is_name_byte, is_text}
use Rattle.rl_labels.specs.LabelSet.{is_empty, is_label}
use Rattle.rl_pipeline.specs.Extracting.{name_byte, name_of_key, error_name, gives_none}

byte_named : (byte : ℕ) → is_name_byte (name_byte byte) ≡ true
byte_named byte = elim (is_name_byte byte) as (λ t. is_name_byte byte ≡ t → is_name_byte (cond t byte 95) ≡ true) [
  | true ↦ λ e. e
  | false ↦ λ _. refl
] refl

bytes_named : (bytes : List ℕ) → list_all is_name_byte (map name_byte bytes) ≡ true
bytes_named [] = refl
bytes_named (byte ∷ bytes) = and_from _ _ (byte_named byte) (bytes_named bytes)

-- a byte that is no digit
start_named : (byte : ℕ) → is_ascii_digit byte ≡ false → is_name_start (name_byte byte) ≡ true
start_named byte other = elim (is_name_byte byte) as (λ t. is_name_byte byte ≡ t → is_name_start (cond t byte 95) ≡ true) [
  | true ↦ λ e. by_start (is_name_start byte) (is_ascii_digit byte) other e
  | false ↦ λ _. refl
] refl
  where
    by_start : (start digit : Bool) → digit ≡ false → (start || digit) ≡ true → start ≡ true
    by_start true digit none some = refl
    by_start false digit none some = absurd (true≢false (sym some ∙ none))

pub key_named : (key : List ℕ) → is_empty (name_of_key key) ≡ false → is_name (name_of_key key) ≡ true
key_named [] none = absurd (true≢false none)
key_named (byte ∷ bytes) some = elim (is_ascii_digit byte) as (λ t. is_ascii_digit byte ≡ t → is_name (cond t (codes "_") [] ++ name_byte byte ∷ map name_byte bytes) ≡ true) [
  | true ↦ λ _. and_from _ _ (byte_named byte) (bytes_named bytes)
  | false ↦ λ other. and_from _ _ (start_named byte other) (bytes_named bytes)
] refl

bytes_themselves : (bytes : List ℕ) → list_all is_name_byte bytes ≡ true → map name_byte bytes ≡ bytes
bytes_themselves [] h = refl
bytes_themselves (byte ∷ bytes) h =
    let parts = and_parts (is_name_byte byte) (list_all is_name_byte bytes) h in
    λ i. ap (λ b. cond b byte 95) parts.0 i ∷ bytes_themselves bytes parts.1 i

start_no_digit : (byte : ℕ) → is_name_start byte ≡ true → is_ascii_digit byte ≡ false
start_no_digit byte h = grind (arith, nat_tests)

start_in_name : (byte : ℕ) → is_name_start byte ≡ true → is_name_byte byte ≡ true
start_in_name byte h = ap (λ b. b || is_ascii_digit byte) h

-- a key that is a name becomes itself
pub name_itself : (key : List ℕ) → is_name key ≡ true → name_of_key key ≡ key
name_itself [] h = absurd (true≢false (sym h))
name_itself (byte ∷ bytes) h =
    let parts = and_parts (is_name_start byte) (list_all is_name_byte bytes) h in
    ap (λ b. cond b (codes "_") [] ++ map name_byte (byte ∷ bytes)) (start_no_digit byte parts.0)
    ∙ bytes_themselves (byte ∷ bytes) (and_from (is_name_byte byte) _ (start_in_name byte parts.0) parts.1)

all_more : (xs ys : List ℕ) → list_all is_name_byte xs ≡ true → list_all is_name_byte ys ≡ true → list_all is_name_byte (xs ++ ys) ≡ true
all_more [] ys h g = g
all_more (x ∷ xs) ys h g = let parts = and_parts (is_name_byte x) (list_all is_name_byte xs) h in and_from _ _ parts.0 (all_more xs ys parts.1 g)

more_named : (name : List ℕ) → is_name name ≡ true → is_name (name ++ codes "_extracted") ≡ true
more_named [] h = absurd (true≢false (sym h))
more_named (byte ∷ bytes) h = let parts = and_parts (is_name_start byte) (list_all is_name_byte bytes) h in and_from _ _ parts.0 (all_more bytes (codes "_extracted") parts.1 refl)

neither : (a b : Bool) → (a || b) ≡ false → (a ≡ false) × (b ≡ false)
neither true b e = absurd (true≢false e)
neither false b e = (refl, e)

-- a name and a value that give a label are one
pub own_label : (name value : List ℕ) → (is_empty name ≡ false → is_name name ≡ true) → gives_none name value ≡ false → is_label (name, value) ≡ true
own_label name value named some =
    let outer = neither (is_empty name) (is_text name error_name || is_empty value) some in
    let inner = neither (is_text name error_name) (is_empty value) outer.1 in
    and_from _ _ (named outer.0) (ap not inner.1)

-- also under the longer name
pub longer_label : (name value : List ℕ) → (is_empty name ≡ false → is_name name ≡ true) → gives_none name value ≡ false → is_label (name ++ codes "_extracted", value) ≡ true
longer_label name value named some =
    let outer = neither (is_empty name) (is_text name error_name || is_empty value) some in
    let inner = neither (is_text name error_name) (is_empty value) outer.1 in
    and_from _ _ (more_named name (named outer.0)) (ap not inner.1)
