-- A field that is read is the field that was written, and what was written is read again.
use Rattle.std.proofs.Common.{◌≡◌, ℕ, ◌+◌, ◌^◌, ◌<◌, ◌≤◌, Bool, true, false, cond, ltb, List, ◌++◌, length, get_or, take, drop, Result, Ok, Err, refl, sym, ap, subst, ◌∙◌, append_assoc, arith, inl, inr}
use Rattle.std.specs.Int.{Width, w16, w32, w64, byte_len, from_be_bytes, to_be_bytes}
use Rattle.std.specs.Str.{IsUtf8, is_utf8}
use Rattle.std.proofs.lemmas.Bool.{cases_lt, ltb-false, le-ltb, false_from_ne_true}
use Rattle.std.proofs.lemmas.Str.{IsUtf8-from_is_utf8, is_utf8-from_IsUtf8}
use Rattle.std.proofs.lemmas.List.{take_at, drop_at, take-append-drop, length-append, length-take, get_or-drop, get_or-take, get_or_past}
use Rattle.std.proofs.lemmas.Nat.{be_bytes_2, be_bytes_4, be_bytes_8, from_be_bytes-to_be_bytes_2, from_be_bytes-to_be_bytes_4, from_be_bytes-to_be_bytes_8}
use Rattle.rl_plain.specs.Answers.{◌>>=◌}
use Rattle.rl_chunks.specs.ChunkText.{sized}
use Rattle.rl_chunks.specs.ChunkReading.{number_at, text_of, text_at}
use Rattle.rl_chunks.specs.declared.fault.ChunkFault.{ChunkFault}
use Rattle.rl_chunks.specs.declared.fault.ChunkFault.TheVariants.{NotAChunk, CutShort}

abbrev pub IsBytes : List ℕ → Type 0
IsBytes bytes = (i : ℕ) → get_or bytes i 0 < 256

pub IsBytes-drop : (n : ℕ) (bytes : List ℕ) → IsBytes bytes → IsBytes (drop n bytes)
IsBytes-drop n bytes h i = rw get_or-drop (h (n + i))

IsBytes-take : (n : ℕ) (bytes : List ℕ) → IsBytes bytes → IsBytes (take n bytes)
IsBytes-take n bytes h i =
    elim (cases_lt i n) [
      | inl lt ↦ rw (get_or-take n bytes i 0 lt) (h i)
      | inr le ↦ rw (get_or_past (take n bytes) i 0 (omega (arith, length-take n bytes))) (omega arith)
    ]

-- the value of a step that did not fail
pub bind_ok : {A B : Type 0} (r : Result A ChunkFault) (f : A → Result B ChunkFault) (y : B) → (r >>= f) ≡ Ok y → (x : A) × (r ≡ Ok x) × (f x ≡ Ok y)
bind_ok (Ok x) f y e = (x, refl, e)
bind_ok (Err fault) f y e = absurd cc

abbrev done : {A : Type 0} → A → Result A ChunkFault
done x = Ok x

pub ok_is : {A : Type 0} (x y : A) → done x ≡ done y → x ≡ y
ok_is x y e = cc

-- a test that passed, and one that found nothing
pub passed : {A : Type 0} (b : Bool) (fault : ChunkFault) (x y : A) → cond b (done x) (Err fault) ≡ Ok y → (b ≡ true) × (x ≡ y)
passed true fault x y e = (refl, cc)
passed false fault x y e = absurd cc

pub not_met : {A : Type 0} (b : Bool) (fault : ChunkFault) (r : Result A ChunkFault) (y : A) → cond b (Err fault) r ≡ Ok y → (b ≡ false) × (r ≡ Ok y)
not_met true fault r y e = absurd cc
not_met false fault r y e = (refl, e)

-- what a reader took from the front
pub record Takes (bytes text rest : List ℕ) : Type 0 where
  pub parts : bytes ≡ text ++ rest
  pub rest_fits : IsBytes rest

pub Takes-then : (a x b y c : List ℕ) → Takes a x b → Takes b y c → Takes a (x ++ y) c
Takes-then a x b y c p q = record { parts = p.parts ∙ ap (λ (t : List ℕ). x ++ t) q.parts ∙ sym (append_assoc x y c); rest_fits = q.rest_fits }

-- ---- numbers

pub record IsWide (w : Width) (limit : ℕ) : Type 0 where
  pub len : (n : ℕ) → length (to_be_bytes w n) ≡ byte_len w
  pub back : (bytes : List ℕ) → length bytes ≡ byte_len w → IsBytes bytes → to_be_bytes w (from_be_bytes w bytes) ≡ bytes
  pub again : (n : ℕ) → n < limit → from_be_bytes w (to_be_bytes w n) ≡ n
  pub below : (bytes : List ℕ) → IsBytes bytes → from_be_bytes w bytes < limit

pub wide16 : IsWide w16 (2 ^ 16)
wide16 = record {
  len = λ n. refl;
  back = λ bytes len fits. be_bytes_2 bytes _ len fits refl;
  again = λ n lt. from_be_bytes-to_be_bytes_2 n lt;
  below = λ bytes fits. omega (arith, fits 0, fits 1);
}

pub wide32 : IsWide w32 (2 ^ 32)
wide32 = record {
  len = λ n. refl;
  back = λ bytes len fits. be_bytes_4 bytes _ len fits refl;
  again = λ n lt. from_be_bytes-to_be_bytes_4 n lt;
  below = λ bytes fits. omega (arith, fits 0, fits 1, fits 2, fits 3);
}

pub wide64 : IsWide w64 (2 ^ 64)
wide64 = record {
  len = λ n. refl;
  back = λ bytes len fits. be_bytes_8 bytes _ len fits refl;
  again = λ n lt. from_be_bytes-to_be_bytes_8 n lt;
  below = λ bytes fits. omega (arith, fits 0, fits 1, fits 2, fits 3, fits 4, fits 5, fits 6, fits 7);
}

pub number_takes : (w : Width) (limit : ℕ) (wide : IsWide w limit) (bytes : List ℕ) (x : ℕ × List ℕ) → IsBytes bytes → number_at w bytes ≡ Ok x → Takes bytes (to_be_bytes w x.0) x.1 × (x.0 < limit)
unfolding number_at
number_takes w limit wide bytes x fits e =
    let read : ℕ × List ℕ = (from_be_bytes w (take (byte_len w) bytes), drop (byte_len w) bytes) in
    let g = not_met (ltb (length bytes) (byte_len w)) CutShort (done read) x e in
    let long : byte_len w ≤ length bytes = ltb-false _ _ g.0 in
    let front : to_be_bytes w (from_be_bytes w (take (byte_len w) bytes)) ≡ take (byte_len w) bytes = wide.back (take (byte_len w) bytes) (omega (arith, length-take (byte_len w) bytes)) (IsBytes-take (byte_len w) bytes fits) in
    subst (λ (y : ℕ × List ℕ). Takes bytes (to_be_bytes w y.0) y.1 × (y.0 < limit)) (ok_is read x g.1)
    (record { parts = sym (ap (λ t. t ++ drop (byte_len w) bytes) front ∙ take-append-drop (byte_len w) bytes); rest_fits = IsBytes-drop (byte_len w) bytes fits }, wide.below (take (byte_len w) bytes) (IsBytes-take (byte_len w) bytes fits))

pub number_again : (w : Width) (limit : ℕ) (wide : IsWide w limit) (n : ℕ) (rest : List ℕ) → n < limit → number_at w (to_be_bytes w n ++ rest) ≡ Ok (n, rest)
unfolding number_at
number_again w limit wide n rest lt =
    let len = wide.len n in
    let long : ltb (length (to_be_bytes w n ++ rest)) (byte_len w) ≡ false = le-ltb _ _ (omega (arith, length-append (to_be_bytes w n) rest)) in
    rw (long, take_at (to_be_bytes w n) rest (byte_len w) len, drop_at (to_be_bytes w n) rest (byte_len w) len, wide.again n lt) refl

-- ---- texts

-- bytes that are a text, or are none, as the code finds them
pub text_of-ok : (len : ℕ) (bytes front rest text : List ℕ) → len ≤ length bytes → front ≡ take len bytes → rest ≡ drop len bytes → text ≡ front → IsUtf8 front → text_of len bytes ≡ Ok (text, rest)
unfolding text_of
text_of-ok len bytes front rest text long front_is rest_is text_is utf8 =
    let enough : ltb (length bytes) len ≡ false = le-ltb _ _ long in
    let is : is_utf8 (take len bytes) ≡ true = ap is_utf8 (sym front_is) ∙ is_utf8-from_IsUtf8 front utf8 in
    rw (enough, is) (ap (λ (x : List ℕ × List ℕ). done x) (let pair : ◌≡◌ {A = List ℕ × List ℕ} (take len bytes, drop len bytes) (text, rest) = cc in pair))

pub text_of-none : (len : ℕ) (bytes front : List ℕ) → len ≤ length bytes → front ≡ take len bytes → (IsUtf8 front → ⊥) → text_of len bytes ≡ Err NotAChunk
unfolding text_of
text_of-none len bytes front long front_is none =
    let enough : ltb (length bytes) len ≡ false = le-ltb _ _ long in
    let is : is_utf8 (take len bytes) ≡ false = ap is_utf8 (sym front_is) ∙ false_from_ne_true (is_utf8 front) (λ e. none (IsUtf8-from_is_utf8 front e)) in
    rw (enough, is) refl

-- a text that is read after its length
pub record IsTextBelow (limit : ℕ) (text : List ℕ) : Type 0 where
  pub short : length text < limit
  pub utf8 : is_utf8 text ≡ true

pub text_takes : (w : Width) (limit : ℕ) (wide : IsWide w limit) (bytes : List ℕ) (x : List ℕ × List ℕ) → IsBytes bytes → text_at w bytes ≡ Ok x → Takes bytes (sized w x.0) x.1 × IsTextBelow limit x.0
unfolding text_at text_of
text_takes w limit wide bytes x fits e =
    let b = bind_ok (number_at w bytes) (λ len. text_of len.0 len.1) x e in
    let n = b.0 in
    let t = number_takes w limit wide bytes n fits b.1 in
    let read : List ℕ × List ℕ = (take n.0 n.1, drop n.0 n.1) in
    let g = not_met (ltb (length n.1) n.0) CutShort (cond (is_utf8 (take n.0 n.1)) (done read) (Err NotAChunk)) x b.2 in
    let h = passed (is_utf8 (take n.0 n.1)) NotAChunk read x g.1 in
    let long : n.0 ≤ length n.1 = ltb-false _ _ g.0 in
    let len : length (take n.0 n.1) ≡ n.0 = omega (arith, length-take n.0 n.1) in
    let second : Takes n.1 (take n.0 n.1) (drop n.0 n.1) = record { parts = sym (take-append-drop n.0 n.1); rest_fits = IsBytes-drop n.0 n.1 t.0.rest_fits } in
    let both = Takes-then bytes (to_be_bytes w n.0) n.1 (take n.0 n.1) (drop n.0 n.1) t.0 second in
    let whole : Takes bytes (sized w (take n.0 n.1)) (drop n.0 n.1) = subst (λ (k : ℕ). Takes bytes (to_be_bytes w k ++ take n.0 n.1) (drop n.0 n.1)) (sym len) both in
    subst (λ (p : List ℕ × List ℕ). Takes bytes (sized w p.0) p.1 × IsTextBelow limit p.0) h.1 (whole, record { short = omega (arith, t.1); utf8 = h.0 })

pub text_again : (w : Width) (limit : ℕ) (wide : IsWide w limit) (text rest : List ℕ) → IsTextBelow limit text → text_at w (sized w text ++ rest) ≡ Ok (text, rest)
unfolding text_at text_of
text_again w limit wide text rest is =
    let regrouped : sized w text ++ rest ≡ to_be_bytes w (length text) ++ (text ++ rest) = append_assoc (to_be_bytes w (length text)) text rest in
    let long : ltb (length (text ++ rest)) (length text) ≡ false = le-ltb _ _ (omega (arith, length-append text rest)) in
    let utf8 = is.utf8 in
    ap (text_at w) regrouped ∙ rw (number_again w limit wide (length text) (text ++ rest) is.short, long, take_at text rest (length text) refl, drop_at text rest (length text) refl, utf8) refl
