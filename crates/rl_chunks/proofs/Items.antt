-- Labels and lines: what is read is what was written, and what was written is read again.
use Rattle.std.proofs.Common.{◌≡◌, ℕ, zero, suc, ◌^◌, ◌≤◌, true, false, ◌&&◌, cond, List, [], ◌∷◌, ◌++◌, length, Option, Some, Ok, Err, refl, ap, subst, ◌∙◌, append_assoc, arith}
use Rattle.std.specs.Prelude.{nat_le}
use Rattle.std.specs.Int.{w16, w64, to_be_bytes}
use Rattle.std.specs.List.{flat_map}
use Rattle.std.proofs.lemmas.Bool.{and_parts, and_from, leb-true, le-leb}
use Rattle.rl_labels.specs.LabelSet.{Pair, is_empty}
use Rattle.rl_labels.specs.Name.{is_stream_name}
use Rattle.rl_labels.specs.Quantity.{greatest_moment}
use Rattle.rl_plain.specs.Answers.{◌>>=◌}
use Rattle.rl_chunks.specs.ChunkText.{sized, line_width, label_bytes, line_bytes, IsLine}
use Rattle.rl_chunks.specs.ChunkReading.{Read, number_at, text_at, is_next_name, name_at, value_at, label_at, moment_at, line_at, is_next_line, next_line_at, in_turn}
use Rattle.rl_chunks.specs.declared.fault.ChunkFault.TheVariants.{NotAChunk, Disorder}
use Rattle.rl_chunks.specs.declared.format.Format.{Format}
use Rattle.rl_chunks.specs.declared.format.Format.TheVariants.{Short}
use Rattle.rl_chunks.specs.declared.line.Line.{Line}
use Rattle.rl_chunks.proofs.Fields.{IsBytes, bind_ok, ok_is, passed, not_met, Takes, Takes-then, IsWide, wide16, wide64, number_takes, number_again, IsTextBelow, text_takes, text_again}

-- ---- in turn

-- each may follow the one before it
abbrev pub Chain : {A : Type 0} → (Option A → A → Type 0) → Option A → List A → Type 0
Chain P before [] = Unit {0}
Chain P before (x ∷ xs) = P before x × Chain P (Some x) xs

module _ {A : Type 0} (item : Option A → List ℕ → Read A) (text : A → List ℕ) (P : Option A → A → Type 0) where
  pub in_turn_takes : ((before : Option A) (bytes : List ℕ) (x : A × List ℕ) → IsBytes bytes → item before bytes ≡ Ok x → Takes bytes (text x.0) x.1 × P before x.0)
      → (n : ℕ) (before : Option A) (bytes : List ℕ) (x : List A × List ℕ) → IsBytes bytes → in_turn item n before bytes ≡ Ok x → Takes bytes (flat_map text x.0) x.1 × (length x.0 ≡ n) × Chain P before x.0
  unfolding in_turn
  in_turn_takes one zero before bytes x fits e =
      subst (λ (y : List A × List ℕ). Takes bytes (flat_map text y.0) y.1 × (length y.0 ≡ 0) × Chain P before y.0) (ok_is ([], bytes) x e) (record { parts = refl; rest_fits = fits }, refl, tt)
  in_turn_takes one (suc n) before bytes x fits e =
      let b = bind_ok (item before bytes) (λ first. in_turn item n (Some first.0) first.1 >>= λ others. Ok (first.0 ∷ others.0, others.1)) x e in
      let c = bind_ok (in_turn item n (Some b.0.0) b.0.1) (λ others. Ok (b.0.0 ∷ others.0, others.1)) x b.2 in
      let t = one before bytes b.0 fits b.1 in
      let r = in_turn_takes one n (Some b.0.0) b.0.1 c.0 t.0.rest_fits c.1 in
      let made : List A × List ℕ = (b.0.0 ∷ c.0.0, c.0.1) in
      subst (λ (y : List A × List ℕ). Takes bytes (flat_map text y.0) y.1 × (length y.0 ≡ suc n) × Chain P before y.0) (ok_is made x c.2)
      (Takes-then bytes (text b.0.0) b.0.1 (flat_map text c.0.0) c.0.1 t.0 r.0, ap (λ k. suc k) r.1, (t.1, r.2))

  pub in_turn_again : ((before : Option A) (x : A) (rest : List ℕ) → P before x → item before (text x ++ rest) ≡ Ok (x, rest))
      → (before : Option A) (xs : List A) (rest : List ℕ) → Chain P before xs → in_turn item (length xs) before (flat_map text xs ++ rest) ≡ Ok (xs, rest)
  unfolding in_turn
  in_turn_again one before [] rest h = refl
  in_turn_again one before (x ∷ xs) rest h =
      let regrouped : flat_map text (x ∷ xs) ++ rest ≡ text x ++ (flat_map text xs ++ rest) = append_assoc (text x) (flat_map text xs) rest in
      ap (in_turn item (suc (length xs)) before) regrouped
      ∙ ap (λ read. read >>= λ first. in_turn item (length xs) (Some first.0) first.1 >>= λ others. Ok (first.0 ∷ others.0, others.1)) (one before x (flat_map text xs ++ rest) h.0)
      ∙ ap (λ read. read >>= λ others. Ok (x ∷ others.0, others.1)) (in_turn_again one (Some x) xs rest h.1)

-- ---- labels

-- a label that a chunk can have, whatever stands before it
pub record IsGood (pair : Pair) : Type 0 where
  pub name : IsTextBelow (2 ^ 16) pair.0
  pub value : IsTextBelow (2 ^ 16) pair.1
  pub named : is_stream_name pair.0 ≡ true
  pub full : is_empty pair.1 ≡ false

pub record IsNextLabel (before : Option Pair) (pair : Pair) : Type 0 where
  pub good : IsGood pair
  pub above : is_next_name before pair.0 ≡ true

name_takes : (before : Option Pair) (bytes : List ℕ) (x : List ℕ × List ℕ) → IsBytes bytes → name_at before bytes ≡ Ok x → Takes bytes (sized w16 x.0) x.1 × IsTextBelow (2 ^ 16) x.0 × ((is_stream_name x.0 && is_next_name before x.0) ≡ true)
unfolding name_at
name_takes before bytes x fits e =
    let b = bind_ok (text_at w16 bytes) (λ name. cond (is_stream_name name.0 && is_next_name before name.0) (Ok name) (Err NotAChunk)) x e in
    let g = passed (is_stream_name b.0.0 && is_next_name before b.0.0) NotAChunk b.0 x b.2 in
    let t = text_takes w16 (2 ^ 16) wide16 bytes b.0 fits b.1 in
    subst (λ (y : List ℕ × List ℕ). Takes bytes (sized w16 y.0) y.1 × IsTextBelow (2 ^ 16) y.0 × ((is_stream_name y.0 && is_next_name before y.0) ≡ true)) g.1 (t.0, t.1, g.0)

name_again : (before : Option Pair) (name rest : List ℕ) → IsTextBelow (2 ^ 16) name → is_stream_name name ≡ true → is_next_name before name ≡ true → name_at before (sized w16 name ++ rest) ≡ Ok (name, rest)
unfolding name_at
name_again before name rest is named above =
    ap (λ read. read >>= λ name. cond (is_stream_name name.0 && is_next_name before name.0) (Ok name) (Err NotAChunk)) (text_again w16 (2 ^ 16) wide16 name rest is)
    ∙ ap (λ b. cond b (Ok (name, rest)) (Err NotAChunk)) (and_from _ _ named above)

value_takes : (bytes : List ℕ) (x : List ℕ × List ℕ) → IsBytes bytes → value_at bytes ≡ Ok x → Takes bytes (sized w16 x.0) x.1 × IsTextBelow (2 ^ 16) x.0 × (is_empty x.0 ≡ false)
unfolding value_at
value_takes bytes x fits e =
    let b = bind_ok (text_at w16 bytes) (λ value. cond (is_empty value.0) (Err NotAChunk) (Ok value)) x e in
    let g = not_met (is_empty b.0.0) NotAChunk (Ok b.0) x b.2 in
    let t = text_takes w16 (2 ^ 16) wide16 bytes b.0 fits b.1 in
    subst (λ (y : List ℕ × List ℕ). Takes bytes (sized w16 y.0) y.1 × IsTextBelow (2 ^ 16) y.0 × (is_empty y.0 ≡ false)) (ok_is b.0 x g.1) (t.0, t.1, g.0)

value_again : (value rest : List ℕ) → IsTextBelow (2 ^ 16) value → is_empty value ≡ false → value_at (sized w16 value ++ rest) ≡ Ok (value, rest)
unfolding value_at
value_again value rest is full =
    ap (λ read. read >>= λ value. cond (is_empty value.0) (Err NotAChunk) (Ok value)) (text_again w16 (2 ^ 16) wide16 value rest is)
    ∙ ap (λ b. cond b (Err NotAChunk) (Ok (value, rest))) full

pub label_takes : (before : Option Pair) (bytes : List ℕ) (x : Pair × List ℕ) → IsBytes bytes → label_at before bytes ≡ Ok x → Takes bytes (label_bytes x.0) x.1 × IsNextLabel before x.0
unfolding label_at
label_takes before bytes x fits e =
    let b = bind_ok (name_at before bytes) (λ name. value_at name.1 >>= λ value. Ok ((name.0, value.0), value.1)) x e in
    let c = bind_ok (value_at b.0.1) (λ value. Ok ((b.0.0, value.0), value.1)) x b.2 in
    let t = name_takes before bytes b.0 fits b.1 in
    let u = value_takes b.0.1 c.0 t.0.rest_fits c.1 in
    let tests = and_parts (is_stream_name b.0.0) (is_next_name before b.0.0) t.2 in
    let made : Pair × List ℕ = ((b.0.0, c.0.0), c.0.1) in
    subst (λ (y : Pair × List ℕ). Takes bytes (label_bytes y.0) y.1 × IsNextLabel before y.0) (ok_is made x c.2)
    (Takes-then bytes (sized w16 b.0.0) b.0.1 (sized w16 c.0.0) c.0.1 t.0 u.0, record { good = record { name = t.1; value = u.1; named = tests.0; full = u.2 }; above = tests.1 })

pub label_again : (before : Option Pair) (pair : Pair) (rest : List ℕ) → IsNextLabel before pair → label_at before (label_bytes pair ++ rest) ≡ Ok (pair, rest)
unfolding label_at
label_again before pair rest is =
    let regrouped : label_bytes pair ++ rest ≡ sized w16 pair.0 ++ (sized w16 pair.1 ++ rest) = append_assoc (sized w16 pair.0) (sized w16 pair.1) rest in
    ap (label_at before) regrouped
    ∙ ap (λ read. read >>= λ name. value_at name.1 >>= λ value. Ok ((name.0, value.0), value.1)) (name_again before pair.0 (sized w16 pair.1 ++ rest) is.good.name is.good.named is.above)
    ∙ ap (λ read. read >>= λ value. Ok ((pair.0, value.0), value.1)) (value_again pair.1 rest is.good.value is.good.full)

-- ---- lines

pub record IsNextLine (before : Option Line) (line : Line) : Type 0 where
  pub good : IsLine line
  pub above : is_next_line before line ≡ true

line_wide : (format : Format) → IsWide (line_width format) (2 ^ 16)
line_wide Short = wide16

moment_takes : (bytes : List ℕ) (x : ℕ × List ℕ) → IsBytes bytes → moment_at bytes ≡ Ok x → Takes bytes (to_be_bytes w64 x.0) x.1 × (nat_le x.0 greatest_moment ≡ true)
unfolding moment_at
moment_takes bytes x fits e =
    let b = bind_ok (number_at w64 bytes) (λ moment. cond (nat_le moment.0 greatest_moment) (Ok moment) (Err NotAChunk)) x e in
    let g = passed (nat_le b.0.0 greatest_moment) NotAChunk b.0 x b.2 in
    let t = number_takes w64 (2 ^ 64) wide64 bytes b.0 fits b.1 in
    subst (λ (y : ℕ × List ℕ). Takes bytes (to_be_bytes w64 y.0) y.1 × (nat_le y.0 greatest_moment ≡ true)) g.1 (t.0, g.0)

moment_again : (moment : ℕ) (rest : List ℕ) → moment ≤ greatest_moment → moment_at (to_be_bytes w64 moment ++ rest) ≡ Ok (moment, rest)
unfolding moment_at
moment_again moment rest small =
    ap (λ read. read >>= λ moment. cond (nat_le moment.0 greatest_moment) (Ok moment) (Err NotAChunk)) (number_again w64 (2 ^ 64) wide64 moment rest (omega arith))
    ∙ ap (λ b. cond b (Ok (moment, rest)) (Err NotAChunk)) (le-leb moment greatest_moment small)

line_takes : (format : Format) (bytes : List ℕ) (x : Line × List ℕ) → IsBytes bytes → line_at format bytes ≡ Ok x → Takes bytes (line_bytes format x.0) x.1 × IsLine x.0
unfolding line_at
line_takes format bytes x fits e =
    let b = bind_ok (moment_at bytes) (λ moment. text_at (line_width format) moment.1 >>= λ text. Ok (record { timestamp = moment.0; text = text.0 }, text.1)) x e in
    let c = bind_ok (text_at (line_width format) b.0.1) (λ text. Ok (record { timestamp = b.0.0; text = text.0 }, text.1)) x b.2 in
    let t = moment_takes bytes b.0 fits b.1 in
    let u = text_takes (line_width format) (2 ^ 16) (line_wide format) b.0.1 c.0 t.0.rest_fits c.1 in
    let made : Line × List ℕ = (record { timestamp = b.0.0; text = c.0.0 }, c.0.1) in
    let short = u.1.short in
    subst (λ (y : Line × List ℕ). Takes bytes (line_bytes format y.0) y.1 × IsLine y.0) (ok_is made x c.2)
    (Takes-then bytes (to_be_bytes w64 b.0.0) b.0.1 (sized (line_width format) c.0.0) c.0.1 t.0 u.0, record { moment = leb-true b.0.0 greatest_moment t.1; short = omega arith; text = u.1.utf8 })

line_again : (format : Format) (line : Line) (rest : List ℕ) → IsLine line → line_at format (line_bytes format line ++ rest) ≡ Ok (line, rest)
unfolding line_at
line_again format line rest is =
    let text = sized (line_width format) line.text in
    let regrouped : line_bytes format line ++ rest ≡ to_be_bytes w64 line.timestamp ++ (text ++ rest) = append_assoc (to_be_bytes w64 line.timestamp) text rest in
    let below : IsTextBelow (2 ^ 16) line.text = record { short = (let short = is.short in omega arith); utf8 = is.text } in
    ap (line_at format) regrouped
    ∙ ap (λ read. read >>= λ moment. text_at (line_width format) moment.1 >>= λ text. Ok (record { timestamp = moment.0; text = text.0 }, text.1)) (moment_again line.timestamp (text ++ rest) is.moment)
    ∙ ap (λ read. read >>= λ text. Ok (record { timestamp = line.timestamp; text = text.0 }, text.1)) (text_again (line_width format) (2 ^ 16) (line_wide format) line.text rest below)

pub next_line_takes : (format : Format) (before : Option Line) (bytes : List ℕ) (x : Line × List ℕ) → IsBytes bytes → next_line_at format before bytes ≡ Ok x → Takes bytes (line_bytes format x.0) x.1 × IsNextLine before x.0
unfolding next_line_at
next_line_takes format before bytes x fits e =
    let b = bind_ok (line_at format bytes) (λ line. cond (is_next_line before line.0) (Ok line) (Err Disorder)) x e in
    let g = passed (is_next_line before b.0.0) Disorder b.0 x b.2 in
    let t = line_takes format bytes b.0 fits b.1 in
    subst (λ (y : Line × List ℕ). Takes bytes (line_bytes format y.0) y.1 × IsNextLine before y.0) g.1 (t.0, record { good = t.1; above = g.0 })

pub next_line_again : (format : Format) (before : Option Line) (line : Line) (rest : List ℕ) → IsNextLine before line → next_line_at format before (line_bytes format line ++ rest) ≡ Ok (line, rest)
unfolding next_line_at
next_line_again format before line rest is =
    ap (λ read. read >>= λ line. cond (is_next_line before line.0) (Ok line) (Err Disorder)) (line_again format line rest is.good)
    ∙ ap (λ b. cond b (Ok (line, rest)) (Err Disorder)) is.above
