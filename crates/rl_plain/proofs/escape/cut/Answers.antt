-- The text is cut before and after a byte that is ASCII.
use Rattle.std.proofs.Common.{◌≡◌, ◌∷◌, [], get_or, ◌∙◌, rules, arith}
use Rattle.std.proofs.lemmas.Str.{IsCharBoundary-before_ascii, IsCharBoundary-after_ascii}
use Rattle.rl_plain.specs.Escapes.{escape}
use Rattle.rl_plain.proofs.Escaping.{escape_ascii, escaped_at}
use Rattle.rl_plain.proofs.escape.cut.Goals as goal

pub range-plain-requires-clause-end_boundary : goal.range-plain-requires-clause-end_boundary
range-plain-requires-clause-end_boundary c =
    let byte = get_or c.args.value.now c.loop-index.index 0 in
    let ascii = escape_ascii c.args.table.now byte c.in-Some.letter c.requires (rw c.as_bytes-byte-items.ensures.value at c.in-Some.ensures) in
    IsCharBoundary-before_ascii c.args.value.now c.loop-index.index (omega arith) ascii.0

pub range_from-following-requires : goal.range_from-following-requires
range_from-following-requires c = λ _.
    let byte = get_or c.args.value.now c.loop-index.index 0 in
    let ascii = escape_ascii c.args.table.now byte c.in-Some.letter c.requires (rw c.as_bytes-byte-items.ensures.value at c.in-Some.ensures) in
    IsCharBoundary-after_ascii c.args.value.now c.loop-index.index c.utf8.value (omega arith) ascii.0

pub returns-in-Some : goal.returns-in-Some
returns-in-Some c =
    let value = c.args.value.now in
    let i = c.loop-index.index in
    let letter_is : escape c.args.table.now (get_or value i 0) ≡ 92 ∷ c.in-Some.letter ∷ [] = rw c.as_bytes-byte-items.ensures.value at c.in-Some.ensures in
    let ascii = escape_ascii c.args.table.now (get_or value i 0) c.in-Some.letter c.requires letter_is in (
      escaped_at c.args.table.now value i c.in-Some.letter (omega arith) c.loop-index.invariant letter_is
          ∙ rw (c.range-plain.ensures.value, c.range_from-following.ensures.value, c.from.ensures) (search rules),
      omega arith,
      omega (arith, ascii.1),
    )
