-- The first line ends at the first line feed.
use Rattle.std.proofs.Common.{◌≡◌, take, Some, None, ap, subst, ◌∙◌, arith}
use Rattle.std.proofs.lemmas.Str.{IsCharBoundary-after_ascii}
use Rattle.memchr.specs.Find.{IsFirstByte, is_byte}
use Rattle.rl_session.proofs.Lines.{lines_of-none, IsFirstLine-at, found_ascii}
use Rattle.rl_session.proofs.front.first_line.Goals as goal

pub range_from-requires : goal.range_from-requires
range_from-requires c = λ _.
    let found = subst (λ text. IsFirstByte (is_byte 10) text (Some c.in-Some.at)) c.as_bytes.ensures.value c.in-Some.ensures in
    IsCharBoundary-after_ascii c.args.text.now c.in-Some.at c.utf8.text found.0.high (found_ascii c.args.text.now c.in-Some.at found)

pub returns-in-Some : goal.returns-in-Some
returns-in-Some c =
    let found = subst (λ text. IsFirstByte (is_byte 10) text (Some c.in-Some.at)) c.as_bytes.ensures.value c.in-Some.ensures in
    let line : c.range.result.now ≡ take c.in-Some.at c.args.text.now = c.range.ensures.value ∙ ap (λ n. take n c.args.text.now) (omega arith) in
    rw (line, c.range_from.ensures.value) (IsFirstLine-at c.args.text.now c.in-Some.at found)

pub returns-in-None : goal.returns-in-None
returns-in-None c = lines_of-none c.args.text.now (subst (λ text. IsFirstByte (is_byte 10) text None) c.as_bytes.ensures.value c.in-None.ensures)
