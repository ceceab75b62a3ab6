-- Nothing of the part is visited where its range of time is outside, and else the lines of the chunk are.
use Rattle.std.proofs.Common.{◌≡◌, [], map, inl, inr, refl, sym, ap, ◌∙◌}
use Rattle.std.specs.List.{fold}
use Rattle.std.proofs.lemmas.List.{map-id}
use Rattle.std.proofs.lemmas.Result.{err_from_is_err_and}
use Rattle.rl_chunks.specs.ChunkText.{chunk_text}
use Rattle.rl_chunks.specs.EntryLines.{line_of}
use Rattle.rl_chunks.specs.declared.chunk.Chunk.{Chunk}
use Rattle.rl_chunks.specs.declared.format.Format.TheVariants.{Short}
use Rattle.rl_parts.specs.StreamParts.{chunk_of}
use Rattle.rl_parts.specs.Reading.{lines_in_range}
use Rattle.rl_parts.proofs.Visits.{nothing_visited, lines_visited}
use Rattle.rl_parts.proofs.Times.{reaches, apart_from}
use Rattle.rl_parts.specs.laws.AnswerLaws.{right_on}
use Rattle.rl_parts.proofs.visiting_lines.visit_written.Goals as goal

pub returns-then-is_apart-clause-visited : goal.returns-then-is_apart-clause-visited
returns-then-is_apart-clause-visited g c = λ apart.
    sym (ap (fold g.T.Visitor.visiting c.args.visitor.now) (nothing_visited c.args.labels.now c.args.written.now.entries.value c.args.written.now.first c.args.written.now.last c.args.range.from c.args.range.to c.requires.part.run c.requires.range (c.is_apart.ensures.apart c.if-is_apart.true)))

pub returns-then-is_apart-clause-right : goal.returns-then-is_apart-clause-right
returns-then-is_apart-clause-right g c = λ is honest.
    sym (ap (fold g.T.Visitor.visiting c.args.visitor.now) (nothing_visited c.args.labels.now c.args.written.now.entries.value c.args.written.now.first c.args.written.now.last c.args.range.from c.args.range.to c.requires.part.run c.requires.range (c.is_apart.ensures.apart c.if-is_apart.true)))

pub returns-in_err-chunk-clause-unread : goal.returns-in_err-chunk-clause-unread
returns-in_err-chunk-clause-unread g c = λ apart.
    let within = c.is_apart.ensures.reaches c.if-is_apart.false in
    absurd (reaches c.args.written.now.entries.value c.args.written.now.first c.args.written.now.last c.args.range.from c.args.range.to c.requires.range c.requires.part.some within.0 within.1 apart)

pub returns-in_err-chunk-clause-right : goal.returns-in_err-chunk-clause-right
returns-in_err-chunk-clause-right g c = λ is honest.
    let p = err_from_is_err_and c.from_residual.result c.from_residual.ensures.1 in
    let chunk = chunk_of c.args.labels.now c.args.written.now.entries.value in
    rw (p.1, p.2) (right_on c.in_err-chunk.field-0.0 _ _ (c.in_err-chunk.ensures.right (chunk_text Short chunk) chunk honest (is.kept honest) (sym is.digest) is.read))

pub returns-in_err-visit_all-clause-unread : goal.returns-in_err-visit_all-clause-unread
returns-in_err-visit_all-clause-unread g c = λ apart.
    let within = c.is_apart.ensures.reaches c.if-is_apart.false in
    absurd (reaches c.args.written.now.entries.value c.args.written.now.first c.args.written.now.last c.args.range.from c.args.range.to c.requires.range c.requires.part.some within.0 within.1 apart)

pub returns-clause-unread : goal.returns-clause-unread
returns-clause-unread g c = λ apart.
    let within = c.is_apart.ensures.reaches c.if-is_apart.false in
    absurd (reaches c.args.written.now.entries.value c.args.written.now.first c.args.written.now.last c.args.range.from c.args.range.to c.requires.range c.requires.part.some within.0 within.1 apart)

pub returns-clause-visited : goal.returns-clause-visited
returns-clause-visited g c = λ apart.
    let within = c.is_apart.ensures.reaches c.if-is_apart.false in
    absurd (reaches c.args.written.now.entries.value c.args.written.now.first c.args.written.now.last c.args.range.from c.args.range.to c.requires.range c.requires.part.some within.0 within.1 apart)

pub returns-clause-right : goal.returns-clause-right
returns-clause-right g c = λ is honest.
    let entries = c.args.written.now.entries.value in
    let labels = c.args.labels.now in
    let chunk = chunk_of labels entries in
    let same : c.in_ok-chunk.chunk ≡ chunk = c.in_ok-chunk.ensures.right (chunk_text Short chunk) chunk honest (is.kept honest) (sym is.digest) is.read in
    let lines : map (λ line. line) c.as_slice.result.now ≡ map line_of entries = map-id c.as_slice.result.now ∙ c.as_slice.ensures ∙ ap (λ (ch : Chunk). ch.lines) same in
    c.in_ok-visit_all.ensures ∙ ap (fold g.T.Visitor.visiting c.args.visitor.now) (ap (lines_in_range labels c.args.range.from c.args.range.to) lines ∙ lines_visited labels c.args.range.from c.args.range.to entries c.requires.part.run.labels)

pub returns-then-is_apart-clause-piece : goal.returns-then-is_apart-clause-piece
returns-then-is_apart-clause-piece g c =
    let apart = apart_from c.args.labels.now c.args.written.now.entries.value c.args.written.now.first c.args.written.now.last c.args.range.from c.args.range.to c.requires.part.run c.requires.range (c.is_apart.ensures.apart c.if-is_apart.true) in
    ([], inl (apart, refl), refl)

pub returns-clause-piece : goal.returns-clause-piece
returns-clause-piece g c =
    let chunk = c.in_ok-chunk.chunk in
    let lines : map (λ line. line) c.as_slice.result.now ≡ chunk.lines = map-id c.as_slice.result.now ∙ c.as_slice.ensures in
    (lines_in_range c.args.labels.now c.args.range.from c.args.range.to chunk.lines, inr (chunk, c.in_ok-chunk.ensures.found, refl), c.in_ok-visit_all.ensures ∙ ap (fold g.T.Visitor.visiting c.args.visitor.now) (ap (lines_in_range c.args.labels.now c.args.range.from c.args.range.to) lines))
