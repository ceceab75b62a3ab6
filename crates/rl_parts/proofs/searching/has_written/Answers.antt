-- The range of time and the fingerprints decide, and else the lines of the chunk.
use Rattle.std.proofs.Common.{◌≡◌, List, map, inl, inr, refl, sym, ap, subst, ◌∙◌}
use Rattle.std.specs.Prelude.{IsTrue, ◌↔◌}
use Rattle.std.specs.List.{Contains}
use Rattle.std.proofs.lemmas.Result.{err_from_is_err_and}
use Rattle.rl_chunks.specs.ChunkText.{chunk_text}
use Rattle.rl_chunks.specs.EntryLines.{line_of}
use Rattle.rl_chunks.specs.declared.chunk.Chunk.{Chunk}
use Rattle.rl_chunks.specs.declared.format.Format.TheVariants.{Short}
use Rattle.rl_chunks.specs.declared.line.Line.{Line}
use Rattle.rl_parts.specs.StreamParts.{chunk_of}
use Rattle.rl_parts.proofs.Finding.{no, not_both, line_found, line_there}
use Rattle.rl_parts.specs.laws.AnswerLaws.{right_on}
use Rattle.rl_parts.proofs.searching.has_written.Goals as goal

pub returns-then-not-may_have-clause-right : goal.returns-then-not-may_have-clause-right
returns-then-not-may_have-clause-right g c = λ is honest. no (c.may_have.ensures.absent c.if-not-may_have.true)

pub returns-in_err-chunk-clause-unread : goal.returns-in_err-chunk-clause-unread
returns-in_err-chunk-clause-unread g c = λ apart. absurd (c.may_have.ensures.reaches c.if-not-may_have.false apart)

pub returns-in_err-chunk-clause-right : goal.returns-in_err-chunk-clause-right
returns-in_err-chunk-clause-right g c = λ is honest.
    let p = err_from_is_err_and c.from_residual.result c.from_residual.ensures.1 in
    let chunk = chunk_of c.args.entry.now.labels c.args.written.now.entries.value in
    rw (p.1, p.2) (right_on c.in_err-chunk.field-0.0 _ _ (c.in_err-chunk.ensures.right (chunk_text Short chunk) chunk honest (is.kept honest) (sym is.digest) is.read))

pub returns-clause-unread : goal.returns-clause-unread
returns-clause-unread g c = λ apart. absurd (c.may_have.ensures.reaches c.if-not-may_have.false apart)

pub returns-clause-right : goal.returns-clause-right
returns-clause-right g c = λ is honest.
    let entries = c.args.written.now.entries.value in
    let entry = c.args.entry.now in
    let chunk = chunk_of entry.labels entries in
    let same : c.in_ok-chunk.chunk ≡ chunk = c.in_ok-chunk.ensures.right (chunk_text Short chunk) chunk honest (is.kept honest) (sym is.digest) is.read in
    let lines : c.as_slice.result.now ≡ map line_of entries = c.as_slice.ensures ∙ ap (λ (ch : Chunk). ch.lines) same in
    let visited : IsTrue c.has_line.result ↔ Contains (map line_of entries) (line_of entry) = subst (λ (ls : List Line). IsTrue c.has_line.result ↔ Contains ls (line_of entry)) lines c.has_line.ensures in
    (λ t. line_found entry.labels entries entry c.requires.part.run.labels refl (visited.0 t), λ there. visited.1 (line_there entries entry there))

pub returns-then-not-may_have-clause-no : goal.returns-then-not-may_have-clause-no
returns-then-not-may_have-clause-no g c = λ found. inl (c.may_have.ensures.absent c.if-not-may_have.true)

pub returns-clause-yes : goal.returns-clause-yes
returns-clause-yes g c = λ found.
    let lines : c.as_slice.result.now ≡ c.in_ok-chunk.chunk.lines = c.as_slice.ensures in
    (c.in_ok-chunk.chunk, c.in_ok-chunk.ensures.found, subst (λ (ls : List Line). Contains ls (line_of c.args.entry.now)) lines (c.has_line.ensures.0 found))

pub returns-clause-no : goal.returns-clause-no
returns-clause-no g c = λ found.
    let lines : c.as_slice.result.now ≡ c.in_ok-chunk.chunk.lines = c.as_slice.ensures in
    inr (c.in_ok-chunk.chunk, c.in_ok-chunk.ensures.found, λ there. not_both (c.has_line.ensures.1 (subst (λ (ls : List Line). Contains ls (line_of c.args.entry.now)) (sym lines) there)) found)
