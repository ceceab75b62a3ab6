-- What was put has one line for each entry, and none is newer than the last.
use Rattle.std.proofs.Common.{◌≡◌, ◌≤◌, List, length, map, sym, ap, subst, ◌∙◌, arith}
use Rattle.std.specs.List.{All}
use Rattle.std.proofs.lemmas.List.{length-map}
use Rattle.std.proofs.lemmas.List.Elements.{All-map}
use Rattle.std.proofs.lemmas.Result.{err_from_is_err_and}
use Rattle.rl_chunks.specs.ChunkText.{chunk_text}
use Rattle.rl_chunks.specs.EntryLines.{line_of}
use Rattle.rl_chunks.specs.declared.chunk.Chunk.{Chunk}
use Rattle.rl_chunks.specs.declared.format.Format.TheVariants.{Short}
use Rattle.rl_chunks.specs.declared.line.Line.{Line}
use Rattle.rl_parts.specs.StreamParts.{chunk_of}
use Rattle.rl_parts.proofs.Finding.{not_both}
use Rattle.rl_parts.proofs.Leaving.{fingerprints_len}
use Rattle.rl_parts.specs.laws.AnswerLaws.{right_on}
use Rattle.rl_parts.proofs.Times.{up_to_last}
use Rattle.rl_parts.proofs.rewriting.read_again.Goals as goal

pub returns-in_err-chunk-clause-right : goal.returns-in_err-chunk-clause-right
returns-in_err-chunk-clause-right g c = λ labels part range fingerprints is honest.
    let p = err_from_is_err_and c.from_residual.result c.from_residual.ensures.1 in
    let chunk = chunk_of labels c.args.written.now.entries.value in
    rw (p.1, p.2) (right_on c.in_err-chunk.field-0.0 _ _ (c.in_err-chunk.ensures.right (chunk_text Short chunk) chunk honest (is.kept honest) (sym is.digest) is.read))

pub returns-then-not-are_of_part-clause-right : goal.returns-then-not-are_of_part-clause-right
returns-then-not-are_of_part-clause-right g c = λ labels part range fingerprints is honest.
    let entries = c.args.written.now.entries.value in
    let chunk = chunk_of labels entries in
    let same : c.in_ok-chunk.chunk ≡ chunk = c.in_ok-chunk.ensures.right (chunk_text Short chunk) chunk honest (is.kept honest) (sym is.digest) is.read in
    let lines : c.as_slice.result.now ≡ map line_of entries = c.as_slice.ensures ∙ ap (λ (ch : Chunk). ch.lines) same in
    let many : length c.as_slice.result.now ≡ c.len.result = ap length lines ∙ length-map entries line_of ∙ sym (fingerprints_len entries c.args.written.now.fingerprints fingerprints) ∙ sym c.len.ensures in
    let old : All (λ line. line.timestamp ≤ c.args.written.now.last) c.as_slice.result.now = subst (λ (ls : List Line). All (λ line. line.timestamp ≤ c.args.written.now.last) ls) (sym lines)
    (All-map (λ (line : Line). line.timestamp ≤ c.args.written.now.last) line_of entries (λ k d within. let le = up_to_last labels entries part.run k d within in omega (arith, le, range.end))) in
    absurd (not_both (c.are_of_part.ensures.yes many old) c.if-not-are_of_part.true)
