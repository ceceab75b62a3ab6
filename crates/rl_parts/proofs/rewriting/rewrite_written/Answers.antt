-- What becomes of a part that a store has, by what was read of it.
use Rattle.std.proofs.Common.{◌≡◌, ◌+◌, ◌<◌, not, List, [], ◌∷◌, length, sym, ap, subst, ◌∙◌, arith}
use Rattle.std.proofs.lemmas.Bool.Decides.{nat_tests}
use Rattle.std.proofs.lemmas.List.{length-map, nil_from_length}
use Rattle.rl_labels.specs.declared.entry.Entry.{Entry}
use Rattle.rl_chunks.specs.EntryLines.{line_of}
use Rattle.rl_parts.specs.StreamParts.{PartView, IsPart, unwritten}
use Rattle.rl_parts.specs.PartState.{part_at}
use Rattle.rl_parts.specs.Rewriting.{AreRewritten, uncovered}
use Rattle.rl_parts.specs.declared.part.Location.TheVariants.{InStore}
use Rattle.rl_parts.proofs.Leaving.{filter_all, filter_le, part_left}
use Rattle.rl_parts.proofs.Lines.{stream_of}
use Rattle.rl_parts.proofs.Rereading.{read_becomes, read_goes, read_part, read_stays, unread_stays}
use Rattle.rl_parts.proofs.rewriting.rewrite_written.Goals as goal

pub returns-then-not-branch-clause-rewritten : goal.returns-then-not-branch-clause-rewritten
returns-then-not-branch-clause-rewritten g c =
    unread_stays (g.C.Covers.covers c.args.covered.now) c.args.labels.now c.args.written.now c.args.chunks.now c.requires.part c.requires.range (c.in_ok-may_cover.ensures c.if-not-branch.true)

pub uncovered_lines-requires-clause-stream : goal.uncovered_lines-requires-clause-stream
uncovered_lines-requires-clause-stream g c = stream_of c.args.labels.now c.args.written.now.entries.value c.requires.part.run.labels c.requires.part.some

pub returns-then-len-many-clause-rewritten : goal.returns-then-len-many-clause-rewritten
returns-then-len-many-clause-rewritten g c =
    let covers = g.C.Covers.covers c.args.covered.now in
    let lines = c.in_ok-lines.lines in
    let made = c.in_ok-lines.ensures in
    let read = c.in_ok-left.ensures.0 in
    let are = c.in_ok-left.ensures.1 in
    let left : c.in_ok-left.left.items ≡ uncovered covers read = c.in_ok-left.ensures.2 in
    let none : uncovered covers read ≡ read = filter_all (λ entry. not (covers entry)) read
    (omega (arith, ap length left, c.in_ok-left.left.ok.0, c.len.ensures, c.len-many.ensures, c.if-len-many.true, lines.ok.0, ap length are.same, length-map read line_of)) in
    read_stays covers c.args.labels.now c.args.written.now c.args.chunks.now lines.items read c.requires.part c.requires.range c.requires.fingerprints made.found made.many made.old (made.right c.args.labels.now c.requires.part c.requires.range c.requires.fingerprints) are
    c.read_again.new.chunks c.read_again.ensures.reads none

pub returns-then-is_empty-clause-rewritten : goal.returns-then-is_empty-clause-rewritten
returns-then-is_empty-clause-rewritten g c =
    let covers = g.C.Covers.covers c.args.covered.now in
    let made = c.in_ok-lines.ensures in
    let read = c.in_ok-left.ensures.0 in
    let are = c.in_ok-left.ensures.1 in
    let left : c.in_ok-left.left.items ≡ uncovered covers read = c.in_ok-left.ensures.2 in
    let none : length c.in_ok-left.left.items ≡ 0 = grind (arith, nat_tests, c.in_ok-left.left.ok.0, c.is_empty.ensures, c.if-is_empty.true) in
    read_goes covers c.args.labels.now c.args.written.now c.args.chunks.now c.in_ok-lines.lines.items read c.requires.part c.requires.range c.requires.fingerprints made.found made.many made.old (made.right c.args.labels.now c.requires.part c.requires.range c.requires.fingerprints) are
    c.read_again.new.chunks c.read_again.ensures.reads (sym left ∙ nil_from_length c.in_ok-left.left.items none)

pub write_entries-requires : goal.write_entries-requires
write_entries-requires g c =
    let covers = g.C.Covers.covers c.args.covered.now in
    let made = c.in_ok-lines.ensures in
    let read = c.in_ok-left.ensures.0 in
    let are = c.in_ok-left.ensures.1 in
    let left : c.in_ok-left.left.items ≡ uncovered covers read = c.in_ok-left.ensures.2 in
    let some : 0 < length c.in_ok-left.left.items = grind (arith, nat_tests, c.in_ok-left.left.ok.0, c.is_empty.ensures, c.if-is_empty.false) in
    let part : IsPart c.args.labels.now (unwritten read) = read_part covers c.args.labels.now c.args.written.now c.args.chunks.now c.in_ok-lines.lines.items read c.requires.part c.requires.range c.requires.fingerprints made.found made.many made.old
    (made.right c.args.labels.now c.requires.part c.requires.range c.requires.fingerprints) are in
    subst (λ (es : List Entry). IsPart c.args.labels.now (unwritten es)) (sym (c.from_vec-left.ensures ∙ left)) (part_left covers c.args.labels.now read part (omega (arith, some, ap length left)))

pub returns-clause-rewritten : goal.returns-clause-rewritten
returns-clause-rewritten g c =
    let old = c.args.written.now in
    let covers = g.C.Covers.covers c.args.covered.now in
    let lines = c.in_ok-lines.lines in
    let made = c.in_ok-lines.ensures in
    let read = c.in_ok-left.ensures.0 in
    let are = c.in_ok-left.ensures.1 in
    let left : c.in_ok-left.left.items ≡ uncovered covers read = c.in_ok-left.ensures.2 in
    let some : 0 < length c.in_ok-left.left.items = grind (arith, nat_tests, c.in_ok-left.left.ok.0, c.is_empty.ensures, c.if-is_empty.false) in
    let written = c.in_ok-written.written in
    let is = c.in_ok-written.ensures.written in
    let fewer : length c.in_ok-left.left.items < length read = omega (arith, ap length left, filter_le (λ entry. not (covers entry)) read, c.in_ok-left.left.ok.0, c.len.ensures, c.len-many.ensures, c.if-len-many.false, lines.ok.0, ap length are.same, length-map read line_of) in
    let entries : written.entries.value ≡ c.in_ok-left.left.items = is.entries_are ∙ c.from_vec-left.ensures in
    subst (λ (p : PartView). AreRewritten covers c.args.labels.now (part_at (InStore old) ∷ []) c.args.chunks.now (p ∷ []) (old.number ∷ []) c.write_entries.new.chunks) (sym c.kept.ensures)
    (read_becomes covers c.args.labels.now old c.args.chunks.now lines.items read c.requires.part c.requires.range c.requires.fingerprints made.found made.many made.old (made.right c.args.labels.now c.requires.part c.requires.range c.requires.fingerprints) are
    c.write_entries.new.chunks written (entries ∙ left) (omega (arith, some, ap length entries)) (omega (arith, fewer, ap length entries)) (is.number_is ∙ c.read_again.ensures.reads.next) (c.in_ok-written.ensures.next ∙ ap (λ n. n + 1) c.read_again.ensures.reads.next) is.kept)
