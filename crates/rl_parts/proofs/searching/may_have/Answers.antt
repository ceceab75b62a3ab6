-- The range of time decides, and else the fingerprint.
use Rattle.std.proofs.Common.{◌≡◌, sym, ap, subst, ◌∙◌}
use Rattle.std.specs.List.{Contains}
use Rattle.rl_chunks.specs.EntryLines.{line_of}
use Rattle.rl_parts.specs.Fingerprints.{fingerprint}
use Rattle.rl_parts.proofs.Finding.{not_both}
use Rattle.rl_parts.proofs.Fingerprinted.{fingerprint_there}
use Rattle.rl_parts.proofs.Times.{outside, reaches}
use Rattle.rl_parts.proofs.searching.may_have.Goals as goal

pub returns-then-is_apart-clause-absent : goal.returns-then-is_apart-clause-absent
returns-then-is_apart-clause-absent c = λ _ there.
    outside c.args.entry.now.labels c.args.written.now.entries.value c.args.written.now.first c.args.written.now.last c.args.entry.now c.requires.part.run c.requires.range (c.is_apart.ensures.apart c.if-is_apart.true) there

pub returns-clause-absent : goal.returns-clause-absent
returns-clause-absent c = λ not_there there.
    let own : c.fingerprint_of-fingerprint.result ≡ fingerprint (line_of c.args.entry.now) = c.fingerprint_of-fingerprint.ensures ∙ ap (λ text. fingerprint (record { timestamp = c.args.entry.now.timestamp; text = text })) c.as_str.ensures in
    let fingerprinted : Contains c.as_slice.result.now c.fingerprint_of-fingerprint.result = subst (λ fingerprints. Contains fingerprints c.fingerprint_of-fingerprint.result) (sym c.as_slice.ensures)
    (subst (λ m. Contains c.args.written.now.fingerprints m) (sym own) (fingerprint_there c.args.written.now.entries.value c.args.written.now.fingerprints c.args.entry.now c.requires.fingerprints there)) in
    not_both (c.has_fingerprint.ensures.1 fingerprinted) not_there

pub returns-clause-reaches : goal.returns-clause-reaches
returns-clause-reaches c = λ _ apart.
    let within = c.is_apart.ensures.reaches c.if-is_apart.false in
    reaches c.args.written.now.entries.value c.args.written.now.first c.args.written.now.last c.args.entry.now.timestamp c.args.entry.now.timestamp c.requires.range c.requires.part.some within.0 within.1 apart
