-- What is read is the record that has these bytes.
use Rattle.std.proofs.Common.{◌≡◌, ℕ, List, true, sym, ap, ◌∙◌}
use Rattle.std.proofs.lemmas.Bool.{true≢false}
use Rattle.rl_labels.specs.Name.{is_text}
use Rattle.rl_labels.specs.laws.LabelLaws.{is_text_itself}
use Rattle.rl_records.specs.RecordBytes.{record_bytes}
use Rattle.rl_segments.proofs.Readings.{is_for_memory, is_read}
use Rattle.rl_segments.proofs.record.record_read.Goals as goal

pub returns-in-Err-clause-again : goal.returns-in-Err-clause-again
returns-in-Err-clause-again c = λ it has is. is_for_memory c.args.bytes.now c.in-Err.error it c.in-Err.ensures.read has is c.record_in.ensures.short

pub returns-then-eq-clause-again : goal.returns-then-eq-clause-again
returns-then-eq-clause-again c = λ it has is. is_read c.args.bytes.now c.in-Ok.it it c.in-Ok.ensures.read has is c.record_in.ensures.short

pub returns-clause-again : goal.returns-clause-again
returns-clause-again c = λ it has is.
    let same = is_read c.args.bytes.now c.in-Ok.it it c.in-Ok.ensures.read has is c.record_in.ensures.short in
    let alike : c.in_ok-written.written.items ≡ c.args.bytes.now = c.in_ok-written.ensures ∙ ap record_bytes same ∙ sym is in
    let equal : is_text c.as_slice.result.now c.args.bytes.now ≡ true = ap (λ (bytes : List ℕ). is_text bytes c.args.bytes.now) (c.as_slice.ensures.value ∙ alike) ∙ is_text_itself c.args.bytes.now in
    absurd (true≢false (sym equal ∙ (sym c.eq.ensures ∙ c.if-eq.false)))
