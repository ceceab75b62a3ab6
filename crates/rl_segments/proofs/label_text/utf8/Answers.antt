-- Bytes are UTF-8, or are not.
use Rattle.std.proofs.Common.{ℕ, List, cond, Ok, Err, sym, ap, ◌∙◌}
use Rattle.std.specs.Str.{is_utf8}
use Rattle.std.proofs.lemmas.Bool.{false_from_ne_true}
use Rattle.std.proofs.lemmas.Str.{IsUtf8-from_is_utf8, is_utf8-from_IsUtf8}
use Rattle.rl_segments.specs.FrameReading.{Found}
use Rattle.rl_segments.specs.declared.fault.RecordFault.TheVariants.{NotARecord}
use Rattle.rl_segments.proofs.label_text.utf8.Goals as goal

abbrev done : List ℕ → Found (List ℕ)
done bytes = Ok bytes

pub returns-in-Ok : goal.returns-in-Ok
returns-in-Ok c = ap (λ b. cond b (done c.args.bytes.now) (Err NotARecord)) (is_utf8-from_IsUtf8 c.args.bytes.now c.in-Ok.ensures.cases.1) ∙ ap done (sym c.in-Ok.ensures.cases.0)

pub returns-in-Err : goal.returns-in-Err
returns-in-Err c = ap (λ b. cond b (done c.args.bytes.now) (Err NotARecord)) (false_from_ne_true (is_utf8 c.args.bytes.now) (λ e. c.in-Err.ensures.cases.0 (IsUtf8-from_is_utf8 c.args.bytes.now e)))
