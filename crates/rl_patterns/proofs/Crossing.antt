-- Built code may be sent to another thread.
use denote.Param.Send.{IsSend, sendable}
use Rattle.std.proofs.Crossing as heap
use Rattle.regex_class.proofs.Class.TheSendSync as class
use Rattle.regex_hir.specs.contracts.hir.Hir as Hir
use Rattle.regex_hir.proofs.hir.Hir.TheLaws.TheKnot as hir
use Rattle.regex_hir.proofs.look.Look.TheSendSync as look
use Rattle.regex_literal.proofs.byte_set.ByteSet.TheSendSync as bytes
use Rattle.regex_literal.proofs.caseless.Caseless.TheSendSync as caseless
use Rattle.regex_literal.proofs.ladder.Ladder.TheSendSync as ladder
use Rattle.regex_literal.proofs.prefilter.Prefilter.TheSendSync as prefilter
use Rattle.regex_extract.proofs.frames.Frame.TheSendSync as frame
use Rattle.regex_dfa.proofs.dfa.Dfa.TheSendSync as dfa
use Rattle.regex_meta.proofs.plan.Role.TheSendSync as role
use Rattle.regex_meta.specs.contracts.plan.Plan as Plan
use Rattle.regex_meta.specs.contracts.plan.Plans as Plans
use Rattle.regex_meta.specs.contracts.signs.Signs as Signs
use Rattle.regex_meta.specs.contracts.program.Program as Program
use Rattle.regex_syntax.proofs.Config.TheSendSync as config
use Rattle.regex.specs.contracts.pattern.Pattern as Pattern
use Rattle.regex.specs.contracts.string.regex.Regex as Regex
use Rattle.rl_patterns.specs.contracts.pattern.PatternCode as PatternCode
use Rattle.rl_patterns.specs.contracts.pattern.WholePatternCode as WholePatternCode
use Rattle.rl_plain.proofs.text.PlainText.TheSendSync as text

Hir-send : IsSend Hir.the_row
Hir-send = search (hir.crosses, class.the_field_send, look.the_field_send, sendable, heap.crosses) depth 20

Hir_field-send : IsSend (Hir.the_field).row
Hir_field-send = search (hir.crosses, class.the_field_send, look.the_field_send, sendable, heap.crosses) depth 20

Plan-send : IsSend (Plan.the_field).row
Plan-send = let sub = Hir-send in
    search (role.the_field_send, prefilter.the_send, frame.the_field_send, ladder.the_field_send, sendable, heap.crosses) depth 20

Plans-send : IsSend (Plans.the_field).row
Plans-send = let plan = Plan-send in search (sendable, heap.crosses) depth 20

Signs-send : IsSend (Signs.the_field).row
Signs-send = let sub = Hir-send in search (caseless.the_send, sendable, heap.crosses) depth 20

Program-send : IsSend (Program.the_field).row
Program-send = let tree = Hir_field-send in let plans = Plans-send in let signs = Signs-send in
    search (dfa.the_field_send, bytes.the_send, sendable, heap.crosses) depth 20

Pattern-send : IsSend (Pattern.the_field).row
Pattern-send = let program = Program-send in search (config.the_field_send, sendable, heap.crosses) depth 20

Regex-send : IsSend (Regex.the_field).row
Regex-send = let pattern = Pattern-send in search (sendable, heap.crosses) depth 20

pub PatternCode-send : IsSend PatternCode.the_row
PatternCode-send = let regex = Regex-send in search (sendable, heap.crosses) depth 20

pub WholePatternCode-send : IsSend WholePatternCode.the_row
WholePatternCode-send = let code = PatternCode-send in search (text.the_send, sendable, heap.crosses) depth 20

-- with these `search` shows that a type which holds built code may be sent
pub ruleset crosses = (PatternCode-send, WholePatternCode-send)
