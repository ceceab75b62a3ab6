-- Each turn reads up to the next quote or escape.
use Rattle.std.proofs.Common.{Some, length, get_or, string_bytes, sym, ap, ◌∙◌, arith, length-drop}
use Rattle.std.proofs.lemmas.Bool.{eqb-false}
use Rattle.rl_selector_text.specs.Lexing.{escape_front}
use Rattle.rl_selector_text.proofs.Texts.{left_of, left_none, left_end, left_escape, onto_escape, escape_onto, escape_utf8, escape_shorter}
use Rattle.rl_selector_text.proofs.lexer.quoted.Goals as goal

pub returns-then-is_empty : goal.returns-then-is_empty
returns-then-is_empty c = left_none (left_of (string_bytes c.loop-content.content) c.loop-content.rest.now c.loop-content.invariant.read c.run_front.ensures.front c.run_front.ensures.following c.in_ok-push_str.ensures.bytes) (sym c.is_empty.ensures ∙ c.if-is_empty.true)

pub returns-then-as_bytes-eq34 : goal.returns-then-as_bytes-eq34
returns-then-as_bytes-eq34 c =
    let left = left_of (string_bytes c.loop-content.content) c.loop-content.rest.now c.loop-content.invariant.read c.run_front.ensures.front c.run_front.ensures.following c.in_ok-push_str.ensures.bytes in
    (λ i. Some (c.from_string.ensures i, c.after_first-after.ensures i)) ∙ left_end left (sym c.is_empty.ensures ∙ c.if-is_empty.false) (ap (λ t. get_or t 0 0) (sym c.as_bytes.ensures.value) ∙ c.if-as_bytes-eq34.true)

pub returns-in_default : goal.returns-in_default
returns-in_default c =
    let left = left_of (string_bytes c.loop-content.content) c.loop-content.rest.now c.loop-content.invariant.read c.run_front.ensures.front c.run_front.ensures.following c.in_ok-push_str.ensures.bytes in
    ap (onto_escape (string_bytes c.push_str.new.self)) (c.in_default.ensures ∙ ap escape_front c.after_first-after.ensures) ∙ left_escape left (sym c.is_empty.ensures ∙ c.if-is_empty.false) (λ e. c.if-as_bytes-eq34.false (ap (λ t. get_or t 0 0) c.as_bytes.ensures.value ∙ e))

pub loop-content-smaller : goal.loop-content-smaller
loop-content-smaller c =
    let shorter = escape_shorter c.after_first-after.result.now c.in-Some.c c.in-Some.left.now c.in-Some.ensures in
    let full = eqb-false (length c.run_front.result.1.now) 0 (sym c.is_empty.ensures ∙ c.if-is_empty.false) in
    omega (arith, shorter, full, simp length-drop at (ap length c.after_first-after.ensures), simp length-drop at (ap length c.run_front.ensures.following))

pub loop-content-preserved : goal.loop-content-preserved
loop-content-preserved c =
    let left = left_of (string_bytes c.loop-content.content) c.loop-content.rest.now c.loop-content.invariant.read c.run_front.ensures.front c.run_front.ensures.following c.in_ok-push_str.ensures.bytes in
    record {
      read = escape_onto (string_bytes c.push_str.new.self) (string_bytes c.push.new.self) c.in-Some.left.now c.in-Some.c c.in_ok-push.ensures.bytes ∙ ap (onto_escape (string_bytes c.push_str.new.self)) (c.in-Some.ensures ∙ ap escape_front c.after_first-after.ensures) ∙ left_escape left (sym c.is_empty.ensures ∙ c.if-is_empty.false) (λ e. c.if-as_bytes-eq34.false (ap (λ t. get_or t 0 0) c.as_bytes.ensures.value ∙ e));
      utf8 = escape_utf8 c.after_first-after.result.now c.in-Some.c c.in-Some.left.now c.after_first-after.utf8 c.in-Some.ensures;
    }
