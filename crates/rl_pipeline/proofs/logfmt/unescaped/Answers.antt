-- Each turn reads up to the next escape.
use Rattle.std.proofs.Common.{rules, ◌≡◌, ◌==◌, ◌≤◌, ◌-◌, ℕ, List, Option, Some, false, length, string_bytes, sym, ap, ◌∙◌, arith, length-drop}
use Rattle.std.specs.Option.{option_and_then}
use Rattle.std.specs.List.{prefix_len}
use Rattle.std.proofs.lemmas.Bool.{eqb-false}
use Rattle.std.proofs.Math.Utf8.{encode}
use Rattle.rl_pipeline.specs.LogfmtPairs.{is_plain, onto, unescaped}
use Rattle.rl_pipeline.proofs.LogfmtTexts.{turn_of, turn_end, turn_ascii, turn_escape, escape_read, onto-onto}
use Rattle.rl_pipeline.proofs.logfmt.unescaped.Goals as goal

pub returns-then-is_empty : goal.returns-then-is_empty
returns-then-is_empty c =
    let turn = turn_of c.loop-value.rest.now c.loop-value.invariant.1 c.run_front.ensures.front c.run_front.ensures.following c.in_ok-push_str.ensures.bytes in
    ap Some c.from_string.ensures ∙ turn_end turn (sym c.is_empty.ensures ∙ c.if-is_empty.true)

pub after_first-after-requires-clause-ascii : goal.after_first-after-requires-clause-ascii
after_first-after-requires-clause-ascii c =
    let turn = turn_of c.loop-value.rest.now c.loop-value.invariant.1 c.run_front.ensures.front c.run_front.ensures.following c.in_ok-push_str.ensures.bytes in
    turn_ascii turn (sym c.is_empty.ensures ∙ c.if-is_empty.false)

pub returns-in_default : goal.returns-in_default
returns-in_default c =
    let turn = turn_of c.loop-value.rest.now c.loop-value.invariant.1 c.run_front.ensures.front c.run_front.ensures.following c.in_ok-push_str.ensures.bytes in
    let escape : onto (string_bytes c.push_str.new.self) (escape_read c.after_first-after.result.now) ≡ unescaped 0 c.args.content.now = turn_escape turn (sym c.is_empty.ensures ∙ c.if-is_empty.false) c.after_first-after.result.now c.after_first-after.ensures in
    ap (λ (e : Option (ℕ × List ℕ)). onto (string_bytes c.push_str.new.self) (option_and_then (λ (x : ℕ × List ℕ). onto (encode x.0) (unescaped 0 x.1)) e)) c.in_default.ensures.character ∙ escape

pub loop-value-smaller : goal.loop-value-smaller
loop-value-smaller c =
    let shorter : length c.in-Some.left.now ≤ length c.after_first-after.result.now = c.in-Some.ensures.shorter in
    let after_is : length c.after_first-after.result.now ≡ length c.run_front.result.1.now - 1 = ap length c.after_first-after.ensures ∙ length-drop 1 c.run_front.result.1.now in
    let behind_is : length c.run_front.result.1.now ≡ length c.loop-value.rest.now - prefix_len is_plain c.loop-value.rest.now = ap length c.run_front.ensures.following ∙ length-drop (prefix_len is_plain c.loop-value.rest.now) c.loop-value.rest.now in
    let some : (length c.run_front.result.1.now == 0) ≡ false = sym c.is_empty.ensures ∙ c.if-is_empty.false in
    let full : length c.run_front.result.1.now ≡ 0 → ⊥ = eqb-false (length c.run_front.result.1.now) 0 some in
    omega (arith, full)

pub loop-value-preserved : goal.loop-value-preserved
loop-value-preserved c =
    let turn = turn_of c.loop-value.rest.now c.loop-value.invariant.1 c.run_front.ensures.front c.run_front.ensures.following c.in_ok-push_str.ensures.bytes in
    let escape : onto (string_bytes c.push_str.new.self) (escape_read c.after_first-after.result.now) ≡ unescaped 0 c.args.content.now = turn_escape turn (sym c.is_empty.ensures ∙ c.if-is_empty.false) c.after_first-after.result.now c.after_first-after.ensures in (
      search rules,
      ap (λ t. onto t (unescaped 0 c.in-Some.left.now)) c.in_ok-push.ensures.bytes
          ∙ sym (onto-onto (string_bytes c.push_str.new.self) (encode c.in-Some.c) (unescaped 0 c.in-Some.left.now))
          ∙ ap (λ (e : Option (ℕ × List ℕ)). onto (string_bytes c.push_str.new.self) (option_and_then (λ (x : ℕ × List ℕ). onto (encode x.0) (unescaped 0 x.1)) e)) c.in-Some.ensures.character
          ∙ escape,
    )
