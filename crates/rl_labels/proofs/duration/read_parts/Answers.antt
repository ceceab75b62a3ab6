-- A part more, or the last.
use Rattle.std.proofs.Common.{◌≡◌, ◌+◌, ◌-◌, suc, Some, sym, ap, subst, ◌∙◌, arith}
use Rattle.rl_labels.proofs.Durations.{Left, all_left, last_there, part_there}
use Rattle.rl_labels.proofs.duration.read_parts.Goals as goal

pub loop-turn-init : goal.loop-turn-init
loop-turn-init c = subst (λ parts. Left c.args.text.now parts 8 c.args.text.now) (sym c.requires) (all_left c.args.text.now)

pub returns-then-is_empty : goal.returns-then-is_empty
returns-then-is_empty c =
    last_there c.args.text.now c.loop-turn.parts.items (8 - c.loop-turn._turn) c.loop-turn.rest.now c.in-Some.following.now c.in-Some.part c.in-Some.ensures (sym c.if-is_empty.ensures) (omega (arith, c.loop-turn-test.true)) c.loop-turn.invariant
    ∙ ap (λ parts. Some parts) (sym c.push.ensures.items)

pub loop-turn-preserved : goal.loop-turn-preserved
loop-turn-preserved c =
    let turn = c.loop-turn._turn in
    let one_less : 8 - turn ≡ suc (8 - (turn + 1)) = omega (arith, c.loop-turn-test.true) in
    let so_far = subst (λ left. Left c.args.text.now c.loop-turn.parts.items left c.loop-turn.rest.now) one_less c.loop-turn.invariant in
    subst (λ parts. Left c.args.text.now parts (8 - (turn + 1)) c.in-Some.following.now) (sym c.push.ensures.items)
    (part_there c.args.text.now c.loop-turn.parts.items (8 - (turn + 1)) c.loop-turn.rest.now c.in-Some.following.now c.in-Some.part c.in-Some.ensures (sym c.if-is_empty.ensures) so_far)
