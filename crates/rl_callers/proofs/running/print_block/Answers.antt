-- A line more of a block.
use Rattle.std.proofs.Common.{◌≡◌, ◌∷◌, length, sym, ap, subst, ◌∙◌, arith}
use Rattle.std.specs.Option.{option_copied}
use Rattle.rl_session.specs.Session.{lines_left}
use Rattle.rl_callers.proofs.BlockPrinted.{IsBlockSoFar, block_begun, block_goes_on, block_ends, block_is_done, lines_of-first}
use Rattle.rl_callers.proofs.running.print_block.Goals as goal

pub loop-rest-init : goal.loop-rest-init
loop-rest-init g c = block_begun g.E.Engine.calls (lines_left (option_copied c.args.block)) c.args.out.now c.args.callers.now

pub loop-rest-preserved : goal.loop-rest-preserved
loop-rest-preserved g c =
    let following = lines_left (option_copied c.first_line.result.1) in
    let split : lines_left (option_copied c.loop-rest.rest) ≡ c.first_line.result.0.now ∷ following =
    ap (λ rest. lines_left (option_copied rest)) c.in-Some.is ∙ lines_of-first c.in-Some.text.now c.first_line.result.0.now (option_copied c.first_line.result.1) c.first_line.ensures in
    block_goes_on g.E.Engine.calls (lines_left (option_copied c.args.block)) (lines_left (option_copied c.loop-rest.rest)) c.first_line.result.0.now following c.loop-rest.refused c.print_reply-refused.result
    c.args.out.now c.loop-rest.out c.print_reply-refused.new.out c.args.callers.now c.loop-rest.callers c.print_reply-refused.new.callers
    split (sym c.ends_block.ensures ∙ c.if-ends_block.false) c.print_reply-refused.ensures.printed c.print_reply-refused.ensures.engines c.loop-rest.invariant

pub loop-rest-smaller : goal.loop-rest-smaller
loop-rest-smaller g c =
    let split : lines_left (option_copied c.loop-rest.rest) ≡ c.first_line.result.0.now ∷ lines_left (option_copied c.first_line.result.1) =
    ap (λ rest. lines_left (option_copied rest)) c.in-Some.is ∙ lines_of-first c.in-Some.text.now c.first_line.result.0.now (option_copied c.first_line.result.1) c.first_line.ensures in
    omega (arith, ap length split)

pub returns-then-ends_block-clause-printed : goal.returns-then-ends_block-clause-printed
returns-then-ends_block-clause-printed g c =
    let following = lines_left (option_copied c.first_line.result.1) in
    let split : lines_left (option_copied c.loop-rest.rest) ≡ c.first_line.result.0.now ∷ following =
    ap (λ rest. lines_left (option_copied rest)) c.in-Some.is ∙ lines_of-first c.in-Some.text.now c.first_line.result.0.now (option_copied c.first_line.result.1) c.first_line.ensures in
    block_ends g.E.Engine.calls (lines_left (option_copied c.args.block)) (lines_left (option_copied c.loop-rest.rest)) c.first_line.result.0.now following c.loop-rest.refused
    c.args.out.now c.loop-rest.out c.args.callers.now c.loop-rest.callers split (sym c.ends_block.ensures ∙ c.if-ends_block.true) c.loop-rest.invariant

pub returns-clause-printed : goal.returns-clause-printed
returns-clause-printed g c =
    let block = lines_left (option_copied c.args.block) in
    let so_far = subst (λ rest. IsBlockSoFar g.E.Engine.calls block (lines_left (option_copied rest)) c.loop-rest.refused c.args.out.now c.loop-rest.out c.args.callers.now c.loop-rest.callers) c.in_default.is c.loop-rest.invariant in
    block_is_done g.E.Engine.calls block c.loop-rest.refused c.args.out.now c.loop-rest.out c.args.callers.now c.loop-rest.callers so_far
