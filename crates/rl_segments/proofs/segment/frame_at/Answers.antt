-- A frame is passed, is the one that is sought, or is not there.
use Rattle.std.proofs.Common.{List, ℕ, Bor, ◌+◌, ◌-◌, sym, ap, ◌∙◌, arith}
use Rattle.std.specs.Option.{option_map}
use Rattle.rl_segments.proofs.WrittenFrames.{is_there, nearer, none_there}
use Rattle.rl_segments.proofs.segment.frame_at.Goals as goal

-- the two parts of a frame as they are now
abbrev parts : Bor (List ℕ) × Bor (List ℕ) → List ℕ × List ℕ
parts read = (read.0.now, read.1.now)

pub returns-in_default : goal.returns-in_default
returns-in_default c = sym (none_there c.loop.rest.now (c.args.index - c.loop.counter) (sym c.frame_in.ensures ∙ ap (option_map parts) c.in_default.is)) ∙ c.loop.invariant

pub loop-preserved : goal.loop-preserved
loop-preserved c = sym (nearer c.loop.rest.now (c.args.index - c.loop.counter) (c.args.index - (c.loop.counter + 1)) (c.in-Some.field-0-0.now, c.in-Some.following.now) (sym c.frame_in.ensures ∙ ap (option_map parts) c.in-Some.is) (omega (arith, c.loop-test.true))) ∙ c.loop.invariant

pub returns-in-None : goal.returns-in-None
returns-in-None c = sym (none_there c.loop.rest.now (c.args.index - c.loop.counter) (sym c.frame_in-2.ensures ∙ ap (option_map parts) c.in-None.is)) ∙ c.loop.invariant

pub returns-in-Some-frame_in : goal.returns-in-Some-frame_in
returns-in-Some-frame_in c = sym (is_there c.loop.rest.now (c.args.index - c.loop.counter) _ (sym c.frame_in-2.ensures ∙ ap (option_map parts) c.in-Some-frame_in.is) (omega (arith, c.loop-test.false))) ∙ c.loop.invariant
