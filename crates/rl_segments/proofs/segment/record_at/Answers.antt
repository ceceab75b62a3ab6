-- What is read of a segment is what was written.
use Rattle.std.proofs.Common.{◌<◌, ◌^◌, length, ap, subst, ◌∙◌}
use Rattle.rl_segments.proofs.WrittenFrames.{record_again}
use Rattle.rl_segments.specs.SegmentReading.{record_in}
use Rattle.rl_segments.proofs.segment.record_at.Goals as goal

pub returns : goal.returns
returns c = λ first records fits is. c.record_in.ensures.found ∙ ap (record_in c.args.place) is ∙ record_again first records c.args.place fits (subst (λ bytes. length bytes < 2 ^ 64) is c.record_in.ensures.fits)
