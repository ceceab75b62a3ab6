-- The frame that is sought stands behind the frames so far.
use Rattle.std.proofs.Common.{◌≡◌, ◌-◌}
use Rattle.rl_segments.specs.SegmentReading.{frame_at}
use Rattle.rl_segments.proofs.segment.frame_at.Given as goal

abbrev pub invariant-loop : goal.invariant-loop
invariant-loop l = frame_at (l.index - l.counter) l.rest ≡ frame_at l.index l.frames
