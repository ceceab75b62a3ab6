-- The labels so far, and the pairs of what is left of the line.
use denote.Text.{Utf8}
use denote.Shadow.{shadow}
use Rattle.std.proofs.Common.{◌≡◌, ◌-◌, length}
use Rattle.rl_pipeline.specs.Extracting.{with_pairs}
use Rattle.rl_pipeline.specs.LogfmtPairs.{pairs_in, logfmt_pairs}
use Rattle.rl_pipeline.proofs.logfmt.add_pairs.Given as goal

abbrev pub invariant-loop-turn : goal.invariant-loop-turn
invariant-loop-turn l = shadow (Utf8 l.rest) × (with_pairs l.stream l.labels (pairs_in (length l.line - l._turn) l.rest) ≡ with_pairs l.stream l.fn.labels (logfmt_pairs l.line))
