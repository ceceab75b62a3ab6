-- The value so far, and what is left to read.
use Rattle.std.proofs.Common.{◌≡◌, string_bytes, length}
use denote.Text.{Utf8}
use denote.Shadow.{shadow}
use Rattle.rl_pipeline.specs.LogfmtPairs.{unescaped, onto}
use Rattle.rl_pipeline.proofs.logfmt.unescaped.Given as goal

abbrev pub invariant-loop-value : goal.invariant-loop-value
invariant-loop-value l = shadow (Utf8 l.rest) × (onto (string_bytes l.value) (unescaped 0 l.rest) ≡ unescaped 0 l.fn.content)

abbrev pub decreases-loop-value : goal.decreases-loop-value
decreases-loop-value l = length l.rest
