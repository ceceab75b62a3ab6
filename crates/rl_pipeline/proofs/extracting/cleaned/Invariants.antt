-- The bytes so far stand after the underscore.
use Rattle.std.proofs.Common.{◌≡◌, ◌++◌, map, take, string_bytes}
use Rattle.rl_pipeline.specs.Extracting.{name_byte}
use Rattle.rl_pipeline.proofs.extracting.cleaned.Given as goal

abbrev pub invariant-loop-byte : goal.invariant-loop-byte
invariant-loop-byte l = string_bytes l.name ≡ string_bytes l.initial.name ++ map name_byte (take l.byte-index l.key)
