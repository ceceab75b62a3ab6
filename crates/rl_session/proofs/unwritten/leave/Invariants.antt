-- The bytes so far.
use Rattle.std.proofs.Common.{◌≡◌, ◌++◌, take}
use Rattle.rl_session.specs.Unwritten.{bytes_of}
use Rattle.rl_session.proofs.unwritten.leave.Given as goal

abbrev pub invariant-loop-byte : goal.invariant-loop-byte
invariant-loop-byte l = bytes_of l.unwritten.value ≡ bytes_of l.fn.unwritten.value ++ take l.byte-index l.bytes
