-- What was fed so far.
use Rattle.std.proofs.Common.{◌≡◌, ◌++◌, take}
use Rattle.rl_digests.specs.FedBytes.{bytes_fed}
use Rattle.rl_digests.proofs.hasher.note.Given as goal

abbrev pub invariant-loop-byte : goal.invariant-loop-byte
invariant-loop-byte l = bytes_fed l.fed.value ≡ bytes_fed l.initial.fed.value ++ take l.byte-index l.piece
