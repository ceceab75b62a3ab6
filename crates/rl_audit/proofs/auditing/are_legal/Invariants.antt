-- The journals so far are legal.
use Rattle.std.proofs.Common.{take}
use Rattle.std.specs.List.{AllByRecursion}
use Rattle.rl_audit.specs.Founded.{IsLegal}
use Rattle.rl_audit.proofs.auditing.are_legal.Given as goal

abbrev pub invariant-loop-shard : goal.invariant-loop-shard
invariant-loop-shard g l = AllByRecursion IsLegal (take l.shard-index l.shards)
