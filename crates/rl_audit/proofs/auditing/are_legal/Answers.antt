-- A journal more is legal.
use Rattle.rl_audit.specs.Founded.{IsLegal}
use Rattle.rl_audit.proofs.Fronts.{all_more}
use Rattle.rl_audit.proofs.auditing.are_legal.Goals as goal

pub loop-shard-preserved : goal.loop-shard-preserved
loop-shard-preserved g c = all_more IsLegal c.args.shards.now c.loop-shard.shard-index c.shard-item.result c.loop-shard-test.true c.shard-item.is c.loop-shard.invariant c.journal_len-records.ensures.legal
