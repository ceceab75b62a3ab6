-- Each turn writes the next label.
use Rattle.std.proofs.Common.{length}
use Rattle.std.specs.Int.{w16, to_be_bytes}
use Rattle.rl_chunks.specs.ChunkText.{label_bytes, IsText}
use Rattle.rl_chunks.proofs.Turns.{one_more, all_more}
use Rattle.rl_chunks.proofs.writing.push_labels.Goals as goal

pub loop-label-preserved : goal.loop-label-preserved
loop-label-preserved c = record {
  bytes = one_more label_bytes c.args.labels.now c.loop-label.label-index c.label-item.result c.args.out.now.items (to_be_bytes w16 (length c.args.labels.now)) c.loop-label.out.items c.push_label.new.out.items c.loop-label-test.true c.label-item.is c.loop-label.invariant.bytes c.in_ok-push_label.ensures.bytes;
  texts = all_more IsText c.args.labels.now c.loop-label.label-index c.label-item.result c.loop-label-test.true c.label-item.is c.loop-label.invariant.texts c.in_ok-push_label.ensures.text;
}
