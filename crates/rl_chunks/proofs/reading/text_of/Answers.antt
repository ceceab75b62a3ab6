-- Bytes that are a text, and bytes that are none.
use Rattle.std.proofs.Common.{arith}
use Rattle.rl_chunks.proofs.Fields.{text_of-ok, text_of-none}
use Rattle.rl_chunks.proofs.reading.text_of.Goals as goal

pub returns-in-Ok : goal.returns-in-Ok
returns-in-Ok c =
    text_of-ok c.args.len c.args.bytes.now c.split_at.result.0.now c.split_at.result.1.now c.in-Ok.text.now (omega arith) c.split_at.ensures.front c.split_at.ensures.back c.in-Ok.ensures.cases.0 c.in-Ok.ensures.cases.1

pub returns-in-Err : goal.returns-in-Err
returns-in-Err c = text_of-none c.args.len c.args.bytes.now c.split_at.result.0.now (omega arith) c.split_at.ensures.front c.in-Err.ensures.cases.0
