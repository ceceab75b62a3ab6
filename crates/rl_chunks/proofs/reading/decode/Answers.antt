-- The two laws, at the bytes.
use Rattle.std.proofs.Common.{subst, arith}
use Rattle.rl_plain.specs.Answers.{Gives}
use Rattle.rl_chunks.proofs.Chunks.{is_found, is_read}
use Rattle.rl_chunks.proofs.reading.decode.Goals as goal

pub returns-clause-found : goal.returns-clause-found
returns-clause-found c = is_found c.args.bytes.now c.chunk_at.result (λ i. omega (arith, c.type_inv.bytes i)) c.chunk_at.ensures

pub returns-clause-only : goal.returns-clause-only
returns-clause-only c = λ chunk is. subst (λ read. Gives (λ chunk. chunk) c.chunk_at.result read) (is_read c.args.bytes.now chunk is) c.chunk_at.ensures
