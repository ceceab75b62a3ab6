-- Each turn writes the parts of one stream, or some of them.
use Rattle.std.proofs.Common.{◌≡◌, ◌+◌, filter, refl, ◌∙◌, get_or, arith}
use Rattle.std.proofs.lemmas.Result.{err_from_is_err_and}
use Rattle.std.specs.Option.{is_none}
use Rattle.rl_parts.specs.StreamParts.{StreamView}
use Rattle.rl_parts.specs.Changes.{unwritten_count}
use Rattle.rl_parts.specs.laws.UseLaws.{Keeps-put, Puts-none, Puts-then}
use Rattle.rl_streams.specs.StreamRows.{Row}
use Rattle.rl_streams.proofs.RowChanges.{length_set, set_up_to, none_left, with_key}
use Rattle.rl_streams.proofs.Written.{none_written, one_written, no_parts}
use Rattle.rl_streams.proofs.flushing.flush.Goals as goal

pub returns-in_err-flush-clause-flushed : goal.returns-in_err-flush-clause-flushed
returns-in_err-flush-clause-flushed g c =
    let loop = c.loop-position in
    let done = c.flush.ensures in
    one_written c.args.streams.now.entries c.args.chunks.now loop.streams.entries loop.chunks loop.position c.index_mut.result.now c.flush.new.self c.flush.new.chunks
    loop.invariant.flushed c.index_mut.ensures.value done.labels done.newest done.head done.entries done.parts done.counted_parts done.kept (Keeps-put c.flush.result loop.chunks c.flush.new.chunks done.puts)

pub loop-position-init : goal.loop-position-init
loop-position-init g c = record {
  flushed = none_written c.args.streams.now.entries c.args.chunks.now;
  puts = Puts-none c.args.chunks.now c.args.chunks.now.next;
  faults = refl;
  many = refl;
  all = λ k d low high. absurd (omega (arith, high));
}

pub loop-position-preserved : goal.loop-position-preserved
loop-position-preserved g c =
    let loop = c.loop-position in
    let rows = loop.streams.entries in
    let done = c.flush.ensures in
    let row = with_key rows loop.position c.index_mut.result.now c.index_mut.ensures.value in
    record {
      flushed = one_written c.args.streams.now.entries c.args.chunks.now rows loop.chunks loop.position c.index_mut.result.now c.flush.new.self c.flush.new.chunks
          loop.invariant.flushed c.index_mut.ensures.value done.labels done.newest done.head done.entries done.parts done.counted_parts done.kept (Keeps-put c.flush.result loop.chunks c.flush.new.chunks done.puts);
      puts = Puts-then c.args.chunks.now loop.chunks c.flush.new.chunks c.flush.new.chunks.next c.in_ok-flush.ensures.puts.up loop.invariant.puts c.in_ok-flush.ensures.puts;
      faults = c.in_ok-flush.ensures.counted ∙ loop.invariant.faults;
      many = length_set rows loop.position c.flush.new.self ∙ loop.invariant.many;
      all = set_up_to (λ (r : Row). unwritten_count r.1.parts ≡ 0) rows loop.position row.0 c.index_mut.result.now c.flush.new.self row.1 loop.invariant.all c.in_ok-flush.ensures.all;
    }

pub returns-clause-all : goal.returns-clause-all
returns-clause-all g c = none_left (λ (s : StreamView). filter (λ part. is_none part.note) s.parts) c.loop-position.streams.entries (λ k d low high. no_parts (get_or c.loop-position.streams.entries k d).1.parts (c.loop-position.invariant.all k d low (omega (arith, high, c.loop-position.invariant.many, c.len-position-end.ensures.len, c.loop-position-test.false))))

pub returns-in_err-flush-clause-puts : goal.returns-in_err-flush-clause-puts
returns-in_err-flush-clause-puts g c =
    let p = err_from_is_err_and c.from_residual.result c.from_residual.ensures.1 in
    rw p.1 (Puts-then c.args.chunks.now c.loop-position.chunks c.flush.new.chunks (c.flush.new.chunks.next + 1) (omega (arith, c.in_err-flush.ensures.puts.up)) c.loop-position.invariant.puts c.in_err-flush.ensures.puts)
