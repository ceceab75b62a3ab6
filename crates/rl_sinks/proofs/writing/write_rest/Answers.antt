-- A piece more was written, in whole or in part.
use Rattle.std.proofs.Common.{◌<◌, length, true, arith}
use Rattle.std.proofs.lemmas.Result.{err_from_is_err_and}
use Rattle.rl_sinks.specs.Pieces.{pieces, rest_of}
use Rattle.rl_sinks.proofs.Written.{Writes-trans, wanted_written, wanted_position, wanted_left, piece_within, fits_at}
use Rattle.rl_sinks.proofs.writing.write_rest.Goals as goal

pub loop-next-preserved : goal.loop-next-preserved
loop-next-preserved g c =
    let texts = c.args.texts.now in
    let count = c.args.count in
    let next = c.loop-next.next in
    let part = c.loop-next.part in
    let piece = c.piece_at-piece.result.now in
    let here = c.loop-next.invariant in
    let fits = fits_at (pieces true texts count) next part here.position in
    let after = c.write_piece.new in
    let within : next < length (pieces c.args.ended texts count) = omega (arith, c.loop-next-test.true, c.loop-next.invariant.all) in
    let within_all = piece_within c.args.ended texts count next within in
    record {
      all = here.all;
      position = wanted_position _ _ c.write_piece.result true texts count next after.next after.part piece within_all c.piece_at-piece.ensures c.write_piece.ensures.ok c.write_piece.ensures.err;
      stays = λ began. wanted_position _ _ c.write_piece.result c.args.ended texts count next after.next after.part piece within c.piece_at-piece.ensures c.write_piece.ensures.ok c.write_piece.ensures.err;
      wanted = Writes-trans _ _ _ (rest_of (pieces c.args.ended texts count) c.args.next.now c.args.part.now) (rest_of (pieces c.args.ended texts count) next part) (rest_of (pieces c.args.ended texts count) after.next after.part) here.wanted
          (wanted_written c.write_piece.result _ _ c.args.ended texts count next part after.next after.part piece within fits c.piece_at-piece.ensures c.write_piece.ensures.ok c.write_piece.ensures.err);
      written = Writes-trans _ _ _ (rest_of (pieces true texts count) c.args.next.now c.args.part.now) (rest_of (pieces true texts count) next part) (rest_of (pieces true texts count) after.next after.part) here.written
          (wanted_written c.write_piece.result _ _ true texts count next part after.next after.part piece within_all fits c.piece_at-piece.ensures c.write_piece.ensures.ok c.write_piece.ensures.err);
    }

pub returns-in_err-write_piece-clause-wanted : goal.returns-in_err-write_piece-clause-wanted
returns-in_err-write_piece-clause-wanted g c =
    let texts = c.args.texts.now in
    let count = c.args.count in
    let next = c.loop-next.next in
    let after = c.write_piece.new in
    let within : next < length (pieces c.args.ended texts count) = omega (arith, c.loop-next-test.true, c.loop-next.invariant.all) in
    Writes-trans _ _ _ (rest_of (pieces c.args.ended texts count) c.args.next.now c.args.part.now) (rest_of (pieces c.args.ended texts count) next c.loop-next.part) (rest_of (pieces c.args.ended texts count) after.next after.part) c.loop-next.invariant.wanted
    (wanted_written c.write_piece.result _ _ c.args.ended texts count next c.loop-next.part after.next after.part c.piece_at-piece.result.now within (fits_at (pieces true texts count) next c.loop-next.part c.loop-next.invariant.position) c.piece_at-piece.ensures c.write_piece.ensures.ok c.write_piece.ensures.err)

pub returns-in_err-write_piece-clause-writes : goal.returns-in_err-write_piece-clause-writes
returns-in_err-write_piece-clause-writes g c =
    let texts = c.args.texts.now in
    let count = c.args.count in
    let next = c.loop-next.next in
    let after = c.write_piece.new in
    let within : next < length (pieces c.args.ended texts count) = omega (arith, c.loop-next-test.true, c.loop-next.invariant.all) in
    Writes-trans _ _ _ (rest_of (pieces true texts count) c.args.next.now c.args.part.now) (rest_of (pieces true texts count) next c.loop-next.part) (rest_of (pieces true texts count) after.next after.part) c.loop-next.invariant.written
    (wanted_written c.write_piece.result _ _ true texts count next c.loop-next.part after.next after.part c.piece_at-piece.result.now (piece_within c.args.ended texts count next within) (fits_at (pieces true texts count) next c.loop-next.part c.loop-next.invariant.position) c.piece_at-piece.ensures c.write_piece.ensures.ok c.write_piece.ensures.err)

pub returns-in_err-write_piece-clause-left : goal.returns-in_err-write_piece-clause-left
returns-in_err-write_piece-clause-left g c =
    let texts = c.args.texts.now in
    let within : c.loop-next.next < length (pieces c.args.ended texts c.args.count) = omega (arith, c.loop-next-test.true, c.loop-next.invariant.all) in
    let error = err_from_is_err_and c.from_residual.result c.from_residual.ensures.1 in
    rw error.1 (wanted_left c.args.ended texts c.args.count c.loop-next.next c.write_piece.new.next c.write_piece.new.part c.piece_at-piece.result.now within c.piece_at-piece.ensures c.in_err-write_piece.ensures.err.0 c.in_err-write_piece.ensures.err.1)
