-- Reading fails, or gives the bytes that are answered for.
use Rattle.std.proofs.Common.{ℕ, Vec, Global, Err}
use Rattle.std.proofs.lemmas.Result.{err_from_is_err_and}
use Rattle.rl_session.specs.Front.{front_form}
use Rattle.rl_session.proofs.Answering.{ReadsFront-failed, ReadsFront-read, ReadsAll-ReadsFront}
use Rattle.rl_session.proofs.front.read_front.Goals as goal

pub returns-in_err-bytes : goal.returns-in_err-bytes
returns-in_err-bytes g c =
    let old = g.R.Read.remaining c.args.reader.now in
    let new = g.R.Read.remaining c.read_all.new.reader in
    let error = err_from_is_err_and c.from_residual.result c.from_residual.ensures.1 in
    let failed = ReadsFront-failed (λ (bytes : Vec ℕ Global). bytes.items) front_form 67_108_864 old new c.in_err-bytes.field-0.0 c.in_err-bytes.ensures in
    rw (error.1, error.2) (record { answers = failed; known = ReadsAll-ReadsFront front_form 67_108_864 old new (Err c.in_err-bytes.field-0.0) failed })

pub returns : goal.returns
returns g c =
    let old = g.R.Read.remaining c.args.reader.now in
    let new = g.R.Read.remaining c.read_all.new.reader in
    let read = ReadsFront-read front_form 67_108_864 old new c.in_ok-bytes.bytes.items c.front_in.result c.in_ok-bytes.ensures c.front_in.ensures in
    record { answers = read; known = ReadsAll-ReadsFront front_form 67_108_864 old new c.front_in.result read }
