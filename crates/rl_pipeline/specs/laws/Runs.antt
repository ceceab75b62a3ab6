-- Where the runs of logfmt end.
use Rattle.std.proofs.Common.{◌≡◌, ℕ, ◌<◌, true, false, arith}
use Rattle.std.proofs.lemmas.Bool.Decides.{nat_tests}
use Rattle.rl_plain.specs.Runs.{IsCutAfter}
use Rattle.rl_plain.specs.laws.Cuts.{run_boundary, stop_boundary}
use Rattle.rl_pipeline.specs.LogfmtPairs.{is_blank, is_of_key, is_of_pair, is_plain, is_in_run}
use Rattle.rl_pipeline.specs.declared.logfmt.Run.{Run}
use Rattle.rl_pipeline.specs.declared.logfmt.Run.TheVariants as runs

blank_small : (b : ℕ) → is_blank b ≡ true → b < 128
blank_small b h = grind (arith, nat_tests)

key_stop : (b : ℕ) → is_of_key b ≡ false → b < 128
key_stop b h = grind (arith, nat_tests)

pair_stop : (b : ℕ) → is_of_pair b ≡ false → b < 128
pair_stop b h = grind (arith, nat_tests)

pub plain_stop : (b : ℕ) → is_plain b ≡ false → b < 128
plain_stop b h = grind (arith, nat_tests)

-- a text may be cut after a run
pub run_ends : (run : Run) → IsCutAfter (is_in_run run)
run_ends runs.Blank = run_boundary is_blank blank_small
run_ends runs.Key = stop_boundary is_of_key key_stop
run_ends runs.Pair = stop_boundary is_of_pair pair_stop
run_ends runs.Plain = stop_boundary is_plain plain_stop
