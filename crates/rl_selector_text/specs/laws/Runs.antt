-- Where the runs of a query's text end.
use Rattle.std.proofs.Common.{◌≡◌, ℕ, ◌<◌, true, false, arith}
use Rattle.std.proofs.lemmas.Bool.Decides.{nat_tests}
use Rattle.rl_labels.specs.Name.{is_name_byte}
use Rattle.rl_plain.specs.Runs.{IsCutAfter}
use Rattle.rl_plain.specs.laws.Cuts.{run_boundary, stop_boundary}
use Rattle.rl_selector_text.specs.Lexing.{is_number_byte, is_plain, is_raw, is_in_run}
use Rattle.rl_selector_text.specs.declared.lexer.Run.{Run}
use Rattle.rl_selector_text.specs.declared.lexer.Run.TheVariants as runs

name_byte_small : (b : ℕ) → is_name_byte b ≡ true → b < 128
name_byte_small b h = grind (arith, nat_tests)

number_stop : (b : ℕ) → is_number_byte b ≡ false → b < 128
number_stop b h = grind (arith, nat_tests)

pub plain_stop : (b : ℕ) → is_plain b ≡ false → b < 128
plain_stop b h = grind (arith, nat_tests)

pub raw_stop : (b : ℕ) → is_raw b ≡ false → b < 128
raw_stop b h = grind (arith, nat_tests)

-- a text may be cut after a run
pub run_ends : (run : Run) → IsCutAfter (is_in_run run)
run_ends runs.Word = run_boundary is_name_byte name_byte_small
run_ends runs.Number = stop_boundary is_number_byte number_stop
run_ends runs.Plain = stop_boundary is_plain plain_stop
run_ends runs.Raw = stop_boundary is_raw raw_stop
