-- The text of a flag, as the rows have it.
use Rattle.std.proofs.Common.{◌∙◌}
use Rattle.clap.specs.Words.{found_of}
use Rattle.clap.proofs.WalkLemmas.{one_text-rows}
use Rattle.rule_shell.proofs.options.flag_in.Goals as goal

pub returns : goal.returns
returns c =
    let same = one_text-rows (found_of c.args.matches.now) c.args.flag.now in
    record {
      nowhere = λ text. c.get_flag.ensures.none (same ∙ text);
      there = λ text. c.get_flag.ensures.value (same ∙ text);
      left_out = λ text. c.get_flag.ensures.other (same ∙ text);
    }
