-- The texts that were printed are what is shown.
use Rattle.std.proofs.Common.{Some, refl}
use Rattle.rl_callers.proofs.Texts.{shown_printed}
use Rattle.rl_callers.proofs.caller.CallerEngine.show.Goals as goal

pub returns : goal.returns
returns g c =
    let texts = c.print_texts.ensures in (
      Some (record { count = c.in-Some.count; kept = texts.0 }),
      tt,
      (refl, shown_printed c.args.out.now c.text.new.self c.number.new.self c.text-2.new.self c.print_texts.new.out c.in-Some.count texts.0 c.text.ensures.prints c.number.ensures.prints c.text-2.ensures.prints texts.1),
    )
