-- A text more.
use Rattle.std.proofs.Common.{sym, ap, ◌∙◌}
use Rattle.std.specs.Prelude.{slice_get}
use Rattle.std.specs.Option.{option_copied}
use Rattle.rl_session.proofs.Texts.{texts_written}
use Rattle.rl_session.proofs.world_engine.print_texts.Goals as goal

pub loop-index-preserved : goal.loop-index-preserved
loop-index-preserved g c =
    texts_written (slice_get c.args.book.now.sinks c.args.sink) _ _ _ c.loop-index.index c.in-Some.text.now (sym (ap option_copied c.in-Some.is) ∙ c.sink_text.ensures) c.loop-index.invariant c.text.ensures.prints
