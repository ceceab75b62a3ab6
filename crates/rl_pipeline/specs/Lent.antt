-- The bytes of a text that is lent or kept.
use Rattle.std.specs.Prelude.{ℕ, List}
use Rattle.rl_pipeline.specs.declared.lent.Form.{Form}
use Rattle.rl_pipeline.specs.declared.lent.Form.TheVariants.{Lent, Own}

abbrev pub bytes_in : Form → List ℕ
bytes_in (Lent text) = text.now
bytes_in (Own text) = text
