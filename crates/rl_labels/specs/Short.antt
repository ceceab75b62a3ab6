-- The bytes of a text that is short or long.
use Rattle.std.specs.Prelude.{ℕ, List}
use Rattle.rl_labels.specs.declared.short.Form.{Form}
use Rattle.rl_labels.specs.declared.short.Form.TheVariants.{Short, Long}

abbrev pub bytes_in : Form → List ℕ
bytes_in (Short short) = short.bytes
bytes_in (Long long) = long
