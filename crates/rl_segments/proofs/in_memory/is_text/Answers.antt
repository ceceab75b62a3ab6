-- A text is UTF-8.
use Rattle.std.proofs.lemmas.Str.{is_utf8-from_IsUtf8}
use Rattle.rl_segments.proofs.in_memory.is_text.Goals as goal

pub returns : goal.returns
returns c = is_utf8-from_IsUtf8 c.args._text.now c.utf8._text
