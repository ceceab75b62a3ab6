-- What is a text is UTF-8.
use Rattle.std.proofs.Common.{Result, Ok, Err}
use Rattle.std.specs.Prelude.{OnOk}
use Rattle.std.proofs.lemmas.Str.{is_utf8-from_IsUtf8}
use Rattle.rl_chunks.proofs.writing.push_short_text.Goals as goal

either_way : {A E P : Type 0} (r : Result A E) → P → OnOk r P
either_way (Ok x) p = p
either_way (Err e) p = tt

pub returns-clause-text : goal.returns-clause-text
returns-clause-text c = either_way _ (is_utf8-from_IsUtf8 c.args.text.now c.utf8.text)
