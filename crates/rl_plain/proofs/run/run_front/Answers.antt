-- A text may be cut after a run of the class.
use Rattle.std.proofs.Common.{sym, ap, subst, ◌∙◌}
use Rattle.std.specs.List.{prefix_len}
use Rattle.std.specs.Str.{IsCharBoundary}
use Rattle.rl_plain.proofs.run.run_front.Goals as goal

pub split_at-requires : goal.split_at-requires
split_at-requires g c = subst (IsCharBoundary c.args.text.now) (sym (c.run_len.ensures ∙ ap (prefix_len (g.C.ByteClass.has c.args.class.now)) c.as_bytes.ensures.value)) (g.met.C.ByteClass.cuts c.args.class.now c.args.text.now c.utf8.text)
