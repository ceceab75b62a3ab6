-- The entries of the lines so far, without those that are covered.
use Rattle.std.proofs.Common.{◌≡◌, ◌++◌, List}
use Rattle.rl_labels.specs.declared.entry.Entry.{Entry}
use Rattle.rl_parts.specs.Rewriting.{AreOfLines, uncovered}
use Rattle.rl_parts.proofs.rewriting.uncovered_lines.Given as goal

abbrev pub invariant-loop-line : goal.invariant-loop-line
invariant-loop-line g l = record {
  split : l.yielded ++ l.line-iterator.rest.items ≡ l.fn.lines.items;
  read : (read : List Entry) × AreOfLines l.labels l.yielded read × (l.left.items ≡ uncovered (g.C.Covers.covers l.covered) read);
}
