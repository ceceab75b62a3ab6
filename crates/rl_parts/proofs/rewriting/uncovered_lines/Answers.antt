-- One line more.
use Rattle.std.proofs.Common.{◌≡◌, ◌++◌, [], ◌∷◌, sym, ap, ◌∙◌, append_assoc}
use Rattle.rl_parts.specs.Rewriting.{uncovered}
use Rattle.rl_parts.proofs.Leaving.{lines_more, uncovered-append}
use Rattle.rl_parts.proofs.rewriting.uncovered_lines.Goals as goal

pub loop-line-preserved : goal.loop-line-preserved
loop-line-preserved g c =
    let loop = c.loop-line in
    let before = loop.invariant in
    let line = c.in-Some.line in
    let entry = c.in_ok-entry.entry in
    let covers = g.C.Covers.covers c.args.covered.now in
    let next : loop.line-iterator.rest.items ≡ line ∷ c.next.new.self.rest.items = c.in-Some.ensures.steps.0 in
    record {
      split = append_assoc loop.yielded (line ∷ []) c.next.new.self.rest.items ∙ ap (λ rest. loop.yielded ++ rest) (sym next) ∙ before.split;
      read = (
        before.read.0 ++ entry ∷ [],
        lines_more c.args.labels.now loop.yielded before.read.0 line entry before.read.1 c.in_ok-entry.ensures.labels c.in_ok-entry.ensures.line,
        c.in_ok-push_uncovered.ensures ∙ ap (λ es. es ++ uncovered covers (entry ∷ [])) before.read.2 ∙ sym (uncovered-append covers before.read.0 (entry ∷ [])),
      );
    }
