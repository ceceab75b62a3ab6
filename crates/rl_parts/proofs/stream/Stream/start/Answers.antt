-- A stream of one entry is in order.
use Rattle.std.proofs.Common.{◌≡◌, [], ◌∷◌, ◌++◌, List, sym, ap, ◌∙◌}
use Rattle.rl_labels.specs.declared.entry.Entry.{Entry}
use Rattle.rl_parts.proofs.Heads.{one_in_order}
use Rattle.rl_parts.proofs.stream.Stream.start.Goals as goal

pub invariant_of-stream : goal.invariant_of-stream
invariant_of-stream c =
    let head : c.push.new.self.items ≡ c.args.entry ∷ [] = c.in_ok-push.ensures.items ∙ ap (λ (es : List Entry). es ++ c.new.result ∷ []) c.new-head.ensures.items ∙ ap (λ (e : Entry). e ∷ []) c.new.ensures in
    rw (head, c.new-2.ensures.items) (one_in_order c.in_ok-labels.labels c.args.entry c.get-2.result.now.timestamp (sym (c.in_ok-labels.ensures ∙ ap (λ (e : Entry). e.labels) c.get.ensures)))

pub invariant_of-stream-else-most-eq1 : goal.invariant_of-stream-else-most-eq1
invariant_of-stream-else-most-eq1 c =
    let head : c.push.new.self.items ≡ c.args.entry ∷ [] = c.in_ok-push.ensures.items ∙ ap (λ (es : List Entry). es ++ c.new.result ∷ []) c.new-head.ensures.items ∙ ap (λ (e : Entry). e ∷ []) c.new.ensures in
    rw (head, c.new-2.ensures.items) (one_in_order c.in_ok-labels.labels c.args.entry c.get-2.result.now.timestamp (sym (c.in_ok-labels.ensures ∙ ap (λ (e : Entry). e.labels) c.get.ensures)))
