-- The head is sealed, and the stream stays in order.
use Rattle.std.proofs.Common.{◌≡◌, ◌<◌, ◌∷◌, ◌++◌, [], List, length, sym, ap, subst, ◌∙◌, arith}
use Rattle.std.proofs.lemmas.Bool.Decides.{nat_tests}
use Rattle.rl_labels.specs.declared.entry.Entry.{Entry}
use Rattle.rl_parts.specs.StreamParts.{PartView, unwritten, most_entries}
use Rattle.rl_parts.specs.StreamState.{IsInOrder}
use Rattle.rl_parts.proofs.Heads.{in_order_sealed}
use Rattle.rl_parts.proofs.stream.Stream.seal.Goals as goal

pub invariant_of-self-2 : goal.invariant_of-self-2
invariant_of-self-2 c =
    let labels = c.self.inside.labels in
    let head = c.self.inside.head.items in
    let some : 0 < length head = grind (arith, nat_tests, c.self.inside.head.ok.0, c.is_empty.ensures, c.if-is_empty.false) in
    let few : length head < most_entries = c.self.invariant.parts.few in
    let parts : c.seal_head.new.parts.items ≡ c.self.inside.parts.items ++ unwritten head ∷ [] = c.seal_head.ensures.parts ∙ ap (λ ps. ps ++ unwritten head ∷ []) c.reserve.ensures.items in
    subst (λ (ps : List PartView). IsInOrder (record { labels = labels; parts = ps; head = c.seal_head.new.head.items; newest = c.self.inside.newest }) c.seal_head.new.sealed_to) (sym parts)
    (subst (λ (es : List Entry). IsInOrder (record { labels = labels; parts = c.self.inside.parts.items ++ unwritten head ∷ []; head = es; newest = c.self.inside.newest }) c.seal_head.new.sealed_to) (sym c.seal_head.ensures.head)
    (in_order_sealed labels c.self.inside.parts.items head c.self.inside.newest c.self.inside.sealed_to c.seal_head.new.sealed_to c.self.invariant.parts.sealed c.self.invariant.up_to c.self.invariant.parts.growing some (omega arith) c.seal_head.ensures.sealed_to))
