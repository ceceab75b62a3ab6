-- Trees that are tested equal have equal entries, and so have those that make equal totals.
use Rattle.std.proofs.Common.{length, sym, ap, ◌∙◌}
use Rattle.std.proofs.lemmas.Bool.{eqb-true, eq-eqb}
use Rattle.std.proofs.lemmas.Map.Lookups.{btree_map_eq-Decides}
use Rattle.rl_aggregate.proofs.Maps.{totals_in, same_entries_in, labels_decided, total_decided}
use Rattle.rl_aggregate.proofs.totals.TotalsSame.is_same.Goals as goal

pub returns-then-len : goal.returns-then-len
returns-then-len c =
    let es = c.self.inside.by_labels.entries in
    let fs = c.other.inside.by_labels.entries in
    let decided = btree_map_eq-Decides labels_decided total_decided c.self.inside.by_labels c.other.inside.by_labels c.eq.result c.eq.ensures in (
      (λ is. sym c.self.view_is ∙ ap totals_in (decided.0 is) ∙ c.other.view_is),
      (λ same. decided.1 (same_entries_in es fs c.len.ensures.ordered c.len-2.ensures.ordered (c.self.view_is ∙ same ∙ sym c.other.view_is))),
    )

pub returns-else-len : goal.returns-else-len
returns-else-len c =
    let es = c.self.inside.by_labels.entries in
    let fs = c.other.inside.by_labels.entries in (
      (λ is. absurd (c.if-len.false (eqb-true c.len.result c.len-2.result is))),
      (λ same.
          let entries = same_entries_in es fs c.len.ensures.ordered c.len-2.ensures.ordered (c.self.view_is ∙ same ∙ sym c.other.view_is) in
          eq-eqb c.len.result c.len-2.result (c.len.ensures.len ∙ ap (λ l. length l) entries ∙ sym c.len-2.ensures.len)),
    )
