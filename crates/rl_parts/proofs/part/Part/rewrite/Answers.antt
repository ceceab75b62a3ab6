-- A part in memory is its entries.
use Rattle.std.proofs.Common.{◌≡◌, List, [], ◌∷◌, sym, ap, subst, ◌∙◌}
use Rattle.rl_labels.specs.declared.entry.Entry.{Entry}
use Rattle.rl_parts.specs.StreamParts.{PartView, IsPart}
use Rattle.rl_parts.specs.PartState.{part_at}
use Rattle.rl_parts.specs.Rewriting.{AreRewritten, IsChangedHere, gone_by, left_by}
use Rattle.rl_parts.specs.declared.part.Location.TheVariants.{Here}
use Rattle.rl_parts.proofs.Leaving.{here_rewritten}
use Rattle.rl_parts.proofs.part.Part.rewrite.Goals as goal

pub returns-in_ok-change-in-Here-clause-rewritten : goal.returns-in_ok-change-in-Here-clause-rewritten
returns-in_ok-change-in-Here-clause-rewritten g c =
    let covers = g.C.Covers.covers c.args.covered.now in
    let labels = c.args.labels.now in
    let change = c.in_ok-change-in-Here.change in
    let here : part_at (Here c.in-Here.entries) ≡ c.args.self.now = ap part_at (sym c.in-Here.is) ∙ c.self.view_is in
    let changed : IsChangedHere covers c.in-Here.entries change = subst (λ (es : List Entry). IsChangedHere covers es change) c.as_slice.ensures c.in_ok-change-in-Here.ensures in
    subst (λ (p : PartView). AreRewritten covers labels (p ∷ []) c.args.chunks.now (left_by p change) (gone_by p change) c.args.chunks.now) here
    (here_rewritten covers labels c.in-Here.entries change c.args.chunks.now (subst (IsPart labels) (sym here) c.requires) changed)
