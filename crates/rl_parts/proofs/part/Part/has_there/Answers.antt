-- What is kept of the part is a note of its chunk.
use Rattle.std.proofs.Common.{◌≡◌, true, false, refl, sym, ap, subst, ◌∙◌}
use Rattle.std.specs.Prelude.{IsTrue, ◌↔◌}
use Rattle.std.specs.List.{Contains}
use Rattle.rl_parts.specs.StreamParts.{PartView}
use Rattle.rl_parts.specs.PartState.{part_at}
use Rattle.rl_parts.specs.StoreUse.{IsKept, Right}
use Rattle.rl_parts.specs.Reading.{IsWith, IsWithout, in_store}
use Rattle.rl_parts.specs.declared.part.Location.TheVariants.{Here, InStore}
use Rattle.rl_parts.specs.laws.AnswerLaws.{ok_then}
use Rattle.rl_parts.proofs.part.Part.has_there.Goals as goal

pub returns-in-InStore-clause-right : goal.returns-in-InStore-clause-right
returns-in-InStore-clause-right g c = λ kept honest.
    let here : part_at (InStore c.in-InStore.written) ≡ c.args.self.now = ap part_at (sym c.in-InStore.is) ∙ c.self.view_is in
    subst (λ (p : PartView). Right c.has_written.result (λ found. IsTrue found ↔ Contains (in_store p) c.args.entry.now)) here
    (c.has_written.ensures.right (subst (IsKept c.args.chunks.now c.args.entry.now.labels) (sym here) kept) honest)

pub returns-in-Here-clause-no : goal.returns-in-Here-clause-no
returns-in-Here-clause-no g c = λ found.
    let here : part_at (Here c.in-Here.field-0) ≡ c.args.self.now = ap part_at (sym c.in-Here.is) ∙ c.self.view_is in
    subst (IsWithout c.args.entry.now) here tt

pub returns-in-InStore-clause-yes : goal.returns-in-InStore-clause-yes
returns-in-InStore-clause-yes g c =
    let written = c.in-InStore.written in
    let here : part_at (InStore written) ≡ c.args.self.now = ap part_at (sym c.in-InStore.is) ∙ c.self.view_is in
    ok_then _ (λ found. found ≡ true → IsWith c.args.entry.now c.args.self.now) (λ found visited t. subst (IsWith c.args.entry.now) here (record { number = written.number; digest = written.digest }, refl, visited t)) c.has_written.result c.has_written.ensures.yes

pub returns-in-InStore-clause-no : goal.returns-in-InStore-clause-no
returns-in-InStore-clause-no g c =
    let written = c.in-InStore.written in
    let here : part_at (InStore written) ≡ c.args.self.now = ap part_at (sym c.in-InStore.is) ∙ c.self.view_is in
    ok_then _ (λ found. found ≡ false → IsWithout c.args.entry.now c.args.self.now) (λ found visited f. subst (IsWithout c.args.entry.now) here (visited f)) c.has_written.result c.has_written.ensures.no
