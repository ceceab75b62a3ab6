-- The evaluation stands where the indices say.
use Rattle.std.proofs.Common.{◌≡◌, ℕ, List, slice_get, Some, sym, ap, ◌∙◌}
use Rattle.std.specs.Cmp.Lexicographic.{same_text}
use Rattle.std.proofs.lemmas.Option.{slice_get-get_or}
use Rattle.rl_audit.specs.Merged.{evaluation_indices}
use Rattle.rl_audit.proofs.Noting.{found_at}
use Rattle.rl_audit.proofs.notes.evaluation_at.Goals as goal

pub returns-then-eq-clause-right : goal.returns-then-eq-clause-right
returns-then-eq-clause-right g c =
    let items = c.args.book.now.history.items in
    let evaluation = c.in_ok-evaluation.evaluation.now in
    let index = c.in_ok-index.field-0.now in
    let number = c.args.number in
    let own = c.as_slice.result.now in
    let at = c.in_ok-index.ensures.lookup.3 in
    let own_is : own ≡ evaluation_indices 0 items = c.as_slice.ensures ∙ c.requires in
    let listed : slice_get (evaluation_indices 0 items) number ≡ Some index = ap (λ (xs : List ℕ). slice_get xs number) (sym own_is) ∙ slice_get-get_or own number 0 at.0 ∙ ap (λ (i : ℕ). Some i) (sym (at.1 0)) in
    (evaluation, found_at items number index evaluation (sym c.in_ok-evaluation.ensures.listed) listed, sym (same_text c.tail_digest.result c.args.digest.now (c.if-eq.ensures)) ∙ c.tail_digest.ensures)
