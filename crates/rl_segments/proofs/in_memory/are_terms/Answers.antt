-- Each text is that of its term.
use Rattle.std.proofs.Common.{List, [], ◌∷◌, length, map, subst, ap, ◌∙◌}
use Rattle.std.proofs.lemmas.List.{length-map}
use Rattle.std.specs.List.{AllByRecursion}
use Rattle.rl_query.specs.declared.query.Term.{Term}
use Rattle.rl_records.specs.Prints.{term_print}
use Rattle.rl_segments.specs.Records.{IsNumber, IsText}
use Rattle.rl_segments.proofs.in_memory.are_terms.Goals as goal

of_terms : (terms : List Term) → AllByRecursion IsText (map term_print terms) → AllByRecursion (λ term. IsText (term_print term)) terms
of_terms [] texts = tt
of_terms (term ∷ terms) texts = (texts.0, of_terms terms texts.1)

pub returns : goal.returns
returns c = (
  subst IsNumber (ap length c.texts-texts.ensures ∙ length-map c.args.terms.now term_print) c.is_number.ensures,
  of_terms c.args.terms.now (subst (AllByRecursion IsText) c.texts-texts.ensures c.are_texts.ensures),
)
