-- Label sets that are tested equal are one.
use Rattle.std.proofs.Common.{◌≡◌, true, nat_eq, ◌&&◌, sym, subst, ◌∙◌, arith}
use Rattle.std.proofs.lemmas.Bool.{and_parts, and_from}
use Rattle.std.proofs.lemmas.Bool.Decides.{nat_tests}
use Rattle.rl_labels.specs.LabelText.{label_set_eq}
use Rattle.rl_labels.specs.laws.TextLaws.{label_set_eq-true, label_set_eq_itself}
use Rattle.rl_aggregate.specs.declared.outcome.Sample.{Sample}
use Rattle.rl_aggregate.proofs.outcome.SampleSame.is_same.Goals as goal

pub returns : goal.returns
returns c =
    let a : Sample = c.args.self.now in
    let b : Sample = c.args.other.now in (
      (λ is.
          let parts = and_parts _ _ (sym c.eq.ensures ∙ is) in
          let labels = label_set_eq-true a.labels b.labels parts.0 in
          let numerator : a.value.numerator ≡ b.value.numerator = grind (arith, nat_tests, parts.1) in
          let denominator : a.value.denominator ≡ b.value.denominator = grind (arith, nat_tests, parts.1) in
          λ i. record { labels = labels i; value = record { numerator = numerator i; denominator = denominator i } }),
      (λ same. c.eq.ensures ∙ subst (λ (o : Sample). label_set_eq a.labels o.labels && (nat_eq a.value.numerator o.value.numerator && nat_eq a.value.denominator o.value.denominator) ≡ true) same (and_from _ _ (label_set_eq_itself a.labels) (grind (arith, nat_tests)))),
    )
