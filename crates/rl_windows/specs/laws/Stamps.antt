-- The order of stamps.
use Rattle.std.specs.Prelude.{◌≡◌, Option, None, Some, refl}
use Rattle.std.specs.Cmp.{IsTotalOrder, then_total, on_total, nat_cmp_total}
use Rattle.std.specs.Cmp.Lexicographic.{options_total}
use Rattle.std.specs.FinMap.{IsAntisymmetric, nat_cmp-IsAntisymmetric}
use Rattle.std.specs.Option.{option_cmp}
use Rattle.std.specs.Ordering.{nat_cmp, ordering_then, is_eq}
use Rattle.std.specs.declared.cmp.Ordering.{Ordering}
use Rattle.std.specs.declared.cmp.Ordering.TheVariants.{Less, Equal, Greater}
use Rattle.std.proofs.Common.{sym, ap, subst, T}
use Rattle.rl_labels.specs.LabelSet.{LabelSet}
use Rattle.rl_labels.specs.LabelText.{label_set_cmp}
use Rattle.rl_labels.specs.laws.TextLaws.{label_set_cmp_total, label_set_cmp-IsAntisymmetric}
use Rattle.rl_windows.specs.Buckets.{stamp_cmp}
use Rattle.rl_windows.specs.declared.element.Stamp.{Stamp}

pub stamp_cmp_total : IsTotalOrder stamp_cmp
stamp_cmp_total = then_total (on_total (λ (s : Stamp). s.timestamp) nat_cmp_total) (on_total (λ (s : Stamp). s.labels) (options_total label_set_cmp_total))

both_tie : (a b : Ordering) → ordering_then a b ≡ Equal → (a ≡ Equal) × (b ≡ Equal)
both_tie Less b e = absurd (subst (λ r. T (is_eq r)) (sym e) tt)
both_tie Equal b e = (refl, e)
both_tie Greater b e = absurd (subst (λ r. T (is_eq r)) (sym e) tt)

options_apart : (p q : Option LabelSet) → option_cmp label_set_cmp p q ≡ Equal → p ≡ q
options_apart None None e = refl
options_apart None (Some y) e = absurd (subst (λ r. T (is_eq r)) (sym e) tt)
options_apart (Some x) None e = absurd (subst (λ r. T (is_eq r)) (sym e) tt)
options_apart (Some x) (Some y) e = ap (λ l. Some l) (label_set_cmp-IsAntisymmetric x y e)

-- stamps that tie are one
pub stamp_cmp-IsAntisymmetric : IsAntisymmetric stamp_cmp
stamp_cmp-IsAntisymmetric a b e =
    let parts = both_tie (nat_cmp a.timestamp b.timestamp) (option_cmp label_set_cmp a.labels b.labels) e in
    let times = nat_cmp-IsAntisymmetric a.timestamp b.timestamp parts.0 in
    let labels = options_apart a.labels b.labels parts.1 in
    λ i. record { timestamp = times i; labels = labels i }
