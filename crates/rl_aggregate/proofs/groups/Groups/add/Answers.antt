-- The value of a group that is there already changes where it is, and that of a new one is inserted.
use Rattle.std.proofs.Common.{◌≡◌, cond, None, Some, IsSome, refl, sym, ap, subst, ◌∙◌, arith}
use Rattle.std.specs.BTreeMap.{is_at}
use Rattle.std.specs.FinMap as map
use Rattle.std.specs.Map.{lookup}
use Rattle.rl_labels.specs.LabelText.{label_set_cmp}
use Rattle.rl_labels.specs.laws.TextLaws.{label_set_cmp_total, label_set_cmp-IsAntisymmetric}
use Rattle.rl_plain.specs.laws.TreeMaps.{get-of_tree, one_set}
use Rattle.rl_aggregate.specs.GroupsMap.{with_value}
use Rattle.rl_aggregate.specs.declared.outcome.Fraction.{Fraction}
use Rattle.rl_aggregate.proofs.groups.Groups.add.Goals as goal

pub next_value-requires : goal.next_value-requires
next_value-requires c =
    let there : map.get c.args.self.now c.args.labels.now ≡ Some c.in-Some.group.now =
    ap (λ m. map.get m c.args.labels.now) (sym c.self.view_is) ∙ get-of_tree label_set_cmp_total c.self.inside.by_labels.entries c.args.labels.now ∙ sym c.in-Some.ensures.value in
    omega (arith, c.requires, ap (λ b. (with_value c.args.operator b c.args.value).numerator) there)

pub returns-in-Some : goal.returns-in-Some
returns-in-Some c =
    let es = c.self.inside.by_labels.entries in
    let made : Fraction = c.next_value.result in
    let found : Some c.in-Some.group.now ≡ lookup (is_at (label_set_cmp c.args.labels.now)) es = c.in-Some.ensures.value in
    let there : map.get c.args.self.now c.args.labels.now ≡ Some c.in-Some.group.now =
    ap (λ m. map.get m c.args.labels.now) (sym c.self.view_is) ∙ get-of_tree label_set_cmp_total es c.args.labels.now ∙ sym found in
    one_set label_set_cmp_total label_set_cmp-IsAntisymmetric es (c.get_mut.follows.lender made).entries c.args.labels.now made ((c.get_mut.follows.holds made).3 (subst (λ t. IsSome t) found refl)).0
    ∙ ap (λ m. map.insert m c.args.labels.now made) c.self.view_is
    ∙ ap (λ v. map.insert c.args.self.now c.args.labels.now v) (c.next_value.ensures ∙ ap (λ b. with_value c.args.operator b c.args.value) (sym there))

pub returns : goal.returns
returns c =
    let es = c.self.inside.by_labels.entries in
    let made : Fraction = c.first_value.result in
    let there : map.get c.args.self.now c.args.labels.now ≡ None =
    ap (λ m. map.get m c.args.labels.now) (sym c.self.view_is) ∙ get-of_tree label_set_cmp_total es c.args.labels.now ∙ sym c.in_default.ensures.value in
    one_set label_set_cmp_total label_set_cmp-IsAntisymmetric es c.insert.new.self.entries c.args.labels.now made (λ q.
    c.in_ok-insert.ensures.updates.0 q ∙ (λ i. cond (is_at (label_set_cmp (c.in_ok-try_copy.ensures i)) q) (Some made) (lookup (is_at (label_set_cmp q)) (c.get_mut.follows.holds-at-none i).entries)))
    ∙ ap (λ m. map.insert m c.args.labels.now made) c.self.view_is
    ∙ ap (λ v. map.insert c.args.self.now c.args.labels.now v) (c.first_value.ensures ∙ ap (λ b. with_value c.args.operator b c.args.value) (sym there))
