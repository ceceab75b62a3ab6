-- A byte more of a value is read, or it ends there.
use Rattle.std.proofs.Common.{◌≡◌, List, ◌∷◌, ℕ, sym, ap, subst, ◌∙◌}
use Rattle.std.proofs.lemmas.List.{nil_from_length}
use Rattle.rl_plain.specs.Answers.{Fails}
use Rattle.rl_segments.specs.LabelReading.{value_in}
use Rattle.rl_segments.proofs.Labels.{behind, value_alone, value_cut, value_ends, value_escapes, value_goes_on, value_none}
use Rattle.rl_segments.proofs.label_text.value_in.Goals as goal

pub returns-then-byte-eq34 : goal.returns-then-byte-eq34
returns-then-byte-eq34 c =
    let so_far = subst (λ (rest : List ℕ). behind c.loop-byte.value.items (value_in rest) ≡ value_in c.args.bytes.now) c.in-Some.ensures.cases.0 c.loop-byte.invariant in
    value_ends c.loop-byte.value.items c.in-Some.following.now c.in-Some.byte.now (value_in c.args.bytes.now) c.if-byte-eq34.true so_far

pub loop-byte-preserved-then-byte-ne92 : goal.loop-byte-preserved-then-byte-ne92
loop-byte-preserved-then-byte-ne92 c =
    let so_far = subst (λ (rest : List ℕ). behind c.loop-byte.value.items (value_in rest) ≡ value_in c.args.bytes.now) c.in-Some.ensures.cases.0 c.loop-byte.invariant in
    ap (λ (front : List ℕ). behind front (value_in c.in-Some.following.now)) c.in_ok-push.ensures.items
    ∙ value_goes_on c.loop-byte.value.items c.in-Some.following.now c.in-Some.byte.now c.if-byte-eq34.false c.if-byte-ne92.true ∙ so_far

pub returns-in_default-split_first : goal.returns-in_default-split_first
returns-in_default-split_first c =
    let none = nil_from_length c.in-Some.following.now c.in_default-split_first.ensures.cases in
    let so_far = subst (λ (rest : List ℕ). behind c.loop-byte.value.items (value_in rest) ≡ value_in c.args.bytes.now) (c.in-Some.ensures.cases.0 ∙ ap (λ (rest : List ℕ). c.in-Some.byte.now ∷ rest) none) c.loop-byte.invariant in
    subst (λ error. Fails error (value_in c.args.bytes.now)) (sym c.into.ensures) (sym so_far ∙ value_alone c.loop-byte.value.items c.in-Some.byte.now c.if-byte-eq34.false)

pub returns-in_default-unescape : goal.returns-in_default-unescape
returns-in_default-unescape c =
    let so_far = subst (λ (rest : List ℕ). behind c.loop-byte.value.items (value_in rest) ≡ value_in c.args.bytes.now) (c.in-Some.ensures.cases.0 ∙ ap (λ (rest : List ℕ). c.in-Some.byte.now ∷ rest) c.in-Some-split_first.ensures.cases.0) c.loop-byte.invariant in
    subst (λ error. Fails error (value_in c.args.bytes.now)) (sym c.into-in_default-unescape.ensures) (sym so_far ∙ value_cut c.loop-byte.value.items c.in-Some-split_first.others.now c.in-Some.byte.now c.in-Some-split_first.letter.now c.if-byte-eq34.false c.if-byte-ne92.false (sym c.in_default-unescape.ensures))

pub loop-byte-preserved : goal.loop-byte-preserved
loop-byte-preserved c =
    let so_far = subst (λ (rest : List ℕ). behind c.loop-byte.value.items (value_in rest) ≡ value_in c.args.bytes.now) (c.in-Some.ensures.cases.0 ∙ ap (λ (rest : List ℕ). c.in-Some.byte.now ∷ rest) c.in-Some-split_first.ensures.cases.0) c.loop-byte.invariant in
    ap (λ (front : List ℕ). behind front (value_in c.in-Some-split_first.others.now)) c.in_ok-push-2.ensures.items
    ∙ value_escapes c.loop-byte.value.items c.in-Some-split_first.others.now c.in-Some.byte.now c.in-Some-split_first.letter.now c.in-Some-unescape.own c.if-byte-eq34.false c.if-byte-ne92.false (sym c.in-Some-unescape.ensures) ∙ so_far

pub returns : goal.returns
returns c =
    let none = nil_from_length c.loop-byte.rest.now c.in_default.ensures.cases in
    let so_far = subst (λ (rest : List ℕ). behind c.loop-byte.value.items (value_in rest) ≡ value_in c.args.bytes.now) none c.loop-byte.invariant in
    subst (λ error. Fails error (value_in c.args.bytes.now)) (sym c.into-2.ensures) (sym so_far ∙ value_none c.loop-byte.value.items)
