-- The orders of matchers and of entries are total, and what ties in them is one.
use Rattle.std.specs.Prelude.{◌≡◌, ℕ, zero, suc, ◌≤◌, List, IsTrue, length, refl}
use Rattle.std.proofs.Common.{sym, ap, ◌∙◌}
use denote.Enum.Bare.{sameb}
use Rattle.std.specs.Ordering.{nat_cmp, eq_by_cmp, ordering_then}
use Rattle.std.specs.declared.cmp.Ordering.{Ordering}
use Rattle.std.specs.declared.cmp.Ordering.TheVariants.{Less, Equal, Greater}
use Rattle.std.specs.Cmp.{IsTotalOrder}
use Rattle.std.specs.FinSet.{IsAntisymmetric, nat_cmp-IsAntisymmetric}
use Rattle.std.proofs.lemmas.Cmp.{on_total, then_total, nat_cmp_total}
use Rattle.std.proofs.Props.{props}
use mathlib.Core.HLevel.{Σ_prop_path}
use Rattle.rl_labels.specs.Name.{is_name}
use Rattle.rl_labels.specs.LabelSet.{LabelSet}
use Rattle.rl_labels.specs.laws.LabelLaws.{name_cmp_total, name_cmp-IsAntisymmetric}
use Rattle.rl_labels.specs.laws.TextLaws.{label_set_cmp_total, label_set_cmp-IsAntisymmetric}
use Rattle.rl_labels.specs.MatcherOrder.{operator_index, matcher_cmp}
use Rattle.rl_labels.specs.Operators.{is_comparable}
use Rattle.rl_labels.specs.EntryOrder.{entry_cmp}
use Rattle.rl_labels.specs.EntryParts.{is_stream, longest_line}
use Rattle.rl_labels.specs.declared.matcher.Matcher.{Matcher}
use Rattle.rl_labels.specs.contracts.matcher.MatchOp.{the_type}
use Rattle.rl_labels.specs.declared.matcher.MatchOp.{MatchOp}
use Rattle.rl_labels.specs.declared.matcher.MatchOp.TheVariants as operators
use Rattle.rl_labels.specs.declared.entry.Entry.{Entry}

-- what ties in a chain of two orders ties in both
tied_both : (o p : Ordering) → ordering_then o p ≡ Equal → (o ≡ Equal) × (p ≡ Equal)
tied_both Less p h = cc
tied_both Equal p h = (refl, h)
tied_both Greater p h = cc

-- matchers with equal parts are one
pub same_matcher : (a b : Matcher) → a.name ≡ b.name → a.op ≡ b.op → a.value ≡ b.value → a ≡ b
same_matcher a b p q r =
    let name : ◌≡◌ {A = (n : List ℕ) × IsTrue (is_name n)} (a.name, a.named) (b.name, b.named) = Σ_prop_path (λ n. hlevel props) p in
    let compared : ◌≡◌ {A = MatchOp × List ℕ} (a.op, a.value) (b.op, b.value) = λ i. (q i, r i) in
    let wanted : ◌≡◌ {A = (c : MatchOp × List ℕ) × IsTrue (is_comparable c.0 c.1)} ((a.op, a.value), a.comparable) ((b.op, b.value), b.comparable) = Σ_prop_path (λ c. hlevel props) compared in
    λ i. record { name = (name i).0; op = (wanted i).0.0; value = (wanted i).0.1; named = (name i).1; comparable = (wanted i).1 }

-- the operator at an index of their order
abbrev operator_at : ℕ → MatchOp
operator_at zero = operators.Equal
operator_at (suc zero) = operators.NotEqual
operator_at (suc (suc zero)) = operators.Matches
operator_at (suc (suc (suc n))) = operators.NotMatches

operator_at-index : (op : MatchOp) → operator_at (operator_index op) ≡ op
operator_at-index operators.Equal = refl
operator_at-index operators.NotEqual = refl
operator_at-index operators.Matches = refl
operator_at-index operators.NotMatches = refl

same_operator : (a b : MatchOp) → operator_index a ≡ operator_index b → a ≡ b
same_operator a b e = sym (operator_at-index a) ∙ ap operator_at e ∙ operator_at-index b

-- operators are equal exactly where their indices tie
pub operators_tie : (a b : MatchOp) → sameb the_type a b ≡ eq_by_cmp nat_cmp (operator_index a) (operator_index b)
operators_tie operators.Equal operators.Equal = refl
operators_tie operators.NotEqual operators.NotEqual = refl
operators_tie operators.Matches operators.Matches = refl
operators_tie operators.NotMatches operators.NotMatches = refl
operators_tie operators.Equal b = refl
operators_tie operators.NotEqual b = refl
operators_tie operators.Matches b = refl
operators_tie operators.NotMatches b = refl

pub matcher_cmp_total : IsTotalOrder matcher_cmp
matcher_cmp_total = then_total (then_total (on_total (λ m. m.name) name_cmp_total) (on_total (λ m. operator_index m.op) nat_cmp_total)) (on_total (λ m. m.value) name_cmp_total)

pub matcher_cmp-IsAntisymmetric : IsAntisymmetric matcher_cmp
matcher_cmp-IsAntisymmetric a b tied =
    let both = tied_both _ _ tied in
    let first = tied_both _ _ both.0 in
    same_matcher a b (name_cmp-IsAntisymmetric _ _ first.0) (same_operator _ _ (nat_cmp-IsAntisymmetric _ _ first.1)) (name_cmp-IsAntisymmetric _ _ both.1)

-- entries with equal parts are one
pub same_entry : (a b : Entry) → a.labels ≡ b.labels → a.timestamp ≡ b.timestamp → a.line ≡ b.line → a ≡ b
same_entry a b p q r =
    let labels : ◌≡◌ {A = (s : LabelSet) × IsTrue (is_stream s)} (a.labels, a.of_stream) (b.labels, b.of_stream) = Σ_prop_path (λ s. hlevel props) p in
    let line : ◌≡◌ {A = (l : List ℕ) × (length l ≤ longest_line)} (a.line, a.fits) (b.line, b.fits) = Σ_prop_path (λ l. hlevel props) r in
    λ i. record { labels = (labels i).0; timestamp = q i; line = (line i).0; of_stream = (labels i).1; fits = (line i).1 }

pub entry_cmp_total : IsTotalOrder entry_cmp
entry_cmp_total = then_total (then_total (on_total (λ e. e.labels) label_set_cmp_total) (on_total (λ e. e.timestamp) nat_cmp_total)) (on_total (λ e. e.line) name_cmp_total)

pub entry_cmp-IsAntisymmetric : IsAntisymmetric entry_cmp
entry_cmp-IsAntisymmetric a b tied =
    let both = tied_both _ _ tied in
    let first = tied_both _ _ both.0 in
    same_entry a b (label_set_cmp-IsAntisymmetric _ _ first.0) (nat_cmp-IsAntisymmetric _ _ first.1) (name_cmp-IsAntisymmetric _ _ both.1)
