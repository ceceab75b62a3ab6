-- Repeated lines, turn by turn, and streams that are written out.
use Rattle.std.proofs.Common.{◌≡◌, ℕ, zero, suc, ◌+◌, ◌-◌, ◌*◌, ◌^◌, ◌<◌, min, Some, List, [], ◌∷◌, ◌++◌, ap, sym, arith}
use Rattle.std.specs.List.{AllZip}
use Rattle.toml.specs.Data.{Members}
use Rattle.rl_rules.specs.Document.{tables_at}
use Rattle.rl_rules.specs.declared.rule.RuleKind.{RuleKind}
use Rattle.rl_rule_tests.specs.declared.lines.Repeat.{Repeat}
use Rattle.rl_rule_tests.specs.declared.lines.Stream.{Stream}
use Rattle.rl_rule_tests.specs.Document.{line_at, lines_at, lines_from, repeated_from, sum_up_to, AreItems, IsExpansion, IsStream, IsUnexpanded}

lines_some : (repeat : Repeat) (index number left : ℕ) → 0 < left → lines_from repeat index number left ≡ line_at repeat index number ∷ lines_from repeat index (number + 1) (left - 1)
lines_some repeat index number zero some = absurd (omega (arith, some))
lines_some repeat index number (suc left) some = ap (λ n. line_at repeat index number ∷ lines_from repeat index (number + 1) n) (omega arith)

pub lines_next : (repeat : Repeat) (index number times : ℕ) → number < times → lines_from repeat index number (times - number) ≡ line_at repeat index number ∷ lines_from repeat index (number + 1) (times - (number + 1))
lines_next repeat index number times below =
    let left : times - number - 1 ≡ times - (number + 1) = omega arith in
    rw (sym left) (lines_some repeat index number (times - number) (omega (arith, below)))

-- a line of its parts
pub line_is : (repeat : Repeat) (index number moment next : ℕ) → moment ≡ sum_up_to repeat.steps.from (min (index * repeat.steps.step) (2 ^ 64 - 1)) → next ≡ sum_up_to index 1 → record { moment = moment; before = repeat.times - number - 1; number = Some next; text = repeat.line } ≡ line_at repeat index number
line_is repeat index number moment next at after = λ i. record { moment = at i; before = repeat.times - number - 1; number = Some (after i); text = repeat.line }

repeated_some : (repeat : Repeat) (index left : ℕ) → 0 < left → repeated_from repeat index left ≡ lines_at repeat index ++ repeated_from repeat (index + 1) (left - 1)
repeated_some repeat index zero some = absurd (omega (arith, some))
repeated_some repeat index (suc left) some = ap (λ n. lines_at repeat index ++ repeated_from repeat (index + 1) n) (omega arith)

pub repeated_next : (repeat : Repeat) (index count : ℕ) → index < count → repeated_from repeat index (count - index) ≡ lines_at repeat index ++ repeated_from repeat (index + 1) (count - (index + 1))
repeated_next repeat index count below =
    let left : count - index - 1 ≡ count - (index + 1) = omega arith in
    rw (sym left) (repeated_some repeat index (count - index) (omega (arith, below)))

all_expanded : (kind : RuleKind) (rule : List ℕ) (tables : List Members) (xs ys : List Stream) → AllZip (IsUnexpanded kind rule) tables xs → AllZip IsExpansion xs ys → AllZip (IsStream kind rule) tables ys
all_expanded kind rule [] [] [] are more = tt
all_expanded kind rule [] [] (y ∷ ys) are more = absurd more
all_expanded kind rule [] (x ∷ xs) ys are more = absurd are
all_expanded kind rule (t ∷ ts) [] ys are more = absurd are
all_expanded kind rule (t ∷ ts) (x ∷ xs) [] are more = absurd more
all_expanded kind rule (t ∷ ts) (x ∷ xs) (y ∷ ys) are more = ((x, are.0, more.0), all_expanded kind rule ts xs ys are.1 more.1)

pub zip_more : {A B : Type 0} (R : A → B → Type 0) (xs : List A) (ys : List B) (x : A) (y : B) → AllZip R xs ys → R x y → AllZip R (xs ++ x ∷ []) (ys ++ y ∷ [])
zip_more R [] [] x y all is = (is, tt)
zip_more R [] (b ∷ ys) x y all is = absurd all
zip_more R (a ∷ xs) [] x y all is = absurd all
zip_more R (a ∷ xs) (b ∷ ys) x y all is = (all.0, zip_more R xs ys x y all.1 is)

-- the same, where nothing but tables stands there
pub items_expanded : (kind : RuleKind) (rule key : List ℕ) (table : Members) (xs ys : List Stream) → AreItems (IsUnexpanded kind rule) key table xs → AllZip IsExpansion xs ys → AreItems (IsStream kind rule) key table ys
items_expanded kind rule key table xs ys are more = (are.0, all_expanded kind rule (tables_at key table) xs ys are.1 more)
