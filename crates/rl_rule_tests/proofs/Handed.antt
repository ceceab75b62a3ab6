-- What is handed to a ruler, and a ruler that is fresh.
use Rattle.std.proofs.Common.{◌≡◌, ℕ, zero, suc, ◌+◌, ◌<◌, Bool, List, [], ◌∷◌, ◌++◌, map, take, length, Option, None, Some, is_some, option_map, Result, refl, ap, sym, subst, ◌∙◌, arith}
use Rattle.std.proofs.lemmas.List.{map-append}
use Rattle.std.specs.List.{AllByRecursion}
use Rattle.rl_labels.specs.EntryAnswers.{entry_fault}
use Rattle.rl_labels.specs.LabelSet.{LabelSet}
use Rattle.rl_labels.specs.declared.entry.Entry.{Entry}
use Rattle.rl_rules.specs.declared.rule.Group.{Group}
use Rattle.rl_records.specs.declared.step.ShardReply.{ShardReply}
use Rattle.rl_sinks.specs.SinkState.{SinkState}
use Rattle.rl_world.specs.BookCalls.{books_from}
use Rattle.rl_world.specs.WorldState.{BookState}
use Rattle.rl_world.specs.declared.fault.Refusal.{Refusal}
use Rattle.rl_session.specs.Names.{push_refusal}
use Rattle.rl_rule_tests.specs.declared.lines.TestLine.{TestLine}
use Rattle.rl_rule_tests.specs.declared.lines.Stream.{Stream}
use Rattle.rl_rule_tests.specs.Playing.{moment_of, IsHanded, IsHandedParts, IsTextOf, Ruler}

pub parts_handed : {E : Type 0} (ruler : Ruler E) (old new : E) (labels : LabelSet) (moment : ℕ) (text : List ℕ) (entry : Entry) (answer : Result ShardReply Refusal) (refused : Bool)
    → entry_fault labels text ≡ None → entry.labels ≡ labels → entry.timestamp ≡ moment → entry.line ≡ text → ruler.pushes old entry answer new → refused ≡ is_some (push_refusal answer) → IsHandedParts ruler old labels moment text refused new
parts_handed ruler old new labels moment text entry answer refused fault of_labels at line pushed report = rw fault (entry, of_labels, at, line, answer, pushed, report)

pub line_handed : {E : Type 0} (ruler : Ruler E) (old new : E) (stream : Stream) (line : TestLine) (labels : LabelSet) (moment : ℕ) (text : List ℕ) (refused : Bool)
    → moment_of line.moment line.before ≡ Some moment → IsTextOf line text → labels ≡ stream.labels → IsHandedParts ruler old labels moment text refused new → IsHanded ruler old (stream, line) refused new
line_handed ruler old new stream line labels moment text refused fits is same handed = rw fits (text, is, subst (λ labels. IsHandedParts ruler old labels moment text refused new) same handed)

pub all_more : {A : Type 0} (P : A → Type 0) (xs : List A) (x : A) → AllByRecursion P xs → P x → AllByRecursion P (xs ++ x ∷ [])
all_more P [] x all is = (is, tt)
all_more P (y ∷ ys) x all is = (all.0, all_more P ys x all.1 is)

pub fresh_books : (records count : ℕ) (copies groups : List Group) (sinks : List (List SinkState)) (books : List BookState)
    → books ≡ books_from 0 records count copies sinks → count ≡ 1 → copies ≡ groups → sinks ≡ map (λ _. []) copies → books ≡ books_from 0 records 1 groups (map (λ _. []) groups)
fresh_books records count copies groups sinks books are one same none =
    are ∙ ap (λ n. books_from 0 records n copies sinks) one ∙ ap (λ s. books_from 0 records 1 copies s) none ∙ ap (λ all. books_from 0 records 1 all (map (λ _. []) all)) same

-- a name is given where there is one
pub some_reported : {A B : Type 0} (f : A → B) (o : Option A) (report : Option B) → option_map f o ≡ report → is_some o ≡ is_some report
some_reported f None report same = ap is_some same
some_reported f (Some x) report same = ap is_some same

same_more : {A B : Type 0} (b : B) (xs : List A) (i : ℕ) → i < length xs → map (λ _. b) (take (i + 1) xs) ≡ map (λ _. b) (take i xs) ++ b ∷ []
same_more b [] i below = absurd (omega (arith, below))
same_more b (x ∷ xs) zero below = refl
same_more b (x ∷ xs) (suc i) below =
    let next : suc i + 1 ≡ suc (i + 1) = omega arith in
    rw next (ap (λ rest. b ∷ rest) (same_more b xs i (omega (arith, below))))

-- one more for the next group, and nothing in it
pub none_more : {A B C : Type 0} (f : A → List C) (old pushed : List A) (new : A) (xs : List B) (i : ℕ) → pushed ≡ old ++ new ∷ [] → f new ≡ [] → map f old ≡ map (λ _. []) (take i xs) → i < length xs → map f pushed ≡ map (λ _. []) (take (i + 1) xs)
none_more f old pushed new xs i is none before below =
    ap (map f) is ∙ map-append f old (new ∷ []) ∙ ap (λ front. front ++ f new ∷ []) before ∙ ap (λ last. map (λ _. []) (take i xs) ++ last ∷ []) none ∙ sym (same_more [] xs i below)
