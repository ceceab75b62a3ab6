-- What the pairs answer, case by case.
use Rattle.std.proofs.Common.{◌≡◌, ℕ, nat_lt, Bool, true, false, cond, not, List, Ok, Err, Result, length, refl, sym, ap, ◌∙◌, IsTrue}
use Rattle.std.proofs.lemmas.Bool.{and_from, le-leb, ltb-false}
use Rattle.rl_labels.specs.LabelSet.{Pair, LabelSet, labels_of, label, label_set_of, given}
use Rattle.std.specs.List.{filter}
use Rattle.rl_labels.specs.LabelText.{canonical_text, labels_text}
use Rattle.rl_labels.specs.Rising.{rises, has_value}
use Rattle.rl_labels.specs.Pairs.{names_are_good, has_same_name, longest_text, labels_from}
use Rattle.rl_labels.specs.declared.labels.LabelsFault.{LabelsFault}
use Rattle.rl_labels.specs.declared.labels.LabelsFault.TheVariants.{BadName, SameName, TooLong}
use Rattle.rl_labels.proofs.FromPairs.{Sorts, twice_sorts, once_sorts, no_same_name, set_sorts, text_sorts, given_by_set, named_from_good}
use Rattle.rl_labels.specs.EntryParts.{are_stream_labels}
use Rattle.rl_labels.specs.laws.LabelLaws.{names-label_set_of}
use Rattle.rl_labels.specs.Name.{is_stream_name}

-- the text of the pairs' label set is longer than a stream's may be
abbrev is_long : List Pair → Bool
is_long pairs = nat_lt longest_text (length (canonical_text (label_set_of pairs)))

abbrev answer : (good same long : Bool) → LabelSet → Result LabelSet LabelsFault
answer good same long set = cond (not good) (Err BadName) (cond same (Err SameName) (cond long (Err TooLong) (Ok set)))

answer_is : (pairs : List Pair) (good same long : Bool) → names_are_good pairs ≡ good → has_same_name pairs ≡ same → is_long pairs ≡ long → labels_from pairs ≡ answer good same long (label_set_of pairs)
unfolding labels_from
answer_is pairs good same long a b c =
    ap (λ g. answer g (has_same_name pairs) (is_long pairs) (label_set_of pairs)) a
    ∙ ap (λ s. answer good s (is_long pairs) (label_set_of pairs)) b
    ∙ ap (λ l. answer good same l (label_set_of pairs)) c

-- sorted pairs, of which those with a value are kept, are the answer by their text
pub kept_answer : (pairs sorted kept : List Pair) → Sorts pairs sorted → rises sorted ≡ true → kept ≡ filter has_value sorted → (long : Bool) → nat_lt longest_text (length (labels_text kept)) ≡ long → labels_from pairs ≡ cond long (Err TooLong) (Ok (label_set_of kept))
kept_answer pairs sorted kept sorts up kept_is long h =
    let text = text_sorts pairs sorted sorts up ∙ ap labels_text (sym kept_is) in
    let set = ap label_set_of kept_is ∙ set_sorts pairs sorted sorts up in
    answer_is pairs true false long sorts.good (no_same_name pairs (once_sorts pairs sorted sorts up)) (ap (λ t. nat_lt longest_text (length t)) text ∙ h)
    ∙ ap (λ s. cond long (Err TooLong) (Ok s)) (sym set)

pub same_names : (pairs sorted : List Pair) → Sorts pairs sorted → rises sorted ≡ false → labels_from pairs ≡ Err SameName
same_names pairs sorted sorts falls = answer_is pairs true true _ sorts.good (twice_sorts pairs sorted sorts falls) refl

pub bad_names : (pairs : List Pair) → names_are_good pairs ≡ false → labels_from pairs ≡ Err BadName
bad_names pairs bad = answer_is pairs false _ _ bad refl refl

-- what holds of pairs that make a label set
record Made (pairs : List Pair) (set : LabelSet) : Type 0 where
  good : names_are_good pairs ≡ true
  short : is_long pairs ≡ false
  set_is : set ≡ label_set_of pairs

made : (pairs : List Pair) (set : LabelSet) → labels_from pairs ≡ Ok set → Made pairs set
made pairs set e = by_cases (names_are_good pairs) (has_same_name pairs) (is_long pairs) refl refl refl
  where
    by_cases : (good same long : Bool) → names_are_good pairs ≡ good → has_same_name pairs ≡ same → is_long pairs ≡ long → Made pairs set
    by_cases false same long a b c = let no : Ok set ≡ Err BadName = sym e ∙ answer_is pairs false same long a b c in cc
    by_cases true true long a b c = let no : Ok set ≡ Err SameName = sym e ∙ answer_is pairs true true long a b c in cc
    by_cases true false true a b c = let no : Ok set ≡ Err TooLong = sym e ∙ answer_is pairs true false true a b c in cc
    by_cases true false false a b c =
        let same : Ok set ≡ Ok (label_set_of pairs) = sym e ∙ answer_is pairs true false false a b c in
        record { good = a; short = c; set_is = cc }

-- each name has the value that is given to it
pub given_answer : (pairs : List Pair) (set : LabelSet) → labels_from pairs ≡ Ok set → (name : List ℕ) → label set name ≡ given pairs name
given_answer pairs set e name =
    let is = made pairs set e in
    ap (λ s. label s name) is.set_is ∙ given_by_set pairs name is.good

-- and the set is that of a stream
pub stream_answer : (pairs : List Pair) (set : LabelSet) → labels_from pairs ≡ Ok set → IsTrue (are_stream_labels set)
stream_answer pairs set e =
    let is = made pairs set e in
    ap are_stream_labels is.set_is ∙ and_from (names_are_good (labels_of (label_set_of pairs))) _ (names-label_set_of is_stream_name pairs (named_from_good pairs is.good) is.good) (le-leb _ _ (ltb-false longest_text (length (canonical_text (label_set_of pairs))) is.short))
