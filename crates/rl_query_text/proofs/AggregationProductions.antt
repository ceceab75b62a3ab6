-- The productions of what stands around a term: what is read is derived, and what is derived is read.
use Rattle.rl_labels.specs.Name.{is_name, is_text}
use Rattle.rl_labels.specs.laws.LabelLaws.{same_text}
use Rattle.rl_query.specs.Aggregations.{is_grouping, top_of}
use Rattle.rl_query.specs.Form.{AggregationForm}
use Rattle.rl_query.specs.Tables.{operator_word, plain_operators, plain_operator}
use Rattle.rl_query.specs.declared.aggregation.Grouping.TheVariants as groupings
use Rattle.rl_query.specs.declared.aggregation.Grouping.{Grouping}
use Rattle.rl_query.specs.declared.aggregation.VectorOperator.TheVariants as operators
use Rattle.rl_query.specs.declared.aggregation.VectorOperator.{VectorOperator}
use Rattle.rl_query.specs.declared.token.Lexeme.{Lexeme}
use Rattle.rl_query.specs.declared.token.Sign.TheVariants as signs
use Rattle.rl_query.specs.declared.token.Token.TheVariants as tokens
use Rattle.rl_query.specs.declared.token.Token.{Token}
use Rattle.rl_query_text.proofs.Parentheses.{IsOpened, inside_room, opened_is, opened_read}
use Rattle.rl_selector_text.proofs.Finding.{Finds, found, fault, then, by_test, of_option, next_found, stands_as}
use Rattle.rl_selector_text.proofs.Productions.{First, first_at, text_found, named_found, follows, follows_found, IsSoundItem, IsCompleteItem, listed_found, listed_is, first_listed, stood, stand_split, stand_then, next_is, expected_found, expected_is, only_sign}
use Rattle.rl_selector_text.proofs.TestProductions.{only_word}
use Rattle.rl_query_text.specs.AggregationReading.{back_at, ended_at, front_at, grouped_at, groups_loudly, grouping_at, is_operator_word, label_name, named_at, names_in, nested, operator_at, top_at, topk_at}
use Rattle.rl_selector_text.specs.Fronts.{expected, is_sign, next}
use Rattle.rl_selector_text.specs.Standing.{Stand}
use Rattle.rl_selector_text.specs.Stops.{offset_of}
use Rattle.rl_query_text.specs.TermGrammar.{IsGrouping, IsParameter, OneSide, names_tokens}
use Rattle.rl_selector_text.specs.Testing.{is_word}
use Rattle.rl_query_text.specs.declared.aggregation_reading.Front.{Front}
use Rattle.rl_selector_text.specs.declared.front.Position.TheVariants as positions
use Rattle.rl_selector_text.specs.declared.room.Room.{Room}
use Rattle.std.proofs.Common.{List, Ok, Option, Some, [], ap, codes, false, inl, inr, is_some, length, refl, subst, suc, sym, true, zero, ℕ, ◌||◌, ◌∙◌, ◌∷◌, ◌≡◌}
use Rattle.std.proofs.lemmas.Option.{none-some}
use Rattle.std.specs.List.{list_all}

-- Groupings.

abbrev name_tokens : List ℕ → List Token
name_tokens name = tokens.Word name ∷ []

label_found : (offset : ℕ) (token : Token) → Finds (λ name. (token ≡ tokens.Word name) × (is_name name ≡ true)) (label_name offset token)
label_found offset token = then _ (named_found offset token) (λ name shown. by_test (is_name name) (λ is. found (shown, is)) (λ _. fault))

named_read : IsSoundItem name_tokens is_name signs.CloseParenthesis named_at
unfolding named_at
named_read lexemes =
    then _ (next_found lexemes) (λ first a.
    then _ (label_found first.0.offset first.0.token) (λ name label.
    then _ (next_found first.1) (λ sign b.
    then _ (follows_found signs.CloseParenthesis sign.0.token _) (λ more shown.
    found (stand_then (name_tokens name) (follows signs.CloseParenthesis more ∷ []) lexemes first.1 sign.1 (stands_as lexemes first.1 label.0 a) (stands_as first.1 sign.1 shown b), label.1)))))

named_is : IsCompleteItem name_tokens is_name signs.CloseParenthesis named_at
unfolding named_at
named_is lexemes name true rest stand proper = rw (stood (tokens.Word name ∷ tokens.Sign signs.Comma ∷ []) lexemes rest stand, proper) refl
named_is lexemes name false rest stand proper = rw (stood (tokens.Word name ∷ tokens.Sign signs.CloseParenthesis ∷ []) lexemes rest stand, proper) refl

-- names, or none, and the sign that closes them
abbrev AreNames : List (List ℕ) → List Lexeme → List Lexeme → Type 0
AreNames names lexemes rest = Stand (names_tokens names) lexemes rest × (list_all is_name names ≡ true)

in_read : (lexemes : List Lexeme) → Finds (λ x. AreNames x.0 lexemes x.1) (names_in lexemes)
unfolding names_in
in_read lexemes = then _ (next_found lexemes) (λ first stand. by_test (is_sign signs.CloseParenthesis first.0.token)
    (λ none. found (stands_as lexemes first.1 (only_sign signs.CloseParenthesis first.0.token none) stand, refl))
    (λ _. record {
      is = λ x h. let are = (listed_found name_tokens is_name signs.CloseParenthesis named_at names_tokens (λ _. refl) (λ _ _ _. refl) named_read (length lexemes) lexemes).is x h in (are.0, are.1);
    }))

in_is : (names : List (List ℕ)) (lexemes rest : List Lexeme) → AreNames names lexemes rest → names_in lexemes ≡ Ok (names, rest)
unfolding names_in
in_is [] lexemes rest are = rw (stood (tokens.Sign signs.CloseParenthesis ∷ []) lexemes rest are.0) refl
in_is (name ∷ names) lexemes rest are =
    let listed = first_listed name_tokens is_name signs.CloseParenthesis named_at names_tokens (λ _. refl) (λ _ _ _. refl) name names in
    let first = next_is (tokens.Word name) listed.0 lexemes rest (subst (λ ts. Stand ts lexemes rest) listed.1 are.0) in
    rw (first.is, listed_is name_tokens is_name signs.CloseParenthesis named_at names_tokens (λ _. refl) (λ _ _ _. refl) named_is name names lexemes rest are.0 are.1) refl

-- a word and names in parentheses
abbrev AreGrouped : (word : List ℕ) → List (List ℕ) → List Lexeme → List Lexeme → Type 0
AreGrouped word names lexemes rest = Stand (tokens.Word word ∷ tokens.Sign signs.OpenParenthesis ∷ names_tokens names) lexemes rest × (list_all is_name names ≡ true)

grouped_read : (room : Room) (word : List ℕ) (lexemes following : List Lexeme) → Stand (tokens.Word word ∷ []) lexemes following → Finds (λ x. AreGrouped word x.0 lexemes x.1) (grouped_at room following)
unfolding grouped_at
grouped_read room word lexemes following stand =
    then _ (opened_read positions.Elsewhere room following) (λ opened is. record {
      is = λ x h.
          let inside = (in_read opened.1).is x h in
          (stand_then (tokens.Word word ∷ []) (tokens.Sign signs.OpenParenthesis ∷ names_tokens x.0) lexemes following x.1 stand (stand_then (tokens.Sign signs.OpenParenthesis ∷ []) (names_tokens x.0) following opened.1 x.1 is.stand inside.0), inside.1);
    })

-- after the word
grouped_is : (room : Room) (depth : ℕ) (word : List ℕ) (names : List (List ℕ)) (lexemes rest : List Lexeme) → room.depth ≡ suc depth → AreGrouped word names lexemes rest → (offset : ℕ) × (following : List Lexeme) × (next lexemes ≡ Ok (record { token = tokens.Word word; offset = offset }, following)) × (grouped_at room following ≡ Ok (names, rest))
unfolding grouped_at
grouped_is room depth word names lexemes rest deep are =
    let first = next_is (tokens.Word word) (tokens.Sign signs.OpenParenthesis ∷ names_tokens names) lexemes rest are.0 in
    let split = stand_split (tokens.Sign signs.OpenParenthesis ∷ []) (names_tokens names) first.following rest first.more in
    (first.offset, first.following, first.is, rw (opened_is positions.Elsewhere room depth first.following split.0 deep split.1, in_is names split.0 rest (split.2, are.1)) refl)

pub grouping_read : (room : Room) (lexemes : List Lexeme) → Finds (λ x. IsGrouping x.0 lexemes x.1) (grouping_at room lexemes)
unfolding grouping_at
grouping_read room lexemes = then _ (next_found lexemes) (λ first stand. by_test (is_word (codes "by") first.0.token)
    (λ by. then _ (grouped_read room (codes "by") lexemes first.1 (stands_as lexemes first.1 (only_word (codes "by") first.0.token by) stand)) (λ names are. found are))
    (λ _. by_test (is_word (codes "without") first.0.token)
    (λ without. then _ (grouped_read room (codes "without") lexemes first.1 (stands_as lexemes first.1 (only_word (codes "without") first.0.token without) stand)) (λ names are. found are))
    (λ _. by_test (groups_loudly first.0.token) (λ _. fault) (λ _. found (refl, refl)))))

-- the names of a grouping that is read are those that labels may have
pub grouping_named : (room : Room) (lexemes : List Lexeme) (grouping : Grouping) (rest : List Lexeme) → grouping_at room lexemes ≡ Ok (grouping, rest) → is_grouping grouping ≡ true
grouping_named room lexemes grouping rest h = ((grouping_read room lexemes).is (grouping, rest) h).1

-- no grouping comes
abbrev pub ends_term : Token → Type 0
ends_term token = (is_word (codes "by") token ≡ false) × (is_word (codes "without") token ≡ false) × (groups_loudly token ≡ false)

abbrev pub EndsTerm : List Lexeme → Type 0
EndsTerm = First ends_term

grouping_is : (room : Room) (depth : ℕ) (grouping : Grouping) (lexemes rest : List Lexeme) → room.depth ≡ suc depth → IsGrouping grouping lexemes rest → EndsTerm rest → grouping_at room lexemes ≡ Ok (grouping, rest)
unfolding grouping_at
grouping_is room depth groupings.All lexemes rest deep is ends = rw (is.0, ends.is, ends.passes.0, ends.passes.1, ends.passes.2) refl
grouping_is room depth (groupings.By names) lexemes rest deep is ends = let a = grouped_is room depth (codes "by") names lexemes rest deep is in rw (a.2, a.3) refl
grouping_is room depth (groupings.Without names) lexemes rest deep is ends = let a = grouped_is room depth (codes "without") names lexemes rest deep is in rw (a.2, a.3) refl

-- Operators.

top_at_found : (offset : ℕ) (token : Token) → Finds (λ k. (number : List ℕ) × (token ≡ tokens.Number number) × (top_of number ≡ Some k)) (top_at offset token)
top_at_found offset (tokens.Number number) = of_option Ok (top_of number) (λ k is. found (number, refl, is)) (λ _. fault)
top_at_found offset _ = fault

-- an operator without a number of samples
no_parameter : (word : List ℕ) (operator : VectorOperator) (lexemes : List Lexeme) → plain_operator word ≡ Some operator → word ≡ operator_word operator → IsParameter operator lexemes lexemes
no_parameter word (operators.Topk k) lexemes h is = absurd (none-some _ (subst (λ w. plain_operator w ≡ Some (operators.Topk k)) is h))
no_parameter word _ lexemes h is = refl

operator_found : (word : List ℕ) (lexemes : List Lexeme) → is_operator_word word ≡ true → Finds (λ x. (word ≡ operator_word x.0) × IsParameter x.0 lexemes x.1) (operator_at word lexemes)
unfolding topk_at
operator_found word lexemes is = of_option _ (plain_operator word)
    (λ operator plain. let known = text_found operator_word word plain_operators operator plain in found (known, no_parameter word operator lexemes plain known))
    (λ none. let topk : is_text word (codes "topk") ≡ true = sym (ap (λ (o : Option VectorOperator). is_some o || is_text word (codes "topk")) none) ∙ is in
    then _ (next_found lexemes) (λ first stand.
    then _ (top_at_found first.0.offset first.0.token) (λ top number.
    then _ (expected_found signs.Comma positions.Elsewhere first.1) (λ following comma.
    let there = stand_then (tokens.Number number.0 ∷ []) (tokens.Sign signs.Comma ∷ []) lexemes first.1 following (stands_as lexemes first.1 number.1 stand) comma in
    found (same_text word (codes "topk") topk, (number.0, there, number.2))))))

operator_is : (operator : VectorOperator) (lexemes rest : List Lexeme) → IsParameter operator lexemes rest → operator_at (operator_word operator) lexemes ≡ Ok (operator, rest)
unfolding topk_at expected
operator_is (operators.Topk k) lexemes rest is = rw (stood (tokens.Number is.0 ∷ tokens.Sign signs.Comma ∷ []) lexemes rest is.1, is.2) refl
operator_is operator lexemes rest is = ap (λ r. Ok (operator, r)) is

pub word_of_operator : (operator : VectorOperator) → is_operator_word (operator_word operator) ≡ true
word_of_operator operators.Sum = refl
word_of_operator _ = refl

-- What stands in front of a term and after it.

pub record IsFront (word : List ℕ) (nest : ℕ) (room : Room) (front : Front) (lexemes rest : List Lexeme) : Type 0 where
  pub after_grouping : List Lexeme
  pub after_parenthesis : List Lexeme
  pub fewer : nest ≡ suc front.nest
  pub grouped : IsGrouping front.grouping lexemes after_grouping
  pub opened : IsOpened room front.room after_grouping after_parenthesis
  pub word_is : word ≡ operator_word front.operator
  pub parameter : IsParameter front.operator after_parenthesis rest

nested_found : (offset nest : ℕ) → Finds (λ fewer. nest ≡ suc fewer) (nested offset nest)
nested_found offset zero = fault
nested_found offset (suc nest) = found refl

pub front_found : (word : List ℕ) (nest : ℕ) (room : Room) (lexemes : List Lexeme) → is_operator_word word ≡ true → Finds (λ x. IsFront word nest room x.0 lexemes x.1) (front_at word nest room lexemes)
unfolding front_at
front_found word nest room lexemes is =
    then _ (nested_found (offset_of lexemes) nest) (λ inner fewer.
    then _ (grouping_read room lexemes) (λ grouping grouped.
    then _ (opened_read positions.Elsewhere room grouping.1) (λ following opened.
    then _ (operator_found word following.1 is) (λ operator known.
    found (record { after_grouping = grouping.1; after_parenthesis = following.1; fewer = fewer; grouped = grouped; opened = opened; word_is = known.0; parameter = known.1 })))))

-- the grouping after a term
back_found : (front : Grouping) (room : Room) (lexemes : List Lexeme) → Finds (λ x. (back : Grouping) × IsGrouping back lexemes x.1 × OneSide front back x.0) (back_at front room lexemes)
back_found groupings.All room lexemes = record { is = λ x h. (x.0, (grouping_read room lexemes).is x h, inr (refl, refl)) }
back_found _ room lexemes = found (groupings.All, (refl, refl), inl (refl, refl))

pub record IsEnded (front : Front) (aggregation : AggregationForm) (lexemes rest : List Lexeme) : Type 0 where
  pub following : List Lexeme
  pub closed : Stand (tokens.Sign signs.CloseParenthesis ∷ []) lexemes following
  pub operator : front.operator ≡ aggregation.operator
  pub back : (back : Grouping) × IsGrouping back following rest × OneSide front.grouping back aggregation.grouping

pub ended_found : (front : Front) (room : Room) (lexemes : List Lexeme) → Finds (λ x. IsEnded front x.0 lexemes x.1) (ended_at front room lexemes)
unfolding ended_at
ended_found front room lexemes =
    then _ (expected_found signs.CloseParenthesis positions.AfterTerm lexemes) (λ following closed.
    then _ (back_found front.grouping room following) (λ grouping back.
    found (record { following = following; closed = closed; operator = refl; back = back })))

-- what stands in front of a term
abbrev pub front_of : VectorOperator → Grouping → (fewer : ℕ) → Room → Front
front_of operator grouping fewer room = record { operator = operator; grouping = grouping; nest = fewer; room = room }

pub front_is : (operator : VectorOperator) (grouping : Grouping) (fewer : ℕ) (room : Room) (depth : ℕ) (lexemes after_grouping after_parenthesis rest : List Lexeme) → room.depth ≡ suc depth → IsGrouping grouping lexemes after_grouping → Stand (tokens.Sign signs.OpenParenthesis ∷ []) after_grouping after_parenthesis
    → IsParameter operator after_parenthesis rest → front_at (operator_word operator) (suc fewer) room lexemes ≡ Ok (front_of operator grouping fewer (inside_room room depth), rest)
unfolding front_at
front_is operator grouping fewer room depth lexemes after_grouping after_parenthesis rest deep grouped opened parameter =
    let ends = first_at (tokens.Sign signs.OpenParenthesis) [] after_grouping after_parenthesis opened (refl, refl, refl) in
    rw (grouping_is room depth grouping lexemes after_grouping deep grouped ends, opened_is positions.Elsewhere room depth after_grouping after_parenthesis deep opened, operator_is operator after_parenthesis rest parameter) refl

back_is : (room : Room) (depth : ℕ) (front back grouping : Grouping) (lexemes rest : List Lexeme) → room.depth ≡ suc depth → OneSide front back grouping → IsGrouping back lexemes rest → EndsTerm rest → back_at front room lexemes ≡ Ok (grouping, rest)
back_is room depth front back grouping lexemes rest deep (inr sides) is ends =
    ap (λ g. back_at g room lexemes) sides.0 ∙ grouping_is room depth grouping lexemes rest deep (subst (λ g. IsGrouping g lexemes rest) sides.1 is) ends
back_is room depth groupings.All back grouping lexemes rest deep (inl sides) is ends = grouping_is room depth grouping lexemes rest deep (subst (λ g. IsGrouping g lexemes rest) (sides.1 ∙ sides.0) is) ends
back_is room depth front back grouping lexemes rest deep (inl sides) is ends = let none = subst (λ g. IsGrouping g lexemes rest) sides.1 is in λ i. Ok (sides.0 i, none.0 i)

pub ended_is : (front : Front) (room : Room) (depth : ℕ) (back : Grouping) (aggregation : AggregationForm) (lexemes following rest : List Lexeme) → room.depth ≡ suc depth → front.operator ≡ aggregation.operator → Stand (tokens.Sign signs.CloseParenthesis ∷ []) lexemes following
    → OneSide front.grouping back aggregation.grouping → IsGrouping back following rest → EndsTerm rest → ended_at front room lexemes ≡ Ok (aggregation, rest)
unfolding ended_at
ended_is front room depth back aggregation lexemes following rest deep same closed sides is ends =
    rw (expected_is signs.CloseParenthesis positions.AfterTerm lexemes following closed, back_is room depth front.grouping back aggregation.grouping following rest deep sides is ends) (ap (λ o. Ok (record { operator = o; grouping = aggregation.grouping }, rest)) same)
