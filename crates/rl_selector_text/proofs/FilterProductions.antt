-- The productions of line filters: what is read is derived, and what is derived is read.
use Rattle.std.proofs.Common.{◌≡◌, ℕ, zero, suc, true, List, [], ◌∷◌, Some, None, is_some, Ok, refl, subst, arith}
use Rattle.std.specs.Option.{option_map_or}
use Rattle.std.proofs.lemmas.Bool.{and_parts, and_from}
use Rattle.rl_plain.specs.Answers.{◌>>=◌}
use Rattle.rl_query.specs.declared.filter.LineOp.{LineOp}
use Rattle.rl_query.specs.declared.filter.LineOp.TheVariants as lines
use Rattle.rl_query.specs.declared.token.Lexeme.{Lexeme}
use Rattle.rl_query.specs.declared.token.Sign.TheVariants as signs
use Rattle.rl_query.specs.declared.token.Token.{Token}
use Rattle.rl_query.specs.declared.token.Token.TheVariants as tokens
use Rattle.rl_query.specs.Form.{FilterForm}
use Rattle.rl_selector_text.specs.Standing.{Stand}
use Rattle.rl_selector_text.specs.Grammar.{filter_sign, filter_tokens, filters_tokens, AreFilters}
use Rattle.rl_query.specs.Limits.{is_filter}
use Rattle.rl_selector_text.specs.Fronts.{next}
use Rattle.rl_selector_text.specs.Parsing.{filter_op, filter_text, filter_at, filters_at}
use Rattle.rl_selector_text.proofs.Finding.{Finds, found, fault, then, by_test, of_option, checked, next_found, stands_as}
use Rattle.rl_selector_text.specs.Stops.{stop}
use Rattle.rl_query.specs.declared.fault.QueryFault.TheVariants as faults
use Rattle.rl_selector_text.proofs.Productions.{stood, stand_split, stand_then, First, first_at}

pub op_read : (t : Token) (op : LineOp) → filter_op t ≡ Some op → t ≡ tokens.Sign (filter_sign op)
op_read (tokens.Sign signs.Contains) op h = cc
op_read (tokens.Sign _) op h = cc
op_read _ op h = cc

pub op_is : (op : LineOp) → filter_op (tokens.Sign (filter_sign op)) ≡ Some op
op_is lines.Contains = refl
op_is _ = refl

text_read : (offset : ℕ) (t : Token) → Finds (λ value. t ≡ tokens.Text value) (filter_text offset t)
text_read offset (tokens.Text text) = found refl
text_read offset _ = fault

-- a line filter that was read stood there after its sign
pub filter_read : (lexemes following : List Lexeme) (op : LineOp) → Stand (tokens.Sign (filter_sign op) ∷ []) lexemes following → Finds (λ x. Stand (filter_tokens x.0) lexemes x.1 × (is_filter x.0.op x.0.text ≡ true)) (filter_at op following)
unfolding filter_at
filter_read lexemes following op sign =
    then _ (next_found following) (λ text stand.
    then _ (text_read text.0.offset text.0.token) (λ value is.
    then _ (checked (is_filter op value) (record { op = op; text = value }) (stop faults.BadRegex text.0.offset)) (λ filter proper.
    found (subst (λ (f : FilterForm). Stand (filter_tokens f) lexemes text.1 × (is_filter f.op f.text ≡ true)) proper.1 (stand_then (tokens.Sign (filter_sign op) ∷ []) (tokens.Text value ∷ []) lexemes following text.1 sign (stands_as following text.1 is stand), proper.0)))))

-- one turn of reading them
pub filters_turn : (most : ℕ) (lexemes : List Lexeme) → filters_at (suc most) lexemes ≡ (next lexemes >>= λ first. option_map_or (λ op. filter_at op first.1 >>= λ filter. filters_at most filter.1 >>= λ others. Ok (filter.0 ∷ others.0, others.1)) (filter_op first.0.token) (Ok ([], lexemes)))
unfolding filters_at
filters_turn most lexemes = refl

no_filters : (most : ℕ) (lexemes : List Lexeme) → AreFilters most [] lexemes lexemes
no_filters most lexemes = record { stand = refl; proper = refl; few = omega arith }

pub filters_read : (most : ℕ) (lexemes : List Lexeme) → Finds (λ x. AreFilters most x.0 lexemes x.1) (filters_at most lexemes)
unfolding filters_at
filters_read zero lexemes = then _ (next_found lexemes) (λ first stand. by_test (is_some (filter_op first.0.token)) (λ _. fault) (λ _. found (no_filters zero lexemes)))
filters_read (suc most) lexemes =
    then _ (next_found lexemes) (λ first stand. of_option _ (filter_op first.0.token)
    (λ op is. then _ (filter_read lexemes first.1 op (stands_as lexemes first.1 (op_read first.0.token op is) stand)) (λ filter one.
    then _ (filters_read most filter.1) (λ others more.
    found (record { stand = stand_then (filter_tokens filter.0) (filters_tokens others.0) lexemes filter.1 others.1 one.0 more.stand; proper = and_from (is_filter filter.0.op filter.0.text) _ one.1 more.proper; few = omega (arith, more.few) }))))
    (λ _. found (no_filters (suc most) lexemes)))

-- what follows the line filters, and begins none
abbrev pub Stops : List Lexeme → Type 0
Stops = First (λ token. filter_op token ≡ None)

pub filters_are : (most : ℕ) (filters : List FilterForm) (lexemes rest : List Lexeme) → AreFilters most filters lexemes rest → Stops rest → filters_at most lexemes ≡ Ok (filters, rest)
unfolding filters_at filter_at
filters_are zero [] lexemes rest are stops = rw (are.stand, stops.is, stops.passes) refl
filters_are (suc most) [] lexemes rest are stops = rw (are.stand, stops.is, stops.passes) refl
filters_are zero (f ∷ filters) lexemes rest are stops = absurd (omega (arith, are.few))
filters_are (suc most) (f ∷ filters) lexemes rest are stops =
    let parts = and_parts (is_filter f.op f.text) _ are.proper in
    let split = stand_split (filter_tokens f) (filters_tokens filters) lexemes rest are.stand in
    rw (stood (filter_tokens f) lexemes split.0 split.1, op_is f.op, parts.0, filters_are most filters split.0 rest (record { stand = split.2; proper = parts.1; few = omega (arith, are.few) }) stops) refl

-- a sign or the end begins no line filter
pub stops_at : (token : Token) (others : List Token) (lexemes rest : List Lexeme) → Stand (token ∷ others) lexemes rest → filter_op token ≡ None → Stops lexemes
stops_at = first_at
