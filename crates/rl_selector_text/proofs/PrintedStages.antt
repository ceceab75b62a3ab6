-- What is printed of stages is derived.
use Rattle.rl_selector_text.proofs.TestPrinted.{all_tests, is_test, prints_at}
use Rattle.rl_query.specs.TestDepth.{text_depth}
use Rattle.rl_query.specs.Limits.{is_filter}
use Rattle.rl_query.specs.Form.{by_tests, StageForm, by_filter, by_parser}
use Rattle.std.proofs.lemmas.Bool.{leb-true, and_parts}
use Rattle.std.proofs.Common.{◌&&◌, nat_le, ◌≡◌, ℕ, Bool, true, List, [], ◌∷◌, ◌++◌, refl}
use Rattle.std.specs.List.{list_all}
use Rattle.rl_labels.specs.Name.{is_name}
use Rattle.rl_query.specs.declared.stages.Parser.TheVariants as parsers
use Rattle.rl_query.specs.declared.label_test.Level.TheVariants as levels
use Rattle.rl_query.specs.declared.token.Sign.TheVariants as signs
use Rattle.rl_query.specs.declared.token.Token.TheVariants as tokens
use Rattle.rl_selector_text.specs.Grammar.{IsStage, AreChained}
use Rattle.rl_query.specs.Printing.{parser_text, stage_print, stages_text}
use Rattle.rl_selector_text.proofs.Printed.{Prints, Stops, prints_none, prints_as, then_prints, spaced, regrouped, token_then, done, filter_then}

-- where a stage has a pattern it is one, and at most `depth` parentheses of its tests are open at once
abbrev pub is_stage : (depth : ℕ) → StageForm → Bool
is_stage depth (by_filter filter) = is_filter filter.op filter.text
is_stage depth (by_parser parser) = true
is_stage depth (by_tests tests) = all_tests is_test tests && nat_le (text_depth tests) depth

-- a stage, and what does not go on with it
stage_prints : (depth : ℕ) (stage : StageForm) (rest : List ℕ) → is_stage depth stage ≡ true → Stops rest → Prints (IsStage depth stage) (stage_print stage ++ rest) rest
stage_prints depth (by_filter filter) rest proper stop = prints_as (filter_then filter rest done) (λ a b stand. (stand, proper))
stage_prints depth (by_parser parser) rest proper stop =
    token_then (tokens.Sign signs.Pipe) _ refl (spaced (token_then (tokens.Word (parser_text parser)) rest (elim parser as (λ p. is_name (parser_text p) ≡ true) [ parsers.Json ↦ refl | _ ↦ refl ], stop) done))
stage_prints depth (by_tests tests) rest proper stop =
    let parts = and_parts (all_tests is_test tests) (nat_le (text_depth tests) depth) proper in
    let are = prints_at tests parts.0 levels.Tests depth rest (leb-true (text_depth tests) depth parts.1) stop in
    prints_as (then_prints (token_then (tokens.Sign signs.Pipe) _ refl done) (spaced are)) (λ a b is. record { following = is.0; pipe = is.1; are = is.2 })

pub stages_print : (depth : ℕ) (stages : List StageForm) (rest : List ℕ) → list_all (is_stage depth) stages ≡ true → Stops rest → Prints (AreChained depth stages) (stages_text stages ++ rest) rest
stages_print depth [] rest proper stop = prints_none rest (λ _. refl)
stages_print depth (stage ∷ stages) rest proper stop =
    let parts = and_parts (is_stage depth stage) (list_all (is_stage depth) stages) proper in
    let ends = elim stages as (λ others. Stops (stages_text others ++ rest)) [ [] ↦ stop | other ∷ others ↦ refl ] in
    spaced (regrouped (stage_print stage) (stages_text stages) rest (then_prints (stage_prints depth stage (stages_text stages ++ rest) parts.0 ends) (stages_print depth stages rest parts.1 stop)))
