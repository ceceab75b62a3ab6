-- Reading matchers one after the other, as a loop does.
use Rattle.std.proofs.Common.{◌≡◌, ℕ, not, ◌||◌, map, List, [], ◌∷◌, ◌++◌, Result, Ok, Err, refl, ap, ◌∙◌, append_assoc}
use Rattle.rl_query.specs.declared.token.Lexeme.{Lexeme}
use Rattle.rl_selector_text.specs.Stops.{stop, syntax}
use Rattle.rl_selector_text.specs.declared.stop.Stop.{Stop}
use Rattle.rl_query.specs.declared.fault.QueryFault.TheVariants as faults
use Rattle.rl_plain.specs.declared.refusal.OrMemory.TheVariants as errors
use Rattle.std.proofs.lemmas.Bool.{cond-true, cond-false}
use Rattle.rl_labels.specs.Name.{is_name}
use Rattle.rl_labels.specs.Operators.{passes, is_comparable, IsUnread}
use Rattle.rl_labels.specs.declared.matcher.MatcherFault.{MatcherFault}
use Rattle.rl_labels.specs.declared.matcher.MatcherFault.TheVariants as matchers
use Rattle.rl_labels.specs.declared.matcher.Matcher.{Matcher}
use Rattle.rl_query.specs.Limits.{has_real_matcher}
use Rattle.rl_query.specs.Form.{MatcherForm, matcher_form, has_real_form}
use Rattle.rl_plain.specs.Answers.{◌>>=◌}
use Rattle.rl_selector_text.specs.Fronts.{checked_matcher}

-- what was read before, and what is still read
abbrev pub with_front : {A : Type 0} → List A → Result (List A × List Lexeme) Stop → Result (List A × List Lexeme) Stop
with_front front read = read >>= λ x. Ok (front ++ x.0, x.1)

-- nothing was read before
pub none_before : {A : Type 0} (reader : ℕ → Result (List A × List Lexeme) Stop) (n most : ℕ) → n ≡ most → with_front [] (reader n) ≡ reader most
none_before reader n most same = elim (reader n) as (λ read. with_front [] read ≡ read) [ Ok x ↦ refl | Err f ↦ refl ] ∙ ap reader same

-- one more was read
pub one_more : {A : Type 0} (front : List A) (m : A) (read whole : Result (List A × List Lexeme) Stop) → with_front front (read >>= λ x. Ok (m ∷ x.0, x.1)) ≡ whole → with_front (front ++ m ∷ []) read ≡ whole
one_more {A} front m (Ok x) whole so_far = ap (λ (ms : List A). Ok (ms, x.1)) (append_assoc front (m ∷ []) x.0) ∙ so_far
one_more front m (Err f) whole so_far = so_far

-- matchers and their forms refuse the empty text alike
pub real_forms : (matchers : List Matcher) → has_real_form (map matcher_form matchers) ≡ has_real_matcher matchers
real_forms [] = refl
real_forms (m ∷ matchers) = ap (λ b. not (passes m.op m.value []) || b) (real_forms matchers)

-- why a matcher is not read, as a fault of the query
abbrev stop_of : ℕ → MatcherFault → Stop
stop_of offset matchers.BadName = syntax offset
stop_of offset matchers.BadRegex = stop faults.BadRegex offset

pub unread : (offset : ℕ) (m : MatcherForm) (fault : MatcherFault) → IsUnread m.name m.op m.value (errors.Fault fault) → checked_matcher offset m ≡ Err (stop_of offset fault)
unread offset m matchers.BadName h = cond-true (not (is_name m.name)) _ _ (ap not h)
unread offset m matchers.BadRegex h = cond-false (not (is_name m.name)) _ _ (ap not h.0) ∙ cond-false (is_comparable m.op m.value) _ _ h.1
