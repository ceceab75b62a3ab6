-- What the readers and the printers answer of derived and of printed texts.
use Rattle.rl_plain.specs.declared.refusal.OrMemory.{OrMemory}
use Rattle.rl_query.specs.Form.{filter_form, sieve_form, sieve_has_pattern}
use Rattle.rl_query.specs.Limits.{most_stages}
use Rattle.rl_query.specs.declared.fault.QueryFault.{QueryFault}
use Rattle.rl_query.specs.declared.filter.LineFilter.{LineFilter}
use Rattle.rl_query.specs.declared.filter.Sieve.{Sieve}
use Rattle.rl_selector_text.proofs.Items.{real_forms}
use Rattle.rl_selector_text.proofs.Finding.{Finds, same_ok}
use Rattle.rl_selector_text.proofs.Meetings.{read_of, refused_read}
use Rattle.rl_selector_text.proofs.MetPatterns.{sieve_patterns}
use Rattle.rl_selector_text.proofs.PrintedSieve.{KeepsSieve, sieve_printed}
use Rattle.rl_selector_text.proofs.Proper.{all_proper, filters_proper}
use Rattle.rl_query.proofs.SameForms.{same_filters, same_matchers, same_selector}
use Rattle.rl_selector_text.proofs.Sieves.{sieve_derived, sieve_is_read}
use Rattle.rl_selector_text.specs.Answering.{IsForRoom, Reads}
use Rattle.rl_selector_text.specs.Grammar.{DerivesSieve}
use Rattle.rl_selector_text.specs.Lexing.{lexemes_of}
use Rattle.rl_selector_text.specs.Meeting.{has_pattern_token, meets_pattern}
use Rattle.rl_query.specs.Printing.{sieve_text}
use Rattle.rl_selector_text.specs.Sieving.{sieve_reading}
use Rattle.rl_selector_text.specs.Stops.{fault_of}
use Rattle.rl_selector_text.specs.declared.stop.Stop.{Stop}
use Rattle.std.proofs.Common.{Bool, Err, IfOk, List, MatchResult, Ok, Result, ap, arith, false, length, subst, sym, ℕ, ◌∙◌, ◌≡◌, ◌≤◌}
use Rattle.std.proofs.Props.{props}
use Rattle.std.proofs.lemmas.List.{length-map}
use mathlib.Core.HLevel.{Σ_prop_path}

-- texts that are read as what derives them, and printed so that they derive what is printed
pub record IsLanguage {X Y : Type 0} (view : X → Y) (reading : List ℕ → Result Y Stop) (Derived : List ℕ → Y → Type 0) (patterned : Y → Bool) (text_of : Y → List ℕ) : Type 0 where
  pub sound : (text : List ℕ) → Finds (Derived text) (reading text)
  pub complete : (text : List ℕ) (y : Y) → Derived text y → reading text ≡ Ok y
  pub patterns : (text : List ℕ) (y : Y) → Derived text y → has_pattern_token false (lexemes_of text) ≡ patterned y
  pub same : (a b : X) → view a ≡ view b → a ≡ b
  pub printed : (x : X) → Derived (text_of (view x)) (view x)

module _ {X Y : Type 0} {view : X → Y} {reading : List ℕ → Result Y Stop} {Derived : List ℕ → Y → Type 0} {patterned : Y → Bool} {text_of : Y → List ℕ} (language : IsLanguage view reading Derived patterned text_of) where
  abbrev IsAnswer : Result X (OrMemory QueryFault) → List ℕ → Type 0
  IsAnswer r text = Reads view r (fault_of (reading text)) (meets_pattern (reading text) (lexemes_of text))

  -- what was read is derived
  pub derived : (r : Result X (OrMemory QueryFault)) (text : List ℕ) → IsAnswer r text → IfOk r (λ x. Derived text (view x))
  derived (Ok x) text read = (language.sound text).is (view x) (read_of (reading text) (view x) read)
  derived (Err e) text read = tt

  -- what is derived was read
  pub all_read : (r : Result X (OrMemory QueryFault)) (text : List ℕ) → IsAnswer r text → (y : Y) → Derived text y → MatchResult r (λ same. view same ≡ y) (IsForRoom (patterned y))
  all_read (Ok x) text read y derives = same_ok _ _ (sym (read_of (reading text) (view x) read) ∙ language.complete text y derives)
  all_read (Err e) text read y derives = refused_read view (reading text) (lexemes_of text) e y (patterned y) (language.complete text y derives) (language.patterns text y derives) read

  -- what is printed is read again
  pub read_again : (r : Result X (OrMemory QueryFault)) (text : List ℕ) → IsAnswer r text → (x : X) → text ≡ text_of (view x) → MatchResult r (λ same. same ≡ x) (IsForRoom (patterned (view x)))
  read_again (Ok p) text read x printed = language.same p x (all_read (Ok p) text read (view x) (subst (λ t. Derived t (view x)) (sym printed) (language.printed x)))
  read_again (Err e) text read x printed = all_read (Err e) text read (view x) (subst (λ t. Derived t (view x)) (sym printed) (language.printed x))

  -- and no other has its text
  pub alone : (a b : X) → text_of (view a) ≡ text_of (view b) → a ≡ b
  alone a b e = language.same a b (same_ok _ _ (sym (language.complete (text_of (view b)) (view a) (subst (λ t. Derived t (view a)) e (language.printed a))) ∙ language.complete (text_of (view b)) (view b) (language.printed b)))

-- sieves with one form are one
same_sieve : (a b : Sieve) → sieve_form a ≡ sieve_form b → a ≡ b
same_sieve a b e =
    let selectors = same_selector a.selector b.selector (same_matchers a.selector.matchers b.selector.matchers (ap (λ f. f.matchers) e)) in
    let filters = same_filters a.filters b.filters (ap (λ f. f.filters) e) in
    let whole : ◌≡◌ {A = (fs : List LineFilter) × (length fs ≤ most_stages)} (a.filters, a.few) (b.filters, b.few) = Σ_prop_path (λ fs. hlevel props) filters in
    λ i. record { selector = selectors i; filters = (whole i).0; few = (whole i).1 }

-- a sieve keeps its limits
sieve_keeps : (s : Sieve) → KeepsSieve (sieve_form s)
sieve_keeps s = record {
  matchers = all_proper s.selector.matchers;
  real = real_forms s.selector.matchers ∙ s.selector.real;
  proper = filters_proper s.filters;
  few = omega (arith, length-map s.filters filter_form, s.few);
}

pub sieves : IsLanguage sieve_form sieve_reading DerivesSieve sieve_has_pattern sieve_text
sieves = record { sound = sieve_derived; complete = sieve_is_read; patterns = sieve_patterns; same = same_sieve; printed = λ s. sieve_printed (sieve_form s) (sieve_keeps s) }
