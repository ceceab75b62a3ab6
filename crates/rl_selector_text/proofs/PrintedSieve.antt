-- What is printed of a sieve is derived.
use Rattle.std.proofs.Common.{◌≡◌, ◌≤◌, true, [], ◌∷◌, ◌++◌, length, refl}
use Rattle.std.specs.List.{list_all}
use Rattle.rl_query.specs.Form.{SieveForm, has_real_form}
use Rattle.rl_selector_text.specs.Standing.{is_matcher}
use Rattle.rl_selector_text.specs.Grammar.{DerivesSieve}
use Rattle.rl_query.specs.Limits.{is_filter, most_stages}
use Rattle.rl_query.specs.Printing.{matchers_text, filters_text, sieve_text}
use Rattle.rl_selector_text.proofs.Printed.{regrouped, then_prints, selector_prints, filters_print, prints_all}
use Rattle.rl_selector_text.specs.TestGrammar.{ended}

-- what a form keeps of a sieve's limits
pub record KeepsSieve (sieve : SieveForm) : Type 0 where
  pub matchers : list_all is_matcher sieve.matchers ≡ true
  pub real : has_real_form sieve.matchers ≡ true
  pub proper : list_all (λ filter. is_filter filter.op filter.text) sieve.filters ≡ true
  pub few : length sieve.filters ≤ most_stages

-- a printed sieve is derived
pub sieve_printed : (sieve : SieveForm) → KeepsSieve sieve → DerivesSieve (sieve_text sieve) sieve
sieve_printed sieve keeps =
    let filters = filters_text sieve.filters in
    let front = 123 ∷ matchers_text sieve.matchers in
    let is = prints_all (sieve_text sieve) (regrouped (front ++ 125 ∷ []) filters [] (regrouped front (125 ∷ []) (filters ++ []) (then_prints (selector_prints sieve.matchers (filters ++ []) keeps.matchers keeps.real) (filters_print sieve.filters [])))) in
    record { after_selector = is.0; after_filters = ended (sieve_text sieve); rest = []; selector = is.1; filters = record { stand = is.2; proper = keeps.proper; few = keeps.few }; end = (refl, refl) }
