-- An evaluation on the partials that are kept is the one from scratch on the lists that were shown.
use Rattle.std.specs.Prelude.{◌≡◌, ℕ, zero, suc, List, [], ◌∷◌, ◌++◌, map, length, take, drop, Option, None, Some, option_map, option_to_list, flat_map, slice_index_or, refl}
use Rattle.std.proofs.Common.{sym, ap, ◌∙◌, append_assoc, append-nil}
use Rattle.rl_labels.specs.declared.entry.Entry.{Entry}
use Rattle.rl_query.specs.declared.query.Term.{Term}
use Rattle.rl_aggregate.specs.Evaluated.{terms_of, finished}
use Rattle.rl_aggregate.specs.laws.Runs.{partial-append}
use Rattle.rl_aggregate.specs.Partials.{partial, merge}
use Rattle.rl_aggregate.specs.declared.partial.Partial.{Partial}
use Rattle.rl_rules.specs.Outcomes.{result_of}
use Rattle.rl_rules.specs.declared.alert.Alert.{Alert}
use Rattle.rl_rules.specs.declared.rule.Rule.{Rule}
use Rattle.rl_rules.specs.declared.rule.Group.{Group}
use Rattle.rl_world.specs.Evaluating.{group_terms, answers, results_of, first_alerts, shown_entries, evaluation_of}
use Rattle.rl_world.specs.Kept.{partials_of, no_partial, merged_from, merged_terms, results_from, evaluation_from}
use Rattle.rl_world.specs.WorldState.{kept_answer, kept_open}
use Rattle.rl_world.specs.declared.opened.Gathered.{Gathered}
use Rattle.rl_world.specs.declared.opened.OpenEvaluation.{OpenEvaluation}

-- where a list goes on with an item and a rest, that item is at the index
pub index-from : {X Y : Type 0} (f : X → Y) (d : Y) (xs : List X) (i : ℕ) (x : X) (rest : List X) → drop i xs ≡ x ∷ rest → slice_index_or (map f xs) i d ≡ f x
index-from f d [] zero x rest is = cc
index-from f d (y ∷ ys) zero x rest is = cc
index-from f d [] (suc i) x rest is = cc
index-from f d (y ∷ ys) (suc i) x rest is = index-from f d ys i x rest is

-- and the rest starts at the next index
pub drop-next : {X : Type 0} (xs : List X) (i : ℕ) (x : X) (rest : List X) → drop i xs ≡ x ∷ rest → drop (suc i) xs ≡ rest
drop-next [] zero x rest is = cc
drop-next (y ∷ ys) zero x rest is = cc
drop-next [] (suc i) x rest is = cc
drop-next (y ∷ ys) (suc i) x rest is = drop-next ys i x rest is

-- of each shard that was asked the partials are kept
gathered-kept : (terms : List Term) (t : ℕ) (answers : List (Option (Gathered (List Entry)))) → flat_map option_to_list (map (option_map (kept_answer terms t)) answers) ≡ map (kept_answer terms t) (flat_map option_to_list answers)
gathered-kept terms t [] = refl
gathered-kept terms t (None ∷ answers) = gathered-kept terms t answers
gathered-kept terms t (Some answer ∷ answers) = ap (λ rest. kept_answer terms t answer ∷ rest) (gathered-kept terms t answers)

pub answers-kept : (terms : List Term) (opened : OpenEvaluation (List Entry)) → answers (kept_open terms opened) ≡ map (kept_answer terms opened.t) (answers opened)
answers-kept terms opened = gathered-kept terms opened.t opened.gathered

-- under unchanged places
places-kept : (terms : List Term) (t : ℕ) (shown : List (Gathered (List Entry))) → map (λ answer. answer.place) (map (kept_answer terms t) shown) ≡ map (λ answer. answer.place) shown
places-kept terms t [] = refl
places-kept terms t (answer ∷ rest) = ap (λ places. answer.place ∷ places) (places-kept terms t rest)

-- merging what is kept of one term gives its partial of all lists
pub merged_from-kept : (before : List Entry) (terms : List Term) (i : ℕ) (term : Term) (rest : List Term) (t : ℕ) (shown : List (Gathered (List Entry))) → drop i terms ≡ term ∷ rest → merged_from (partial before term t) i (map (kept_answer terms t) shown) ≡ partial (before ++ flat_map (λ answer. answer.shown) shown) term t
merged_from-kept before terms i term rest t [] is = ap (λ entries. partial entries term t) (sym (append-nil before))
merged_from-kept before terms i term rest t (answer ∷ more) is =
    let own = index-from (λ other. partial answer.shown other t) no_partial terms i term rest is in
    ap (λ sum. merged_from sum i (map (kept_answer terms t) more)) (ap (merge (partial before term t)) own ∙ sym (partial-append before answer.shown term t))
    ∙ merged_from-kept (before ++ answer.shown) terms i term rest t more is
    ∙ ap (λ entries. partial entries term t) (append_assoc before answer.shown (flat_map (λ other. other.shown) more))

-- so it does of each term
pub merged_terms-kept : (terms : List Term) (i : ℕ) (rest : List Term) (t : ℕ) (shown : List (Gathered (List Entry))) → drop i terms ≡ rest → merged_terms i (length rest) (map (kept_answer terms t) shown) ≡ partials_of (flat_map (λ answer. answer.shown) shown) rest t
merged_terms-kept terms i [] t shown is = refl
merged_terms-kept terms i (term ∷ rest) t shown is = λ k.
    merged_from-kept [] terms i term rest t shown is k ∷ merged_terms-kept terms (suc i) rest t shown (drop-next terms i term rest is) k

-- a rule's own partials are the first, and those of the others follow
own_first : (f : Term → Partial) (own others : List Term) → take (length own) (map f (own ++ others)) ≡ map f own
own_first f [] others = refl
own_first f (term ∷ own) others = ap (λ rest. f term ∷ rest) (own_first f own others)

others_after : (f : Term → Partial) (own others : List Term) → drop (length own) (map f (own ++ others)) ≡ map f others
others_after f [] others = refl
others_after f (term ∷ own) others = others_after f own others

-- so each rule is evaluated on the partials of its own terms
pub results_from-each : (limit t : ℕ) (f : Term → Partial) (rules : List Rule) (alerts : List (List Alert)) → results_from limit t rules alerts (map f (flat_map (λ rule. terms_of rule.query) rules)) ≡ results_of limit t (λ rule. finished rule.query (map f (terms_of rule.query))) rules alerts
results_from-each limit t f [] alerts = refl
results_from-each limit t f (rule ∷ rules) alerts =
    let own = terms_of rule.query in
    let others = flat_map (λ other. terms_of other.query) rules in
    λ k. result_of limit t rule (first_alerts alerts) (finished rule.query (own_first f own others k)) ∷ (ap (results_from limit t rules (drop 1 alerts)) (others_after f own others) ∙ results_from-each limit t f rules (drop 1 alerts)) k

-- the evaluation on kept partials is the one from scratch
pub kept_evaluation : (group : Group) (alerts : List (List Alert)) (opened : OpenEvaluation (List Entry)) → evaluation_from group alerts (kept_open (group_terms group) opened) ≡ evaluation_of group alerts opened
kept_evaluation group alerts opened =
    let terms = group_terms group in
    let same = answers-kept terms opened in
    let places = ap (λ shown. map (λ answer. answer.place) shown) same ∙ places-kept terms opened.t (answers opened) in
    let partials = ap (merged_terms 0 (length terms)) same ∙ merged_terms-kept terms 0 terms opened.t (answers opened) refl in
    let outcomes = ap (results_from group.limit opened.t group.rules alerts) partials ∙ results_from-each group.limit opened.t (λ term. partial (shown_entries opened) term opened.t) group.rules alerts in
    λ k. record { group = group.name; t = opened.t; places = places k; outcomes = outcomes k }
