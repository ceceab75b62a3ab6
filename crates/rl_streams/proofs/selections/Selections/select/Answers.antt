-- The selection of the selector has asked all streams, and the others stay as they were.
use Rattle.std.proofs.Common.{Some, length, refl, sym, ap, subst, ◌∙◌, arith}
use Rattle.std.proofs.lemmas.Option.{slice_get_read}
use Rattle.std.specs.Map.{keys_of}
use Rattle.std.specs.Option.{option_map}
use Rattle.rl_streams.specs.Selected.{SelectionView, AreSelections}
use Rattle.rl_streams.proofs.Selecting.{found_is, found_there, kept_there, kept_set, set_there}
use Rattle.rl_streams.proofs.selections.Selections.select.Goals as goal

pub returns-in_err-position-clause-kept : goal.returns-in_err-position-clause-kept
returns-in_err-position-clause-kept c =
    let labels = keys_of c.args.streams.now.entries in
    c.position_in.ensures.kept labels (subst (AreSelections labels) (sym c.self.view_is) c.requires.kept)

pub index_mut-requires : goal.index_mut-requires
index_mut-requires c =
    let there = found_there (λ (one : SelectionView). one.selector) c.position_in.new.kept.items c.in_ok-position.position c.args.selector.now c.in_ok-position.ensures.found in
    omega (arith, there, c.position_in.new.kept.ok.0)

pub ask_all-requires-clause-kept : goal.ask_all-requires-clause-kept
ask_all-requires-clause-kept c =
    let labels = keys_of c.args.streams.now.entries in
    let kept = c.position_in.new.kept.items in
    let position = c.in_ok-position.position in
    let there = found_there (λ (one : SelectionView). one.selector) kept position c.args.selector.now c.in_ok-position.ensures.found in
    kept_there labels kept position c.index_mut.result.now (c.position_in.ensures.kept labels (subst (AreSelections labels) (sym c.self.view_is) c.requires.kept)) (slice_get_read kept (length kept) position c.index_mut.result.now refl there c.index_mut.ensures.value)

pub returns-in_err-ask_all-clause-kept : goal.returns-in_err-ask_all-clause-kept
returns-in_err-ask_all-clause-kept c =
    let labels = keys_of c.args.streams.now.entries in
    kept_set labels c.position_in.new.kept.items c.in_ok-position.position c.ask_all.new.selection (c.position_in.ensures.kept labels (subst (AreSelections labels) (sym c.self.view_is) c.requires.kept)) c.ask_all.ensures.kept

pub returns-clause-kept : goal.returns-clause-kept
returns-clause-kept c =
    let labels = keys_of c.args.streams.now.entries in
    kept_set labels c.position_in.new.kept.items c.in_ok-position.position c.ask_all.new.selection (c.position_in.ensures.kept labels (subst (AreSelections labels) (sym c.self.view_is) c.requires.kept)) c.ask_all.ensures.kept

pub returns-clause-found : goal.returns-clause-found
returns-clause-found c =
    let selector = λ (one : SelectionView). one.selector in
    let kept = c.position_in.new.kept.items in
    let position = c.in_ok-position.position in
    let old = c.index_mut.result.now in
    let there = found_there selector kept position c.args.selector.now c.in_ok-position.ensures.found in
    let is = found_is selector kept position old c.args.selector.now (slice_get_read kept (length kept) position old refl there c.index_mut.ensures.value) c.in_ok-position.ensures.found in
    ap (option_map selector) (set_there kept position c.ask_all.new.selection there) ∙ ap Some (c.ask_all.ensures.same ∙ is)

pub returns-clause-asked : goal.returns-clause-asked
returns-clause-asked c =
    let kept = c.position_in.new.kept.items in
    let position = c.in_ok-position.position in
    let there = found_there (λ (one : SelectionView). one.selector) kept position c.args.selector.now c.in_ok-position.ensures.found in
    ap (option_map (λ (one : SelectionView). one.asked)) (set_there kept position c.ask_all.new.selection there) ∙ ap Some c.in_ok-ask_all.ensures.all
