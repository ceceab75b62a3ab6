-- The window at the index was asked, if there is one.
use Rattle.std.proofs.Common.{◌≡◌, ◌++◌, map, None, Some, append-nil, sym, ap, ◌∙◌}
use Rattle.std.specs.Option.{option_copied}
use Rattle.std.specs.Prelude.{option_to_list, slice_get}
use Rattle.rl_windows.specs.declared.element.Element.{Element}
use Rattle.rl_slots.specs.Slots.{changes_there, wanted, SlotView}
use Rattle.rl_slots.proofs.Setting.{item_at}
use Rattle.rl_slots.specs.declared.change.Change.{Change}
use Rattle.rl_slots.proofs.slot.Slot.list.Goals as goal

pub returns-in_default-clause-listed : goal.returns-in_default-clause-listed
returns-in_default-clause-listed c =
    let there : option_copied c.get.result ≡ slice_get c.args.self.now.windows c.args.index.window = item_at c.get.result c.deref.result.now c.args.index.window c.get.ensures.lookup.0 c.get.ensures.lookup.1
    ∙ ap (λ ws. slice_get ws c.args.index.window) (c.deref.ensures.value ∙ ap (λ (v : SlotView). v.windows) c.self.view_is) in
    sym (append-nil c.args.changes.now.items) ∙ ap (λ o. c.args.changes.now.items ++ changes_there c.args.line.now c.args.timestamp c.args.index o) (sym (ap option_copied c.in_default.is) ∙ there)

pub returns-in_default-2-clause-listed : goal.returns-in_default-2-clause-listed
returns-in_default-2-clause-listed c =
    let there : option_copied c.get.result ≡ slice_get c.args.self.now.windows c.args.index.window = item_at c.get.result c.deref.result.now c.args.index.window c.get.ensures.lookup.0 c.get.ensures.lookup.1
    ∙ ap (λ ws. slice_get ws c.args.index.window) (c.deref.ensures.value ∙ ap (λ (v : SlotView). v.windows) c.self.view_is) in
    let own = c.args.index in
    let found : None ≡ wanted c.args.line.now c.args.timestamp c.in-Some.it.now = sym c.in_default-2.is ∙ c.in_ok-element.ensures.element in
    sym (append-nil c.args.changes.now.items)
    ∙ ap (λ o. c.args.changes.now.items ++ map (λ (element : Element). let change : Change = record { slot = own.slot; window = own.window; element = element } in change) (option_to_list o)) found
    ∙ ap (λ o. c.args.changes.now.items ++ changes_there c.args.line.now c.args.timestamp c.args.index o) (sym (ap option_copied c.in-Some.is) ∙ there)

pub returns-clause-listed : goal.returns-clause-listed
returns-clause-listed c =
    let there : option_copied c.get.result ≡ slice_get c.args.self.now.windows c.args.index.window = item_at c.get.result c.deref.result.now c.args.index.window c.get.ensures.lookup.0 c.get.ensures.lookup.1
    ∙ ap (λ ws. slice_get ws c.args.index.window) (c.deref.ensures.value ∙ ap (λ (v : SlotView). v.windows) c.self.view_is) in
    let own = c.args.index in
    let found : Some c.in-Some-2.element ≡ wanted c.args.line.now c.args.timestamp c.in-Some.it.now = sym c.in-Some-2.is ∙ c.in_ok-element.ensures.element in
    c.in_ok-push.ensures.items
    ∙ ap (λ o. c.args.changes.now.items ++ map (λ (element : Element). let change : Change = record { slot = own.slot; window = own.window; element = element } in change) (option_to_list o)) found
    ∙ ap (λ o. c.args.changes.now.items ++ changes_there c.args.line.now c.args.timestamp c.args.index o) (sym (ap option_copied c.in-Some.is) ∙ there)
