-- One window more was asked whether it selects the stream.
use Rattle.std.proofs.Common.{◌≡◌, ◌<◌, ◌++◌, ◌∷◌, [], slice_index_or, take, length, append-nil, append_assoc, sym, ap, ◌∙◌, arith}
use Rattle.std.proofs.lemmas.List.{length-append, take_all}
use Rattle.rl_slots.specs.Slots.{selecting_in, SlotView}
use Rattle.rl_slots.proofs.Listing.{one_window, indices_few}
use Rattle.rl_slots.proofs.Picking.{windows_few}
use Rattle.rl_slots.proofs.slot.Slot.select.Goals as goal

pub loop-window-preserved-then-not-branch : goal.loop-window-preserved-then-not-branch
loop-window-preserved-then-not-branch c =
    let windows = c.args.self.now.windows in
    let labels = c.args.labels.now in
    let loop = c.loop-window in
    let same : c.deref-it-items.result.now ≡ windows = c.deref-it-items.ensures.value ∙ ap (λ (v : SlotView). v.windows) c.self.view_is in
    let less : loop.window < length windows = omega (arith, loop.auto.window-end, c.loop-window-test.true, ap length same) in
    let there : c.it-item.result ≡ slice_index_or windows loop.window c.it-item.result = c.it-item.is ∙ ap (λ ws. slice_index_or ws loop.window c.it-item.result) same in
    record {
      indices = loop.invariant.indices
          ∙ ap (λ rest. c.args.indices.now.items ++ rest) (sym (one_window labels c.args.slot loop.window windows c.it-item.result _ less there (sym c.if-not-branch.true ∙ c.in_ok-accepts.ensures.accepts) ∙ append-nil _));
    }

pub loop-window-preserved : goal.loop-window-preserved
loop-window-preserved c =
    let windows = c.args.self.now.windows in
    let labels = c.args.labels.now in
    let loop = c.loop-window in
    let same : c.deref-it-items.result.now ≡ windows = c.deref-it-items.ensures.value ∙ ap (λ (v : SlotView). v.windows) c.self.view_is in
    let less : loop.window < length windows = omega (arith, loop.auto.window-end, c.loop-window-test.true, ap length same) in
    let there : c.it-item.result ≡ slice_index_or windows loop.window c.it-item.result = c.it-item.is ∙ ap (λ ws. slice_index_or ws loop.window c.it-item.result) same in
    record {
      indices = c.in_ok-push.ensures.items
          ∙ ap (λ items. items ++ record { slot = c.args.slot; window = loop.window } ∷ []) loop.invariant.indices
          ∙ append_assoc c.args.indices.now.items (selecting_in labels c.args.slot 0 (take loop.window windows)) _
          ∙ ap (λ rest. c.args.indices.now.items ++ rest) (sym (one_window labels c.args.slot loop.window windows c.it-item.result _ less there (sym c.if-not-branch.false ∙ c.in_ok-accepts.ensures.accepts)));
    }

pub returns-clause-few : goal.returns-clause-few
returns-clause-few c =
    let windows = c.args.self.now.windows in
    let labels = c.args.labels.now in
    let loop = c.loop-window in
    let same : c.deref-it-items.result.now ≡ windows = c.deref-it-items.ensures.value ∙ ap (λ (v : SlotView). v.windows) c.self.view_is in
    let all : take loop.window windows ≡ windows = take_all loop.window windows (omega (arith, loop.auto.window-end, c.loop-window-test.false, ap length same)) in
    let few = windows_few c.self.inside.windows.items c.self.inside.terms c.self.invariant.picked in
    omega (
      arith,
      ap length (loop.invariant.indices ∙ ap (λ ws. c.args.indices.now.items ++ selecting_in labels c.args.slot 0 ws) all),
      length-append c.args.indices.now.items (selecting_in labels c.args.slot 0 windows),
      indices_few labels c.args.slot 0 windows,
      few,
      ap (λ (v : SlotView). length v.terms) c.self.view_is,
      ap (λ (v : SlotView). length v.windows) c.self.view_is,
    )
