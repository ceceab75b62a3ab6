-- The window at one index more was asked, if there is one.
use Rattle.std.proofs.Common.{◌≡◌, ◌<◌, ◌++◌, get_or, length, take, None, Some, append_assoc, append-nil, sym, ap, ◌∙◌, arith}
use Rattle.std.specs.Option.{option_copied}
use Rattle.std.specs.Prelude.{slice_get}
use Rattle.rl_slots.specs.Slots.{changes_at, changes_there, window_in}
use Rattle.rl_slots.proofs.Listing.{one_index_more}
use Rattle.rl_slots.proofs.Setting.{item_at}
use Rattle.rl_slots.specs.declared.window_index.WindowIndex.{WindowIndex}
use Rattle.rl_slots.proofs.table.list_at.Goals as goal

pub loop-index-preserved-in_default : goal.loop-index-preserved-in_default
loop-index-preserved-in_default c =
    let slots = c.args.slots.now in
    let indices = c.args.indices.now in
    let line = c.args.line.now in
    let loop = c.loop-index in
    let none : WindowIndex = record { slot = 0; window = 0 } in
    let index = get_or indices loop.index-index none in
    let less : loop.index-index < length indices = omega (arith, loop.auto.index-index-end, c.loop-index-test.true) in
    let there : slice_get slots index.slot ≡ None = sym (item_at c.get.result slots index.slot c.get.ensures.lookup.0 c.get.ensures.lookup.1) ∙ ap option_copied c.in_default.is in
    record {
      listed = loop.invariant.listed
          ∙ ap (λ rest. c.args.changes.now.items ++ rest) (sym (one_index_more line c.args.timestamp slots loop.index-index indices none less
          ∙ ap (λ o. changes_at line c.args.timestamp slots (take loop.index-index indices) ++ changes_there line c.args.timestamp index (window_in o index.window)) there
          ∙ append-nil _));
      runs = (loop.invariant.runs.0, omega (arith, loop.invariant.runs.1));
      line = loop.invariant.line;
    }

pub loop-index-preserved : goal.loop-index-preserved
loop-index-preserved c =
    let slots = c.args.slots.now in
    let indices = c.args.indices.now in
    let line = c.args.line.now in
    let loop = c.loop-index in
    let none : WindowIndex = record { slot = 0; window = 0 } in
    let index = get_or indices loop.index-index none in
    let less : loop.index-index < length indices = omega (arith, loop.auto.index-index-end, c.loop-index-test.true) in
    let there : slice_get slots index.slot ≡ Some c.in-Some.slot.now = sym (item_at c.get.result slots index.slot c.get.ensures.lookup.0 c.get.ensures.lookup.1) ∙ ap option_copied c.in-Some.is in
    record {
      listed = c.in_ok-list.ensures.listed
          ∙ (λ i. loop.invariant.listed i ++ changes_there (loop.invariant.line i) c.args.timestamp index (window_in (sym there i) index.window))
          ∙ append_assoc c.args.changes.now.items (changes_at line c.args.timestamp slots (take loop.index-index indices)) _
          ∙ ap (λ rest. c.args.changes.now.items ++ rest) (sym (one_index_more line c.args.timestamp slots loop.index-index indices none less));
      runs = (c.list.ensures.runs.0 ∙ loop.invariant.runs.0, omega (arith, c.list.ensures.runs.1, loop.invariant.runs.1));
      line = c.list.ensures.line ∙ loop.invariant.line;
    }
