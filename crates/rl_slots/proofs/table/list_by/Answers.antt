-- The windows that select the stream are all that the line changes.
use Rattle.std.proofs.Common.{◌≡◌, ◌++◌, length, Some, sym, ap, subst, ◌∙◌, arith}
use Rattle.std.specs.Map.{lookup}
use Rattle.std.specs.Option.{option_copied}
use Rattle.std.proofs.lemmas.Result.{on_ok_weaker}
use Rattle.rl_labels.specs.LabelText.{label_set_eq}
use Rattle.rl_slots.specs.Slots.{changes_at, AreSelecting}
use Rattle.rl_slots.proofs.Listing.{all_changes}
use Rattle.rl_slots.proofs.Tables.{found, on_ok}
use Rattle.rl_slots.proofs.table.list_by.Goals as goal

pub returns-in-Some-clause-listed : goal.returns-in-Some-clause-listed
returns-in-Some-clause-listed c =
    let line = c.args.line.now in
    let slots = c.args.slots.now in
    let there : lookup (label_set_eq line.labels) c.args.table.now.entries ≡ Some c.in-Some.indices.now = ap (λ l. lookup (label_set_eq l) c.args.table.now.entries) (sym c.labels.ensures) ∙ sym c.get.ensures.value ∙ ap option_copied c.in-Some.is in
    let are = found slots line.labels c.args.table.now.entries c.in-Some.indices.now there c.requires in
    on_ok_weaker c.list_at.result (λ listed. listed ∙ ap (λ cs. c.args.changes.now.items ++ cs) (ap (changes_at line c.args.timestamp slots) (c.as_slice.ensures ∙ are.0) ∙ all_changes line c.args.timestamp slots)) c.list_at.ensures.listed

pub returns-in-Some-clause-runs : goal.returns-in-Some-clause-runs
returns-in-Some-clause-runs c =
    let line = c.args.line.now in
    let slots = c.args.slots.now in
    let there : lookup (label_set_eq line.labels) c.args.table.now.entries ≡ Some c.in-Some.indices.now = ap (λ l. lookup (label_set_eq l) c.args.table.now.entries) (sym c.labels.ensures) ∙ sym c.get.ensures.value ∙ ap option_copied c.in-Some.is in
    let are = found slots line.labels c.args.table.now.entries c.in-Some.indices.now there c.requires in
    (c.list_at.ensures.runs.0, omega (arith, c.list_at.ensures.runs.1, are.1, ap length c.as_slice.ensures))

pub returns-clause-listed : goal.returns-clause-listed
returns-clause-listed c =
    let line = c.args.line.now in
    let slots = c.args.slots.now in
    let are : AreSelecting slots line.labels c.in_ok-indices.indices = subst (λ l. AreSelecting slots l c.in_ok-indices.indices) c.labels-2.ensures c.in_ok-indices.ensures in
    on_ok c.keep.result (c.in_ok-list_at.ensures.listed ∙ ap (λ cs. c.args.changes.now.items ++ cs) (ap (changes_at line c.args.timestamp slots) (c.as_slice-2.ensures ∙ are.0) ∙ all_changes line c.args.timestamp slots))
