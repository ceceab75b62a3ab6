-- What a line changes are elements of one line.
use Rattle.std.proofs.Common.{◌≡◌, ◌≤◌, ℕ, ◌++◌, List, length, sym, ap, subst, ◌∙◌}
use Rattle.std.specs.List.{AllByRecursion}
use Rattle.rl_labels.specs.EntryParts.{longest_line}
use Rattle.rl_pipeline.specs.Lines.{StreamLine}
use Rattle.rl_slots.specs.Slots.{changes_of, IsOfLine}
use Rattle.rl_slots.specs.laws.Exact.{changes-lines}
use Rattle.rl_slots.specs.declared.change.Change.{Change}
use Rattle.rl_shard.proofs.pushing.changes_of.Goals as goal

pub returns-clause-lines : goal.returns-clause-lines
returns-clause-lines c =
    let line = c.new-line.result in
    let slots = c.args.slots.now in
    let entry = c.args.entry.now in
    let short : length line.text ≤ longest_line = subst (λ (text : List ℕ). length text ≤ longest_line) (sym (ap (λ (l : StreamLine). l.text) c.new-line.ensures ∙ c.as_str.ensures)) entry.fits in
    let listed : c.list.new.changes.items ≡ changes_of line entry.timestamp slots = c.in_ok-list.ensures.listed ∙ ap (λ before. before ++ changes_of line entry.timestamp slots) c.new-changes.ensures.items in
    subst (AllByRecursion (λ (change : Change). IsOfLine change.element.volume)) (sym listed) (changes-lines line entry.timestamp short slots)
