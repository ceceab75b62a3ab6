-- A new key comes last.
use Rattle.std.proofs.Common.{sym, ap, subst, ◌∙◌}
use Rattle.indexmap.specs.IndexMap.{insert_entry}
use Rattle.rl_labels.specs.LabelText.{label_set_eq}
use Rattle.rl_labels.specs.declared.entry.Entry.{Entry}
use Rattle.rl_streams.specs.RowSteps.{AreAdded}
use Rattle.rl_streams.proofs.Added.{added_after, inserted_after}
use Rattle.rl_streams.proofs.adding.begin.Goals as goal

pub returns-clause-taken : goal.returns-clause-taken
returns-clause-taken c =
    let rows = c.args.streams.now.entries in
    let key = c.in_ok-labels.ensures ∙ ap (λ (e : Entry). e.labels) c.get.ensures in
    let following = c.in_ok-insert.ensures.entries ∙ ap (λ labels. insert_entry label_set_eq rows labels c.in_ok-stream.stream) key ∙ inserted_after rows c.args.entry.labels c.in_ok-stream.stream c.requires.new in
    subst (AreAdded c.args.room.most rows c.args.entry) (sym following) (added_after c.args.room.most rows c.args.entry c.in_ok-stream.stream c.requires.new c.in_ok-stream.ensures.labels c.in_ok-stream.ensures.newest c.in_ok-stream.ensures.entries c.in_ok-stream.ensures.shape)
