-- Nothing so far is out of range, and what is left nests no deeper than all.
use Rattle.std.proofs.Common.{◌≡◌, ◌*◌, ◌+◌, ◌≤◌, drop}
use Rattle.json.specs.Tree.{depth, items_depth, members_depth}
use Rattle.json.specs.Value.{value_view, items_view, members_view}
use Rattle.rl_json.specs.JsonData.{items_in_range, members_in_range}
use Rattle.rl_json.proofs.reading.+ranges.Given as goal

abbrev pub decreases-in_range : goal.decreases-in_range
decreases-in_range l = 2 * depth (value_view l.value.now)

abbrev pub decreases-items_in_range : goal.decreases-items_in_range
decreases-items_in_range l = 2 * items_depth (items_view l.items.now) + 1

abbrev pub decreases-members_in_range : goal.decreases-members_in_range
decreases-members_in_range l = 2 * members_depth (members_view l.members.now) + 1

abbrev pub invariant-items_in_range-loop-item : goal.invariant-items_in_range-loop-item
invariant-items_in_range-loop-item l = record {
  same : items_in_range (items_view (drop l.item-index l.items)) ≡ items_in_range (items_view l.items);
  lower : items_depth (items_view (drop l.item-index l.items)) ≤ items_depth (items_view l.items);
}

abbrev pub invariant-members_in_range-loop-member : goal.invariant-members_in_range-loop-member
invariant-members_in_range-loop-member l = record {
  same : members_in_range (members_view (drop l.member-index l.members)) ≡ members_in_range (members_view l.members);
  lower : members_depth (members_view (drop l.member-index l.members)) ≤ members_depth (members_view l.members);
}
