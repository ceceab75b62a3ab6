-- The labels so far, and the leaves of the members that are left, which nest no deeper than all.
use Rattle.std.proofs.Common.{◌≡◌, ◌*◌, ◌+◌, ◌≤◌, option_map}
use Rattle.json.specs.Value.{value_view, members_view}
use Rattle.serde_json.specs.Data.{depth, members_depth, no_members}
use Rattle.rl_pipeline.specs.Extracting.{with_pairs}
use Rattle.rl_json.specs.JsonData.{data_of, members_data, referred}
use Rattle.rl_pipeline.specs.JsonLeaves.{leaves_below}
use Rattle.rl_pipeline.proofs.json_labels.+leaves.Given as goal

abbrev pub decreases-add_value : goal.decreases-add_value
decreases-add_value l = 3 * depth (data_of (value_view l.value.now))

abbrev pub decreases-add_member : goal.decreases-add_member
decreases-add_member l = 3 * depth (data_of (value_view l.value.now)) + 1

abbrev pub decreases-add_leaves : goal.decreases-add_leaves
decreases-add_leaves l = 3 * members_depth (members_data (members_view l.members.now) no_members) + 2

abbrev pub invariant-add_leaves-loop-key : goal.invariant-add_leaves-loop-key
invariant-add_leaves-loop-key l = record {
  labels :
      with_pairs l.stream l.labels (leaves_below (option_map (λ t. t.now) l.path) (referred l.key-iterator.rest.items))
      ≡ with_pairs l.stream l.fn.labels (leaves_below (option_map (λ t. t.now) l.path) (members_data (members_view l.members) no_members));
  lower : members_depth (referred l.key-iterator.rest.items) ≤ members_depth (members_data (members_view l.members) no_members);
}
