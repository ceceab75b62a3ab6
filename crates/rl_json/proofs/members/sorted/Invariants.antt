-- The members so far are found, and the others are left.
use Rattle.std.proofs.Common.{◌≡◌, drop}
use Rattle.json.specs.Value.{members_view}
use Rattle.serde_json.specs.Data.{no_members}
use Rattle.rl_json.specs.JsonData.{members_data, referred}
use Rattle.rl_json.proofs.members.sorted.Given as goal

abbrev pub invariant-loop-member : goal.invariant-loop-member
invariant-loop-member l = members_data (members_view (drop l.member-index l.members)) (referred l.found.items) ≡ members_data (members_view l.members) no_members
