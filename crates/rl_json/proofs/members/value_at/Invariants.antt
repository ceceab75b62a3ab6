-- What is found is the value at the key among the members so far.
use Rattle.std.proofs.Common.{◌≡◌, option_map, take}
use Rattle.json.specs.Value.{value_view, members_view}
use Rattle.serde_json.specs.Data.{no_members}
use Rattle.serde_json.specs.Find.{get_member}
use Rattle.rl_json.specs.JsonData.{data_of, members_data}
use Rattle.rl_json.proofs.members.value_at.Given as goal

abbrev pub invariant-loop-member : goal.invariant-loop-member
invariant-loop-member l = option_map (λ v. data_of (value_view v.now)) l.found ≡ get_member l.key (members_data (members_view (take l.member-index l.members)) no_members)
