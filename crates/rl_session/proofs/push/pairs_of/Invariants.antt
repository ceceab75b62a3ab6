-- The pairs so far, and those of the members that are left.
use Rattle.std.proofs.Common.{◌≡◌}
use Rattle.json.specs.Value.{members_view}
use Rattle.serde_json.specs.Data.{no_members}
use Rattle.rl_json.specs.JsonData.{members_data, referred}
use Rattle.rl_plain.specs.Answers.{with_front}
use Rattle.rl_session.specs.PushBody.{pairs_of}
use Rattle.rl_session.proofs.push.pairs_of.Given as goal

abbrev pub invariant-loop-name : goal.invariant-loop-name
invariant-loop-name l =
    with_front l.pairs.items (pairs_of (referred l.name-iterator.rest.items)) ≡ pairs_of (members_data (members_view l.fn.members) no_members)
