-- The texts so far, before the members that are left.
use Rattle.std.proofs.Common.{◌≡◌, drop}
use Rattle.json.specs.Value.{members_view}
use Rattle.rl_session.proofs.Known.{texts_before}
use Rattle.rl_session.proofs.known_labels.texts_of.Given as goal

abbrev pub invariant-loop-member : goal.invariant-loop-member
invariant-loop-member l = texts_before l.texts.items (members_view (drop l.member-index l.members)) ≡ members_view l.members
