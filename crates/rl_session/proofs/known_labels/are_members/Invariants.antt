-- Where the members that are left are the texts that are left, all are.
use Rattle.std.proofs.Common.{◌≡◌, drop}
use Rattle.json.specs.Value.{members_view}
use Rattle.rl_session.specs.KnownLabels.{texts_view}
use Rattle.rl_session.proofs.known_labels.are_members.Given as goal

abbrev pub invariant-loop-pair : goal.invariant-loop-pair
invariant-loop-pair l = members_view l.rest ≡ texts_view (drop l.pair-index l.texts) → members_view l.fn.members ≡ texts_view l.texts
