-- No group so far has the name.
use Rattle.std.proofs.Common.{◌≡◌, map, take, None}
use Rattle.rl_session.specs.Engine.{number_named}
use Rattle.rl_session.specs.WorldEngine.{listed}
use Rattle.rl_session.proofs.world_engine.group_named.Given as goal

abbrev pub invariant-loop-number : goal.invariant-loop-number
invariant-loop-number g l = number_named l.name (map listed (take l.number l.world.books)) ≡ None
