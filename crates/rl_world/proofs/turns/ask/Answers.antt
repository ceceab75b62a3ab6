-- A shard shows no more than it may hold, and the list that it has where its store is honest.
use Rattle.std.proofs.Common.{sym, ◌∙◌, inl}
use Rattle.rl_shard.specs.ShardState.{journalled, visible}
use Rattle.rl_world.specs.Kept.{partials_of}
use Rattle.rl_world.proofs.Shown.{collected_answered, collected_is, collected_of_one_shard, collected_read, only_collected}
use Rattle.rl_world.proofs.turns.ask.Goals as goal

pub unreachable-requires : goal.unreachable-requires
unreachable-requires g c =
    let old = journalled c.args.shard.now in
    let new = journalled c.apply.new.self in
    only_collected old.limits old.state new.state c.args.slot c.args.t c.args.terms c.in_ok-place.reply c.in_ok-place.ensures.answered c.in_default.not-Collected

pub returns-clause-decides : goal.returns-clause-decides
returns-clause-decides g c =
    let old = journalled c.args.shard.now in
    let new = journalled c.apply.new.self in
    let said = c.in_ok-place.ensures in
    record {
      place_is = said.place;
      limits = said.record.0;
      records = said.record.1;
      answered = collected_answered old.limits old.state new.state c.args.slot c.args.t c.args.terms c.in_ok-place.reply c.in-Collected.partials said.answered c.in-Collected.is;
      done = said.done;
      read = collected_read c.args.shard.now c.args.slot c.args.t c.args.terms c.in_ok-place.reply c.in-Collected.partials said.read c.in-Collected.is;
      gives = c.apply.ensures.gives;
      pushed = inl tt;
    }

pub returns-clause-one_shard : goal.returns-clause-one_shard
returns-clause-one_shard g c =
    let old = journalled c.args.shard.now in
    let new = journalled c.apply.new.self in
    collected_of_one_shard old.limits old.state new.state c.args.slot c.args.t c.args.terms c.in_ok-place.reply c.in-Collected.partials c.in_ok-place.ensures.answered c.in-Collected.is old.limits.entries_in_range.1

pub returns-clause-shown : goal.returns-clause-shown
returns-clause-shown g c = λ honest. collected_is c.in-Collected.partials (partials_of (visible (journalled c.args.shard.now).state) c.args.terms c.args.t) (sym c.in-Collected.is ∙ c.in_ok-place.ensures.decided honest)
