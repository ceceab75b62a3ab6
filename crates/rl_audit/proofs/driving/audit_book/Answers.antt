-- An item more was driven anew, or all were.
use Rattle.std.proofs.Common.{◌+◌, ◌∙◌, List, [], length, map, refl, sym, subst, arith}
use Rattle.std.proofs.lemmas.List.{length-map}
use Rattle.std.proofs.lemmas.Option.{slice_get_within}
use Rattle.rl_records.specs.declared.record.Record.{Record}
use Rattle.rl_shard.specs.ShardState.{ShardView}
use Rattle.rl_world.specs.declared.item.Item.{Item}
use Rattle.rl_audit.specs.Driven.{IsDriven}
use Rattle.rl_audit.proofs.Redriving.{driven_all, driven_more, driven_none, AreDriven}
use Rattle.rl_audit.proofs.driving.audit_book.Goals as goal

pub loop-item-init : goal.loop-item-init
loop-item-init g c =
    let shards = c.args.shards.now in
    let journals : List (List Record) = map (λ (shard : ShardView). shard.journal) shards in
    record {
      driven = driven_none journals c.args.book.now c.in_ok-driven.driven 1048576 (length shards) [] c.in_ok-driven.ensures (sym (length-map shards (λ (shard : ShardView). shard.journal)));
      same = refl;
    }

pub loop-item-preserved : goal.loop-item-preserved
loop-item-preserved g c =
    let journals : List (List Record) = map (λ (shard : ShardView). shard.journal) c.args.shards.now in
    let book = c.args.book.now in
    let index = c.loop-item.index in
    let item : Item = c.in-Some.item.now in
    let made = subst (λ (shards : List ShardView). IsDriven (map (λ (shard : ShardView). shard.journal) shards) c.loop-item.driven item c.drive.new.driven) {x = c.loop-item.shards} c.loop-item.invariant.same c.in_ok-drive.ensures.driven in
    let more : AreDriven journals book (index + 1) c.drive.new.driven = driven_more journals book index c.loop-item.driven c.drive.new.driven c.loop-item.invariant.driven item (sym c.in-Some.ensures) made in
    record {
      driven = subst (λ n. AreDriven journals book n c.drive.new.driven) {x = index + 1} (sym c.in-Some-checked_add.ensures.1) more;
      same = c.in_ok-drive.ensures.same ∙ c.loop-item.invariant.same;
    }

pub loop-item-smaller : goal.loop-item-smaller
loop-item-smaller g c =
    let there = slice_get_within c.args.book.now.history.items c.loop-item.index c.in-Some.item.now (sym c.in-Some.ensures) in
    omega (arith, there, c.in-Some-checked_add.ensures.1)

pub returns-clause-audited : goal.returns-clause-audited
returns-clause-audited g c =
    driven_all (map (λ (shard : ShardView). shard.journal) c.args.shards.now) c.args.book.now c.loop-item.index c.loop-item.driven c.loop-item.driven c.loop-item.invariant.driven (sym c.in_default.ensures)
