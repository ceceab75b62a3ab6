-- What the records give is the evaluation, and the last item.
use Rattle.std.proofs.Common.{◌≡◌, ◌-◌, List, length, map, slice_get, Some, sym, ap, subst, ◌∙◌}
use Rattle.std.proofs.lemmas.List.{length-map}
use Rattle.rl_aggregate.specs.declared.partial.Partial.{Partial}
use Rattle.rl_records.specs.declared.record.Record.{Record}
use Rattle.rl_shard.specs.ShardState.{ShardView}
use Rattle.rl_world.specs.History.{History, alerts_of, committed}
use Rattle.rl_world.specs.WorldState.{BookState}
use Rattle.rl_world.specs.declared.item.Item.TheVariants as kinds
use Rattle.rl_world.proofs.Items.{last_is}
use Rattle.rl_audit.specs.Driven.{IsLater}
use Rattle.rl_audit.specs.Founded.{IsFounded}
use Rattle.rl_audit.proofs.Regathering.{committed_by, founded_by}
use Rattle.rl_audit.proofs.driving.evaluate_again.Goals as goal

pub share_last-requires : goal.share_last-requires
share_last-requires g c =
    let shards = c.args.shards.now in
    let journals : List (List Record) = map (λ (shard : ShardView). shard.journal) shards in
    let all : length shards ≡ length journals = sym (length-map shards (λ (shard : ShardView). shard.journal)) in
    let old = c.args.driven.now in
    let evaluation = c.args.evaluation.now in
    let same = sym c.get.ensures ∙ c.is_same.ensures.0 c.if-is_same.true in
    let made = committed_by journals (length shards) c.get-given.result.now old c.gather_again.new.driven all c.requires.shards c.in_ok-gather_again.ensures.gathered c.in-Ok.made.evaluation c.commit.new.self c.in-Ok.ensures.history same in
    let is : c.commit.new.self.history ≡ committed old.history evaluation = made ∙ ap (committed old.history) c.get-given.ensures in
    record {
      last = subst (λ (history : History (List Partial)). slice_get history.items (length history.items - 1) ≡ Some (kinds.Evaluated evaluation)) (sym is) (last_is old.history.items (kinds.Evaluated evaluation));
    }

pub returns-then-is_same-clause-history : goal.returns-then-is_same-clause-history
returns-then-is_same-clause-history g c =
    let shards = c.args.shards.now in
    let journals : List (List Record) = map (λ (shard : ShardView). shard.journal) shards in
    let all : length shards ≡ length journals = sym (length-map shards (λ (shard : ShardView). shard.journal)) in
    let old = c.args.driven.now in
    let same = sym c.get.ensures ∙ c.is_same.ensures.0 c.if-is_same.true in
    let made = committed_by journals (length shards) c.get-given.result.now old c.gather_again.new.driven all c.requires.shards c.in_ok-gather_again.ensures.gathered c.in-Ok.made.evaluation c.commit.new.self c.in-Ok.ensures.history same in
    ap (λ (book : BookState). book.history) c.share_last.ensures ∙ made ∙ ap (committed old.history) c.get-given.ensures

pub returns-then-is_same-clause-founded : goal.returns-then-is_same-clause-founded
returns-then-is_same-clause-founded g c =
    let shards = c.args.shards.now in
    let journals : List (List Record) = map (λ (shard : ShardView). shard.journal) shards in
    let all : length shards ≡ length journals = sym (length-map shards (λ (shard : ShardView). shard.journal)) in
    let old = c.args.driven.now in
    let same = sym c.get.ensures ∙ c.is_same.ensures.0 c.if-is_same.true in
    let founded = founded_by journals (length shards) c.get-given.result.now old c.gather_again.new.driven all c.requires.shards c.in_ok-gather_again.ensures.gathered c.in-Ok.made.evaluation c.in-Ok.ensures.evaluation same in
    subst (IsFounded journals old.slot old.history.group (alerts_of old.history)) c.get-given.ensures founded

pub returns-then-is_same-clause-later : goal.returns-then-is_same-clause-later
returns-then-is_same-clause-later g c = subst (IsLater c.args.driven.now.history) c.get-given.ensures (c.is_later.ensures c.if-not-is_later.false)
