-- As many shards, groups and callers, each as it begins.
use Rattle.std.proofs.Common.{◌≡◌, ℕ, List, [], map, length, sym, ap, subst, ◌∙◌, arith}
use Rattle.std.proofs.lemmas.List.{length-map}
use Rattle.std.specs.List.{AllByRecursion}
use Rattle.rl_shard.specs.ShardState.{ShardView}
use Rattle.rl_sinks.specs.SinkState.{SinkState}
use Rattle.rl_world.specs.BookCalls.{books_from}
use Rattle.rl_world.specs.WorldState.{BookState}
use Rattle.rl_workers.specs.Closing.{IsSeated}
use Rattle.rl_workers.specs.Rulers.{RulerView}
use Rattle.rl_workers.proofs.Books.{count_from, empty_over, seated_from}
use Rattle.rl_workers.proofs.ruler.open_counted.Goals as goal

pub open_desks-requires-clause-parts : goal.open_desks-requires-clause-parts
open_desks-requires-clause-parts g c =
    let shards = c.into_parts-shards.ensures.shards ∙ c.in_ok-world.ensures.shards in
    (c.requires.shards.0, c.requires.shards.1 ∙ c.requires.shards.2 ∙ sym (ap (λ (all : List ShardView). length all) shards ∙ length-map c.args.stores.items _))

pub open_desks-requires-clause-empty : goal.open_desks-requires-clause-empty
open_desks-requires-clause-empty g c =
    subst (AllByRecursion (λ (shard : ShardView). shard.journal ≡ [])) (sym (c.into_parts-shards.ensures.shards ∙ c.in_ok-world.ensures.shards)) (empty_over g.D.Store.seen c.args.limits c.args.stores.items)

pub open_seats-requires : goal.open_seats-requires
open_seats-requires g c =
    let books = c.into_parts-shards.ensures.books ∙ c.in_ok-world.ensures.books in
    let sinks : List (List SinkState) = map (λ own. map g.S.Sink.state own.items) c.args.books.1.items in
    let of_all = subst (λ n. AllByRecursion (IsSeated n) (books_from 0 c.args.limits.records (length c.args.stores.items) c.args.books.0.items sinks)) (sym c.requires.shards.2) (seated_from 0 c.args.limits.records (length c.args.stores.items) c.args.books.0.items sinks) in
    record { closed = subst (AllByRecursion (IsSeated g.L.Crew.all)) (sym books) of_all }

pub invariant_of-ruler : goal.invariant_of-ruler
invariant_of-ruler g c =
    let shards = ap (λ (all : List ShardView). length all) (c.into_parts-shards.ensures.shards ∙ c.in_ok-world.ensures.shards) ∙ length-map c.args.stores.items _ in
    let count : length c.in_ok-desks.desks.shards.items ≡ length c.args.stores.items = c.in_ok-desks.ensures.count ∙ shards in
    (omega (arith, count, c.requires.few.0), omega (arith, count, c.requires.few.1), count ∙ sym c.requires.shards.2, sym c.requires.callers.2)

pub returns-clause-ruler : goal.returns-clause-ruler
returns-clause-ruler g c =
    let shards = ap (λ (all : List ShardView). length all) (c.into_parts-shards.ensures.shards ∙ c.in_ok-world.ensures.shards) ∙ length-map c.args.stores.items _ in
    let count : length c.in_ok-desks.desks.shards.items ≡ length c.args.stores.items = c.in_ok-desks.ensures.count ∙ shards in
    let books = ap (λ (all : List BookState). length all) (c.into_parts-shards.ensures.books ∙ c.in_ok-world.ensures.books)
    ∙ count_from 0 c.args.limits.records (length c.args.stores.items) c.args.books.0.items _ (length-map c.args.books.1.items _ ∙ c.requires.lists) in
    let seats : length c.in_ok-seats.seats.items ≡ length c.args.books.0.items = c.in_ok-seats.ensures ∙ books in
    let by_shards = λ (n : ℕ). let view : RulerView = record { shards = n; groups = length c.in_ok-seats.seats.items; callers = c.args.callers } in view in
    let by_groups = λ (n : ℕ). let view : RulerView = record { shards = length c.args.stores.items; groups = n; callers = c.args.callers } in view in
    ap by_shards count ∙ ap by_groups seats
