-- The audit ends well, the shares are joined, and the sinks closed.
use Rattle.std.proofs.Common.{◌≡◌, ◌++◌, List, length, map, take, drop, sym, ap, subst, ◌∙◌, arith}
use Rattle.std.proofs.lemmas.List.{with_items_is}
use Rattle.std.specs.List.{AllByRecursion}
use Rattle.rl_audit.specs.declared.fault.AuditFault.TheVariants as audits
use Rattle.rl_audit.specs.Founded.{AreFromScratch, IsAudited}
use Rattle.rl_audit.specs.Merged.{AreNoted}
use Rattle.rl_world.specs.WorldState.{BookState}
use Rattle.rl_world.specs.declared.item.Item.{Item}
use Rattle.rl_workers.specs.Closing.{unclosed_in, without_sinks, IsSeated}
use Rattle.rl_workers.proofs.Ending.{all_of_parts, as_many, parts_of_parts, same_sum}
use Rattle.rl_workers.proofs.ruler.Ruler.close.Goals as goal

pub invariant_of-unlocked : goal.invariant_of-unlocked
invariant_of-unlocked g c =
    let old = c.in-Ok.unlocked in
    let same = c.audited.ensures in
    let shards = ap length same.items.0 in
    record {
      parts = subst (AllByRecursion (λ share. share.parts ≡ 1)) (sym same.items.1) old.parts;
      amounts = ap (map (λ share. share.amount)) same.items.1 ∙ old.amounts ∙ ap (map (λ shard. length shard.journal)) (sym same.items.0);
      seated = subst (AllByRecursion (IsSeated g.L.Crew.all)) (sym same.items.2) old.seated;
      many = (omega (arith, shards, old.many.0), omega (arith, shards, old.many.1), shards ∙ old.many.2, old.many.3);
      desks_fit = (same.desks.0 ∙ old.desks_fit.0, omega (arith, shards, same.desks.1, old.desks_fit.1));
      seats_fit = (same.seats.0 ∙ old.seats_fit.0, omega (arith, ap length same.items.2, same.seats.1, old.seats_fit.1));
    }

pub returns-in-Err-clause-refused : goal.returns-in-Err-clause-refused
returns-in-Err-clause-refused g c = λ all. (audits.Memory, c.refused-in-Err.ensures.0)

pub join-requires-clause-records : goal.join-requires-clause-records
join-requires-clause-records g c =
    let old = c.in-Ok.unlocked in
    let shares = c.audited.ensures.items.1 in
    (ap length shares ∙ as_many (λ shard. length shard.journal) (λ share. share.amount) old.rooms.shards.items old.rooms.shares.items old.amounts ∙ old.many.2 ∙ sym c.requires.parts.0, subst (AllByRecursion (λ share. share.parts ≡ 1)) (sym shares) old.parts)

pub returns-clause-counted : goal.returns-clause-counted
returns-clause-counted g c =
    let old = c.in-Ok.unlocked in
    let same = c.audited.ensures.items in
    same_sum (λ shard. length shard.journal) (λ share. share.amount) c.audited.new.rooms.shards.items c.audited.new.rooms.shares.items (ap (map (λ share. share.amount)) same.1 ∙ old.amounts ∙ ap (map (λ shard. length shard.journal)) (sym same.0)) ∙ c.join.ensures

-- what the audit says of the books holds of them without their sinks
pub returns-clause-noted : goal.returns-clause-noted
returns-clause-noted g c =
    let books = c.audited.new.rooms.books in
    let new = c.close_all.new.books in
    let items : BookState → List Item = λ book. book.history.items in
    let put_back : take books.len (new ++ drop (length new) books.items) ≡ new = with_items_is books new (omega (arith, c.close_all.auto.books, c.deref_mut.ensures.len)) in
    let same : map without_sinks new ≡ map without_sinks books.items = c.close_all.ensures.rest ∙ ap (map without_sinks) c.deref_mut.ensures.value in
    subst (λ histories. AreNoted histories (map (λ pass. pass.notes) c.args.passes.items)) (sym (ap (map items) put_back ∙ parts_of_parts without_sinks items new books.items same))
    (subst (λ passes. AreNoted (map items books.items) (map (λ pass. pass.notes) passes)) c.deref.ensures.value c.in-Ok-audited.ensures.noted)

pub returns-clause-audited : goal.returns-clause-audited
returns-clause-audited g c =
    let books = c.audited.new.rooms.books in
    let new = c.close_all.new.books in
    let journals = map (λ shard. shard.journal) c.audited.new.rooms.shards.items in
    let put_back : take books.len (new ++ drop (length new) books.items) ≡ new = with_items_is books new (omega (arith, c.close_all.auto.books, c.deref_mut.ensures.len)) in
    let same : map without_sinks new ≡ map without_sinks books.items = c.close_all.ensures.rest ∙ ap (map without_sinks) c.deref_mut.ensures.value in
    subst (AllByRecursion (IsAudited journals)) (sym put_back) (all_of_parts without_sinks (IsAudited journals) new books.items same c.in-Ok-audited.ensures.audited)

pub returns-clause-from_scratch : goal.returns-clause-from_scratch
returns-clause-from_scratch g c = λ honest.
    let books = c.audited.new.rooms.books in
    let new = c.close_all.new.books in
    let shards = c.audited.new.rooms.shards.items in
    let put_back : take books.len (new ++ drop (length new) books.items) ≡ new = with_items_is books new (omega (arith, c.close_all.auto.books, c.deref_mut.ensures.len)) in
    let same : map without_sinks new ≡ map without_sinks books.items = c.close_all.ensures.rest ∙ ap (map without_sinks) c.deref_mut.ensures.value in
    subst (AllByRecursion (AreFromScratch shards)) (sym put_back) (all_of_parts without_sinks (AreFromScratch shards) new books.items same (c.in-Ok-audited.ensures.from_scratch honest))

pub returns-clause-unclosed : goal.returns-clause-unclosed
returns-clause-unclosed g c =
    let books = c.audited.new.rooms.books in
    let new = c.close_all.new.books in
    let put_back : take books.len (new ++ drop (length new) books.items) ≡ new = with_items_is books new (omega (arith, c.close_all.auto.books, c.deref_mut.ensures.len)) in
    c.close_all.ensures.unclosed ∙ ap (λ l. l ++ unclosed_in 0 new) c.in-Ok-audited.ensures.empty ∙ ap (unclosed_in 0) (sym put_back)
