-- A shard decides, or refuses.
use Rattle.std.proofs.Common.{◌≡◌, ℕ, Bool, true, false, Result, Ok, Err, arith, refl, sym, subst, ◌∙◌}
use Rattle.std.proofs.lemmas.Bool.Decides.{nat_tests}
use Rattle.std.proofs.lemmas.Option.{slice_get_read}
use Rattle.rl_shard.specs.ShardFault.{IsHonest}
use Rattle.rl_shard.specs.Pushing.{Pushes, replied}
use Rattle.rl_shard.specs.ShardState.{journalled}
use Rattle.rl_shard.specs.ShardStep.{is_journal_full}
use Rattle.rl_shard.specs.declared.step.ShardFault.{ShardFault}
use Rattle.rl_records.specs.declared.step.ShardReply.{ShardReply}
use Rattle.rl_shard.specs.declared.step.ShardFault.TheVariants as shard_faults
use Rattle.rl_world.proofs.Turning.{each_at, err_is, shard_decided, shard_refused, stores_decided, stores_faulted}
use Rattle.rl_world.proofs.parts.WorldParts.shard.Goals as goal

-- a journal that is full decides nothing
not_full : (full : Bool) (answer : ℕ × ShardReply) → (full ≡ true → ◌≡◌ {A = Result (ℕ × ShardReply) ShardFault} (Ok answer) (Err shard_faults.JournalFull)) → full ≡ false
not_full true answer refused = let never : ⊥ = ok_err (refused refl) in absurd never
  where
    ok_err : ◌≡◌ {A = Result (ℕ × ShardReply) ShardFault} (Ok answer) (Err shard_faults.JournalFull) → ⊥
    ok_err h = cc
not_full false answer refused = refl

pub returns-in-Ok-clause-step : goal.returns-in-Ok-clause-step
returns-in-Ok-clause-step g c =
    let shards = c.args.self.now.shards.items in
    let shard = c.index_mut-shard.result.now in
    let there = slice_get_read shards c.len.result c.args.number shard (omega (arith, c.len.ensures, c.args.self.now.shards.ok.0)) (grind (arith, nat_tests, c.if-number-len.false)) c.index_mut-shard.ensures.value in
    λ honest. let own = each_at IsHonest shards c.args.number shard honest there in
    shard_decided shards c.args.self.now.books.items c.args.number c.args.step shard c.apply.new.self c.in-Ok.place c.in-Ok.reply there (λ h. (c.in-Ok.ensures.journal_full h).0) c.in-Ok.ensures.place (c.in-Ok.ensures.decided own) (c.in-Ok.ensures.changed own)

pub returns-in-Ok-clause-stores : goal.returns-in-Ok-clause-stores
returns-in-Ok-clause-stores g c =
    let shards = c.args.self.now.shards.items in
    let there = slice_get_read shards c.len.result c.args.number c.index_mut-shard.result.now (omega (arith, c.len.ensures, c.args.self.now.shards.ok.0)) (grind (arith, nat_tests, c.if-number-len.false)) c.index_mut-shard.ensures.value in
    let shard = c.index_mut-shard.result.now in
    let room : is_journal_full (journalled shard) ≡ false = not_full (is_journal_full (journalled shard)) (c.in-Ok.place, c.in-Ok.reply) (λ h. sym c.in-Ok.is ∙ (c.apply.ensures.journal_full h).0) in
    stores_decided shards c.args.self.now.books.items c.args.number c.in-Ok.place c.args.step c.in-Ok.reply c.index_mut-shard.result.now c.apply.new.self there c.apply.ensures.stored c.apply.ensures.numbers c.in-Ok.ensures.place c.in-Ok.ensures.record.0 c.in-Ok.ensures.record.1 c.in-Ok.ensures.answered c.in-Ok.ensures.done c.in-Ok.ensures.read c.apply.ensures.gives (subst (λ (answer : Result (ℕ × ShardReply) ShardFault). Pushes shard.streams shard.horizon c.args.step (replied answer) c.apply.new.self.streams) c.in-Ok.is (c.apply.ensures.pushed room))

pub returns-in-Err-clause-refused : goal.returns-in-Err-clause-refused
returns-in-Err-clause-refused g c =
    let shards = c.args.self.now.shards.items in
    let there = slice_get_read shards c.len.result c.args.number c.index_mut-shard.result.now (omega (arith, c.len.ensures, c.args.self.now.shards.ok.0)) (grind (arith, nat_tests, c.if-number-len.false)) c.index_mut-shard.ensures.value in
    shard_refused shards c.args.self.now.books.items c.args.number c.args.step c.index_mut-shard.result.now c.apply.new.self c.in-Err.fault c.refusal_of_shard.result there c.in-Err.ensures.may_come (λ h. err_is {A = ℕ × ShardReply} c.in-Err.fault shard_faults.JournalFull (sym c.in-Err.is ∙ (c.apply.ensures.journal_full h).0)) c.in-Err.ensures.kept c.refusal_of_shard.ensures

pub returns-in-Err-clause-step : goal.returns-in-Err-clause-step
returns-in-Err-clause-step g c = λ honest. returns-in-Err-clause-refused g c

pub returns-in-Err-clause-stores : goal.returns-in-Err-clause-stores
returns-in-Err-clause-stores g c =
    let shards = c.args.self.now.shards.items in
    let there = slice_get_read shards c.len.result c.args.number c.index_mut-shard.result.now (omega (arith, c.len.ensures, c.args.self.now.shards.ok.0)) (grind (arith, nat_tests, c.if-number-len.false)) c.index_mut-shard.ensures.value in
    stores_faulted shards c.args.self.now.books.items c.args.number c.args.step c.index_mut-shard.result.now c.apply.new.self c.in-Err.fault c.refusal_of_shard.result there c.apply.ensures.stored c.apply.ensures.numbers c.in-Err.ensures.may_come c.in-Err.ensures.grown c.apply.ensures.gives c.in-Err.ensures.kept c.refusal_of_shard.ensures
