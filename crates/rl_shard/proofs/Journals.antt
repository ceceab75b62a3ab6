-- Journals that grow by a record.
use Rattle.std.proofs.Common.{◌≡◌, ◌<◌, ◌-◌, true, List, [], ◌∷◌, ◌++◌, length, slice_get, Some, option_map, ap, subst, sym, ◌∙◌, length-append, arith}
use Rattle.std.proofs.Math.Seq.{get_or-append_seam}
use Rattle.std.proofs.lemmas.Option.{slice_get-get_or}
use Rattle.rl_labels.specs.declared.limits.Limits.{Limits}
use Rattle.rl_records.specs.RecordBytes.{digest_of}
use Rattle.rl_records.specs.declared.record.Record.{Record}
use Rattle.rl_shard.specs.Journal.{last_digest, IsJournalOf, IsShard, LeadsTo}
use Rattle.rl_shard.specs.ShardState.{PartsView, ShardState, empty_shard, state_of}
use Rattle.rl_shard.specs.ShardStep.{IsReply, stepped}

-- records lead on by one more to what its step leaves
pub leads-append : (limits : Limits) (old middle new : ShardState) (journal : List Record) (one : Record) → LeadsTo limits old journal middle → IsReply limits middle one.step one.reply → new ≡ stepped limits middle one.step → LeadsTo limits old (journal ++ one ∷ []) new
leads-append limits old middle new [] one leads reply is =
    subst (λ (state : ShardState). IsReply limits state one.step one.reply × (new ≡ stepped limits state one.step)) leads (reply, is)
leads-append limits old middle new (first ∷ journal) one leads reply is =
    (leads.0, leads-append limits (stepped limits old first.step) middle new journal one leads.1 reply is)

-- the digest of the last one is that of the record that came
pub last-append : (journal : List Record) (one : Record) → last_digest (journal ++ one ∷ []) ≡ Some (digest_of one)
last-append journal one =
    let all = journal ++ one ∷ [] in
    let long = length-append journal (one ∷ []) in
    let index : length all - 1 ≡ length journal = omega (arith, long) in
    ap (option_map digest_of) (ap (slice_get all) index ∙ slice_get-get_or all (length journal) one (omega (arith, long)) ∙ ap Some (get_or-append_seam journal one [] one))

-- a shard after a step that was refused, or for whose record there was no room
pub kept_shard : (old new : PartsView) (journal after : List Record) → after ≡ journal → new.streams.limits ≡ old.streams.limits → new.streams.seen.honest ≡ old.streams.seen.honest → state_of new ≡ state_of old → IsShard old journal → IsShard new after
kept_shard old new journal after same limits honest state shard = record {
  few = omega (arith, shard.few, ap length same, ap (λ (l : Limits). l.records) limits);
  legal = λ is. subst (λ js. IsJournalOf new.streams.limits js (state_of new)) (sym same)
      (subst (λ (l : Limits). IsJournalOf l journal (state_of new)) (sym limits) (subst (IsJournalOf old.streams.limits journal) (sym state) (shard.legal (sym honest ∙ is))));
}

-- and after one that was decided
pub grown_shard : (old new : PartsView) (journal after : List Record) (one : Record) → after ≡ journal ++ one ∷ [] → new.streams.limits ≡ old.streams.limits → new.streams.seen.honest ≡ old.streams.seen.honest → length journal < old.streams.limits.records
    → (old.streams.seen.honest ≡ true → IsReply old.streams.limits (state_of old) one.step one.reply) → (old.streams.seen.honest ≡ true → state_of new ≡ stepped old.streams.limits (state_of old) one.step) → IsShard old journal → IsShard new after
grown_shard old new journal after one more limits honest room reply changed shard = record {
  few = omega (arith, room, ap length more, length-append journal (one ∷ []), ap (λ (l : Limits). l.records) limits);
  legal = λ is. let was = sym honest ∙ is in
      subst (λ js. IsJournalOf new.streams.limits js (state_of new)) (sym more)
      (subst (λ (l : Limits). IsJournalOf l (journal ++ one ∷ []) (state_of new)) (sym limits)
      (leads-append old.streams.limits (empty_shard old.streams.limits) (state_of old) (state_of new) journal one (shard.legal was) (reply was) (changed was)));
}
