-- The bytes of a record are read as that record.
use Rattle.std.proofs.Common.{◌≡◌, ℕ, ◌^◌, ◌<◌, true, List, [], ◌∷◌, ◌++◌, length, map, None, Ok, refl, sym, ap, subst, ◌∙◌, append_assoc, append-nil}
use Rattle.std.specs.FinMap.{entries, entries_sorted, from_entries, get, len, get-entries, get-from_entries, len-entries, same_map}
use Rattle.std.specs.FinMap.Entries.{below_all, is_sorted}
use Rattle.std.specs.List.{flat_map}
use Rattle.std.proofs.lemmas.Bool.{and_parts, le-ltb}
use Rattle.std.proofs.lemmas.List.Folds.{flat_map-map}
use Rattle.rl_plain.specs.laws.Bools.{true_from}
use Rattle.rl_labels.specs.laws.TextLaws.{label_set_cmp_total, label_set_cmp-IsAntisymmetric}
use Rattle.rl_aggregate.specs.TotalsMap.{TotalsMap}
use Rattle.rl_segments.proofs.WrittenLabels.{not_before}
use Rattle.rl_labels.specs.EntryAnswers.{entry_fault}
use Rattle.rl_labels.specs.LabelSet.{LabelSet}
use Rattle.rl_labels.specs.LabelText.{canonical_text, label_set_cmp}
use Rattle.rl_labels.specs.declared.entry.Entry.{Entry}
use Rattle.rl_chunks.proofs.Labels.{of_stream as stream_facts}
use Rattle.rl_query.specs.Form.{term_form}
use Rattle.rl_query.specs.declared.filter.Sieve.{Sieve}
use Rattle.rl_query.specs.declared.query.Term.{Term}
use Rattle.rl_aggregate.specs.declared.partial.Partial.{Partial}
use Rattle.rl_aggregate.specs.declared.volume.Volume.{Volume}
use Rattle.rl_deletes.specs.declared.deletion.Deletion.{Deletion}
use Rattle.rl_records.specs.Prints.{sieve_print, term_print}
use Rattle.rl_records.specs.RecordBytes.{deletion_bytes, frame, number, partial_bytes, push_bytes, record_bytes, reply_bytes, step_bytes, terms_bytes, volume_bytes}
use Rattle.rl_records.specs.declared.record.Record.{Record}
use Rattle.rl_records.specs.declared.step.ShardReply.{ShardReply}
use Rattle.rl_records.specs.declared.step.ShardReply.TheVariants as replies
use Rattle.rl_records.specs.declared.step.ShardStep.{ShardStep}
use Rattle.rl_records.specs.declared.step.ShardStep.TheVariants as steps
use Rattle.rl_segments.specs.Forms.{cuts, flushes, deletion_form, entry_form, pushes, deletes, step_form, record_form}
use Rattle.rl_segments.specs.RecordReading.{cancel_at, collect_at, delete_at, in_turn, process_at, push_at, record_in, retain_at, step_at, step_by, term_at, collected_at, expired_at, late_at, partial_at, plain_reply, reply_at, reply_by, totals_of, volume_at}
use Rattle.rl_segments.specs.Records.{IsDeletion, IsEntry, IsInMemory, IsPartial, IsReply, IsStep, IsText, IsTotal}
use Rattle.rl_segments.proofs.WrittenFields.{IsShort, labels_at_again, moment_again, short_rest, sieve_at_again, stream_at_again, term_at_again, text_again}
use Rattle.rl_segments.proofs.WrittenFrames.{number_again}
use Rattle.rl_segments.proofs.Turns.{turns_again}

map-id : {A : Type 0} (xs : List A) → map (λ x. x) xs ≡ xs
map-id [] = refl
map-id (x ∷ xs) = ap (λ ys. x ∷ ys) (map-id xs)

-- ---- steps

push_again : (entry : Entry) (rest : List ℕ) → IsEntry entry → IsShort (push_bytes entry ++ rest) → step_at (push_bytes entry ++ rest) ≡ Ok (pushes (entry_form entry), rest)
unfolding step_at step_by push_at
push_again entry rest is short =
    let labels = frame (canonical_text entry.labels) in
    let time = number entry.timestamp in
    let line = frame entry.line in
    let spelt : push_bytes entry ++ rest ≡ 1 ∷ (labels ++ (time ++ (line ++ rest))) = append_assoc ((1 ∷ labels) ++ time) line rest ∙ append_assoc (1 ∷ labels) time (line ++ rest) in
    let all : IsShort (1 ∷ (labels ++ (time ++ (line ++ rest)))) = subst IsShort spelt short in
    let first : IsShort (labels ++ (time ++ (line ++ rest))) = short_rest (1 ∷ []) _ all in
    let last : IsShort (line ++ rest) = short_rest time _ (short_rest labels _ first) in
    let none : entry_fault entry.labels entry.line ≡ None = rw ((stream_facts entry.labels entry.of_stream).some, le-ltb _ _ entry.fits) refl in
    ap step_at spelt
    ∙ rw (stream_at_again entry.labels (time ++ (line ++ rest)) entry.of_stream is.0 first, moment_again entry.timestamp (line ++ rest) is.1, text_again entry.line rest is.2 last, none) refl

delete_again : (deletion : Deletion Sieve) (rest : List ℕ) → IsDeletion deletion → IsShort (deletion_bytes deletion ++ rest) → step_at (deletion_bytes deletion ++ rest) ≡ Ok (deletes (deletion_form deletion), rest)
unfolding step_at step_by delete_at
delete_again deletion rest is short =
    let id = number deletion.id in
    let selector = frame (sieve_print deletion.selector) in
    let start = number deletion.start in
    let end = number deletion.end in
    let created = number deletion.created in
    let spelt : deletion_bytes deletion ++ rest ≡ 4 ∷ (id ++ (selector ++ (start ++ (end ++ (created ++ rest))))) =
    append_assoc ((((4 ∷ id) ++ selector) ++ start) ++ end) created rest
    ∙ append_assoc (((4 ∷ id) ++ selector) ++ start) end (created ++ rest)
    ∙ append_assoc ((4 ∷ id) ++ selector) start (end ++ (created ++ rest))
    ∙ append_assoc (4 ∷ id) selector (start ++ (end ++ (created ++ rest))) in
    let all : IsShort (4 ∷ (id ++ (selector ++ (start ++ (end ++ (created ++ rest)))))) = subst IsShort spelt short in
    let framed : IsShort (selector ++ (start ++ (end ++ (created ++ rest)))) = short_rest (4 ∷ id) _ all in
    ap step_at spelt
    ∙ rw (number_again deletion.id (selector ++ (start ++ (end ++ (created ++ rest)))) is.0, sieve_at_again deletion.selector (start ++ (end ++ (created ++ rest))) is.1 framed, moment_again deletion.start (end ++ (created ++ rest)) is.2, moment_again deletion.end (created ++ rest) is.3, moment_again deletion.created rest is.4) refl

cancel_again : (id : ℕ) (rest : List ℕ) → id < 2 ^ 64 → step_at (5 ∷ [] ++ number id ++ rest) ≡ Ok (step_form (steps.Cancel id), rest)
unfolding step_at step_by cancel_at
cancel_again id rest is = rw (number_again id rest is) refl

cut_again : (rest : List ℕ) → step_at (2 ∷ rest) ≡ Ok (cuts, rest)
unfolding step_at step_by
cut_again rest = refl

flush_again : (rest : List ℕ) → step_at (3 ∷ rest) ≡ Ok (flushes, rest)
unfolding step_at step_by
flush_again rest = refl

process_again : (id now : ℕ) (rest : List ℕ) → IsStep (steps.Process id now) → step_at (step_bytes (steps.Process id now) ++ rest) ≡ Ok (step_form (steps.Process id now), rest)
unfolding step_at step_by process_at
process_again id now rest is = ap step_at (append_assoc (6 ∷ number id) (number now) rest) ∙ rw (number_again id (number now ++ rest) is.0, moment_again now rest is.1) refl

retain_again : (now : ℕ) (rest : List ℕ) → IsStep (steps.Retain now) → step_at (step_bytes (steps.Retain now) ++ rest) ≡ Ok (step_form (steps.Retain now), rest)
unfolding step_at step_by retain_at
retain_again now rest is = rw (moment_again now rest is) refl

collect_again : (slot : ℕ) (terms : List Term) (t : ℕ) (rest : List ℕ) → IsStep (steps.Collect slot terms t) → IsShort (step_bytes (steps.Collect slot terms t) ++ rest) → step_at (step_bytes (steps.Collect slot terms t) ++ rest) ≡ Ok (step_form (steps.Collect slot terms t), rest)
unfolding step_at step_by collect_at
collect_again slot terms t rest is short =
    let own = number slot in
    let count = number (length terms) in
    let frames = flat_map (λ term. frame (term_print term)) terms in
    let last = number t ++ rest in
    let spelt : step_bytes (steps.Collect slot terms t) ++ rest ≡ 8 ∷ (own ++ (count ++ (frames ++ last))) =
    append_assoc ((8 ∷ own) ++ terms_bytes terms) (number t) rest
    ∙ append_assoc (8 ∷ own) (terms_bytes terms) last
    ∙ ap (λ (bytes : List ℕ). 8 ∷ (own ++ bytes)) (append_assoc count (flat_map frame (map term_print terms)) last ∙ ap (λ (fs : List ℕ). count ++ (fs ++ last)) (flat_map-map frame term_print terms)) in
    let all : IsShort (8 ∷ (own ++ (count ++ (frames ++ last)))) = subst IsShort spelt short in
    let framed : IsShort (frames ++ last) = short_rest count _ (short_rest (8 ∷ own) _ all) in
    ap step_at spelt
    ∙ rw (number_again slot (count ++ (frames ++ last)) is.0, number_again (length terms) (frames ++ last) is.1.0, turns_again term_at term_form (λ term. frame (term_print term)) (λ term. IsText (term_print term)) term_at_again terms last is.1.1 framed, moment_again t rest is.2) refl

pub step_again : (step : ShardStep) (rest : List ℕ) → IsStep step → IsShort (step_bytes step ++ rest) → step_at (step_bytes step ++ rest) ≡ Ok (step_form step, rest)
step_again (steps.Push entry) rest is short = push_again entry rest is short
step_again steps.Cut rest is short = cut_again rest
step_again steps.Flush rest is short = flush_again rest
step_again (steps.Delete deletion) rest is short = delete_again deletion rest is short
step_again (steps.Cancel id) rest is short = cancel_again id rest is
step_again (steps.Process id now) rest is short = process_again id now rest is
step_again (steps.Retain now) rest is short = retain_again now rest is
step_again (steps.Collect slot terms t) rest is short = collect_again slot terms t rest is short

-- ---- replies

total_again : (total : LabelSet × Volume) (rest : List ℕ) → IsTotal total → IsShort (volume_bytes total ++ rest) → volume_at (volume_bytes total ++ rest) ≡ Ok (total, rest)
unfolding volume_at
total_again total rest is short =
    let labels = frame (canonical_text total.0) in
    let count = number total.1.count in
    let own = number total.1.bytes in
    let spelt : volume_bytes total ++ rest ≡ labels ++ (count ++ (own ++ rest)) = append_assoc (labels ++ count) own rest ∙ append_assoc labels count (own ++ rest) in
    ap volume_at spelt
    ∙ rw (labels_at_again total.0 (count ++ (own ++ rest)) is.0 (subst IsShort spelt short), number_again total.1.count (own ++ rest) is.1, number_again total.1.bytes rest is.2) refl

totals_from : (totals : List (LabelSet × Volume)) → is_sorted label_set_cmp totals ≡ true → totals_of totals ≡ Ok (from_entries totals)
unfolding totals_of
totals_from [] sorted = refl
totals_from (total ∷ totals) sorted =
    let parts = and_parts (below_all label_set_cmp total.0 totals) (is_sorted label_set_cmp totals) sorted in
    let none : get (from_entries {R = label_set_cmp} totals) total.0 ≡ None = get-from_entries label_set_cmp_total totals total.0 ∙ not_before label_set_cmp total.0 totals parts.0 in
    rw (totals_from totals parts.1, none) refl

totals_again : (totals : TotalsMap) → totals_of (entries totals) ≡ Ok totals
totals_again totals =
    totals_from (entries totals) (true_from _ (entries_sorted totals))
    ∙ ap (λ (same : TotalsMap). Ok same) (same_map label_set_cmp_total label_set_cmp-IsAntisymmetric (from_entries (entries totals)) totals (λ q. get-from_entries label_set_cmp_total (entries totals) q ∙ sym (get-entries totals q)))

partial_again : (partial : Partial) (rest : List ℕ) → IsPartial partial → IsShort (partial_bytes partial ++ rest) → partial_at (partial_bytes partial ++ rest) ≡ Ok (partial, rest)
unfolding partial_at
partial_again partial rest is short =
    let errors = number partial.errors in
    let totals = entries partial.totals in
    let count = number (len partial.totals) in
    let volumes = flat_map volume_bytes totals in
    let spelt : partial_bytes partial ++ rest ≡ errors ++ (count ++ (volumes ++ rest)) = append_assoc (errors ++ count) volumes rest ∙ append_assoc errors count (volumes ++ rest) in
    let listed : IsShort (volumes ++ rest) = short_rest count _ (short_rest errors _ (subst IsShort spelt short)) in
    let turns : in_turn volume_at (len partial.totals) (volumes ++ rest) ≡ Ok (totals, rest) =
    ap (λ n. in_turn volume_at n (volumes ++ rest)) (len-entries partial.totals)
    ∙ turns_again volume_at (λ total. total) volume_bytes IsTotal total_again totals rest is.2 listed
    ∙ ap (λ (same : List (LabelSet × Volume)). Ok (same, rest)) (map-id totals) in
    ap partial_at spelt
    ∙ rw (number_again partial.errors (count ++ (volumes ++ rest)) is.0, number_again (len partial.totals) (volumes ++ rest) is.1, turns, totals_again partial.totals) refl

collected_again : (partials : List Partial) (rest : List ℕ) → IsReply (replies.Collected partials) → IsShort (reply_bytes (replies.Collected partials) ++ rest) → reply_at (reply_bytes (replies.Collected partials) ++ rest) ≡ Ok (replies.Collected partials, rest)
unfolding reply_at reply_by collected_at
collected_again partials rest is short =
    let count = number (length partials) in
    let all = flat_map partial_bytes partials in
    let spelt : reply_bytes (replies.Collected partials) ++ rest ≡ 12 ∷ (count ++ (all ++ rest)) = append_assoc (12 ∷ count) all rest in
    let listed : IsShort (all ++ rest) = short_rest (12 ∷ count) _ (subst IsShort spelt short) in
    let turns : in_turn partial_at (length partials) (all ++ rest) ≡ Ok (partials, rest) =
    turns_again partial_at (λ partial. partial) partial_bytes IsPartial partial_again partials rest is.1 listed
    ∙ ap (λ (same : List Partial). Ok (same, rest)) (map-id partials) in
    ap reply_at spelt ∙ rw (number_again (length partials) (all ++ rest) is.0, turns) refl

pub reply_again : (reply : ShardReply) (rest : List ℕ) → IsReply reply → IsShort (reply_bytes reply ++ rest) → reply_at (reply_bytes reply ++ rest) ≡ Ok (reply, rest)
unfolding reply_at reply_by plain_reply expired_at late_at
reply_again replies.Accepted rest is short = refl
reply_again replies.Done rest is short = refl
reply_again (replies.Expired horizon) rest is short = rw (moment_again horizon rest is) refl
reply_again (replies.TooFarBehind newest) rest is short = rw (moment_again newest rest is) refl
reply_again replies.Full rest is short = refl
reply_again replies.IdTaken rest is short = refl
reply_again replies.RequestsFull rest is short = refl
reply_again replies.NoSuchRequest rest is short = refl
reply_again replies.AlreadyProcessed rest is short = refl
reply_again replies.WasCancelled rest is short = refl
reply_again replies.TooEarly rest is short = refl
reply_again (replies.Collected partials) rest is short = collected_again partials rest is short

-- ---- records

pub record_again : (it : Record) → IsInMemory it → IsShort (record_bytes it) → record_in (record_bytes it) ≡ Ok (record_form it)
unfolding record_in
record_again it is short =
    let last : reply_at (reply_bytes it.reply) ≡ Ok (it.reply, []) =
    ap reply_at (sym (append-nil (reply_bytes it.reply))) ∙ reply_again it.reply [] is.1 (subst IsShort (sym (append-nil (reply_bytes it.reply))) (short_rest (step_bytes it.step) _ short)) in
    rw (step_again it.step (reply_bytes it.reply) is.0 short, last) refl
