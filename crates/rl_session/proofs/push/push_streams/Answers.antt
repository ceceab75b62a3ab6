-- The entries of one stream more.
use Rattle.std.proofs.Common.{◌≡◌, ◌<◌, ◌+◌, ◌∷◌, map, length, drop, sym, ap, subst, ◌∙◌, arith}
use Rattle.std.proofs.lemmas.List.{drop_more}
use Rattle.std.proofs.lemmas.Result.{err_from_is_err_and}
use Rattle.json.specs.Value.{items_view}
use Rattle.rl_json.specs.JsonData.{items_data}
use Rattle.rl_plain.specs.Answers.{with_front}
use Rattle.rl_plain.specs.laws.Reading.{both_read, both_fail}
use Rattle.rl_session.specs.PushForms.{datum, entry_form}
use Rattle.rl_session.specs.PushBody.{stream_entries, streams_entries}
use Rattle.rl_session.proofs.push.push_streams.Goals as goal

pub returns-in_err-push_stream : goal.returns-in_err-push_stream
returns-in_err-push_stream c =
    let streams = c.args.streams.now in
    let i = c.loop-stream.stream-index in
    let stream = c.stream-item.result in
    let within : i < length streams = omega arith in
    let left : drop i streams ≡ stream ∷ drop (i + 1) streams = drop_more streams i stream within ∙ ap (λ s. s ∷ drop (i + 1) streams) (sym c.stream-item.is) in
    let front = map entry_form c.loop-stream.entries.items in
    let whole = with_front (map entry_form c.args.entries.now.items) (streams_entries (items_data (items_view streams))) in
    let p = err_from_is_err_and c.from_residual.result c.from_residual.ensures.1 in
    rw (p.1, p.2) (both_fail c.in_err-push_stream.field-0.0 front (stream_entries (datum stream)) (streams_entries (items_data (items_view (drop (i + 1) streams)))) whole c.in_err-push_stream.ensures (subst (λ rest. with_front front (streams_entries (items_data (items_view rest))) ≡ whole) left c.loop-stream.invariant))

pub loop-stream-preserved : goal.loop-stream-preserved
loop-stream-preserved c =
    let streams = c.args.streams.now in
    let i = c.loop-stream.stream-index in
    let stream = c.stream-item.result in
    let within : i < length streams = omega arith in
    let left : drop i streams ≡ stream ∷ drop (i + 1) streams = drop_more streams i stream within ∙ ap (λ s. s ∷ drop (i + 1) streams) (sym c.stream-item.is) in
    let front = map entry_form c.loop-stream.entries.items in
    let whole = with_front (map entry_form c.args.entries.now.items) (streams_entries (items_data (items_view streams))) in
    both_read front (map entry_form c.push_stream.new.entries.items) (stream_entries (datum stream)) (streams_entries (items_data (items_view (drop (i + 1) streams)))) whole c.in_ok-push_stream.ensures (subst (λ rest. with_front front (streams_entries (items_data (items_view rest))) ≡ whole) left c.loop-stream.invariant)
