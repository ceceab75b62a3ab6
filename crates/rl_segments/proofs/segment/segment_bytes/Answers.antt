-- The head says how many records follow it.
use Rattle.std.proofs.Common.{List, ℕ, ◌++◌, length, map, sym, ap, ◌∙◌}
use Rattle.std.proofs.lemmas.List.{length-map}
use Rattle.std.specs.List.{flat_map}
use Rattle.rl_records.specs.RecordBytes.{frame, record_bytes}
use Rattle.rl_segments.specs.SegmentText.{head_text}
use Rattle.rl_segments.proofs.segment.segment_bytes.Goals as goal

pub returns : goal.returns
returns c =
    let frames = flat_map frame (map record_bytes c.args.records.now) in
    c.in_ok-push_records.ensures
    ∙ ap (λ (head : List ℕ). head ++ frames) (c.in_ok-push_head.ensures ∙ ap (λ (old : List ℕ). old ++ head_text c.args.first (length c.args.records.now)) c.new-bytes.ensures.items)
    ∙ ap (λ count. head_text c.args.first count ++ frames) (sym (length-map c.args.records.now record_bytes))
