-- The labels of a stream have lengths that fit in two bytes.
use Rattle.std.proofs.Common.{◌^◌, ◌<◌, ◌≡◌, ◌++◌, length, map, sym, subst}
use Rattle.std.specs.List.{All}
use Rattle.std.proofs.lemmas.List.{length-map}
use Rattle.rl_chunks.specs.ChunkText.{labels_bytes, IsText}
use Rattle.rl_chunks.proofs.Chunks.{is_read, spelt_in_turn}
use Rattle.rl_chunks.proofs.Labels.{of_stream, few_labels, short_names, short_values}
use Rattle.rl_chunks.proofs.writing.encode.Goals as goal

pub push_labels-requires-clause-few : goal.push_labels-requires-clause-few
push_labels-requires-clause-few g c = subst (λ pairs. length pairs < 2 ^ 16) (sym c.pairs.ensures) (few_labels c.args.labels.now (of_stream c.args.labels.now c.requires.stream))

pub push_labels-requires-clause-names : goal.push_labels-requires-clause-names
push_labels-requires-clause-names g c = subst (All (λ pair. length pair.0 < 2 ^ 16)) (sym c.pairs.ensures) (short_names c.args.labels.now (of_stream c.args.labels.now c.requires.stream))

pub push_labels-requires-clause-values : goal.push_labels-requires-clause-values
push_labels-requires-clause-values g c = subst (All (λ pair. length pair.1 < 2 ^ 16)) (sym c.pairs.ensures) (short_values c.args.labels.now (of_stream c.args.labels.now c.requires.stream))

pub returns-clause-text : goal.returns-clause-text
returns-clause-text g c = record {
  ranges = record {
    stream = c.requires.stream;
    texts = subst (All IsText) c.pairs.ensures c.in_ok-push_labels.ensures.texts;
    lines = c.in_ok-push_lines.ensures.lines;
    rising = c.requires.rising;
    few = subst (λ n. n < 2 ^ 32) (sym (length-map c.args.lines.now g.L.AsLine.line)) c.requires.few;
  };
  spelt = spelt_in_turn c.args.labels.now (map g.L.AsLine.line c.args.lines.now) c.in_ok-out.out.items c.push_magic.new.out.items c.push_labels.new.out.items c.push_lines.new.out.items
      c.in_ok-out.ensures.items c.in_ok-push_magic.ensures (subst (λ pairs. c.push_labels.new.out.items ≡ c.push_magic.new.out.items ++ labels_bytes pairs) c.pairs.ensures c.in_ok-push_labels.ensures.bytes) c.in_ok-push_lines.ensures.bytes;
}

pub returns-clause-again : goal.returns-clause-again
returns-clause-again g c = is_read c.push_lines.new.out.items (record { labels = c.args.labels.now; lines = map g.L.AsLine.line c.args.lines.now }) (returns-clause-text g c)
