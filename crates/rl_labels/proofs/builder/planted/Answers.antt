-- Each label stands in front of those after it.
use Rattle.std.proofs.Common.{◌≡◌, ◌-◌, suc, drop, ap, ◌∙◌, arith}
use Rattle.std.specs.List.{list_all}
use Rattle.std.specs.FinMap.Entries.{put, is_sorted}
use Rattle.std.proofs.lemmas.Bool.{and_parts}
use Rattle.rl_labels.specs.Name.{name_cmp}
use Rattle.rl_labels.specs.LabelSet.{is_label}
use Rattle.rl_labels.proofs.Halves.{put_in_front}
use Rattle.rl_labels.proofs.builder.planted.Goals as goal

pub loop-left-preserved : goal.loop-left-preserved
loop-left-preserved c =
    let labels = c.args.labels.now in
    let i = c.loop-left.left - 1 in
    let here = c.index-labels-left.result in
    let next : c.loop-left.left ≡ suc i = omega arith in
    let sorted = (and_parts (is_sorted name_cmp labels) (list_all is_label labels) c.requires).0 in
    record {
      within = omega arith;
      planted =
          c.in_ok-put.ensures.put
          ∙ (λ j. put name_cmp (c.as_str.ensures j) (c.as_str-in-loop-left.ensures j) ((c.loop-left.invariant.planted ∙ ap (λ n. drop n labels) next) j))
          ∙ put_in_front labels i here sorted (omega arith) c.index-labels-left.is;
    }
