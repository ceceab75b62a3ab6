-- The first label, and each of the others after a comma.
use Rattle.std.proofs.Common.{◌≡◌, ◌<◌, ◌++◌, ◌∷◌, length, drop, sym, ap, ◌∙◌, append_assoc, string_bytes, arith}
use Rattle.std.specs.List.{flat_map}
use Rattle.std.proofs.lemmas.Grind.{common_steps}
use Rattle.rl_labels.specs.LabelText.{label_text}
use Rattle.rl_labels.proofs.Steps.{labels_from_front}
use Rattle.rl_labels.proofs.labels.push_labels.Goals as goal

pub returns-in_ok-push_others-in-len1-up : goal.returns-in_ok-push_others-in-len1-up
returns-in_ok-push_others-in-len1-up c =
    let labels = c.args.labels.now in
    let first = c.first-item.result in
    let rest = flat_map (λ l. 44 ∷ label_text l) (drop 1 labels) in
    let full : 0 < length labels = omega arith in
    let one : string_bytes c.push_label.new.text ≡ string_bytes c.args.text.now ++ label_text first = c.in_ok-push_label-in-len1-up.ensures ∙ ap (λ (p : _ × _). string_bytes c.args.text.now ++ label_text p) (λ i. (c.as_str.ensures i, c.as_str-in-len1-up.ensures i)) in
    let others : string_bytes c.push_others.new.text ≡ string_bytes c.push_label.new.text ++ rest = grind (arith, common_steps) in
    others ∙ ap (λ t. t ++ rest) one ∙ append_assoc (string_bytes c.args.text.now) (label_text first) rest
    ∙ ap (λ t. string_bytes c.args.text.now ++ t) (sym (labels_from_front labels first full c.first-item.is))
