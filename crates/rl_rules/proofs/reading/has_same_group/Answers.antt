-- A group is compared with those after it.
use Rattle.std.proofs.Common.{◌≡◌, ◌+◌, drop, true, false, sym, ap, ◌∙◌}
use Rattle.std.specs.List.{list_any}
use Rattle.std.proofs.lemmas.List.{take_rest}
use Rattle.rl_labels.specs.Name.{is_text}
use Rattle.rl_rules.proofs.Named.{named_again, named_once}
use Rattle.rl_rules.proofs.reading.has_same_group.Goals as goal

pub returns-then-has_name : goal.returns-then-has_name
returns-then-has_name c =
    let here = c.index-groups-index.result in
    let rest = drop (c.loop-index.index + 1) c.args.groups.now in
    let shown : list_any (λ other. is_text here.name other.name) rest ≡ true = ap (λ name. list_any (λ other. is_text name other.name) rest) (sym c.as_str.ensures) ∙ ap (list_any (λ other. is_text c.as_str.result.now other.name)) (sym (take_rest c.args.groups.now (c.loop-index.index + 1))) ∙ sym c.if-has_name.ensures in
    named_again c.args.groups.now c.loop-index.index here _ c.loop-index-test.true c.index-groups-index.is shown c.loop-index.invariant

pub loop-index-preserved : goal.loop-index-preserved
loop-index-preserved c =
    let here = c.index-groups-index.result in
    let rest = drop (c.loop-index.index + 1) c.args.groups.now in
    let shown : list_any (λ other. is_text here.name other.name) rest ≡ false = ap (λ name. list_any (λ other. is_text name other.name) rest) (sym c.as_str.ensures) ∙ ap (list_any (λ other. is_text c.as_str.result.now other.name)) (sym (take_rest c.args.groups.now (c.loop-index.index + 1))) ∙ sym c.if-has_name.ensures in
    named_once c.args.groups.now c.loop-index.index here _ c.loop-index-test.true c.index-groups-index.is shown c.loop-index.invariant
