-- What `replace` gives, as pieces.
use Rattle.std.proofs.Common.{rules, ◌≡◌, codes, refl, sym, subst, arith}
use Rattle.std.specs.Fmt.{decimal}
use Rattle.rl_rule_tests.specs.Numbering.{IsReplaced}
use Rattle.rl_rule_tests.proofs.Numbers.{replaced}
use Rattle.rl_rule_tests.proofs.playing.numbered.Goals as goal

pub returns : goal.returns
returns c =
    let made = c.in_ok-text.ensures.ok in
    let to : c.as_str.result.now ≡ decimal c.args.number = search rules in
    let all = replaced c.as_str.result.now made.0 _ (codes "{n}") c.args.text.now _ refl (omega arith) made.1 in
    subst (λ text. IsReplaced (codes "{n}") text c.args.text.now c.from_string.result) to (subst (λ text. IsReplaced (codes "{n}") c.as_str.result.now c.args.text.now text) (sym c.from_string.ensures) all)
