-- The last digit is written after the others.
use Rattle.std.proofs.Common.{◌≡◌, ◌++◌, ◌%◌, ◌∙◌, ap, sym, subst, append_assoc, string_bytes, OnOk}
use Rattle.std.specs.Fmt.{decimal}
use Rattle.rl_labels.proofs.Digits.{last_digit}
use Rattle.rl_labels.proofs.decimal.+push_digits.Goals as goal

pub returns : goal.returns
returns t c =
    let before = string_bytes c.args.text.now in
    let last = decimal (c.args.number % 10) in
    subst (λ all. OnOk c.write.result (string_bytes c.write.new.self ≡ all))
    (ap (λ front. front ++ last) c.in_ok-push_digits.ensures ∙ append_assoc before _ last ∙ ap (λ all. before ++ all) (sym (last_digit c.args.count c.args.number c.if-count-eq0.false)))
    c.write.ensures.bytes
