-- The text that a printer over a list of bytes gives back.
use Rattle.std.proofs.Common.{◌≡◌, ℕ, List, [], ◌∷◌, ◌++◌, Some, sym, ap, subst, ◌∙◌, append-nil}
use Rattle.std.specs.Prelude.{codes}
use Rattle.std.specs.Fmt.{decimal}
use Rattle.std.specs.List.{concat}
use Rattle.std.proofs.lemmas.List.Folds.{concat-append}
use Rattle.std.specs.Io.KnownBytes.{Appends, Keeps}
use Rattle.rl_session.specs.Engine.{kept_text}
use Rattle.rl_session.specs.Printer.{Printing, Prints, as_list, new_printing}
use Rattle.rl_session.proofs.Printers.{all_printed, printed_kept, printed_more}

-- all that was printed since it was made
pub text_held : (before mid after : Printing) (text items : List ℕ) → before ≡ new_printing (Some []) → Prints before text mid → Keeps (as_list mid) (as_list after) → after.held ≡ after.asked → Some items ≡ after.held → items ≡ text
text_held before mid after text items new prints keeps all held =
    let printed = all_printed before text after (printed_kept before mid after text prints keeps) all in
    let none : before.held ≡ Some [] = ap (λ (p : Printing). p.held) new in
    let appends : Appends before.held after.held text = printed.anew (new ∙ ap new_printing (sym none)) in
    let known : Appends (Some []) (Some items) text = subst (λ h. Appends (Some []) h text) (sym held) (subst (λ h. Appends h after.held text) none appends) in
    known

-- some texts were printed
abbrev pub PrintsSome : Printing → Printing → Type 0
PrintsSome before after = (kept : List (List ℕ)) × Prints before (concat kept) after

pub some_more : (before mid after : Printing) (text : List ℕ) → PrintsSome before mid → Prints mid text after → PrintsSome before after
some_more before mid after text so_far more =
    (so_far.0 ++ text ∷ [], subst (λ t. Prints before t after) (ap (λ t. concat so_far.0 ++ t) (sym (append-nil text)) ∙ sym (concat-append so_far.0 (text ∷ []))) (printed_more before mid after (concat so_far.0) text so_far.1 more))

-- what is shown of a sink
pub shown_printed : (a b c d e : Printing) (count : ℕ) (kept : List (List ℕ)) → Prints a (codes "count ") b → Prints b (decimal count) c → Prints c (codes "\n") d → Prints d (concat kept) e → Prints a (kept_text (Some (record { count = count; kept = kept }))) e
shown_printed a b c d e count kept first number feed texts =
    printed_more a d e ((codes "count " ++ decimal count) ++ codes "\n") (concat kept) (printed_more a c d (codes "count " ++ decimal count) (codes "\n") (printed_more a b c (codes "count ") (decimal count) first number) feed) texts
