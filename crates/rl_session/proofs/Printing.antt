-- Lines that are written one by one.
use Rattle.std.proofs.Common.{◌≡◌, ℕ, suc, ◌+◌, ◌<◌, List, [], ◌∷◌, ◌++◌, length, take, get_or, replicate, Option, Result, sym, ap, subst, ◌∙◌, arith, append_assoc, append-nil, length-take-le}
use Rattle.std.specs.Io.KnownBytes.{Appends}
use Rattle.std.proofs.lemmas.List.{take_more, replicate_more, length-replicate}
use Rattle.std.proofs.KnownBytes.{Appends-trans}
use Rattle.rl_records.specs.declared.step.ShardReply.{ShardReply}
use Rattle.rl_world.specs.declared.fault.Refusal.{Refusal}
use Rattle.rl_session.specs.Names.{push_refusal}
use Rattle.rl_session.specs.Printed.{entry_line, entry_lines}

-- a text more, and the two as one
pub appends_more : (old mid new : Option (List ℕ)) (text more both : List ℕ) → Appends old mid text → Appends mid new more → text ++ more ≡ both → Appends old new both
appends_more old mid new text more both first second same = subst (Appends old new) same (Appends-trans old mid new text more first second)

entry_lines-push : (number : ℕ) (answers : List (Result ShardReply Refusal)) (answer : Result ShardReply Refusal) → entry_lines number (answers ++ answer ∷ []) ≡ entry_lines number answers ++ entry_line (number + length answers) (push_refusal answer)
entry_lines-push number [] answer = append-nil (entry_line number (push_refusal answer)) ∙ ap (λ n. entry_line n (push_refusal answer)) (omega arith)
entry_lines-push number (first ∷ answers) answer =
    ap (λ t. entry_line number (push_refusal first) ++ t) (entry_lines-push (suc number) answers answer ∙ ap (λ n. entry_lines (suc number) answers ++ entry_line n (push_refusal answer)) (omega arith))
    ∙ sym (append_assoc (entry_line number (push_refusal first)) (entry_lines (suc number) answers) _)

-- the line of an answer more
pub entry_lines_more : (answers : List (Result ShardReply Refusal)) (i : ℕ) (answer : Result ShardReply Refusal) → i < length answers → answer ≡ get_or answers i answer → entry_lines 0 (take i answers) ++ entry_line i (push_refusal answer) ≡ entry_lines 0 (take (i + 1) answers)
entry_lines_more answers i answer below is =
    let same_number : 0 + length (take i answers) ≡ i = omega (arith, length-take-le i answers (omega arith)) in
    sym (ap (entry_lines 0) (take_more answers i answer below ∙ ap (λ r. take i answers ++ r ∷ []) (sym is)) ∙ entry_lines-push 0 (take i answers) answer ∙ ap (λ n. entry_lines 0 (take i answers) ++ entry_line n (push_refusal answer)) same_number)

-- an answer more, which is a refusal of this name or none
pub answers_written : (old mid new : Option (List ℕ)) (answers : List (Result ShardReply Refusal)) (i : ℕ) (answer : Result ShardReply Refusal) (refusal : Option (List ℕ)) → i < length answers → answer ≡ get_or answers i answer → push_refusal answer ≡ refusal → Appends old mid (entry_lines 0 (take i answers)) → Appends mid new (entry_line i refusal) → Appends old new (entry_lines 0 (take (i + 1) answers))
answers_written old mid new answers i answer refusal below is refused before more =
    appends_more old mid new _ _ _ before more (ap (λ r. entry_lines 0 (take i answers) ++ entry_line i r) (sym refused) ∙ entry_lines_more answers i answer below is)

-- an answer more, where each one is this answer
pub entry_lines_repeated : (i : ℕ) (answer : Result ShardReply Refusal) → entry_lines 0 (replicate i answer) ++ entry_line i (push_refusal answer) ≡ entry_lines 0 (replicate (i + 1) answer)
entry_lines_repeated i answer =
    let same_number : 0 + length (replicate i answer) ≡ i = omega (arith, length-replicate i answer) in
    sym (ap (entry_lines 0) (sym (replicate_more i answer)) ∙ entry_lines-push 0 (replicate i answer) answer ∙ ap (λ n. entry_lines 0 (replicate i answer) ++ entry_line n (push_refusal answer)) same_number)
