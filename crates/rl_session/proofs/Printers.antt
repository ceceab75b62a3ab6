-- What a printer is asked for, text by text.
use Rattle.std.proofs.Common.{◌≤◌, ◌-◌, length-drop, take, drop, ◌≡◌, ℕ, Bool, true, false, ◌||◌, not, IsTrue, List, [], ◌∷◌, ◌++◌, length, Option, None, Some, refl, sym, ap, subst, ◌∙◌, append_assoc, append-nil, ◌==◌, arith}
use Rattle.std.proofs.lemmas.Bool.{eqb-true}
use Rattle.std.proofs.lemmas.List.{take-append-drop, take_all, take-append-le, drop-append-le}
use Rattle.std.proofs.Math.Seq.{take-append_seam, drop-append_seam}
use Rattle.std.specs.Prelude.{option_map}
use Rattle.std.proofs.KnownBytes.{Appends-kept, Appends-trans}
use Rattle.std.specs.Io.KnownBytes.{Appends, Keeps}
use Rattle.rl_sinks.specs.Pieces.{Writes}
use Rattle.rl_session.specs.Printer.{HoldsFront, IsAllPrinted, IsCutOff, IsFront, Printing, Prints, known_length, printing, as_list}

-- nothing is left where all was written, now and before
pub none_left : (failed all : Bool) (left rest after : List ℕ) → (failed ≡ false → left ≡ []) → (all ≡ true → rest ≡ []) → after ≡ left ++ rest → (failed || not all) ≡ false → after ≡ []
none_left false true left rest after none empty is fine = is ∙ ap (λ l. l ++ rest) (none refl) ∙ empty refl
none_left false false left rest after none empty is fine = let never : ⊥ = cc in absurd never
none_left true all left rest after none empty is fine = let never : ⊥ = cc in absurd never

-- no byte is left of none
pub no_rest : (rest : List ℕ) (all : Bool) → all ≡ (length rest == 0) → all ≡ true → rest ≡ []
no_rest [] all is empty = refl
no_rest (byte ∷ rest) all is empty = let none = eqb-true (length (byte ∷ rest)) 0 (sym is ∙ empty) in absurd (omega (arith, none))

some_same : (xs ys : List ℕ) → Some ys ≡ Some xs → ys ≡ xs
some_same xs ys same = cc

-- a text whose front was written, and whose rest is left
pub text_asked : (start held new : Option (List ℕ)) (left rest text after : List ℕ) (failed now : Bool) → (failed ≡ false → left ≡ []) → Writes held new text rest → (IsTrue failed → (rest ≡ text) × (new ≡ held)) → after ≡ left ++ rest
    → Prints (printing start held left failed) text (printing start new after now)
unfolding as_list
text_asked start None new left rest text after failed now none writes stays is = tt
text_asked start (Some xs) None left rest text after failed now none writes stays is = absurd writes.2
text_asked start (Some xs) (Some ys) left rest text after true now none writes stays is =
    let same = stays refl in
    ap (λ bytes. known_length start ∷ bytes) (ap (λ l. l ++ after) (some_same xs ys same.1) ∙ ap (λ l. xs ++ l) (is ∙ ap (λ l. left ++ l) same.0) ∙ sym (append_assoc xs left text))
text_asked start (Some xs) (Some ys) left rest text after false now none writes stays is =
    let whole : writes.0 ++ after ≡ text = ap (λ l. writes.0 ++ l) (is ∙ ap (λ l. l ++ rest) (none refl)) ∙ sym writes.1 in
    let before : xs ≡ xs ++ left = sym (ap (λ l. xs ++ l) (none refl) ∙ append-nil xs) in
    ap (λ bytes. known_length start ∷ bytes) (ap (λ l. l ++ after) writes.2 ∙ append_assoc xs writes.0 after ∙ ap (λ l. xs ++ l) whole ∙ ap (λ l. l ++ text) before)

-- a flush
pub list_kept : (start held new : Option (List ℕ)) (left : List ℕ) (failed now : Bool) → Keeps held new → Keeps (as_list (printing start held left failed)) (as_list (printing start new left now))
unfolding as_list
list_kept start None new left failed now keeps = tt
list_kept start (Some xs) None left failed now keeps = absurd keeps
list_kept start (Some xs) (Some ys) left failed now keeps = ap (λ bytes. known_length start ∷ (bytes ++ left)) keeps

-- what follows what was there still does after more of it
pub written_on : (start held new : Option (List ℕ)) (text rest : List ℕ) → ((front : List ℕ) × Appends start held front) → Writes held new text rest → ((front : List ℕ) × Appends start new front)
written_on start held new text rest before writes = (before.0 ++ writes.0, Appends-trans start held new before.0 writes.0 before.1 writes.2)

-- a write that took some bytes of the rest, and one that was interrupted
pub wrote_more : (start old new : Option (List ℕ)) (all rest after : List ℕ) (count : ℕ) → Writes start old all rest → Appends old new (take count rest) → after ≡ take (length rest - count) (drop count rest) → Writes start new all after
wrote_more start old new all rest after count writes more is =
    let front = take count rest in
    let left : after ≡ drop count rest = is ∙ take_all (length rest - count) (drop count rest) (omega (arith, length-drop count rest)) in
    let split : all ≡ (writes.0 ++ front) ++ after =
    writes.1 ∙ ap (λ l. writes.0 ++ l) (sym (take-append-drop count rest) ∙ ap (λ l. front ++ l) (sym left)) ∙ sym (append_assoc writes.0 front after) in
    (writes.0 ++ front, split, Appends-trans start old new writes.0 front writes.2 more)

pub wrote_none : (start old new : Option (List ℕ)) (all rest after : List ℕ) → Writes start old all rest → Keeps old new → after ≡ rest → Writes start new all after
wrote_none start old new all rest after writes keeps is = (writes.0, writes.1 ∙ ap (λ l. writes.0 ++ l) (sym is), Appends-kept start old new writes.0 writes.2 keeps)

-- a text after another one, and a flush after it
pub printed_more : (old mid new : Printing) (text more : List ℕ) → Prints old text mid → Prints mid more new → Prints old (text ++ more) new
printed_more old mid new text more first second = Appends-trans (as_list old) (as_list mid) (as_list new) text more first second

pub printed_kept : (old mid new : Printing) (text : List ℕ) → Prints old text mid → Keeps (as_list mid) (as_list new) → Prints old text new
printed_kept old mid new text prints keeps = Appends-kept (as_list old) (as_list mid) (as_list new) text prints keeps

-- two lists after one number
pub same_number : (m n : ℕ) (xs ys : List ℕ) → m ∷ xs ≡ n ∷ ys → m ≡ n
same_number m n xs ys same = cc

pub same_rest : (m n : ℕ) (xs ys : List ℕ) → m ∷ xs ≡ n ∷ ys → xs ≡ ys
same_rest m n xs ys same = cc

-- of a list that begins with another one, what follows it
front_after : (held before left text : List ℕ) → held ++ left ≡ before ++ text → length before ≤ length held → (front : List ℕ) × (text ≡ front ++ left) × (held ≡ before ++ front)
front_after held before left text same enough =
    let n = length before in
    let front = drop n held in
    let begins : take n held ≡ before = sym (take-append-le n held left enough) ∙ ap (take n) same ∙ take-append_seam before text in
    let follows : text ≡ front ++ left = sym (drop-append_seam before text) ∙ ap (drop n) (sym same) ∙ drop-append-le n held left enough in
    (front, follows, sym (take-append-drop n held) ∙ ap (λ l. l ++ front) begins)

cut_off : (before : Option (List ℕ)) (start : ℕ) (held asked : Option (List ℕ)) (text : List ℕ) → Appends (option_map (λ bytes. known_length before ∷ bytes) before) (option_map (λ bytes. start ∷ bytes) asked) text → IsFront start held asked → (left : List ℕ) × Writes before held text left
cut_off None start held asked text prints front = (text, ([], refl, tt))
cut_off (Some xs) start None asked text prints front = absurd (subst (λ a. Appends (Some (length xs ∷ xs)) (option_map (λ bytes. start ∷ bytes) a) text) front prints)
cut_off (Some xs) start (Some ys) asked text prints front =
    let same : start ∷ (ys ++ front.0) ≡ length xs ∷ (xs ++ text) = subst (λ a. Appends (Some (length xs ∷ xs)) (option_map (λ bytes. start ∷ bytes) a) text) front.1 prints in
    let number = same_number start (length xs) (ys ++ front.0) (xs ++ text) same in
    let after = front_after ys xs front.0 text (same_rest start (length xs) (ys ++ front.0) (xs ++ text) same) (omega (arith, number, front.2)) in
    (front.0, (after.0, after.1, after.2))

all_written : (before : Option (List ℕ)) (start : ℕ) (held asked : Option (List ℕ)) (text : List ℕ) → Appends (option_map (λ bytes. known_length before ∷ bytes) before) (option_map (λ bytes. start ∷ bytes) asked) text → held ≡ asked → Appends before held text
all_written before start held None text prints same = subst (λ h. Appends before h text) (sym same) (none_before before prints)
  where
    none_before : (before : Option (List ℕ)) → Appends (option_map (λ bytes. known_length before ∷ bytes) before) None text → Appends before None text
    none_before None prints = tt
    none_before (Some xs) prints = absurd prints
all_written before start held (Some zs) text prints same = subst (λ h. Appends before h text) (sym same) (some_before before prints)
  where
    some_before : (before : Option (List ℕ)) → Appends (option_map (λ bytes. known_length before ∷ bytes) before) (Some (start ∷ zs)) text → Appends before (Some zs) text
    some_before None prints = tt
    some_before (Some xs) prints = same_rest start (length xs) zs (xs ++ text) prints

-- a text was printed, and all is written
pub all_printed : (before : Printing) (text : List ℕ) (after : Printing) → Prints before text after → after.held ≡ after.asked → IsAllPrinted before text after
unfolding as_list
all_printed before text after prints all = record {
  prints = prints;
  all = all;
  anew = λ new. all_written before.held after.start after.held after.asked text (subst (λ p. Prints p text after) new prints) all;
}

-- a text was printed, and a front is written
pub cut_printed : (before : Printing) (text : List ℕ) (after : Printing) → Prints before text after → HoldsFront after → IsCutOff before text after
unfolding as_list
cut_printed before text after prints front = record {
  prints = prints;
  front = front;
  anew = λ new. cut_off before.held after.start after.held after.asked text (subst (λ p. Prints p text after) new prints) front;
}
