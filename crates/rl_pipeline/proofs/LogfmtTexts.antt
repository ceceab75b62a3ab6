-- Values between quotes, piece by piece.
use Rattle.std.proofs.Common.{◌≡◌, ℕ, zero, suc, ◌+◌, ◌<◌, ◌==◌, true, false, cond, not, List, [], ◌∷◌, ◌++◌, Option, Some, None, length, get_or, take, drop, refl, sym, ap, ◌∙◌, arith, append_assoc, append-nil, take-append-drop}
use Rattle.std.specs.Option.{option_map, option_and_then}
use Rattle.std.specs.List.{prefix_len}
use Rattle.std.proofs.lemmas.Bool.Decides.{nat_tests}
use Rattle.std.proofs.Math.Utf8.{encode}
use Rattle.rl_plain.specs.laws.Cuts.{stops, first_of, none_left}
use Rattle.rl_pipeline.specs.LogfmtPairs.{is_plain, escape_at, escape_front, onto, unescaped}
use Rattle.rl_pipeline.specs.laws.Runs.{plain_stop}

onto-nil : (read : Option (List ℕ)) → onto [] read ≡ read
onto-nil None = refl
onto-nil (Some rest) = refl

pub onto-onto : (front more : List ℕ) (read : Option (List ℕ)) → onto front (onto more read) ≡ onto (front ++ more) read
onto-onto front more None = refl
onto-onto front more (Some rest) = ap Some (sym (append_assoc front more rest))

-- what stands between quotes is read up to the next backslash
unescaped_run : (bytes : List ℕ) → unescaped 0 bytes ≡ onto (take (prefix_len is_plain bytes) bytes) (unescaped 0 (drop (prefix_len is_plain bytes) bytes))
unescaped_run [] = refl
unescaped_run (b ∷ bytes) =
    elim (b == 92) as (λ t. (b == 92) ≡ t → unescaped 0 (b ∷ bytes) ≡ onto (take (cond (not t) (1 + prefix_len is_plain bytes) 0) (b ∷ bytes)) (unescaped 0 (drop (cond (not t) (1 + prefix_len is_plain bytes) 0) (b ∷ bytes)))) [
      | true ↦ λ _. sym (onto-nil (unescaped 0 (b ∷ bytes)))
      | false ↦ λ other.
          let next : suc (prefix_len is_plain bytes) ≡ 1 + prefix_len is_plain bytes = omega arith in
          ap (λ t. cond t (option_and_then (λ c. onto (encode c.0) (unescaped c.1 bytes)) (escape_at bytes)) (onto (b ∷ []) (unescaped 0 bytes))) other
          ∙ ap (onto (b ∷ [])) (unescaped_run bytes)
          ∙ onto-onto (b ∷ []) (take (prefix_len is_plain bytes) bytes) (unescaped 0 (drop (prefix_len is_plain bytes) bytes))
          ∙ ap (λ n. onto (take n (b ∷ bytes)) (unescaped 0 (drop n (b ∷ bytes)))) next
    ] refl

-- what no backslash stands in is itself
pub all_plain : (content following : List ℕ) → following ≡ drop (prefix_len is_plain content) content → (length following == 0) ≡ true → Some content ≡ unescaped 0 content
all_plain content following behind_is ends =
    let n = prefix_len is_plain content in
    let nothing : drop n content ≡ [] = sym behind_is ∙ none_left following ends in
    sym (
    unescaped_run content ∙ ap (λ t. onto (take n content) (unescaped 0 t)) nothing
    ∙ ap (λ t. Some (take n content ++ t)) (sym nothing) ∙ ap Some (take-append-drop n content))

-- bytes that are passed over
unescaped_skip : (skip : ℕ) (bytes : List ℕ) → unescaped skip bytes ≡ unescaped 0 (drop skip bytes)
unescaped_skip zero bytes = refl
unescaped_skip (suc skip) [] = refl
unescaped_skip (suc skip) (b ∷ bytes) = unescaped_skip skip bytes

-- what is read after a backslash
abbrev pub escape_read : List ℕ → Option (List ℕ)
escape_read after = option_and_then (λ (c : ℕ × List ℕ). onto (encode c.0) (unescaped 0 c.1)) (escape_front after)

unescaped_escape : (after : List ℕ) → unescaped 0 (92 ∷ after) ≡ escape_read after
unescaped_escape after = by_escape (escape_at after)
  where
    by_escape : (e : Option (ℕ × ℕ)) → option_and_then (λ (c : ℕ × ℕ). onto (encode c.0) (unescaped c.1 after)) e ≡ option_and_then (λ (c : ℕ × List ℕ). onto (encode c.0) (unescaped 0 c.1)) (option_map (λ (x : ℕ × ℕ). (x.0, drop x.1 after)) e)
    by_escape None = refl
    by_escape (Some e) = ap (onto (encode e.0)) (unescaped_skip e.1 after)

plain_is : (b : ℕ) → is_plain b ≡ false → b ≡ 92
plain_is b h = grind (arith, nat_tests)

-- One turn of the loop: what was read so far, the run at the front of what is left, and what begins after the run.
pub record Turn (whole : Option (List ℕ)) (so_far rest pushed front following : List ℕ) : Type 0 where
  pub read : onto so_far (unescaped 0 rest) ≡ whole
  pub front_is : front ≡ take (prefix_len is_plain rest) rest
  pub behind_is : following ≡ drop (prefix_len is_plain rest) rest
  pub pushed_is : pushed ≡ so_far ++ front

pub turn_of : {whole : Option (List ℕ)} {so_far pushed front following : List ℕ} (rest : List ℕ) → onto so_far (unescaped 0 rest) ≡ whole → front ≡ take (prefix_len is_plain rest) rest → following ≡ drop (prefix_len is_plain rest) rest → pushed ≡ so_far ++ front → Turn whole so_far rest pushed front following
turn_of rest read front_is behind_is pushed_is = record { read = read; front_is = front_is; behind_is = behind_is; pushed_is = pushed_is }

-- what is pushed stands before what is read after the run
turn_after : {whole : Option (List ℕ)} {so_far rest pushed front following : List ℕ} → Turn whole so_far rest pushed front following → onto pushed (unescaped 0 following) ≡ whole
turn_after {so_far = so_far} {rest = rest} turn =
    (λ i. onto ((turn.pushed_is ∙ ap (λ t. so_far ++ t) turn.front_is) i) (unescaped 0 (turn.behind_is i)))
    ∙ sym (onto-onto so_far (take (prefix_len is_plain rest) rest) _)
    ∙ sym (ap (onto so_far) (unescaped_run rest))
    ∙ turn.read

pub turn_end : {whole : Option (List ℕ)} {so_far rest pushed front following : List ℕ} → Turn whole so_far rest pushed front following → (length following == 0) ≡ true → Some pushed ≡ whole
turn_end {pushed = pushed} {following = following} turn ends =
    sym (ap Some (append-nil pushed)) ∙ sym (ap (λ t. onto pushed (unescaped 0 t)) (none_left following ends)) ∙ turn_after turn

turn_stop : {whole : Option (List ℕ)} {so_far rest pushed front following : List ℕ} → Turn whole so_far rest pushed front following → (length following == 0) ≡ false → is_plain (get_or following 0 0) ≡ false
turn_stop {rest = rest} {following = following} turn more = stops is_plain rest _ _ (sym turn.behind_is ∙ first_of following more)

pub turn_ascii : {whole : Option (List ℕ)} {so_far rest pushed front following : List ℕ} → Turn whole so_far rest pushed front following → (length following == 0) ≡ false → get_or following 0 0 < 128
turn_ascii turn more = plain_stop _ (turn_stop turn more)

pub turn_escape : {whole : Option (List ℕ)} {so_far rest pushed front following : List ℕ} → Turn whole so_far rest pushed front following → (length following == 0) ≡ false → (after : List ℕ) → after ≡ drop 1 following → onto pushed (escape_read after) ≡ whole
turn_escape {pushed = pushed} {following = following} turn more after after_is =
    ap (λ t. onto pushed (escape_read t)) after_is
    ∙ ap (onto pushed) (sym (unescaped_escape (drop 1 following)))
    ∙ ap (λ t. onto pushed (unescaped 0 t)) (sym (first_of following more ∙ ap (λ b. b ∷ drop 1 following) (plain_is _ (turn_stop turn more))))
    ∙ turn_after turn
