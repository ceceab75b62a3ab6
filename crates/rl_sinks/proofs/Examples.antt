-- Definitions that no run shows yet, computed at values that were worked out by hand.
use Rattle.std.specs.Prelude.{◌≡◌, ℕ, ◌-◌, nat_le, true, false, List, [], ◌∷◌, ◌++◌, length, get_or, codes, Some, refl}
use Rattle.std.proofs.Common.{sym, ap, ◌∙◌, arith}
use Rattle.rl_sinks.specs.declared.sink.SinkKind.TheVariants as kinds
use Rattle.rl_sinks.specs.SinkState.{SinkState, within, taken, refused}
use Rattle.rl_sinks.specs.Pieces.{Writes}
use Rattle.rl_sinks.specs.LogState.{Logged, is_full}

-- a tail that keeps two texts, has taken five and refused as often as is counted
abbrev tail : SinkState
tail = record { kind = kinds.Tail; limit = Some 2; count = 5; kept = codes "d" ∷ codes "e" ∷ []; closed = false; refusals = 18446744073709551615; pumps = 0; failed = false }

the_oldest_text_goes : taken tail (codes "f") ≡ record { kind = kinds.Tail; limit = Some 2; count = 6; kept = codes "e" ∷ codes "f" ∷ []; closed = false; refusals = 18446744073709551615; pumps = 0; failed = false }
the_oldest_text_goes = refl

refusals_go_round : refused tail ≡ record { kind = kinds.Tail; limit = Some 2; count = 5; kept = codes "d" ∷ codes "e" ∷ []; closed = false; refusals = 0; pumps = 0; failed = false }
refusals_go_round = refl

three_texts_within_none : within (Some 0) (codes "a" ∷ codes "b" ∷ codes "c" ∷ []) ≡ []
three_texts_within_none = refl

no_other_bytes_are_written : Writes (Some []) (Some (2 ∷ [])) (1 ∷ 2 ∷ []) (1 ∷ []) → ⊥
no_other_bytes_are_written w =
    let turned : ◌≡◌ {A = List ℕ} (1 ∷ 2 ∷ []) (2 ∷ 1 ∷ []) = w.1 ∙ ap (λ (front : List ℕ). front ++ 1 ∷ []) (sym w.2) in
    let first : ◌≡◌ {A = ℕ} 1 2 = ap (λ (bytes : List ℕ). get_or bytes 0 0) turned in
    omega (arith, first)

-- with room for two: of three texts one is wholly written
two_wait_where_two_may : {W : Type 0} (log : Logged W) → log.room ≡ 2 → length log.texts ≡ 3 → log.next ≡ 1 → is_full log ≡ true
two_wait_where_two_may log room texts next = λ i. nat_le (room i) (texts i - next i)

one_waits_where_two_may : {W : Type 0} (log : Logged W) → log.room ≡ 2 → length log.texts ≡ 3 → log.next ≡ 2 → is_full log ≡ false
one_waits_where_two_may log room texts next = λ i. nat_le (room i) (texts i - next i)
