-- A digit more, or a unit.
use Rattle.std.proofs.Common.{◌∙◌, ◌+◌, get_or, drop, ◌∷◌, sym, subst}
use Rattle.std.proofs.lemmas.List.{drop_more}
use Rattle.rl_query.proofs.Durations.{Left, digit_turn, unit_turn}
use Rattle.rl_query.proofs.duration.duration_of.Goals as goal
use Rattle.rl_query.proofs.duration.duration_of.Goals.{then-is_ascii_digit, else-is_ascii_digit+in_ok-number+in_ok-unit+else-next-rank}

pub loop-byte-preserved : goal.loop-byte-preserved
loop-byte-preserved c =
    let bytes = c.args.bytes.now in
    let i = c.loop-byte.byte-index in
    let left = subst (λ rest. Left bytes rest c.loop-byte.seconds c.loop-byte.rank c.loop-byte.digits) (drop_more bytes i 0 c.loop-byte-test.true) c.loop-byte.invariant in
    elim c.if-is_ascii_digit.branch [
      | then-is_ascii_digit w ↦ rw (w.seconds-is, w.rank-is, w.digits-is, w.digit_after.ensures.value) (digit_turn bytes (drop (i + 1) bytes) c.loop-byte.seconds c.loop-byte.rank (get_or bytes i 0) c.loop-byte.digits (sym c.is_ascii_digit.ensures.value ∙ w.if-is_ascii_digit.true) left)
      | else-is_ascii_digit+in_ok-number+in_ok-unit+else-next-rank w ↦
          rw (w.seconds-is ∙ w.min-seconds.ensures, w.rank-is, w.digits-is) (unit_turn bytes (drop (i + 1) bytes) c.loop-byte.seconds c.loop-byte.rank (get_or bytes i 0) w.in_ok-number.number (w.in_ok-unit.unit, w.in_ok-unit.next)
          (sym c.is_ascii_digit.ensures.value ∙ w.if-is_ascii_digit.false) (sym w.in_ok-unit.ensures.unit) w.if-next-rank.false (subst (Left bytes (get_or bytes i 0 ∷ drop (i + 1) bytes) c.loop-byte.seconds c.loop-byte.rank) w.in_ok-number.was left))
    ]
