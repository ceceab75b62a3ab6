-- Where the horizon of retention goes.
use Rattle.std.specs.Prelude.{ℕ, ◌-◌, ◌*◌, ◌^◌, max, nat_lt, Bool, not, ◌&&◌, ◌==◌, if◌then◌else◌}
use Rattle.rl_labels.specs.declared.entry.Entry.{Entry}
use Rattle.rl_deletes.specs.Deletes.{RequestsView, covered}

-- entries are kept for `keep` seconds; with 0 seconds, for ever, and the horizon stays. It is never lowered
abbrev pub advanced : (keep horizon now : ℕ) → ℕ
advanced keep horizon now = if keep == 0 then horizon else max horizon (now - keep * 10 ^ 9)

-- the entry is expired
abbrev pub is_below : (horizon : ℕ) → Entry → Bool
is_below horizon entry = nat_lt entry.timestamp horizon

-- it is, and no received request covers it
abbrev pub newly_expired : RequestsView → (horizon : ℕ) → Entry → Bool
newly_expired requests horizon entry = is_below horizon entry && not (covered requests entry)
