-- An escape ends after an ASCII byte.
use Rattle.std.proofs.Common.{ℕ, List, ◌<◌, ◌≤◌, ◌-◌, length, get_or, subst}
use Rattle.rl_plain.specs.laws.Cuts.{rest_ascii}
use Rattle.rl_pipeline.proofs.logfmt.escape_front.Goals as goal

pub split_at-requires : goal.split_at-requires
split_at-requires c =
    let len = c.in_ok-c.len in
    let ends = subst (λ (bytes : List ℕ). (0 < len) × (len ≤ length bytes) × (get_or bytes (len - 1) 0 < 128)) c.as_bytes.ensures.value c.in_ok-c.ensures.ascii in
    rest_ascii c.args.text.now len c.utf8.text ends.1 (λ _. ends.2)
