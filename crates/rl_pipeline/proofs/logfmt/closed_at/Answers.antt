-- The text may be cut after the quote, which is ASCII.
use Rattle.std.proofs.Common.{◌≡◌, ◌<◌, ℕ, List, length, get_or, subst, arith}
use Rattle.std.proofs.lemmas.Str.{IsCharBoundary-after_ascii}
use Rattle.rl_pipeline.proofs.logfmt.closed_at.Goals as goal

pub range_from-following-requires : goal.range_from-following-requires
range_from-following-requires c =
    let index = c.in_ok-index.index in
    let quote = subst (λ (bytes : List ℕ). (index < length bytes) × (get_or bytes index 0 ≡ 34)) c.as_bytes.ensures.value c.in_ok-index.ensures.quote in
    λ _. IsCharBoundary-after_ascii c.args.text.now index c.utf8.text quote.0 (omega (arith, quote.1))
