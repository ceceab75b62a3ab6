-- What a put leaves of a store.
use Rattle.std.proofs.Common.{◌≡◌, ℕ, ◌+◌, ◌<◌, ◌≤◌, ◌⊎◌, cond, List, Some, refl, ap, ◌∙◌, inl, inr, eq-eqb, arith}
use Rattle.std.specs.FinMap as map
use Rattle.std.specs.Cmp.{unsigned_tied}
use Rattle.std.proofs.lemmas.Bool.{eqb-true, false_from_ne_true}
use Rattle.std.proofs.lemmas.Cmp.{nat_cmp_total}
use Rattle.rl_chunks.specs.StoreState.{Blobs, Seen, KeepsReads, LeavesOthers}
use Rattle.rl_parts.specs.StoreUse.{Grown}

-- the number has the bytes
pub get_put : (blobs : Blobs) (number : ℕ) (bytes : List ℕ) → map.get (map.insert blobs number bytes) number ≡ Some bytes
get_put blobs number bytes = map.get-insert nat_cmp_total blobs number bytes number ∙ ap (λ tied. cond tied (Some bytes) (map.get blobs number)) (unsigned_tied number number ∙ eq-eqb number number refl)

-- and others have what they had
pub get_other : (blobs : Blobs) (number : ℕ) (bytes : List ℕ) → LeavesOthers number blobs (map.insert blobs number bytes)
get_other blobs number bytes other apart =
    map.get-insert nat_cmp_total blobs number bytes other
    ∙ ap (λ tied. cond tied (Some bytes) (map.get blobs other)) (unsigned_tied other number ∙ false_from_ne_true _ (λ e. absurd (apart (eqb-true other number e))))

-- so it is one put
pub one_put : (old new : Seen) (number : ℕ) → KeepsReads old new → LeavesOthers number old.blobs new.blobs → Grown old number (number + 1) new
one_put old new number keeps leaves = record { honest = keeps.honest; others = λ other apart. leaves other (another other apart) }
  where
    another : (other : ℕ) → (other < number) ⊎ (number + 1 ≤ other) → other ≡ number → ⊥
    another other (inl low) same = omega arith
    another other (inr high) same = omega arith
