-- Shards that are asked one after another.
use Rattle.std.proofs.Common.{◌≡◌, ℕ, zero, suc, ◌+◌, ◌<◌, Result, Ok, Err, refl, subst, arith}
use Rattle.std.specs.Prelude.{⊤}
use Rattle.rl_world.specs.Evaluations.{AreAskedFor, IsAskedFor}
use Rattle.rl_world.specs.WorldState.{WorldBooks}
use Rattle.rl_world.specs.declared.fault.Refusal.{Refusal}

ok_err : (refusal : Refusal) → ◌≡◌ {A = Result ⊤ Refusal} (Ok tt) (Err refusal) → ⊥
ok_err refusal h = cc

-- a shard more
pub asked_more : (old : WorldBooks) (group from left at place : ℕ) (mid new : WorldBooks) → at ≡ from + left → AreAskedFor old group from left (Ok tt) mid → IsAskedFor mid group at (Ok place) new → AreAskedFor old group from (suc left) (Ok tt) new
asked_more old group from zero at place mid new same_number asked next =
    (Ok place, new, subst (λ n. IsAskedFor old group n (Ok place) new) (omega (arith, same_number)) (subst (λ world. IsAskedFor world group at (Ok place) new) asked.1 next), (refl, refl))
asked_more old group from (suc left) at place mid new same_number (Ok first, after, begins, rest) next =
    (Ok first, after, begins, asked_more after group (suc from) left at place mid new (omega (arith, same_number)) rest next)
asked_more old group from (suc left) at place mid new same_number (Err refusal, after, begins, rest) next = absurd (ok_err refusal rest.0)

-- a shard that refuses ends it
pub asked_stop : (old : WorldBooks) (group from left all at : ℕ) (mid new : WorldBooks) (refusal : Refusal) → at ≡ from + left → left < all → AreAskedFor old group from left (Ok tt) mid → IsAskedFor mid group at (Err refusal) new → AreAskedFor old group from all (Err refusal) new
asked_stop old group from left zero at mid new refusal same_number below asked stops = absurd (omega (arith, below))
asked_stop old group from zero (suc all) at mid new refusal same_number below asked stops =
    (Err refusal, new, subst (λ n. IsAskedFor old group n (Err refusal) new) (omega (arith, same_number)) (subst (λ world. IsAskedFor world group at (Err refusal) new) asked.1 stops), (refl, refl))
asked_stop old group from (suc left) (suc all) at mid new refusal same_number below (Ok first, after, begins, rest) stops =
    (Ok first, after, begins, asked_stop after group (suc from) left all at mid new refusal (omega (arith, same_number)) (omega (arith, below)) rest stops)
asked_stop old group from (suc left) (suc all) at mid new refusal same_number below (Err other, after, begins, rest) stops = absurd (ok_err other rest.0)
