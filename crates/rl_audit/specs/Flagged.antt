-- Flags of the places that were claimed so far.
use Rattle.std.specs.Prelude.{◌≡◌, ◌<◌, ℕ, Bool, List, ◌++◌, if◌then◌else◌, IfSome, slice_index_or}
use Rattle.std.specs.List.{count_by, AllByRecursion}
use Rattle.rl_audit.specs.Claims.{AreRising, Place, is_place, item_at}

-- flags stand for the places that callers before claimed, and then one that may claim places at the next index of each column or
-- after it: each place was claimed as often as its flag says
pub record StandFor (flags : List (List Bool)) (nexts : List ℕ) (before own : List Place) : Type 0 where
  pub flagged : (place : Place) → IfSome (item_at flags place) (λ flag. count_by (is_place place) (before ++ own) ≡ (if flag then 1 else 0))
  pub next : AllByRecursion (λ place. place.1 < slice_index_or nexts place.0 0) own
  pub rising : AreRising own
