-- How requests are seen, and what is built of them.
use Rattle.std.specs.Prelude.{◌≡◌, ℕ, ◌≤◌, List, refl}
use Rattle.std.specs.BTreeMap.{is_at}
use Rattle.std.specs.Coded.{Coded, code_by, coded×, coded_ℕ}
use Rattle.std.specs.FinMap as map
use Rattle.std.specs.List.{AllByRecursion}
use Rattle.std.specs.FinMap.{FinMap}
use Rattle.std.specs.Map.{lookup}
use Rattle.std.specs.Ordering.{nat_cmp}
use Rattle.rl_deletes.specs.Deletes.{RequestsView, if_received}
use Rattle.rl_deletes.specs.contracts.request.Request as request_type
use Rattle.rl_deletes.specs.declared.request.Request.{Request}

-- requests as numbers, for a store
abbrev pub requests_code : Coded RequestsView
requests_code = code_by (FinMap nat_cmp Request × ℕ) (coded× (map.code coded_ℕ request_type.the_row.coded) coded_ℕ) (λ all. (all.requests, all.cancel)) (λ p. record { requests = p.0; cancel = p.1 }) (λ _. refl)

-- the requests of a tree
abbrev pub view_of : (cancel : ℕ) → List (ℕ × Request) → RequestsView
view_of cancel requests = record { requests = map.from_entries requests; cancel = cancel }

-- what is built are those that are received, each under its number, and none of them ends later; and each waits for a year at most
pub record AreBuilt (cancel : ℕ) (requests active : List (ℕ × Request)) (latest : ℕ) : Type 0 where
  pub cancel_in_range : cancel ≤ 31536000
  pub built : (q : ℕ) → lookup (is_at (nat_cmp q)) active ≡ if_received (lookup (is_at (nat_cmp q)) requests)
  pub ends : AllByRecursion (λ request. request.1.deletion.end ≤ latest) active
