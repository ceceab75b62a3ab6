-- The chunks of a shard as contracts see them.
use Rattle.std.specs.Prelude.{ℕ, Bool, refl}
use Rattle.std.specs.Coded.{Coded, code_by, coded×, coded_ℕ, coded_list, coded_bool}
use Rattle.std.specs.FinMap.{code}
use Rattle.rl_chunks.specs.StoreState.{Blobs, Seen}

-- the store that has them, and the number that the next one gets
pub record ChunksView : Type 0 where
  pub seen : Seen
  pub next : ℕ

-- a store, and chunks, as numbers
abbrev pub seen_code : Coded Seen
seen_code = code_by (Blobs × (Bool × (ℕ × ℕ))) (coded× (code coded_ℕ (coded_list coded_ℕ)) (coded× coded_bool (coded× coded_ℕ coded_ℕ)))
    (λ s. (s.blobs, (s.honest, (s.reads, s.faults))))
    (λ p. record { blobs = p.0; honest = p.1.0; reads = p.1.1.0; faults = p.1.1.1 })
    (λ _. refl)

abbrev pub chunks_code : Coded ChunksView
chunks_code = code_by (Seen × ℕ) (coded× seen_code coded_ℕ) (λ c. (c.seen, c.next)) (λ p. record { seen = p.0; next = p.1 }) (λ _. refl)
