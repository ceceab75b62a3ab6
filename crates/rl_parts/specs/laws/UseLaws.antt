-- Calls over a store, one after another, and what a store keeps meanwhile.
use Rattle.std.specs.Prelude.{◌≡◌, ℕ, length, get_or, ◌+◌, ◌<◌, ◌≤◌, ◌⊎◌, List, [], ◌∷◌, ◌++◌, Option, Some, None, Result, Ok, Err, IfSome, refl}
use Rattle.std.proofs.Common.{sym, ap, subst, ◌∙◌, inl, inr, arith}
use Rattle.std.specs.List.{AllByRecursion}
use Rattle.std.proofs.lemmas.Bool.{cases_lt}
use Rattle.std.proofs.lemmas.List.Elements.{All-from_recursion}
use Rattle.std.specs.FinMap as map
use Rattle.rl_labels.specs.LabelSet.{LabelSet}
use Rattle.rl_chunks.specs.StoreState.{Seen, greatest, with_fault}
use Rattle.rl_parts.specs.ChunksState.{ChunksView}
use Rattle.rl_parts.specs.laws.EachLaws.{all_after, all_both, all_front, all_weaker}
use Rattle.rl_parts.specs.StreamParts.{Note, PartView, StreamView, chunk_of, listed, notes_of}
use Rattle.rl_parts.specs.StoreUse.{FaultsRise, FaultCame, Looked, Reads, Puts, ArePut, Keeps, IsNoteOf, IsKept, AreKept}

-- no call at all
pub Looked-none : (seen : Seen) → Looked seen seen
Looked-none seen = record { blobs = refl; honest = refl }

pub Reads-none : (chunks : ChunksView) → Reads chunks chunks
Reads-none chunks = record { seen = Looked-none chunks.seen; next = refl }

pub Puts-none : (chunks : ChunksView) (end : ℕ) → Puts chunks end chunks
Puts-none chunks end = record { up = omega arith; seen = record { honest = refl; others = λ number apart. refl } }

-- one call after another
pub Looked-then : (a b c : Seen) → Looked a b → Looked b c → Looked a c
Looked-then a b c p q = record { blobs = q.blobs ∙ p.blobs; honest = q.honest ∙ p.honest }

pub Reads-then : (a b c : ChunksView) → Reads a b → Reads b c → Reads a c
Reads-then a b c p q = record { seen = Looked-then a.seen b.seen c.seen p.seen q.seen; next = q.next ∙ p.next }

pub Puts-then : (a b c : ChunksView) (end : ℕ) → b.next ≤ end → Puts a b.next b → Puts b end c → Puts a end c
Puts-then a b c end far p q = record {
  up = omega (arith, p.up, q.up);
  seen = record { honest = q.seen.honest ∙ p.seen.honest; others = λ number apart. q.seen.others number (later apart) ∙ p.seen.others number (earlier apart) };
}
  where
    later : {number : ℕ} → (number < a.next) ⊎ (end ≤ number) → (number < b.next) ⊎ (end ≤ number)
    later (inl low) = inl (omega (arith, p.up, low))
    later (inr high) = inr high

    earlier : {number : ℕ} → (number < a.next) ⊎ (end ≤ number) → (number < a.next) ⊎ (b.next ≤ number)
    earlier (inl low) = inl low
    earlier (inr high) = inr (omega (arith, far, high))

-- puts below an end are puts below a later one
pub Puts-wider : (a b : ChunksView) → Puts a b.next b → Puts a (b.next + 1) b
Puts-wider a b p = record { up = p.up; seen = record { honest = p.seen.honest; others = λ number apart. p.seen.others number (earlier apart) } }
  where
    earlier : {number : ℕ} → (number < a.next) ⊎ (b.next + 1 ≤ number) → (number < a.next) ⊎ (b.next ≤ number)
    earlier (inl low) = inl low
    earlier (inr high) = inr (omega arith)

-- both keep what was kept
pub Keeps-reads : (a b : ChunksView) → Reads a b → Keeps a b
Keeps-reads a b p = record { up = omega (arith, p.next); honest = p.seen.honest; blobs = λ number low. ap (λ blobs. map.get blobs number) p.seen.blobs }

pub Keeps-puts : (a b : ChunksView) (end : ℕ) → Puts a end b → Keeps a b
Keeps-puts a b end p = record { up = p.up; honest = p.seen.honest; blobs = λ number low. p.seen.others number (inl low) }

pub Keeps-put : {A E : Type 0} (result : Result A E) (a b : ChunksView) → ArePut result a b → Keeps a b
Keeps-put (Ok answer) a b p = Keeps-puts a b b.next p
Keeps-put (Err fault) a b p = Keeps-puts a b (b.next + 1) p

pub IsKept-keeps : (labels : LabelSet) (old new : ChunksView) (part : PartView) → Keeps old new → IsKept old labels part → IsKept new labels part
IsKept-keeps labels old new part keeps = at part.note
  where
    at : (note : Option Note) → IfSome note (IsNoteOf old (chunk_of labels part.entries)) → IfSome note (IsNoteOf new (chunk_of labels part.entries))
    at None is = tt
    at (Some note) is = record { given = omega (arith, is.given, keeps.up); digest = is.digest; read = is.read; kept = λ honest. keeps.blobs note.number is.given ∙ is.kept (sym keeps.honest ∙ honest) }

-- also one part of several, after reads
pub kept_at : (old new : ChunksView) (labels : LabelSet) (parts : List PartView) (i : ℕ) (p : PartView) → i < length parts → p ≡ get_or parts i p → Reads old new → AllByRecursion (IsKept old labels) parts → IsKept new labels p
kept_at old new labels parts i p within is reads kept =
    IsKept-keeps labels old new p (Keeps-reads old new reads) (subst (IsKept old labels) (sym is) (All-from_recursion (IsKept old labels) parts kept i p within))

pub AreKept-keeps : (old new : ChunksView) (stream : StreamView) → Keeps old new → AreKept old stream → AreKept new stream
AreKept-keeps old new stream keeps = all_weaker (IsKept old stream.labels) (IsKept new stream.labels) (λ part. IsKept-keeps stream.labels old new part keeps) stream.parts

-- what is kept of some items, and then of others, is kept of all of them
module _ {A B : Type 0} (P : ChunksView → A → Type 0) (Q : ChunksView → B → Type 0) (stays : (old new : ChunksView) (x : A) → Keeps old new → P old x → P new x) (remains : (old new : ChunksView) (y : B) → Keeps old new → Q old y → Q new y) where
  pub kept_later : (a b : ChunksView) → Keeps a b → (xs others : List A) → AllByRecursion (P a) (xs ++ others) → AllByRecursion (P b) others
  kept_later a b keeps xs others h = all_weaker (P a) (P b) (λ x. stays a b x keeps) others (all_after (P a) xs others h)

  pub kept_then : (a b c : ChunksView) → Keeps a b → Keeps b c → (xs others : List A) (ys more : List B) → (AllByRecursion (P a) xs → AllByRecursion (Q b) ys) → (AllByRecursion (P b) others → AllByRecursion (Q c) more)
      → AllByRecursion (P a) (xs ++ others) → AllByRecursion (Q c) (ys ++ more)
  kept_then a b c keeps later xs others ys more first second h =
      all_both (Q c) ys more (all_weaker (Q b) (Q c) (λ y. remains b c y later) ys (first (all_front (P a) xs others h))) (second (kept_later a b keeps xs others h))

-- parts that no store has ask for nothing
pub AreKept-unwritten : (chunks : ChunksView) (labels : LabelSet) (parts : List PartView) → notes_of parts ≡ [] → AllByRecursion (IsKept chunks labels) parts
AreKept-unwritten chunks labels [] none = tt
AreKept-unwritten chunks labels (part ∷ parts) none = (at part.note none, AreKept-unwritten chunks labels parts (rest part.note none))
  where
    at : (note : Option Note) → listed note ++ notes_of parts ≡ [] → IfSome note (IsNoteOf chunks (chunk_of labels part.entries))
    at None h = tt
    at (Some note) h = cc

    rest : (note : Option Note) → listed note ++ notes_of parts ≡ [] → notes_of parts ≡ []
    rest None h = h
    rest (Some note) h = cc

-- faults that were counted exactly rise, and one that was answered came
pub with_fault-rises : (faults : ℕ) → FaultsRise faults (with_fault faults)
with_fault-rises faults = omega arith

pub with_fault-came : (faults : ℕ) → FaultCame faults (with_fault faults)
with_fault-came faults = elim (cases_lt faults greatest) [ inl lt ↦ inl (omega arith) | inr le ↦ inr (omega arith) ]
