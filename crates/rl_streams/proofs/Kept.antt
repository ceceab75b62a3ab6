-- What the store keeps of a stream that has sealed its head, and the numbers under which it does.
use Rattle.std.proofs.Common.{◌≡◌, ◌<◌, Some, None, Option, List, [], ◌∷◌, ◌++◌, map, sym, ap, subst, ◌∙◌, append-nil}
use Rattle.std.specs.Prelude.{IfSome}
use Rattle.std.specs.List.{AllByRecursion}
use Rattle.std.proofs.lemmas.List.Concat.{flat_map-append}
use Rattle.rl_parts.specs.ChunksState.{ChunksView}
use Rattle.rl_parts.specs.StreamParts.{Note, PartView, StreamView, notes_of, listed, chunk_of}
use Rattle.rl_parts.specs.StoreUse.{IsNoteOf, IsKept, AreKept}
use Rattle.rl_parts.specs.Changes.{AreSealed}
use Rattle.rl_parts.specs.laws.EachLaws.{all_both}
use Rattle.rl_parts.specs.laws.UseLaws.{AreKept-unwritten}
use Rattle.rl_streams.specs.StreamRows.{numbers_of}

-- a stream that took an entry, or sealed its head
pub kept_sealed : (chunks : ChunksView) (old new : StreamView) → new.labels ≡ old.labels → AreSealed old.parts new.parts → AreKept chunks old → AreKept chunks new
kept_sealed chunks old new labels sealed h =
    subst (λ set. AllByRecursion (IsKept chunks set) new.parts) (sym labels)
    (subst (AllByRecursion (IsKept chunks old.labels)) (sym sealed.appended) (all_both (IsKept chunks old.labels) old.parts sealed.fresh h (AreKept-unwritten chunks old.labels sealed.fresh sealed.unwritten)))

-- and its numbers stay
pub numbers_sealed : (old new : StreamView) → AreSealed old.parts new.parts → numbers_of new ≡ numbers_of old
numbers_sealed old new sealed =
    ap (λ parts. map (λ note. note.number) (notes_of parts)) sealed.appended
    ∙ ap (map (λ note. note.number)) (flat_map-append (λ part. listed part.note) old.parts sealed.fresh ∙ ap (λ l. notes_of old.parts ++ l) sealed.unwritten ∙ append-nil (notes_of old.parts))

-- the numbers of a stream are below the next one
pub numbers_below : (chunks : ChunksView) (stream : StreamView) → AreKept chunks stream → AllByRecursion (λ number. number < chunks.next) (numbers_of stream)
numbers_below chunks stream h = of_parts stream.parts h
  where
    of_parts : (parts : List PartView) → AllByRecursion (IsKept chunks stream.labels) parts → AllByRecursion (λ number. number < chunks.next) (map (λ note. note.number) (notes_of parts))
    of_parts [] h = tt
    of_parts (part ∷ parts) h = by part.note h.0 (of_parts parts h.1)
      where
        by : (note : Option Note) → IfSome note (IsNoteOf chunks (chunk_of stream.labels part.entries)) → AllByRecursion (λ number. number < chunks.next) (map (λ note. note.number) (notes_of parts)) → AllByRecursion (λ number. number < chunks.next) (map (λ note. note.number) (listed note ++ notes_of parts))
        by None h others = others
        by (Some note) h others = (h.given, others)
