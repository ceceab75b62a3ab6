-- The head with the entry, and what becomes of it.
use Rattle.std.proofs.Common.{◌≡◌, ◌+◌, ◌<◌, ◌∷◌, ◌++◌, [], List, length, sym, ap, subst, ◌∙◌, arith}
use Rattle.std.specs.List.{Contains, flat_map}
use Rattle.rl_labels.specs.declared.entry.Entry.{Entry}
use Rattle.rl_parts.specs.StreamParts.{PartView, StreamView, IsRun, unwritten, entries_of, most_entries}
use Rattle.rl_parts.specs.Changes.{IsInserted}
use Rattle.rl_parts.specs.StreamState.{IsInOrder, IsPut}
use Rattle.rl_parts.proofs.Heads.{run_put, many_put, entries_put, entries_sealed, in_order_sealed}
use Rattle.rl_parts.proofs.stream.Stream.hold.Goals as goal

-- what was put is the entry, whoever's its labels are
own_put : (old new : List Entry) (own entry : Entry) → own ≡ entry → IsPut old own new → IsPut old entry new
own_put old new own entry is put = subst (λ (e : Entry). IsPut old e new) is put

pub put-requires-clause-new : goal.put-requires-clause-new
put-requires-clause-new c = subst (λ (e : Entry). Contains c.self.inside.head.items e → ⊥) (sym c.in_ok-entry.ensures) (subst (λ (s : StreamView). Contains s.head c.args.entry → ⊥) (sym c.self.view_is) c.requires.new)

pub invariant_of-self-then-len-most : goal.invariant_of-self-then-len-most
invariant_of-self-then-len-most c =
    let parts = c.reserve.new.self.items in
    let head = c.put.new.entries.items in
    let of : c.args.entry.labels ≡ c.self.inside.labels = c.requires.labels ∙ sym (ap (λ (s : StreamView). s.labels) c.self.view_is) in
    let run : IsRun c.self.inside.labels head = run_put c.self.inside.labels c.self.inside.head.items c.args.entry head c.self.invariant.parts.growing of (own_put c.self.inside.head.items c.put.new.entries.items c.in_ok-entry.entry c.args.entry c.in_ok-entry.ensures c.in_ok-put.ensures.ok) in
    let few : length head < most_entries = omega (arith, c.put.new.entries.ok.0) in
    subst (λ (ps : List PartView). IsInOrder (record { labels = c.self.inside.labels; parts = ps; head = head; newest = c.later-self-inside.result }) c.self.inside.sealed_to) (sym c.reserve.ensures.items)
    (record { parts = record { sealed = c.self.invariant.parts.sealed; growing = run; few = few }; up_to = c.self.invariant.up_to })

pub returns-then-len-most-clause-entries : goal.returns-then-len-most-clause-entries
returns-then-len-most-clause-entries c =
    subst (λ (s : StreamView). IsInserted (entries_of s) c.args.entry (flat_map (λ part. part.entries) c.reserve.new.self.items ++ c.put.new.entries.items)) c.self.view_is
    (subst (λ (ps : List PartView). IsInserted (flat_map (λ part. part.entries) c.self.inside.parts.items ++ c.self.inside.head.items) c.args.entry (flat_map (λ part. part.entries) ps ++ c.put.new.entries.items)) (sym c.reserve.ensures.items)
    (entries_put (flat_map (λ part. part.entries) c.self.inside.parts.items) c.self.inside.head.items c.args.entry c.put.new.entries.items (own_put c.self.inside.head.items c.put.new.entries.items c.in_ok-entry.entry c.args.entry c.in_ok-entry.ensures c.in_ok-put.ensures.ok)))

pub invariant_of-self-2 : goal.invariant_of-self-2
invariant_of-self-2 c =
    let labels = c.self.inside.labels in
    let head = c.put.new.entries.items in
    let of : c.args.entry.labels ≡ labels = c.requires.labels ∙ sym (ap (λ (s : StreamView). s.labels) c.self.view_is) in
    let run : IsRun labels head = run_put labels c.self.inside.head.items c.args.entry head c.self.invariant.parts.growing of (own_put c.self.inside.head.items c.put.new.entries.items c.in_ok-entry.entry c.args.entry c.in_ok-entry.ensures c.in_ok-put.ensures.ok) in
    let many : length head ≡ length c.self.inside.head.items + 1 = many_put c.self.inside.head.items c.args.entry head (own_put c.self.inside.head.items c.put.new.entries.items c.in_ok-entry.entry c.args.entry c.in_ok-entry.ensures c.in_ok-put.ensures.ok) in
    let few : length c.self.inside.head.items < most_entries = c.self.invariant.parts.few in
    let parts : c.seal_head.new.parts.items ≡ c.self.inside.parts.items ++ unwritten head ∷ [] = c.seal_head.ensures.parts ∙ ap (λ ps. ps ++ unwritten head ∷ []) c.reserve.ensures.items in
    subst (λ (ps : List PartView). IsInOrder (record { labels = labels; parts = ps; head = c.seal_head.new.head.items; newest = c.later-self-inside.result }) c.seal_head.new.sealed_to) (sym parts)
    (subst (λ (es : List Entry). IsInOrder (record { labels = labels; parts = c.self.inside.parts.items ++ unwritten head ∷ []; head = es; newest = c.later-self-inside.result }) c.seal_head.new.sealed_to) (sym c.seal_head.ensures.head)
    (in_order_sealed labels c.self.inside.parts.items head c.later-self-inside.result c.self.inside.sealed_to c.seal_head.new.sealed_to c.self.invariant.parts.sealed c.self.invariant.up_to run (omega arith) (omega arith) c.seal_head.ensures.sealed_to))

pub returns-clause-entries : goal.returns-clause-entries
returns-clause-entries c =
    let all = λ (ps : List PartView). flat_map (λ part. part.entries) ps in
    let old = all c.self.inside.parts.items in
    let head = c.put.new.entries.items in
    let parts : c.seal_head.new.parts.items ≡ c.self.inside.parts.items ++ unwritten head ∷ [] = c.seal_head.ensures.parts ∙ ap (λ ps. ps ++ unwritten head ∷ []) c.reserve.ensures.items in
    let now : all c.seal_head.new.parts.items ++ c.seal_head.new.head.items ≡ old ++ head = (λ i. all (parts i) ++ c.seal_head.ensures.head i) ∙ entries_sealed c.self.inside.parts.items head in
    subst (λ (s : StreamView). IsInserted (entries_of s) c.args.entry (all c.seal_head.new.parts.items ++ c.seal_head.new.head.items)) c.self.view_is
    (subst (λ (es : List Entry). IsInserted (old ++ c.self.inside.head.items) c.args.entry es) (sym now)
    (entries_put old c.self.inside.head.items c.args.entry head (own_put c.self.inside.head.items c.put.new.entries.items c.in_ok-entry.entry c.args.entry c.in_ok-entry.ensures c.in_ok-put.ensures.ok)))
