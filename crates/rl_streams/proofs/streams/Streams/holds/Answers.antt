-- What is held is a set.
use Rattle.std.proofs.Common.{◌≡◌, true, false, None, Ok, refl, sym, ap, subst, ◌∙◌}
use Rattle.std.specs.Prelude.{IfOk}
use Rattle.std.specs.FinMap.{get, contains_key}
use Rattle.rl_labels.specs.laws.OrderLaws.{entry_cmp_total}
use Rattle.rl_parts.specs.StoreUse.{Right}
use Rattle.rl_parts.specs.laws.AnswerLaws.{right_then}
use Rattle.rl_streams.specs.Found.{IsFound, IsMissing, IsUnreached}
use Rattle.rl_streams.specs.StreamRows.{joined, is_among}
use Rattle.rl_streams.specs.StreamsState.{StreamsView, view_of}
use Rattle.rl_streams.specs.laws.HeldLaws.{contains_key-of_list}
use Rattle.rl_streams.proofs.Visited.{rows_others}
use Rattle.rl_streams.proofs.Whole.{looked_whole}
use Rattle.rl_streams.proofs.streams.Streams.holds.Goals as goal

pub invariant_of-self : goal.invariant_of-self
invariant_of-self g c =
    let s = c.self.inside in
    (looked_whole s.limits s.streams.entries s.streams.entries s.chunks c.holds.new.chunks s.count c.self.invariant.0 c.holds.ensures.reads refl, c.self.invariant.1)

pub returns-clause-unread : goal.returns-clause-unread
returns-clause-unread g c = λ none.
    let s = c.self.inside in
    let unread = c.holds.ensures.unread (rows_others s.streams.entries c.args.entry.now.labels (subst (λ (view : StreamsView). get view.newest c.args.entry.now.labels ≡ None) (sym c.self.view_is) none)) in
    (unread.0, ap (view_of s.limits s.streams.entries) unread.1 ∙ c.self.view_is)

pub returns-clause-right : goal.returns-clause-right
returns-clause-right g c =
    let s = c.self.inside in
    let entry = c.args.entry.now in
    subst (λ (view : StreamsView). view.seen.honest ≡ true → Right c.holds.result (λ found. found ≡ contains_key view.held entry)) c.self.view_is
    (λ honest. right_then (λ found. found ≡ is_among entry (joined s.streams.entries)) (λ found. found ≡ contains_key (view_of s.limits s.streams.entries s.chunks).held entry)
    (λ found is. is ∙ sym (contains_key-of_list entry_cmp_total (joined s.streams.entries) entry)) c.holds.result (c.holds.ensures.right c.self.invariant.0.streams honest))

pub returns-clause-yes : goal.returns-clause-yes
returns-clause-yes g c = subst (λ (view : StreamsView). IfOk c.holds.result (λ found. found ≡ true → IsFound view.rows c.args.entry.now)) c.self.view_is c.holds.ensures.yes

pub returns-clause-no : goal.returns-clause-no
returns-clause-no g c = subst (λ (view : StreamsView). IfOk c.holds.result (λ found. found ≡ false → IsMissing view.rows c.args.entry.now)) c.self.view_is c.holds.ensures.no

pub returns-clause-exact : goal.returns-clause-exact
returns-clause-exact g c =
    let s = c.self.inside in
    let entry = c.args.entry.now in
    let after = view_of s.limits s.streams.entries c.holds.new.chunks in
    subst (λ (view : StreamsView). IsUnreached view.rows entry → (c.holds.result ≡ Ok (contains_key view.held entry)) × (after ≡ view)) c.self.view_is
    (λ unreached.
    let exact = c.holds.ensures.exact unreached in
    (exact.0 ∙ ap Ok (sym (contains_key-of_list entry_cmp_total (joined s.streams.entries) entry)), ap (view_of s.limits s.streams.entries) exact.1))
