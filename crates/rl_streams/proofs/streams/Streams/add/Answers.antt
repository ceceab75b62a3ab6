-- What was put among the streams is held.
use Rattle.std.proofs.Common.{◌≡◌, true, false, None, Ok, refl, sym, ap, subst, ◌∙◌}
use Rattle.std.specs.Prelude.{nat_le}
use Rattle.std.proofs.lemmas.Result.{err_from_is_err_and}
use Rattle.rl_streams.specs.StreamRows.{joined, newest_in, newest_map, is_among}
use Rattle.rl_streams.specs.Found.{IsAnswered, IsAnsweredUnread, IsFound, IsMissing, IsSettledUnread, IsUnreached}
use Rattle.rl_streams.specs.RowSteps.{AreOffered, IsOfferedRight}
use Rattle.rl_streams.specs.StreamsState.{StreamsView, view_of, age_refusal, IsDecided}
use Rattle.rl_streams.proofs.Selecting.{selections_after, selections_same}
use Rattle.rl_streams.proofs.Whole.{looked_whole, taken_whole, decided_refused, decided_held, decided_taken, IsSettledBy, settled_young, settled_refused, settled_held, settled_taken, unread_refused, unread_held, unread_taken, taken_new, has_room}
use Rattle.rl_streams.proofs.streams.Streams.add.Goals as goal

pub invariant_of-self : goal.invariant_of-self
invariant_of-self g c =
    let s = c.self.inside in (
      looked_whole s.limits s.streams.entries c.put.new.streams.entries s.chunks c.put.new.chunks s.count c.self.invariant.0 c.put.ensures.reads c.in_err-put.ensures.refused,
      selections_same s.streams.entries c.put.new.streams.entries s.selections c.in_err-put.ensures.refused c.self.invariant.1,
    )

pub returns-in_err-put-clause-decided : goal.returns-in_err-put-clause-decided
returns-in_err-put-clause-decided g c =
    let s = c.self.inside in
    let p = err_from_is_err_and c.from_residual.result c.from_residual.ensures.1 in
    subst (λ (old : StreamsView). age_refusal old.limits old.newest c.args.horizon c.args.entry ≡ None → old.seen.honest ≡ true → IsDecided c.from_residual.result old c.args.entry (view_of s.limits c.put.new.streams.entries c.put.new.chunks)) c.self.view_is
    (λ aged honest. rw (p.1, p.2) (decided_refused s.limits s.streams.entries c.put.new.streams.entries s.chunks c.put.new.chunks s.count c.self.invariant.0 c.put.ensures.reads c.args.entry
    c.in_err-put.field-0.0 _ (view_of s.limits c.put.new.streams.entries c.put.new.chunks) honest (c.in_err-put.ensures.right c.self.invariant.0.streams honest) c.in_err-put.ensures.answers refl))

pub invariant_of-self-then-not-branch : goal.invariant_of-self-then-not-branch
invariant_of-self-then-not-branch g c =
    let s = c.self.inside in
    let same = subst (λ more. AreOffered s.limits.chunk_entries more s.streams.entries c.args.entry c.put.new.streams.entries) c.if-not-branch.true c.in_ok-put.ensures.taken in (
      looked_whole s.limits s.streams.entries c.put.new.streams.entries s.chunks c.put.new.chunks s.count c.self.invariant.0 c.put.ensures.reads same,
      selections_same s.streams.entries c.put.new.streams.entries s.selections same c.self.invariant.1,
    )

pub returns-then-not-branch-clause-decided : goal.returns-then-not-branch-clause-decided
returns-then-not-branch-clause-decided g c =
    let s = c.self.inside in
    let same = subst (λ more. AreOffered s.limits.chunk_entries more s.streams.entries c.args.entry c.put.new.streams.entries) c.if-not-branch.true c.in_ok-put.ensures.taken in
    subst (λ (old : StreamsView). age_refusal old.limits old.newest c.args.horizon c.args.entry ≡ None → old.seen.honest ≡ true → IsDecided (Ok false) old c.args.entry (view_of s.limits c.put.new.streams.entries c.put.new.chunks)) c.self.view_is
    (λ aged honest. decided_held s.limits s.streams.entries c.put.new.streams.entries s.chunks c.put.new.chunks s.count c.self.invariant.0 c.put.ensures.reads c.args.entry honest
    (subst (λ more. IsOfferedRight (Ok more) (is_among c.args.entry (joined s.streams.entries))) c.if-not-branch.true (c.in_ok-put.ensures.right c.self.invariant.0.streams honest)) same)

pub invariant_of-self-2 : goal.invariant_of-self-2
invariant_of-self-2 g c =
    let s = c.self.inside in
    let answers = subst (λ more. IsAnswered (Ok more) (IsFound s.streams.entries c.args.entry) (IsMissing s.streams.entries c.args.entry) (nat_le s.limits.entries s.count)) c.if-not-branch.false c.in_ok-put.ensures.answers in
    let added = subst (λ more. AreOffered s.limits.chunk_entries more s.streams.entries c.args.entry c.put.new.streams.entries) c.if-not-branch.false c.in_ok-put.ensures.taken in (
      taken_whole s.limits s.streams.entries c.put.new.streams.entries s.chunks c.put.new.chunks s.count c.self.invariant.0 c.put.ensures.reads c.args.entry added
          (λ honest. taken_new (is_among c.args.entry (joined s.streams.entries)) (subst (λ more. IsOfferedRight (Ok more) (is_among c.args.entry (joined s.streams.entries))) c.if-not-branch.false (c.in_ok-put.ensures.right c.self.invariant.0.streams honest)))
          (has_room s.limits s.count answers.1),
      selections_after s.streams.entries c.put.new.streams.entries s.selections added.labels c.self.invariant.1,
    )

pub returns-clause-decided : goal.returns-clause-decided
returns-clause-decided g c =
    let s = c.self.inside in
    let answers = subst (λ more. IsAnswered (Ok more) (IsFound s.streams.entries c.args.entry) (IsMissing s.streams.entries c.args.entry) (nat_le s.limits.entries s.count)) c.if-not-branch.false c.in_ok-put.ensures.answers in
    let added = subst (λ more. AreOffered s.limits.chunk_entries more s.streams.entries c.args.entry c.put.new.streams.entries) c.if-not-branch.false c.in_ok-put.ensures.taken in
    subst (λ (old : StreamsView). age_refusal old.limits old.newest c.args.horizon c.args.entry ≡ None → old.seen.honest ≡ true → IsDecided (Ok true) old c.args.entry (view_of s.limits c.put.new.streams.entries c.put.new.chunks)) c.self.view_is
    (λ aged honest. decided_taken s.limits s.streams.entries c.put.new.streams.entries s.chunks c.put.new.chunks s.count c.self.invariant.0 c.put.ensures.reads c.args.entry honest
    (subst (λ more. IsOfferedRight (Ok more) (is_among c.args.entry (joined s.streams.entries))) c.if-not-branch.false (c.in_ok-put.ensures.right c.self.invariant.0.streams honest)) added (has_room s.limits s.count answers.1))

pub returns-in_err-put-clause-settled : goal.returns-in_err-put-clause-settled
returns-in_err-put-clause-settled g c =
    let s = c.self.inside in
    let p = err_from_is_err_and c.from_residual.result c.from_residual.ensures.1 in
    subst (IsSettledBy c.from_residual.result c.args.horizon c.args.entry (view_of s.limits c.put.new.streams.entries c.put.new.chunks)) c.self.view_is
    (settled_young c.from_residual.result c.args.horizon c.args.entry (view_of s.limits c.put.new.streams.entries c.put.new.chunks) (view_of s.limits s.streams.entries s.chunks) (ap (age_refusal s.limits (newest_map (newest_in s.streams.entries)) c.args.horizon) (sym c.get-2.ensures) ∙ sym c.age_refusal-refusal.ensures ∙ c.in_default.is)
    (rw (p.1, p.2) (settled_refused s.limits s.streams.entries c.put.new.streams.entries s.chunks c.put.new.chunks s.count c.self.invariant.0 c.put.ensures.reads c.args.entry c.in_err-put.field-0.0 (nat_le s.limits.entries s.count) c.in_err-put.ensures.answers refl c.in_err-put.ensures.refused)))

pub returns-in_err-put-clause-exact : goal.returns-in_err-put-clause-exact
returns-in_err-put-clause-exact g c =
    let s = c.self.inside in
    let p = err_from_is_err_and c.from_residual.result c.from_residual.ensures.1 in
    subst (λ (old : StreamsView). age_refusal old.limits old.newest c.args.horizon c.args.entry ≡ None → IsUnreached old.rows c.args.entry → IsSettledUnread c.from_residual.result old c.args.entry (view_of s.limits c.put.new.streams.entries c.put.new.chunks)) c.self.view_is
    (λ _ unreached. let exact = c.in_err-put.ensures.exact unreached in rw (p.1, p.2) (unread_refused s.limits s.streams.entries c.put.new.streams.entries s.chunks c.put.new.chunks s.count c.self.invariant.0 c.put.ensures.reads c.args.entry (nat_le s.limits.entries s.count) refl exact.1 c.in_err-put.field-0.0 exact.0 c.in_err-put.ensures.refused))

pub returns-then-not-branch-clause-settled : goal.returns-then-not-branch-clause-settled
returns-then-not-branch-clause-settled g c =
    let s = c.self.inside in
    let same = subst (λ more. AreOffered s.limits.chunk_entries more s.streams.entries c.args.entry c.put.new.streams.entries) c.if-not-branch.true c.in_ok-put.ensures.taken in
    let answers = subst (λ more. IsAnswered (Ok more) (IsFound s.streams.entries c.args.entry) (IsMissing s.streams.entries c.args.entry) (nat_le s.limits.entries s.count)) c.if-not-branch.true c.in_ok-put.ensures.answers in
    subst (IsSettledBy (Ok false) c.args.horizon c.args.entry (view_of s.limits c.put.new.streams.entries c.put.new.chunks)) c.self.view_is
    (settled_young (Ok false) c.args.horizon c.args.entry (view_of s.limits c.put.new.streams.entries c.put.new.chunks) (view_of s.limits s.streams.entries s.chunks) (ap (age_refusal s.limits (newest_map (newest_in s.streams.entries)) c.args.horizon) (sym c.get-2.ensures) ∙ sym c.age_refusal-refusal.ensures ∙ c.in_default.is)
    (settled_held s.limits s.streams.entries c.put.new.streams.entries s.chunks c.put.new.chunks s.count c.self.invariant.0 c.put.ensures.reads c.args.entry answers same))

pub returns-then-not-branch-clause-exact : goal.returns-then-not-branch-clause-exact
returns-then-not-branch-clause-exact g c =
    let s = c.self.inside in
    let same = subst (λ more. AreOffered s.limits.chunk_entries more s.streams.entries c.args.entry c.put.new.streams.entries) c.if-not-branch.true c.in_ok-put.ensures.taken in
    subst (λ (old : StreamsView). age_refusal old.limits old.newest c.args.horizon c.args.entry ≡ None → IsUnreached old.rows c.args.entry → IsSettledUnread (Ok false) old c.args.entry (view_of s.limits c.put.new.streams.entries c.put.new.chunks)) c.self.view_is
    (λ _ unreached. let exact = c.in_ok-put.ensures.exact unreached in unread_held s.limits s.streams.entries c.put.new.streams.entries s.chunks c.put.new.chunks s.count c.self.invariant.0 c.put.ensures.reads c.args.entry (nat_le s.limits.entries s.count) refl exact.1 (subst (λ more. IsAnsweredUnread (Ok more) (is_among c.args.entry (joined s.streams.entries)) (nat_le s.limits.entries s.count)) c.if-not-branch.true exact.0) same)

pub returns-clause-settled : goal.returns-clause-settled
returns-clause-settled g c =
    let s = c.self.inside in
    let answers = subst (λ more. IsAnswered (Ok more) (IsFound s.streams.entries c.args.entry) (IsMissing s.streams.entries c.args.entry) (nat_le s.limits.entries s.count)) c.if-not-branch.false c.in_ok-put.ensures.answers in
    let added = subst (λ more. AreOffered s.limits.chunk_entries more s.streams.entries c.args.entry c.put.new.streams.entries) c.if-not-branch.false c.in_ok-put.ensures.taken in
    subst (IsSettledBy (Ok true) c.args.horizon c.args.entry (view_of s.limits c.put.new.streams.entries c.put.new.chunks)) c.self.view_is
    (settled_young (Ok true) c.args.horizon c.args.entry (view_of s.limits c.put.new.streams.entries c.put.new.chunks) (view_of s.limits s.streams.entries s.chunks) (ap (age_refusal s.limits (newest_map (newest_in s.streams.entries)) c.args.horizon) (sym c.get-2.ensures) ∙ sym c.age_refusal-refusal.ensures ∙ c.in_default.is)
    (settled_taken s.limits s.streams.entries c.put.new.streams.entries s.chunks c.put.new.chunks s.count c.self.invariant.0 c.put.ensures.reads c.args.entry answers.0 added (has_room s.limits s.count answers.1)))

pub returns-clause-exact : goal.returns-clause-exact
returns-clause-exact g c =
    let s = c.self.inside in
    let added = subst (λ more. AreOffered s.limits.chunk_entries more s.streams.entries c.args.entry c.put.new.streams.entries) c.if-not-branch.false c.in_ok-put.ensures.taken in
    subst (λ (old : StreamsView). age_refusal old.limits old.newest c.args.horizon c.args.entry ≡ None → IsUnreached old.rows c.args.entry → IsSettledUnread (Ok true) old c.args.entry (view_of s.limits c.put.new.streams.entries c.put.new.chunks)) c.self.view_is
    (λ _ unreached. let exact = c.in_ok-put.ensures.exact unreached in unread_taken s.limits s.streams.entries c.put.new.streams.entries s.chunks c.put.new.chunks s.count c.self.invariant.0 c.put.ensures.reads c.args.entry (nat_le s.limits.entries s.count) refl exact.1 (subst (λ more. IsAnsweredUnread (Ok more) (is_among c.args.entry (joined s.streams.entries)) (nat_le s.limits.entries s.count)) c.if-not-branch.false exact.0) added)
