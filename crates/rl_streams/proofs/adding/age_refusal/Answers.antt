-- A new stream has no newest timestamp.
use Rattle.std.proofs.Common.{Some, true, false, sym, ap, subst, ◌∙◌}
use Rattle.rl_streams.specs.RowSteps.{IsPositionOf}
use Rattle.rl_streams.specs.StreamsState.{is_far_behind}
use Rattle.rl_streams.specs.declared.refusal.AddRefusal.TheVariants.{TooFarBehind}
use Rattle.rl_streams.proofs.Added.{age_of_new, age_at, not_before}
use Rattle.rl_streams.proofs.adding.age_refusal.Goals as goal

pub returns-in-None : goal.returns-in-None
returns-in-None c =
    let others = subst (IsPositionOf c.args.streams.now.entries c.args.entry.now.labels) c.in-None.is c.requires.position in
    age_of_new c.args.limits.now c.args.streams.now.entries c.args.horizon c.args.entry.now others (not_before c.args.entry.now.timestamp c.args.horizon (sym c.lt.ensures ∙ c.if-lt.false))

pub returns-then-is_far_behind : goal.returns-then-is_far_behind
returns-then-is_far_behind c =
    let position = subst (IsPositionOf c.args.streams.now.entries c.args.entry.now.labels) c.in-Some.is c.requires.position in
    let far = ap (is_far_behind c.args.limits.now c.args.entry.now) (sym c.newest-newest.ensures) ∙ sym c.is_far_behind.ensures ∙ c.if-is_far_behind.true in
    ap (λ newest. Some (TooFarBehind newest)) c.newest-newest.ensures
    ∙ age_at c.args.limits.now c.args.streams.now.entries c.in-Some.position c.args.horizon c.args.entry.now c.index.result.now true c.requires.apart position c.index.ensures (not_before c.args.entry.now.timestamp c.args.horizon (sym c.lt.ensures ∙ c.if-lt.false)) far

pub returns-else-is_far_behind : goal.returns-else-is_far_behind
returns-else-is_far_behind c =
    let position = subst (IsPositionOf c.args.streams.now.entries c.args.entry.now.labels) c.in-Some.is c.requires.position in
    let far = ap (is_far_behind c.args.limits.now c.args.entry.now) (sym c.newest-newest.ensures) ∙ sym c.is_far_behind.ensures ∙ c.if-is_far_behind.false in
    age_at c.args.limits.now c.args.streams.now.entries c.in-Some.position c.args.horizon c.args.entry.now c.index.result.now false c.requires.apart position c.index.ensures (not_before c.args.entry.now.timestamp c.args.horizon (sym c.lt.ensures ∙ c.if-lt.false)) far
