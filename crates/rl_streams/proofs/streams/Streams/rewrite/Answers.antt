-- What is not covered is held.
use Rattle.std.proofs.Common.{◌≡◌, true, List, length, sym, ap, subst, ◌∙◌, arith}
use Rattle.std.specs.Map.{keys_of}
use Rattle.rl_streams.specs.HeldSet.{set_of}
use Rattle.rl_streams.specs.Selected.{AreSelections}
use Rattle.rl_streams.specs.StreamRows.{Row, joined}
use Rattle.rl_streams.specs.StreamsState.{IsWhole, StreamsView, view_of}
use Rattle.rl_streams.specs.Rewritten.{AreLeftIn, Rewrites, rewritten, without}
use Rattle.rl_streams.proofs.Leaving.{held_rewritten, view_rewritten, whole_rewritten}
use Rattle.rl_streams.proofs.Plans.{fewer_rewritten, keys_rewritten, rewritten_left}
use Rattle.rl_streams.proofs.streams.Streams.rewrite.Goals as goal

pub count-self-inside-requires : goal.count-self-inside-requires
count-self-inside-requires g c =
    let s = c.self.inside in
    let rows = s.streams.entries in
    let seen = c.plan_all-planned.new.chunks in
    let after = c.carry_out_all.new.chunks in
    let plans = c.in_ok-plans.plans.items in
    let made = c.in_ok-plans.ensures in
    let covers = g.C.Covers.covers c.args.covered.now in
    let streams : c.carry_out_all.new.streams.entries ≡ rewritten rows plans = c.carry_out_all.ensures.streams in
    omega (arith, fewer_rewritten rows plans made.of made.planned.sound, ap (λ (rs : List Row). length (joined rs)) streams, c.self.invariant.0.counted)

pub invariant_of-self-2 : goal.invariant_of-self-2
invariant_of-self-2 g c =
    let s = c.self.inside in
    let rows = s.streams.entries in
    let seen = c.plan_all-planned.new.chunks in
    let after = c.carry_out_all.new.chunks in
    let plans = c.in_ok-plans.plans.items in
    let made = c.in_ok-plans.ensures in
    let covers = g.C.Covers.covers c.args.covered.now in
    let streams : c.carry_out_all.new.streams.entries ≡ rewritten rows plans = c.carry_out_all.ensures.streams in
    let counted : c.count-self-inside.result ≡ length (joined (rewritten rows plans)) = c.count-self-inside.ensures ∙ ap (λ (rs : List Row). length (joined rs)) streams in
    subst (λ (rs : List Row). IsWhole s.limits rs after c.count-self-inside.result × AreSelections (keys_of rs) s.selections) (sym streams) (
      whole_rewritten s.limits rows s.count s.chunks seen c.self.invariant.0 made.puts made.counted covers plans after made.of made.planned c.carry_out_all.ensures.removed c.count-self-inside.result counted,
      subst (λ labels. AreSelections labels s.selections) (sym (keys_rewritten rows plans made.of)) c.self.invariant.1,
    )

pub returns-clause-rewritten : goal.returns-clause-rewritten
returns-clause-rewritten g c =
    let s = c.self.inside in
    let rows = s.streams.entries in
    let seen = c.plan_all-planned.new.chunks in
    let after = c.carry_out_all.new.chunks in
    let plans = c.in_ok-plans.plans.items in
    let made = c.in_ok-plans.ensures in
    let covers = g.C.Covers.covers c.args.covered.now in
    let streams : c.carry_out_all.new.streams.entries ≡ rewritten rows plans = c.carry_out_all.ensures.streams in
    subst (λ (old : StreamsView). Rewrites old (view_of s.limits c.carry_out_all.new.streams.entries after)) c.self.view_is
    (subst (λ (rs : List Row). Rewrites (view_of s.limits rows s.chunks) (view_of s.limits rs after)) (sym streams)
    (view_rewritten s.limits rows s.count s.chunks seen c.self.invariant.0 made.puts made.counted covers plans after made.of made.planned c.carry_out_all.ensures.removed))

pub returns-clause-left : goal.returns-clause-left
returns-clause-left g c =
    let s = c.self.inside in
    let rows = s.streams.entries in
    let seen = c.plan_all-planned.new.chunks in
    let after = c.carry_out_all.new.chunks in
    let plans = c.in_ok-plans.plans.items in
    let made = c.in_ok-plans.ensures in
    let covers = g.C.Covers.covers c.args.covered.now in
    let streams : c.carry_out_all.new.streams.entries ≡ rewritten rows plans = c.carry_out_all.ensures.streams in
    subst (λ (old : StreamsView). AreLeftIn covers old.rows c.carry_out_all.new.streams.entries) c.self.view_is
    (subst (λ (rs : List Row). AreLeftIn covers rows rs) (sym streams) (rewritten_left covers rows plans made.of made.planned.left))

pub returns-clause-right : goal.returns-clause-right
returns-clause-right g c =
    let s = c.self.inside in
    let rows = s.streams.entries in
    let seen = c.plan_all-planned.new.chunks in
    let after = c.carry_out_all.new.chunks in
    let plans = c.in_ok-plans.plans.items in
    let made = c.in_ok-plans.ensures in
    let covers = g.C.Covers.covers c.args.covered.now in
    let streams : c.carry_out_all.new.streams.entries ≡ rewritten rows plans = c.carry_out_all.ensures.streams in
    subst (λ (old : StreamsView). old.seen.honest ≡ true → set_of (joined c.carry_out_all.new.streams.entries) ≡ without covers old.held) c.self.view_is
    (λ honest. ap (λ (rs : List Row). set_of (joined rs)) streams
    ∙ held_rewritten s.limits rows s.count s.chunks seen c.self.invariant.0 made.puts made.counted covers plans after made.of made.planned c.carry_out_all.ensures.removed honest)
