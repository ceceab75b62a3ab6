-- The member stands between those in front of it and those after it.
use Rattle.std.proofs.Common.{◌≡◌, ◌<◌, ◌+◌, length, take, drop, sym, ap, subst, ◌∙◌, arith}
use Rattle.json.specs.Value.{value_view}
use Rattle.serde_json.specs.Data.{member, put}
use Rattle.rl_json.specs.JsonData.{data_of, referred, in_front}
use Rattle.rl_json.proofs.JsonData.{member_between, replaced}
use Rattle.rl_json.proofs.members.put_member.Goals as goal

pub returns-then-start-following : goal.returns-then-start-following
returns-then-start-following c =
    let found = c.args.found.now.items in
    let start = c.span_of-start.result.0 in
    let following = c.span_of-start.result.1 in
    let key = c.args.key.now in
    let d = data_of (value_view c.args.value.now) in
    let next : following ≡ start + 1 = omega (arith, c.if-start-following.true, c.span_of-start.ensures.within.1) in
    let in' : start < length found = omega (arith, c.if-start-following.true, c.span_of-start.ensures.within.2, ap length c.deref.ensures.value) in
    ap referred (c.replace_at.ensures ∙ replaced found start (c.args.key, c.args.value) in')
    ∙ member_between found start (start + 1) (c.args.key, c.args.value)
    ∙ ap (λ n. in_front (take start found) (member key d (referred (drop n found)))) (sym next)
    ∙ sym (subst (λ es. put key d (referred es) ≡ in_front (take start es) (member key d (referred (drop following es)))) c.deref.ensures.value (c.span_of-start.ensures.placed d))

pub returns-in_ok-insert : goal.returns-in_ok-insert
returns-in_ok-insert c =
    let found = c.args.found.now.items in
    let start = c.span_of-start.result.0 in
    let following = c.span_of-start.result.1 in
    let key = c.args.key.now in
    let d = data_of (value_view c.args.value.now) in
    let same : following ≡ start = omega (arith, c.if-start-following.false, c.span_of-start.ensures.within.0) in
    ap referred c.in_ok-insert.ensures.items
    ∙ member_between found start start (c.args.key, c.args.value)
    ∙ ap (λ n. in_front (take start found) (member key d (referred (drop n found)))) (sym same)
    ∙ sym (subst (λ es. put key d (referred es) ≡ in_front (take start es) (member key d (referred (drop following es)))) c.deref.ensures.value (c.span_of-start.ensures.placed d))
