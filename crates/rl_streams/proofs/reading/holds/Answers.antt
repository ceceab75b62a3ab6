-- The entry is held by the stream of its labels, or by none.
use Rattle.std.proofs.Common.{Ok, true≢false, refl, sym, ap, inl}
use Rattle.rl_streams.proofs.Held.{not_held}
use Rattle.rl_streams.proofs.Visited.{not_others, found_at, stream_there, yes_at, no_at, exact_at}
use Rattle.rl_streams.proofs.reading.holds.Goals as goal

pub returns-in-None-clause-right : goal.returns-in-None-clause-right
returns-in-None-clause-right g c = λ are honest. sym (not_held c.args.entry.now c.args.streams.now.entries are.own c.in-None.ensures.position)

pub returns-in-Some-clause-unread : goal.returns-in-Some-clause-unread
returns-in-Some-clause-unread g c = λ others. absurd (not_others c.args.streams.now.entries c.in-Some.position c.args.entry.now c.index.result.now c.in-Some.ensures.position c.index.ensures others)

pub returns-in-Some-clause-right : goal.returns-in-Some-clause-right
returns-in-Some-clause-right g c = λ are honest.
    found_at c.args.streams.now.entries c.in-Some.position c.args.entry.now c.index.result.now c.in-Some.ensures.position c.index.ensures c.holds.result c.args.chunks.now are (λ kept. c.holds.ensures.right kept honest)

pub returns-in-None-clause-yes : goal.returns-in-None-clause-yes
returns-in-None-clause-yes g c = λ e. absurd (true≢false (sym e))

pub returns-in-None-clause-no : goal.returns-in-None-clause-no
returns-in-None-clause-no g c = λ _. inl c.in-None.ensures.position

pub returns-in-None-clause-exact : goal.returns-in-None-clause-exact
returns-in-None-clause-exact g c = λ _. (ap Ok (sym (not_held c.args.entry.now c.args.streams.now.entries c.requires c.in-None.ensures.position)), refl)

pub returns-in-Some-clause-yes : goal.returns-in-Some-clause-yes
returns-in-Some-clause-yes g c = yes_at c.args.streams.now.entries c.in-Some.position c.args.entry.now c.index.result.now c.in-Some.ensures.position c.index.ensures c.holds.result c.holds.ensures.yes

pub returns-in-Some-clause-no : goal.returns-in-Some-clause-no
returns-in-Some-clause-no g c = no_at c.args.streams.now.entries c.in-Some.position c.args.entry.now c.index.result.now c.in-Some.ensures.position c.index.ensures c.holds.result c.holds.ensures.no

pub returns-in-Some-clause-exact : goal.returns-in-Some-clause-exact
returns-in-Some-clause-exact g c = λ unreached.
    let none = unreached c.index.result.now (stream_there c.args.streams.now.entries c.in-Some.position c.args.entry.now c.index.result.now c.in-Some.ensures.position c.index.ensures) in
    (exact_at c.args.streams.now.entries c.in-Some.position c.args.entry.now c.index.result.now c.in-Some.ensures.position c.index.ensures c.holds.result c.requires c.in-Some.ensures.apart (c.holds.ensures.exact none), c.holds.ensures.unread none)
