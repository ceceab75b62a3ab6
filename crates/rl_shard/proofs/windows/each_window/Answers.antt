-- The windows of some terms more.
use Rattle.std.proofs.Common.{◌-◌, length, take, drop, ap, ◌∙◌, arith}
use Rattle.std.proofs.lemmas.List.{length-drop, length-take-le, take_rest}
use Rattle.rl_shard.specs.Live.{IsBuiltFrom}
use Rattle.rl_shard.proofs.Ranges.{all_back, all_joined, keys_more, looks_then}
use Rattle.rl_shard.proofs.windows.each_window.Goals as goal

pub loop-first-preserved : goal.loop-first-preserved
loop-first-preserved g c =
    let now = c.loop-first.streams in
    let look = c.windows_alike.ensures.same in
    let old = c.args.streams.now in
    let terms = c.args.terms.now in
    let first = c.loop-first.first in
    let len = c.alike_len.result in
    let rest = take (length terms - first) (drop first terms) in
    let windows = c.loop-first.windows.items in
    let more = c.in_ok-built.built.items in
    let all = c.append.new.self.items in
    let is_built = IsBuiltFrom old c.args.requests.now c.args.t in
    let rest_is = take_rest terms first in
    let within = c.alike_len.ensures.some.1 in
    record {
      looks = looks_then old now c.windows_alike.new.streams c.loop-first.invariant.looks look;
      within = omega (arith, length-take-le len rest within, ap length rest_is, length-drop first terms, within, c.loop-first.invariant.within);
      keys = keys_more windows more all terms rest first len rest_is within c.in_ok-append.ensures.items c.loop-first.invariant.keys c.in_ok-built.ensures.keys;
      built = all_joined is_built windows more all c.in_ok-append.ensures.items c.loop-first.invariant.built (all_back old now c.args.requests.now c.args.t c.loop-first.invariant.looks more c.in_ok-built.ensures.built);
      counted = c.in_ok-built.ensures.counted ∙ c.loop-first.invariant.counted;
    }
