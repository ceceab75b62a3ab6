-- The windows that were built, with the codes of their terms.
use Rattle.std.proofs.Common.{◌≤◌, Bor, map, subst, ◌∙◌}
use Rattle.std.proofs.lemmas.List.{length-map}
use Rattle.std.proofs.lemmas.Slice.Zip.{AllZip-long}
use Rattle.rl_labels.specs.Quantity.{greatest_moment}
use Rattle.rl_query.specs.declared.query.Term.{Term}
use Rattle.rl_windows.specs.Built.{IsBuiltOf}
use Rattle.rl_shard.proofs.Built.{all_built, keys_of, shown_lines}
use Rattle.rl_shard.proofs.windows.windows_alike.Goals as goal

pub with_codes-requires : goal.with_codes-requires
with_codes-requires g c =
    let streams = c.args.streams.now in
    let read = c.in_ok-built.ensures.read in
    let terms = map (λ (term : Bor Term). term.now) c.args.terms.now in
    AllZip-long (IsBuiltOf streams.limits.entries c.args.t (shown_lines c.args.requests.now read.lines)) terms c.in_ok-built.built.items read.stand ∙ length-map c.args.terms.now (λ (term : Bor Term). term.now)

pub returns-clause-keys : goal.returns-clause-keys
returns-clause-keys g c =
    let read = c.in_ok-built.ensures.read in
    let coded = c.in_ok-with_codes.ensures in
    keys_of c.args.streams.now.limits.entries c.args.t (shown_lines c.args.requests.now read.lines) c.args.terms.now c.in_ok-with_codes.field-0.items c.in_ok-built.built.items coded.windows coded.codes read.stand

pub returns-clause-built : goal.returns-clause-built
returns-clause-built g c =
    let moments = subst (λ m. m ≤ greatest_moment) c.get-moment.ensures.value c.get-moment.ensures.bound in
    let coded = c.in_ok-with_codes.ensures in
    all_built c.args.streams.now c.args.requests.now c.args.t moments c.args.meter.now c.build.new.meter c.args.terms.now c.in_ok-with_codes.field-0.items c.in_ok-built.built.items coded.windows coded.codes c.in_ok-built.ensures.read c.in_ok-built.ensures.right
