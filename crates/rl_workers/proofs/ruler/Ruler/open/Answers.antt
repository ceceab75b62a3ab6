-- The counts fit where a ruler is opened.
use Rattle.std.proofs.Common.{◌≡◌, ℕ, nat_le, true, length, sym, ap, ◌∙◌, arith}
use Rattle.std.proofs.lemmas.Grind.{common_steps}
use Rattle.std.specs.List.{list_all}
use Rattle.rl_workers.specs.Rulers.{counts_fit}
use Rattle.rl_workers.proofs.ruler.Ruler.open.Goals as goal

pub returns-in-Ok-clause-counts : goal.returns-in-Ok-clause-counts
returns-in-Ok-clause-counts g c =
    let fit : c.counts_fit.result ≡ true = grind (arith, common_steps) in
    let many : length c.args.stores.items ≡ c.len.result = omega (arith, c.len.ensures, c.args.stores.ok.0) in
    ap (λ (n : ℕ). counts_fit n c.args.callers c.args.groups.items (length c.args.sinks.items) (list_all (λ own. nat_le (length own.items) 16) c.args.sinks.items)) many ∙ sym c.counts_fit.ensures.fit ∙ fit
