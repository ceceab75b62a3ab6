-- The windows stand for the lines that were visited, and over an honest store for all that are held.
use Rattle.std.proofs.Common.{Bor, false, map, sym, ap, subst, ◌∙◌, true≢false}
use Rattle.std.specs.FinMap.{keys}
use Rattle.std.specs.List.{AllZip}
use Rattle.rl_labels.specs.declared.limits.Limits.{Limits}
use Rattle.rl_parts.specs.Rewriting.{uncovered}
use Rattle.rl_query.specs.declared.query.Term.{Term}
use Rattle.rl_deletes.specs.Deletes.{covered, covered_line}
use Rattle.rl_streams.specs.Asking.{AreVisited, AreVisitedOnce}
use Rattle.rl_windows.specs.Built.{timely, AreBuilt}
use Rattle.rl_windows.specs.Filling.{nothing_in}
use Rattle.rl_windows.specs.Ranges.{code_of, elements_for}
use Rattle.rl_windows.specs.Windows.{StandsFor}
use Rattle.rl_windows.proofs.Visiting.{asked_by, built, lets_in, not_over, stand}
use Rattle.rl_windows.proofs.building.build.Goals as goal

pub returns-then-is_over-clause-right : goal.returns-then-is_over-clause-right
returns-then-is_over-clause-right g c honest =
    let streams = c.args.streams.now in
    let own = c.args.terms.now in
    let first = c.index-terms-0.result in
    let fillings = c.in_ok-fillings.ensures ∙ ap (λ (limits : Limits). record { left = limits.entries; is_over = false; each = map (λ (term : Bor Term). nothing_in c.args.moment limits.entries term.now) own }) c.limits.ensures in
    let once = subst (λ to. AreVisitedOnce (asked_by c.args.requests streams own c.requires.of_one c.requires.some first) c.start_of.result to streams.held lets_in (record { fillings = c.in_ok-fillings.fillings; meter = c.args.meter.now; requests = c.args.requests }) c.each.new.visitor) c.greatest_moment.ensures (c.in_ok-each.ensures.right honest) in
    true≢false (sym c.if-is_over.true ∙ c.is_over.ensures ∙ not_over c.args.requests streams own c.requires.of_one c.requires.some first c.args.moment c.start_of.result c.start_of.ensures c.args.meter.now c.in_ok-fillings.fillings fillings c.each.new.visitor once c.show_few.ensures)

pub returns-clause-read : goal.returns-clause-read
returns-clause-read g c =
    let streams = c.args.streams.now in
    let own = c.args.terms.now in
    let first = c.index-terms-0.result in
    let fillings = c.in_ok-fillings.ensures ∙ ap (λ (limits : Limits). record { left = limits.entries; is_over = false; each = map (λ (term : Bor Term). nothing_in c.args.moment limits.entries term.now) own }) c.limits.ensures in
    let given = subst (λ to. AreVisited lets_in (asked_by c.args.requests streams own c.requires.of_one c.requires.some first) c.start_of.result to streams.rows (record { fillings = c.in_ok-fillings.fillings; meter = c.args.meter.now; requests = c.args.requests }) c.each.new.visitor) c.greatest_moment.ensures c.in_ok-each.ensures.visited in
    subst (AreBuilt (covered_line c.args.requests.now) streams (map (λ (term : Bor Term). term.now) own) c.args.moment c.args.meter.now c.each.new.visitor.meter) (sym c.in_ok-windows.ensures)
    (built c.args.requests streams own c.requires.of_one c.requires.some first c.args.moment c.start_of.result c.start_of.ensures c.args.meter.now c.in_ok-fillings.fillings fillings c.each.new.visitor given (sym c.is_over.ensures ∙ c.if-is_over.false))

pub returns-clause-right : goal.returns-clause-right
returns-clause-right g c honest =
    let streams = c.args.streams.now in
    let own = c.args.terms.now in
    let first = c.index-terms-0.result in
    let fillings = c.in_ok-fillings.ensures ∙ ap (λ (limits : Limits). record { left = limits.entries; is_over = false; each = map (λ (term : Bor Term). nothing_in c.args.moment limits.entries term.now) own }) c.limits.ensures in
    let once = subst (λ to. AreVisitedOnce (asked_by c.args.requests streams own c.requires.of_one c.requires.some first) c.start_of.result to streams.held lets_in (record { fillings = c.in_ok-fillings.fillings; meter = c.args.meter.now; requests = c.args.requests }) c.each.new.visitor) c.greatest_moment.ensures (c.in_ok-each.ensures.right honest) in
    subst (AllZip (λ (term : Bor Term) window. StandsFor window (elements_for (code_of term.now) (uncovered (covered c.args.requests.now) (timely (keys streams.held))))) own) (sym c.in_ok-windows.ensures)
    (stand c.args.requests streams own c.requires.of_one c.requires.some first c.args.moment c.start_of.result c.start_of.ensures c.args.meter.now c.in_ok-fillings.fillings fillings c.each.new.visitor once c.show_few.ensures)
