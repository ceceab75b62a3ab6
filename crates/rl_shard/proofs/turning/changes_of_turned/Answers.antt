-- What was listed is of lines that turn, and over an honest store of all held entries that do and that a window needs.
use Rattle.std.proofs.Common.{◌≡◌, ◌<◌, ◌≤◌, ℕ, true, List, ◌++◌, map, max, refl, sym, ap, subst, ◌∙◌, arith}
use Rattle.std.specs.FinMap.{keys}
use Rattle.std.specs.List.{flat_map, AllByRecursion}
use Rattle.std.specs.List.Sorted.{IsPermutation}
use Rattle.std.specs.Ordering.{is_lt, nat_cmp}
use Rattle.std.proofs.Math.Nat.{lt_of_not-le}
use Rattle.rl_labels.specs.Quantity.{greatest_moment}
use Rattle.rl_labels.specs.LabelSet.{LabelSet}
use Rattle.rl_labels.specs.TimeRange.{TimeRangeView}
use Rattle.rl_chunks.specs.declared.line.Line.{Line}
use Rattle.rl_parts.specs.Reading.{visited}
use Rattle.rl_streams.specs.Asking.{asked}
use Rattle.rl_slots.specs.Slots.{IsOfLine}
use Rattle.rl_slots.specs.declared.change.Change.{Change}
use Rattle.rl_shard.specs.Turning.{AreTurned}
use Rattle.rl_shard.specs.declared.turning.Lister.{Lister}
use Rattle.rl_shard.proofs.Listed.{before_from, changes_by, lists_all, none_asked, of_lines, short_all, short_rows, some_asked}
use Rattle.rl_shard.proofs.turning.changes_of_turned.Goals as goal

pub returns-in_default-clause-right : goal.returns-in_default-clause-right
returns-in_default-clause-right g c honest =
    let covers = g.C.Covers.covers c.args.turning.now in
    let from : c.get-2.result ≡ c.args.range.from = c.get-2.ensures.value ∙ ap (λ (range : TimeRangeView). range.from) c.range.view_is in
    let is_max : c.max-first.result ≡ max c.first_needed.result c.get-2.result = c.max-first.ensures in
    let from_first : (t : ℕ) → c.args.range.from ≤ t → t < c.max-first.result → t < c.first_needed.result = λ t later before. omega (arith, is_max, from, later, before) in
    let there_is : c.args.range.to ≤ greatest_moment = omega (arith, c.get.ensures.value, c.get.ensures.bound) in
    let past : greatest_moment < c.max-first.result = lt_of_not-le c.in_default.ensures in
    subst (AreTurned covers c.args.streams.now.held c.args.slots.now) (sym c.requires.empty)
    (none_asked (g.C.Covers.covers_line c.args.turning.now) c.args.slots.now covers (g.met.C.Covers.by_parts c.args.turning.now) c.args.selector.now c.args.range c.requires.within there_is
    c.args.streams.now.held c.first_needed.result c.max-first.result c.first_needed.ensures.first from_first (omega (arith, there_is, past)))

pub returns-then-lt-clause-right : goal.returns-then-lt-clause-right
returns-then-lt-clause-right g c honest =
    let covers = g.C.Covers.covers c.args.turning.now in
    let from : c.get-2.result ≡ c.args.range.from = c.get-2.ensures.value ∙ ap (λ (range : TimeRangeView). range.from) c.range.view_is in
    let is_max : c.max-first.result ≡ max c.first_needed.result c.get-2.result = c.max-first.ensures in
    let from_first : (t : ℕ) → c.args.range.from ≤ t → t < c.max-first.result → t < c.first_needed.result = λ t later before. omega (arith, is_max, from, later, before) in
    let there_is : c.args.range.to ≤ greatest_moment = omega (arith, c.get.ensures.value, c.get.ensures.bound) in
    let to : c.range.inside.to ≡ c.args.range.to = ap (λ (range : TimeRangeView). range.to) c.range.view_is in
    let less : true ≡ is_lt (nat_cmp c.range.inside.to c.in-Some.from) = c.if-lt.ensures in
    let before : c.range.inside.to < c.in-Some.from = before_from c.range.inside.to c.in-Some.from (sym less) in
    let is_first : c.in-Some.from ≡ c.max-first.result = c.in-Some.ensures.1 in
    subst (AreTurned covers c.args.streams.now.held c.args.slots.now) (sym c.requires.empty)
    (none_asked (g.C.Covers.covers_line c.args.turning.now) c.args.slots.now covers (g.met.C.Covers.by_parts c.args.turning.now) c.args.selector.now c.args.range c.requires.within there_is
    c.args.streams.now.held c.first_needed.result c.max-first.result c.first_needed.ensures.first from_first (omega (arith, before, is_first, to)))

pub returns-clause-lines : goal.returns-clause-lines
returns-clause-lines g c =
    let covers_line = g.C.Covers.covers_line c.args.turning.now in
    let slots = c.asked.result in
    let given = c.in_ok-each.ensures.visited in
    let make = λ (changes : List Change). let lister : Lister g.row.C.Denot = record { slots = slots; turning = c.args.turning; listing = changes } in lister in
    let lines = flat_map (λ (of_row : List (LabelSet × Line)). of_row) given.lines in
    let is = ap (λ (lister : Lister g.row.C.Denot). lister.listing) (given.visited ∙ lists_all covers_line slots _ make (λ changes line. refl) c.args.listing lines) ∙ ap (λ changes. changes ++ changes_by covers_line slots lines) c.requires.empty in
    subst (AllByRecursion (λ (change : Change). IsOfLine change.element.volume)) (sym is)
    (of_lines covers_line slots lines (short_all given.lines (short_rows c.in-Some.from c.range.inside.to c.args.selector.now c.args.streams.now.rows given.lines given.each)))

pub returns-clause-right : goal.returns-clause-right
returns-clause-right g c honest =
    let covers = g.C.Covers.covers c.args.turning.now in
    let covers_line = g.C.Covers.covers_line c.args.turning.now in
    let slots = c.args.slots.now in
    let held = c.args.streams.now.held in
    let once = c.in_ok-each.ensures.right honest in
    let make = λ (changes : List Change). let lister : Lister g.row.C.Denot = record { slots = c.asked.result; turning = c.args.turning; listing = changes } in lister in
    let lines = map visited once.order in
    let is = ap (λ (lister : Lister g.row.C.Denot). lister.listing) (once.visited ∙ lists_all covers_line c.asked.result _ make (λ changes line. refl) c.args.listing lines) ∙ ap (λ changes. changes ++ changes_by covers_line c.asked.result lines) c.requires.empty ∙ ap (λ now. changes_by covers_line now lines) c.asked.ensures in
    let is_first : c.in-Some.from ≡ c.max-first.result = c.in-Some.ensures.1 in
    let from : c.get-2.result ≡ c.args.range.from = c.get-2.ensures.value ∙ ap (λ (range : TimeRangeView). range.from) c.range.view_is in
    let is_max : c.max-first.result ≡ max c.first_needed.result c.get-2.result = c.max-first.ensures in
    let from_first : (t : ℕ) → c.args.range.from ≤ t → t < c.in-Some.from → t < c.first_needed.result = λ t later before. omega (arith, is_first, is_max, from, later, before) in
    let there_is : c.args.range.to ≤ greatest_moment = omega (arith, c.get.ensures.value, c.get.ensures.bound) in
    let to : c.range.inside.to ≡ c.args.range.to = ap (λ (range : TimeRangeView). range.to) c.range.view_is in
    some_asked covers_line slots covers (g.met.C.Covers.by_parts c.args.turning.now) c.args.selector.now c.args.range c.requires.within there_is held c.first_needed.result c.in-Some.from c.first_needed.ensures.first from_first
    once.order (subst (λ last. IsPermutation (asked c.args.selector.now c.in-Some.from last (keys held)) once.order) to once.once) c.each.new.visitor.listing is
