-- One window more has its code, and at the end all have.
use Rattle.std.proofs.Common.{Bor, length, map, sym, ap, ◌∙◌, arith, ⊎_elim}
use Rattle.std.proofs.lemmas.List.{length-map}
use Rattle.std.specs.Iterator.Adapters.{zip_first, zip_second}
use Rattle.std.specs.Slice.Iter.{iter_rest}
use Rattle.std.specs.Vec.Iter.{into_iter_items}
use Rattle.rl_query.specs.declared.query.Term.{Term}
use Rattle.rl_windows.specs.Ranges.{code_of}
use Rattle.rl_slots.specs.declared.range_window.RangeWindow.{RangeWindow}
use Rattle.rl_shard.proofs.Ranges.{moved_all, moved_on}
use Rattle.rl_shard.proofs.windows.with_codes.Goals as goal

pub loop-term-preserved : goal.loop-term-preserved
loop-term-preserved c =
    let code = λ (term : Bor Term). code_of term.now in
    let now = c.loop-term.term-iterator in
    let then = c.next.new.self in
    let terms_left = iter_rest (zip_first now) in
    let windows_left = into_iter_items (zip_second now) in
    let step = c.in-Some.ensures.steps in
    let coded = c.loop-term.coded.items in
    let it : RangeWindow = record { code = c.in_ok-code.code; window = c.in-Some.window } in
    let terms_are = step.0 in
    let windows_are = step.1.0 in
    record {
      codes = moved_on (λ (it : RangeWindow). it.code) coded c.push.new.self.items it (map code terms_left) (map code (iter_rest (zip_first then))) (code c.in-Some.term.now) (map code c.args.terms.now) c.in_ok-push.ensures.items (ap (map code) terms_are) c.in_ok-code.ensures c.loop-term.invariant.codes;
      windows = moved_on (λ (it : RangeWindow). it.window) coded c.push.new.self.items it windows_left (into_iter_items (zip_second then)) c.in-Some.window c.args.windows.items c.in_ok-push.ensures.items windows_are (λ _. c.in-Some.window) c.loop-term.invariant.windows;
      long = omega (arith, ap length terms_are, ap length windows_are, c.loop-term.invariant.long);
    }

pub returns-clause-codes : goal.returns-clause-codes
returns-clause-codes c =
    let code = λ (term : Bor Term). code_of term.now in
    let now = c.loop-term.term-iterator in
    let terms_left = iter_rest (zip_first now) in
    let none = ⊎_elim (λ ended. ended.1.0) (λ ended. sym c.loop-term.invariant.long ∙ (sym (zip_second now).rest.ok.0 ∙ ended.1.0)) c.in-None.ensures.steps in
    moved_all (λ (it : RangeWindow). it.code) c.loop-term.coded.items (map code terms_left) (map code c.args.terms.now) (length-map terms_left code ∙ none) c.loop-term.invariant.codes

pub returns-clause-windows : goal.returns-clause-windows
returns-clause-windows c =
    let now = c.loop-term.term-iterator in
    let none = ⊎_elim (λ ended. c.loop-term.invariant.long ∙ ended.1.0) (λ ended. sym (zip_second now).rest.ok.0 ∙ ended.1.0) c.in-None.ensures.steps in
    moved_all (λ (it : RangeWindow). it.window) c.loop-term.coded.items (into_iter_items (zip_second now)) c.args.windows.items none c.loop-term.invariant.windows
