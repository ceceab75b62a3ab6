-- The windows so far and those that are left are all, and so are the codes.
use Rattle.std.proofs.Common.{◌≡◌, ◌++◌, Bor, length, map}
use Rattle.std.specs.Iterator.Adapters.{zip_first, zip_second}
use Rattle.std.specs.Slice.Iter.{iter_rest}
use Rattle.std.specs.Vec.Iter.{into_iter_items}
use Rattle.rl_query.specs.declared.query.Term.{Term}
use Rattle.rl_windows.specs.Ranges.{code_of}
use Rattle.rl_slots.specs.declared.range_window.RangeWindow.{RangeWindow}
use Rattle.rl_shard.proofs.windows.with_codes.Given as goal

abbrev pub invariant-loop-term : goal.invariant-loop-term
invariant-loop-term l =
    let terms_left = iter_rest (zip_first l.term-iterator) in
    let windows_left = into_iter_items (zip_second l.term-iterator) in
    record {
      codes : map (λ (it : RangeWindow). it.code) l.coded.items ++ map (λ (term : Bor Term). code_of term.now) terms_left ≡ map (λ (term : Bor Term). code_of term.now) l.fn.terms;
      windows : map (λ (it : RangeWindow). it.window) l.coded.items ++ windows_left ≡ l.fn.windows.items;
      long : length windows_left ≡ length terms_left;
    }
