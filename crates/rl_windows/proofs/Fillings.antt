-- Windows that lines come into have room for those that may still come.
use Rattle.std.specs.Prelude.{ℕ, zero, suc, ◌+◌, ◌-◌, ◌≤◌, Option, None, Some, true, false, cond, List, [], ◌∷◌, ◌++◌, length, map, take, drop, refl}
use Rattle.std.specs.FinMap.{empty}
use Rattle.std.specs.Option.{option_map, unwrap_or}
use Rattle.std.proofs.Common.{◌≡◌, Bor, ap, arith}
use Rattle.std.proofs.lemmas.List.Elements.{All-append, All-drop, All-from_recursion, All-map, All-take, All-weaker, recursion_from_All}
use Rattle.rl_labels.specs.LabelSet.{LabelSet}
use Rattle.rl_pipeline.specs.Lines.{StreamLine}
use Rattle.rl_pipeline.specs.Running.{run}
use Rattle.rl_query.specs.declared.query.Term.{Term}
use Rattle.rl_aggregate.specs.InRange.{line_run}
use Rattle.rl_aggregate.specs.TotalsMap.{added}
use Rattle.rl_windows.specs.Buckets.{volume_of}
use Rattle.rl_windows.specs.Filling.{nothing_in, with_line, HaveRoom}
use Rattle.rl_windows.specs.Ranges.{element_of}
use Rattle.rl_windows.specs.Windows.{count_of, is_needed, with_element, WindowView}
use Rattle.rl_windows.specs.laws.Alike.{count_of-added}
use Rattle.rl_windows.specs.declared.element.Element.{Element}
use Rattle.rl_windows.specs.declared.filling.Filling.{Filling}
use Rattle.rl_windows.proofs.Moving.{no_entries}

abbrev has_room : ℕ → WindowView → Type 0
has_room left window = count_of window.buckets + left ≤ window.most

-- one line takes the room of one
element_room : (left : ℕ) (element : Element) (w : WindowView) → element.volume.count ≡ 1 → has_room (left + 1) w → has_room left (with_element element w)
element_room left element w one room =
    elim (is_needed w.seconds w.moment element.stamp) as (λ b. has_room left (cond b (record w { buckets = added w.buckets element.stamp element.volume }) w)) [
      | true ↦ omega (arith, count_of-added w.buckets element.stamp element.volume, one, room)
      | false ↦ omega (arith, room)
    ]

line_room : (left : ℕ) (line : StreamLine) (timestamp : ℕ) (filling : Filling) → has_room (left + 1) filling.window → has_room left (with_line line timestamp filling).window
line_room left line timestamp filling room =
    let w = filling.window in
    elim (run filling.running line.text line.labels) as (λ (after : Option LabelSet). has_room left (unwrap_or (option_map (λ element. with_element element w) (option_map (λ labels. element_of timestamp (line_run labels (length line.text))) after)) w)) [
      | None ↦ omega (arith, room)
      | Some labels ↦ element_room left (element_of timestamp (line_run labels (length line.text))) w refl room
    ]

abbrev room_in : ℕ → Filling → Type 0
room_in left filling = has_room left filling.window

-- also where it came into the first windows alone
pub partly_in : (line : StreamLine) (timestamp : ℕ) (each : List Filling) (n left : ℕ) → HaveRoom (left + 1) each → HaveRoom left (map (with_line line timestamp) (take n each) ++ drop n each)
partly_in line timestamp each n left room =
    let f = with_line line timestamp in
    let all = All-from_recursion (room_in (left + 1)) each room in
    recursion_from_All (room_in left) (map f (take n each) ++ drop n each) (
    All-append (room_in left) (map f (take n each)) (drop n each)
    (All-map (room_in left) f (take n each) (All-weaker (room_in (left + 1)) (λ x. room_in left (f x)) (λ x h. line_room left line timestamp x h) (take n each) (All-take (room_in (left + 1)) n each all)))
    (All-weaker (room_in (left + 1)) (room_in left) (λ x h. omega (arith, h)) (drop n each) (All-drop (room_in (left + 1)) n each all))
    )

-- windows without lines have room for all that may come
no_lines : count_of empty ≡ 0
no_lines = ap (λ es. (volume_of (λ _. true) es).count) no_entries

pub none_have_room : (moment most : ℕ) (terms : List (Bor Term)) → HaveRoom most (map (λ term. nothing_in moment most term.now) terms)
none_have_room moment most [] = tt
none_have_room moment most (term ∷ terms) = (omega (arith, no_lines), none_have_room moment most terms)

-- what is not nothing is one and more
pub one_of_some : (n : ℕ) → (n ≡ 0 → ⊥) → n ≡ n - 1 + 1
one_of_some zero some = absurd (some refl)
one_of_some (suc n) some = omega arith
