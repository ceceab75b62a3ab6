-- Items that are read one after the other, as a loop does it, and those that were written.
use Rattle.std.proofs.Common.{◌≡◌, ℕ, suc, ◌+◌, ◌-◌, ◌^◌, ◌<◌, ◌≤◌, List, [], ◌∷◌, ◌++◌, length, map, Ok, Err, refl, sym, ap, subst, ◌∙◌, append_assoc, append-nil, length-append, arith}
use Rattle.std.specs.List.{AllByRecursion, flat_map}
use Rattle.rl_plain.specs.Answers.{◌>>=◌, Fails}
use Rattle.rl_plain.specs.declared.refusal.OrMemory.{OrMemory}
use Rattle.rl_plain.specs.declared.refusal.OrMemory.TheVariants.{Fault, Memory}
use Rattle.rl_segments.specs.FrameReading.{Read}
use Rattle.rl_segments.specs.RecordReading.{in_turn}
use Rattle.rl_segments.specs.declared.fault.RecordFault.{RecordFault}

-- items that are read, with those that were read before
abbrev pub following : {A : Type 0} → List A → Read (List A) → Read (List A)
following front read = read >>= λ x. Ok (front ++ x.0, x.1)

regroup : {A : Type 0} (front : List A) (x : A) (read : Read (List A)) → following front (read >>= λ y. Ok (x ∷ y.0, y.1)) ≡ following (front ++ x ∷ []) read
regroup front x (Ok y) = ap (λ xs. Ok (xs, y.1)) (sym (append_assoc front (x ∷ []) y.0))
regroup front x (Err fault) = refl

-- what is kept of items, one after the other
pub record Views {A B : Type 0} (view : B → A) (views : List B → List A) : Type 0 where
  pub none : views [] ≡ []
  pub more : (front : List B) (x : B) → views (front ++ x ∷ []) ≡ views front ++ view x ∷ []

pub itself : {A : Type 0} → Views {A = A} {B = A} (λ x. x) (λ xs. xs)
itself = record { none = refl; more = λ front x. refl }

map-push : {A B : Type 0} (view : B → A) (xs : List B) (x : B) → map view (xs ++ x ∷ []) ≡ map view xs ++ view x ∷ []
map-push view [] x = refl
map-push view (y ∷ ys) x = ap (λ zs. view y ∷ zs) (map-push view ys x)

pub by_view : {A B : Type 0} (view : B → A) → Views view (map view)
by_view view = record { none = refl; more = map-push view }

module _ {A B : Type 0} (item : List ℕ → Read A) {view : B → A} {views : List B → List A} (is : Views view views) where
  -- one more was read
  pub goes_on : (front : List B) (count i : ℕ) (bytes : List ℕ) (x : B) (rest : List ℕ) (total : Read (List A)) → i < count → item bytes ≡ Ok (view x, rest)
      → following (views front) (in_turn item (count - i) bytes) ≡ total → following (views (front ++ x ∷ [])) (in_turn item (count - (i + 1)) rest) ≡ total
  unfolding in_turn
  goes_on front count i bytes x rest total lt here so_far =
      let more : count - i ≡ suc (count - (i + 1)) = omega arith in
      let one : following (views front) (in_turn item (count - i) bytes) ≡ following (views front ++ view x ∷ []) (in_turn item (count - (i + 1)) rest) =
      ap (λ n. following (views front) (in_turn item n bytes)) more
      ∙ ap (λ read. following (views front) (read >>= λ first. in_turn item (count - (i + 1)) first.1 >>= λ others. Ok (first.0 ∷ others.0, others.1))) here
      ∙ regroup (views front) (view x) (in_turn item (count - (i + 1)) rest) in
      ap (λ xs. following xs (in_turn item (count - (i + 1)) rest)) (is.more front x) ∙ (sym one ∙ so_far)

  -- one was refused
  pub ends : (e : OrMemory RecordFault) (front : List B) (count i : ℕ) (bytes : List ℕ) (total : Read (List A)) → i < count → Fails e (item bytes)
      → following (views front) (in_turn item (count - i) bytes) ≡ total → Fails e total
  unfolding in_turn
  ends Memory front count i bytes total lt here so_far = tt
  ends (Fault fault) front count i bytes total lt here so_far =
      let more : count - i ≡ suc (count - (i + 1)) = omega arith in
      sym so_far ∙ ap (λ n. following (views front) (in_turn item n bytes)) more
      ∙ ap (λ read. following (views front) (read >>= λ first. in_turn item (count - (i + 1)) first.1 >>= λ others. Ok (first.0 ∷ others.0, others.1))) here

  -- none is left
  pub is_done : (front : List B) (count i : ℕ) (bytes : List ℕ) (total : Read (List A)) → count ≤ i → following (views front) (in_turn item (count - i) bytes) ≡ total → total ≡ Ok (views front, bytes)
  unfolding in_turn
  is_done front count i bytes total le so_far =
      let none : count - i ≡ 0 = omega arith in
      sym so_far ∙ ap (λ n. following (views front) (in_turn item n bytes)) none ∙ ap (λ xs. Ok (xs, bytes)) (append-nil (views front))

  -- at the start nothing was read
  pub begins : (front : List B) (count : ℕ) (bytes : List ℕ) → front ≡ [] → following (views front) (in_turn item (count - 0) bytes) ≡ in_turn item count bytes
  begins front count bytes none =
      let all : count - 0 ≡ count = omega arith in
      ap (λ xs. following (views xs) (in_turn item (count - 0) bytes)) none ∙ ap (λ xs. following xs (in_turn item (count - 0) bytes)) is.none ∙ ap (λ n. following [] (in_turn item n bytes)) all ∙ same (in_turn item count bytes)
    where
      same : (read : Read (List A)) → following [] read ≡ read
      same (Ok x) = refl
      same (Err fault) = refl

-- what was written one after the other is read so, each by its law
pub turns_again : {A B : Type 0} (item : List ℕ → Read A) (view : B → A) (written : B → List ℕ) (Is : B → Type 0) → ((x : B) (rest : List ℕ) → Is x → length (written x ++ rest) < 2 ^ 64 → item (written x ++ rest) ≡ Ok (view x, rest))
    → (xs : List B) (rest : List ℕ) → AllByRecursion Is xs → length (flat_map written xs ++ rest) < 2 ^ 64 → in_turn item (length xs) (flat_map written xs ++ rest) ≡ Ok (map view xs, rest)
unfolding in_turn
turns_again item view written Is again [] rest each short = refl
turns_again item view written Is again (x ∷ xs) rest each short =
    let grouped = append_assoc (written x) (flat_map written xs) rest in
    let here : length (written x ++ (flat_map written xs ++ rest)) < 2 ^ 64 = subst (λ (bytes : List ℕ). length bytes < 2 ^ 64) grouped short in
    ap (λ bytes. in_turn item (suc (length xs)) bytes) grouped
    ∙ rw (again x (flat_map written xs ++ rest) each.0 here, turns_again item view written Is again xs rest each.1 (omega (arith, here, length-append (written x) (flat_map written xs ++ rest)))) refl
