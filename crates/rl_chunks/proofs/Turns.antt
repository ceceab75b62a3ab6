-- Reading in turn, as a loop does.
use Rattle.std.proofs.Common.{◌≡◌, ℕ, suc, ◌+◌, ◌-◌, ◌<◌, ◌≤◌, List, [], ◌∷◌, ◌++◌, length, map, get_or, take, Option, None, Some, Ok, Err, refl, sym, ap, subst, ◌∙◌, append_assoc, append-nil, arith}
use Rattle.std.specs.Prelude.{slice_get}
use Rattle.std.specs.List.{All, flat_map}
use Rattle.std.proofs.lemmas.List.{length_push, length-map, get_or-map, take_all, take_more, flat_map_more}
use Rattle.std.proofs.lemmas.List.Elements.{All-map, All-push}
use Rattle.std.proofs.lemmas.List.Folds.{flat_map-map}
use Rattle.rl_plain.specs.Answers.{◌>>=◌, Fails}
use Rattle.rl_plain.specs.declared.refusal.OrMemory.{OrMemory}
use Rattle.rl_plain.specs.declared.refusal.OrMemory.TheVariants.{Fault, Memory}
use Rattle.rl_chunks.specs.ChunkReading.{Read, in_turn}
use Rattle.rl_chunks.specs.declared.fault.ChunkFault.{ChunkFault}

-- the last of a list
abbrev pub last_of : {A : Type 0} → List A → Option A
last_of xs = slice_get xs (length xs - 1)

at_push : {A : Type 0} (xs : List A) (x : A) → slice_get (xs ++ x ∷ []) (length xs) ≡ Some x
at_push [] x = refl
at_push (y ∷ ys) x = at_push ys x

last_push : {A : Type 0} (xs : List A) (x : A) → last_of (xs ++ x ∷ []) ≡ Some x
last_push xs x =
    let offset : length (xs ++ x ∷ []) - 1 ≡ length xs = omega (arith, length_push xs x) in
    ap (slice_get (xs ++ x ∷ [])) offset ∙ at_push xs x

-- what was read before, and what is still read
abbrev pub following : {A : Type 0} → List A → Read (List A) → Read (List A)
following front read = read >>= λ x. Ok (front ++ x.0, x.1)

regroup : {A : Type 0} (front : List A) (x : A) (read : Read (List A)) → following front (read >>= λ y. Ok (x ∷ y.0, y.1)) ≡ following (front ++ x ∷ []) read
regroup front x (Ok y) = ap (λ xs. Ok (xs, y.1)) (sym (append_assoc front (x ∷ []) y.0))
regroup front x (Err fault) = refl

module _ {A : Type 0} (item : Option A → List ℕ → Read A) where
  -- one more was read
  pub goes_on : (front : List A) (count i : ℕ) (bytes : List ℕ) (x : A) (rest : List ℕ) (total : Read (List A)) → i < count → item (last_of front) bytes ≡ Ok (x, rest)
      → following front (in_turn item (count - i) (last_of front) bytes) ≡ total → following (front ++ x ∷ []) (in_turn item (count - (i + 1)) (last_of (front ++ x ∷ [])) rest) ≡ total
  unfolding in_turn
  goes_on front count i bytes x rest total lt here so_far =
      let more : count - i ≡ suc (count - (i + 1)) = omega arith in
      let one : following front (in_turn item (count - i) (last_of front) bytes) ≡ following (front ++ x ∷ []) (in_turn item (count - (i + 1)) (Some x) rest) =
      ap (λ n. following front (in_turn item n (last_of front) bytes)) more
      ∙ ap (λ read. following front (read >>= λ first. in_turn item (count - (i + 1)) (Some first.0) first.1 >>= λ others. Ok (first.0 ∷ others.0, others.1))) here
      ∙ regroup front x (in_turn item (count - (i + 1)) (Some x) rest) in
      ap (λ last. following (front ++ x ∷ []) (in_turn item (count - (i + 1)) last rest)) (last_push front x) ∙ (sym one ∙ so_far)

  -- one was refused
  pub ends : (e : OrMemory ChunkFault) (front : List A) (count i : ℕ) (bytes : List ℕ) (total : Read (List A)) → i < count → Fails e (item (last_of front) bytes)
      → following front (in_turn item (count - i) (last_of front) bytes) ≡ total → Fails e total
  unfolding in_turn
  ends Memory front count i bytes total lt here so_far = tt
  ends (Fault fault) front count i bytes total lt here so_far =
      let more : count - i ≡ suc (count - (i + 1)) = omega arith in
      let one : following front (in_turn item (count - i) (last_of front) bytes) ≡ Err fault =
      ap (λ n. following front (in_turn item n (last_of front) bytes)) more
      ∙ ap (λ read. following front (read >>= λ first. in_turn item (count - (i + 1)) (Some first.0) first.1 >>= λ others. Ok (first.0 ∷ others.0, others.1))) here in
      sym so_far ∙ one

  -- none is left
  pub is_done : (front : List A) (count i : ℕ) (bytes : List ℕ) (total : Read (List A)) → count ≤ i → following front (in_turn item (count - i) (last_of front) bytes) ≡ total → total ≡ Ok (front, bytes)
  unfolding in_turn
  is_done front count i bytes total le so_far =
      let none : count - i ≡ 0 = omega arith in
      let one : following front (in_turn item (count - i) (last_of front) bytes) ≡ Ok (front, bytes) =
      ap (λ n. following front (in_turn item n (last_of front) bytes)) none ∙ ap (λ xs. Ok (xs, bytes)) (append-nil front) in
      sym so_far ∙ one

  -- at the start nothing was read
  pub begins : (count : ℕ) (bytes : List ℕ) → following [] (in_turn item (count - 0) (last_of []) bytes) ≡ in_turn item count None bytes
  begins count bytes =
      let all : count - 0 ≡ count = omega arith in
      ap (λ n. following [] (in_turn item n None bytes)) all ∙ same (in_turn item count None bytes)
    where
      same : (read : Read (List A)) → following [] read ≡ read
      same (Ok x) = refl
      same (Err fault) = refl

-- ---- writing

-- one more was written after a head and those before it
pub one_more : {A : Type 0} (written : A → List ℕ) (xs : List A) (i : ℕ) (x : A) (old head out new : List ℕ) → i < length xs → x ≡ get_or xs i x
    → out ≡ old ++ (head ++ flat_map written (take i xs)) → new ≡ out ++ written x → new ≡ old ++ (head ++ flat_map written (take (i + 1) xs))
one_more written xs i x old head out new within is so_far now =
    let next : take (i + 1) xs ≡ take i xs ++ x ∷ [] = take_more xs i x within ∙ ap (λ y. take i xs ++ y ∷ []) (sym is) in
    now ∙ ap (λ t. t ++ written x) (so_far ∙ sym (append_assoc old head (flat_map written (take i xs))))
    ∙ flat_map_more written (old ++ head) (take i xs) x
    ∙ append_assoc old head (flat_map written (take i xs ++ x ∷ []))
    ∙ ap (λ ys. old ++ (head ++ flat_map written ys)) (sym next)

pub all_more : {A : Type 0} (P : A → Type 0) (xs : List A) (i : ℕ) (x : A) → i < length xs → x ≡ get_or xs i x → All P (take i xs) → P x → All P (take (i + 1) xs)
all_more P xs i x within is so_far now =
    let next : take (i + 1) xs ≡ take i xs ++ x ∷ [] = take_more xs i x within ∙ ap (λ y. take i xs ++ y ∷ []) (sym is) in
    subst (All P) (sym next) (All-push P (take i xs) x so_far now)

-- what holds of each image holds at an index
pub at_map : {A B : Type 0} (P : B → Type 0) (f : A → B) (xs : List A) (i : ℕ) (x : A) → i < length xs → x ≡ get_or xs i x → All P (map f xs) → P (f x)
at_map P f xs i x within is h =
    subst P (get_or-map f xs i x (f x) within ∙ ap f (sym is)) (h i (f x) (subst (λ n. i < n) (sym (length-map xs f)) within))

-- all images were written after their number
pub all_written : {A B : Type 0} (written : B → List ℕ) (f : A → B) (head : ℕ → List ℕ) (xs : List A) (i : ℕ) → length xs ≤ i
    → head (length xs) ++ flat_map (λ x. written (f x)) (take i xs) ≡ head (length (map f xs)) ++ flat_map written (map f xs)
all_written written f head xs i le =
    let all : flat_map (λ x. written (f x)) (take i xs) ≡ flat_map written (map f xs) = ap (flat_map (λ x. written (f x))) (take_all i xs le) ∙ sym (flat_map-map written f xs) in
    λ j. head (sym (length-map xs f) j) ++ all j

-- what holds of all images so far holds of each
pub all_images : {A B : Type 0} (P : B → Type 0) (f : A → B) (xs : List A) (i : ℕ) → length xs ≤ i → All (λ x. P (f x)) (take i xs) → All P (map f xs)
all_images P f xs i le h = All-map P f xs (subst (All (λ x. P (f x))) (take_all i xs le) h)
