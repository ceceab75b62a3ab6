-- What a list of sinks is after one more of them was pumped, offered its evaluations, or closed.
use Rattle.std.proofs.Common.{◌≡◌, ℕ, suc, ◌+◌, ◌<◌, Bool, true, false, cond, List, [], ◌∷◌, ◌++◌, map, length, take, drop, get_or, set, sym, ap, subst, ◌∙◌, arith, append_assoc}
use Rattle.std.specs.List.{AllByRecursion, AllZip}
use Rattle.std.proofs.lemmas.List.{drop-drop, drop-set-lt, get_or-drop, get_or-map, length-map, length-take-le, map-set, take_more, take_more_set}
use Rattle.std.proofs.lemmas.List.Elements.{All-from_recursion, AllZip-push}
use Rattle.rl_rules.specs.declared.evaluation.Evaluation.{Evaluation}
use Rattle.rl_sinks.specs.SinkState.{SinkState}
use Rattle.rl_world.specs.Offering.{TookPrefix, is_behind, behind_from, behind_of}

-- where the rest is as it was, the first of the rest is, and what follows it
pub get_or-rest : {X : Type 0} (olds nows : List X) (i : ℕ) (d : X) → drop i nows ≡ drop i olds → get_or nows i d ≡ get_or olds i d
get_or-rest olds nows i d rest =
    let same_number : i + 0 ≡ i = omega arith in
    ap (λ n. get_or nows n d) (sym same_number) ∙ sym (get_or-drop i nows 0 d) ∙ ap (λ all. get_or all 0 d) rest ∙ get_or-drop i olds 0 d ∙ ap (λ n. get_or olds n d) same_number

pub drop-rest : {X : Type 0} (olds nows : List X) (i : ℕ) (new : X) → drop i nows ≡ drop i olds → drop (i + 1) (set nows i new) ≡ drop (i + 1) olds
drop-rest olds nows i new rest = drop-set-lt (i + 1) nows i new (omega arith) ∙ sym (drop-drop 1 i nows) ∙ ap (drop 1) rest ∙ drop-drop 1 i olds

-- a relation holds of one pair more
pub AllZip-more : {X : Type 0} (R : X → X → Type 0) (olds nows : List X) (i : ℕ) (old new : X) → i < length olds → i < length nows → get_or olds i old ≡ old → AllZip R (take i olds) (take i nows) → R old new → AllZip R (take (i + 1) olds) (take (i + 1) (set nows i new))
AllZip-more {X} R olds nows i old new in_olds in_nows read others one =
    let was : take (i + 1) olds ≡ take i olds ++ old ∷ [] = take_more olds i old in_olds ∙ ap (λ x. take i olds ++ x ∷ []) read in
    subst (λ (all : List X). AllZip R all (take (i + 1) (set nows i new))) (sym was)
    (subst (λ (all : List X). AllZip R (take i olds ++ old ∷ []) all) (sym (take_more_set nows i new in_nows))
    (AllZip-push R (take i olds) (take i nows) old new others one))

-- the number of one sink more, if it is behind
cond-append : (b : Bool) (n : ℕ) (xs ys more : List ℕ) → xs ≡ ys ++ more → cond b (n ∷ xs) xs ≡ cond b (n ∷ ys) ys ++ more
cond-append true n xs ys more e = ap (λ l. n ∷ l) e
cond-append false n xs ys more e = e

behind_from-push : (number : ℕ) (evaluations : List Evaluation) (sinks : List SinkState) (sink : SinkState) → behind_from number evaluations (sinks ++ sink ∷ []) ≡ behind_from number evaluations sinks ++ cond (is_behind evaluations sink) ((number + length sinks) ∷ []) []
behind_from-push number evaluations [] sink =
    let same_number : number ≡ number + 0 = omega arith in
    ap (λ n. cond (is_behind evaluations sink) (n ∷ []) []) same_number
behind_from-push number evaluations (first ∷ sinks) sink =
    let same_number : suc number + length sinks ≡ number + length (first ∷ sinks) = omega arith in
    cond-append (is_behind evaluations first) number _ (behind_from (suc number) evaluations sinks) _
    (behind_from-push (suc number) evaluations sinks sink ∙ ap (λ n. behind_from (suc number) evaluations sinks ++ cond (is_behind evaluations sink) (n ∷ []) []) same_number)

behind_of-more : (evaluations : List Evaluation) (nows : List SinkState) (i : ℕ) (new : SinkState) → i < length nows → behind_of evaluations (take (i + 1) (set nows i new)) ≡ behind_of evaluations (take i nows) ++ cond (is_behind evaluations new) (i ∷ []) []
behind_of-more evaluations nows i new within =
    let same_number : 0 + length (take i nows) ≡ i = omega (arith, length-take-le {A = SinkState}) in
    ap (behind_of evaluations) (take_more_set nows i new within)
    ∙ behind_from-push 0 evaluations (take i nows) new
    ∙ ap (λ n. behind_of evaluations (take i nows) ++ cond (is_behind evaluations new) (n ∷ []) []) same_number

-- the sink that is next took a prefix, as at the beginning
pub took_prefix-next : {S : Type 0} (state : S → SinkState) (evaluations : List Evaluation) (olds nows : List S) (i : ℕ) (sink : S) → length nows ≡ length olds → i < length nows
    → drop i (map state nows) ≡ drop i (map state olds) → AllByRecursion (TookPrefix evaluations) (map state olds) → TookPrefix evaluations (state (get_or nows i sink))
took_prefix-next state evaluations olds nows i sink same within rest all =
    let old : SinkState = state (get_or nows i sink) in
    let read : get_or (map state olds) i old ≡ old = sym (get_or-rest (map state olds) (map state nows) i old rest) ∙ get_or-map state nows i sink old within in
    subst (TookPrefix evaluations) read (All-from_recursion (TookPrefix evaluations) (map state olds) all i old (omega (arith, length-map olds state)))

-- a relation holds of what that sink was and is
pub sinks-next : {S : Type 0} (R : SinkState → SinkState → Type 0) (state : S → SinkState) (olds nows : List S) (i : ℕ) (sink new : S) → length nows ≡ length olds → i < length nows
    → drop i (map state nows) ≡ drop i (map state olds) → AllZip R (take i (map state olds)) (take i (map state nows)) → R (state (get_or nows i sink)) (state new)
    → AllZip R (take (i + 1) (map state olds)) (take (i + 1) (map state (set nows i new)))
sinks-next R state olds nows i sink new same within rest others one =
    let old : SinkState = state (get_or nows i sink) in
    let read : get_or (map state olds) i old ≡ old = sym (get_or-rest (map state olds) (map state nows) i old rest) ∙ get_or-map state nows i sink old within in
    subst (λ (sinks : List SinkState). AllZip R (take (i + 1) (map state olds)) (take (i + 1) sinks)) (sym (map-set state nows i new))
    (AllZip-more R (map state olds) (map state nows) i old (state new) (omega (arith, length-map olds state)) (omega (arith, length-map nows state)) read others one)

-- those after it are as they were
pub rest-next : {S : Type 0} (state : S → SinkState) (olds nows : List S) (i : ℕ) (new : S) → drop i (map state nows) ≡ drop i (map state olds) → drop (i + 1) (map state (set nows i new)) ≡ drop (i + 1) (map state olds)
rest-next state olds nows i new rest = ap (drop (i + 1)) (map-set state nows i new) ∙ drop-rest (map state olds) (map state nows) i (state new) rest

-- its number was listed if it is behind
pub behind-next : {S : Type 0} (state : S → SinkState) (evaluations : List Evaluation) (nows : List S) (i : ℕ) (new : S) (listed : Bool) (before numbers more : List ℕ) → i < length nows → listed ≡ is_behind evaluations (state new)
    → numbers ≡ before ++ behind_of evaluations (take i (map state nows)) → more ≡ numbers ++ cond listed (i ∷ []) [] → more ≡ before ++ behind_of evaluations (take (i + 1) (map state (set nows i new)))
behind-next state evaluations nows i new listed before numbers more within is_listed so_far one =
    let first : List ℕ = behind_of evaluations (take i (map state nows)) in
    one
    ∙ ap (λ (l : List ℕ). l ++ cond listed (i ∷ []) []) so_far
    ∙ append_assoc before first (cond listed (i ∷ []) [])
    ∙ ap (λ (b : Bool). before ++ (first ++ cond b (i ∷ []) [])) is_listed
    ∙ ap (λ (l : List ℕ). before ++ l) (sym (ap (λ (sinks : List SinkState). behind_of evaluations (take (i + 1) sinks)) (map-set state nows i new) ∙ behind_of-more evaluations (map state nows) i (state new) (omega (arith, length-map nows state))))
