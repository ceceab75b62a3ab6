-- What a reader finds, if it finds something: a law for each way in which readers are put together.
use Rattle.std.proofs.Common.{ap, ◌∙◌, ◌≡◌, Bool, true, false, cond, List, [], ◌∷◌, Option, Some, None, Result, Ok, Err, refl, subst, IsErrAnd}
use Rattle.std.specs.Option.{option_map_or}
use Rattle.rl_plain.specs.Answers.{◌>>=◌, Fails, Gives}
use Rattle.rl_query.specs.declared.token.Lexeme.{Lexeme}
use Rattle.rl_query.specs.declared.token.Token.{Token}
use Rattle.rl_selector_text.specs.declared.stop.Stop.{Stop}
use Rattle.rl_selector_text.specs.Fronts.{next}
use Rattle.rl_selector_text.specs.Standing.{Stand}
use Rattle.rl_plain.specs.declared.refusal.OrMemory.{OrMemory}
use Rattle.rl_plain.specs.declared.refusal.OrMemory.TheVariants as errors

bind_ok : {A B : Type 0} (r : Result A Stop) (f : A → Result B Stop) (y : B) → (r >>= f) ≡ Ok y → (x : A) × (r ≡ Ok x) × (f x ≡ Ok y)
bind_ok (Ok x) f y h = (x, refl, h)
bind_ok (Err e) f y h = cc

pub same_ok : {A : Type 0} (x y : A) → ◌≡◌ {A = Result A Stop} (Ok x) (Ok y) → x ≡ y
same_ok x y e = cc

no_err : {B : Type 0} (e : Stop) (y : B) → Err e ≡ Ok y → ⊥
no_err e y h = cc

pub record Finds {A : Type 0} (P : A → Type 0) (read : Result A Stop) : Type 0 where
  pub is : (x : A) → read ≡ Ok x → P x

pub found : {A : Type 0} {P : A → Type 0} {x : A} → P x → Finds P (Ok x)
found {A} {P} {x} p = record { is = λ y h. subst P (same_ok x y h) p }

pub fault : {A : Type 0} {P : A → Type 0} {e : Stop} → Finds P (Err e)
fault {A} {P} {e} = record { is = λ y h. absurd (no_err e y h) }

-- itself
pub itself : {A : Type 0} (read : Result A Stop) → Finds (λ x. read ≡ Ok x) read
itself read = record { is = λ x h. h }

pub then : {A B : Type 0} {P : A → Type 0} {Q : B → Type 0} {first : Result A Stop} (following : A → Result B Stop) → Finds P first → ((x : A) → P x → Finds Q (following x)) → Finds Q (first >>= following)
then {A} {B} {P} {Q} {first} following finds others = record { is = λ y h. let a = bind_ok first following y h in (others a.0 (finds.is a.0 a.1)).is y a.2 }

pub by_test : {A : Type 0} {P : A → Type 0} {x y : Result A Stop} (b : Bool) → (b ≡ true → Finds P x) → (b ≡ false → Finds P y) → Finds P (cond b x y)
by_test true first second = first refl
by_test false first second = second refl

pub of_option : {A B : Type 0} {Q : B → Type 0} {d : Result B Stop} (f : A → Result B Stop) (o : Option A) → ((x : A) → o ≡ Some x → Finds Q (f x)) → (o ≡ None → Finds Q d) → Finds Q (option_map_or f o d)
of_option f (Some x) first second = first x refl
of_option f None first second = second refl

-- what passes a test
pub checked : {A : Type 0} (b : Bool) (x : A) (e : Stop) → Finds (λ y. (b ≡ true) × (x ≡ y)) (cond b (Ok x) (Err e))
checked b x e = by_test b (λ is. found (is, refl)) (λ _. fault)

pub one_read : (token : Token) (lexemes rest : List Lexeme) (l : Lexeme) → next lexemes ≡ Ok (l, rest) → l.token ≡ token → Stand (token ∷ []) lexemes rest
one_read token [] rest l h is = absurd (no_err _ _ h)
one_read token (x ∷ lexemes) rest l h is =
    let same : ◌≡◌ {A = Lexeme × List Lexeme} (x, lexemes) (l, rest) = same_ok _ _ h in
    (ap (λ (p : Lexeme × List Lexeme). p.0.token) same ∙ is, ap (λ (p : Lexeme × List Lexeme). p.1) same)

-- the token at the front
pub next_found : (lexemes : List Lexeme) → Finds (λ x. Stand (x.0.token ∷ []) lexemes x.1) (next lexemes)
next_found lexemes = record { is = λ x h. one_read x.0.token lexemes x.1 x.0 h refl }

-- a token that is another
pub stands_as : {t u : Token} (lexemes rest : List Lexeme) → t ≡ u → Stand (t ∷ []) lexemes rest → Stand (u ∷ []) lexemes rest
stands_as {t} {u} lexemes rest same stand = subst (λ t. Stand (t ∷ []) lexemes rest) same stand

-- what stops the first stops what follows it too
pub first_stops : {A B : Type 0} (e : OrMemory Stop) (first : Result A Stop) (following : A → Result B Stop) → Fails e first → Fails e (first >>= following)
first_stops errors.Memory first following h = tt
first_stops (errors.Fault stop) first following h = ap (λ r. r >>= following) h

-- what a `?` returns is the fault of the reading
pub fails_on : {X Y : Type 0} (view : X → Y) (e : OrMemory Stop) (result : Result X (OrMemory Stop)) (read : Result Y Stop) → IsErrAnd result (λ y. y ≡ e) → Fails e read → Gives view result read
fails_on view e (Ok x) read is fails = absurd is
fails_on view e (Err y) read is fails = rw is fails
