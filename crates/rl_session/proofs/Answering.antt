-- What an input is answered, case by case.
use Rattle.std.proofs.Common.{◌≡◌, ℕ, ◌≤◌, inl, inr, Bool, true, false, cond, List, ◌++◌, length, arith, Option, None, Some, IfSome, Result, Ok, Err, refl, sym, ap, subst, ◌∙◌}
use Rattle.std.specs.List.{concat}
use Rattle.std.specs.Str.{IsUtf8, is_utf8}
use Rattle.std.proofs.lemmas.List.{append-nil}
use Rattle.std.proofs.lemmas.Bool.{false_from_ne_true}
use Rattle.std.proofs.lemmas.Str.{IsUtf8-from_is_utf8, is_utf8-from_IsUtf8}
use Rattle.rl_plain.specs.declared.refusal.OrMemory.{OrMemory}
use Rattle.rl_plain.specs.declared.refusal.OrMemory.TheVariants as errors
use Rattle.rl_rules.specs.Forms.{GroupForm}
use Rattle.rl_session.specs.Front.{FrontForm, front_of, front_from, front_in, with_commands, HasGroups, Says}
use Rattle.rl_session.specs.Reading.{GivesOne, Reads, SaysRead, ReadsFront, ReadsAll}
use Rattle.rl_session.specs.declared.front.fault.FrontFault.{FrontFault}
use Rattle.rl_session.specs.declared.front.fault.FrontFault.TheVariants as faults

front_in-test : (bytes : List ℕ) (t : Bool) → is_utf8 bytes ≡ t → front_in bytes ≡ cond t (front_from (front_of bytes)) (Err faults.NotText)
front_in-test bytes t is = ap (λ b. cond b (front_from (front_of bytes)) (Err faults.NotText)) is

pub front_in-no_text : (bytes : List ℕ) → (IsUtf8 bytes → ⊥) → Says bytes (Err faults.NotText)
front_in-no_text bytes not = inl (sym (front_in-test bytes false (false_from_ne_true (is_utf8 bytes) (λ is. not (IsUtf8-from_is_utf8 bytes is)))))

pub front_in-no_mark : (bytes whole : List ℕ) → IsUtf8 bytes → whole ≡ bytes → None ≡ front_of whole → Says bytes (Err faults.NoMark)
front_in-no_mark bytes whole utf8 same is = inl (sym (front_in-test bytes true (is_utf8-from_IsUtf8 bytes utf8) ∙ ap front_from (ap front_of (sym same) ∙ sym is)))

-- a document's groups or its fault, with the commands after it
front_in-parts : (bytes whole document commands : List ℕ) (groups : Result (List GroupForm) FrontFault) → IsUtf8 bytes → whole ≡ bytes → Some (document, commands) ≡ front_of whole → HasGroups document groups → Says bytes (with_commands commands groups)
front_in-parts bytes whole document commands groups utf8 same is (inl read) =
    inl (sym (front_in-test bytes true (is_utf8-from_IsUtf8 bytes utf8) ∙ ap front_from (ap front_of (sym same) ∙ sym is) ∙ ap (with_commands commands) (sym read)))
front_in-parts bytes whole document commands groups utf8 same is (inr lacks) =
    inr ((document, commands), is_utf8-from_IsUtf8 bytes utf8, ap front_of (sym same) ∙ sym is, (lacks.0, ap (with_commands commands) lacks.1, lacks.2))

pub front_in-groups : (bytes whole document commands rest : List ℕ) (groups : List GroupForm) → IsUtf8 bytes → whole ≡ bytes → Some (document, commands) ≡ front_of whole → HasGroups document (Ok groups) → rest ≡ commands → Says bytes (Ok (record { groups = groups; commands = rest }))
front_in-groups bytes whole document commands rest groups utf8 same is read following = rw following (front_in-parts bytes whole document commands (Ok groups) utf8 same is read)

-- the fault of the document
pub front_in-fault : {X Z : Type 0} (view : X → List GroupForm) (form : Z → FrontForm) (bytes whole document commands : List ℕ) (error : OrMemory FrontFault) → IsUtf8 bytes → whole ≡ bytes → Some (document, commands) ≡ front_of whole → GivesOne view (HasGroups document) (Err error) → GivesOne form (Says bytes) (Err error)
front_in-fault view form bytes whole document commands (errors.Fault fault) utf8 same is read = front_in-parts bytes whole document commands (Err fault) utf8 same is read
front_in-fault view form bytes whole document commands errors.Memory utf8 same is read = tt

-- reading failed
pub ReadsFront-failed : {X Z : Type 0} (view : X → List ℕ) (form : Z → FrontForm) (most : ℕ) (old new : Option (List ℕ)) (error : OrMemory FrontFault) → GivesOne view (Reads most old new) (Err error) → GivesOne form (ReadsFront most old new) (Err error)
ReadsFront-failed view form most old new (errors.Fault fault) reads = (Err fault, reads, refl)
ReadsFront-failed view form most old new errors.Memory reads = tt

-- all was read
pub ReadsFront-read : {Z : Type 0} (form : Z → FrontForm) (most : ℕ) (old new : Option (List ℕ)) (bytes : List ℕ) (result : Result Z (OrMemory FrontFault)) → Reads most old new (Ok bytes) → GivesOne form (Says bytes) result → GivesOne form (ReadsFront most old new) result
ReadsFront-read form most old new bytes (Ok front) reads says = (Ok bytes, reads, says)
ReadsFront-read form most old new bytes (Err (errors.Fault fault)) reads says = (Ok bytes, reads, says)
ReadsFront-read form most old new bytes (Err errors.Memory) reads says = tt

-- all that a reader gave, where its bytes are known
Reads-all : (most : ℕ) (all : List ℕ) (new : Option (List ℕ)) (bytes : List ℕ) → Reads most (Some all) new (Ok bytes) → (length all ≤ most) × (bytes ≡ all)
Reads-all most all None bytes reads = absurd reads.2
Reads-all most all (Some rest) bytes reads =
    let same : bytes ≡ all = reads.3.0 ∙ sym (reads.2 ∙ ap (λ l. concat reads.0 ++ l) reads.3.2 ∙ append-nil (concat reads.0)) in
    (omega (arith, reads.3.1, ap length same), same)

ReadsAll-all : (most : ℕ) (all : List ℕ) (answer : Result FrontForm FrontFault) → (length all ≤ most) × Says all answer → ReadsAll most all answer
ReadsAll-all most all (Ok front) said = said
ReadsAll-all most all (Err faults.ReadFault) said = tt
ReadsAll-all most all (Err faults.TooLong) said = tt
ReadsAll-all most all (Err faults.NotText) said = said
ReadsAll-all most all (Err faults.NoMark) said = said
ReadsAll-all most all (Err (faults.Rules fault)) said = said

ReadsAll-read : (most : ℕ) (all : List ℕ) (new : Option (List ℕ)) (answer : Result FrontForm FrontFault) (read : Result (List ℕ) FrontFault) → Reads most (Some all) new read → SaysRead read answer → ReadsAll most all answer
ReadsAll-read most all new answer (Ok bytes) reads says =
    let whole = Reads-all most all new bytes reads in
    ReadsAll-all most all answer (whole.0, subst (λ known. Says known answer) whole.1 says)
ReadsAll-read most all new answer (Err faults.ReadFault) reads is = subst (ReadsAll most all) (sym is) tt
ReadsAll-read most all new answer (Err faults.TooLong) reads is = subst (ReadsAll most all) (sym is) tt
ReadsAll-read most all new answer (Err faults.NotText) reads is = absurd reads.3
ReadsAll-read most all new answer (Err faults.NoMark) reads is = absurd reads.3
ReadsAll-read most all new answer (Err (faults.Rules fault)) reads is = absurd reads.3

-- what is answered where the reader's bytes are known
pub ReadsAll-ReadsFront : {Z : Type 0} (form : Z → FrontForm) (most : ℕ) (old new : Option (List ℕ)) (result : Result Z (OrMemory FrontFault)) → GivesOne form (ReadsFront most old new) result → IfSome old (λ all. GivesOne form (ReadsAll most all) result)
ReadsAll-ReadsFront form most None new result reads = tt
ReadsAll-ReadsFront form most (Some all) new (Ok front) reads = ReadsAll-read most all new (Ok (form front)) reads.0 reads.1 reads.2
ReadsAll-ReadsFront form most (Some all) new (Err (errors.Fault fault)) reads = ReadsAll-read most all new (Err fault) reads.0 reads.1 reads.2
ReadsAll-ReadsFront form most (Some all) new (Err errors.Memory) reads = tt
