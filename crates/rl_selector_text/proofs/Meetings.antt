-- Patterns that a reading meets, and what is answered then.
use Rattle.std.proofs.Common.{◌≡◌, ℕ, zero, suc, ◌<◌, Bool, true, false, ◌&&◌, ◌||◌, List, [], ◌∷◌, length, take, get_or, slice_index_or, Result, Ok, Err, refl, sym, ap, subst, arith, ◌∙◌, inl, inr}
use Rattle.std.proofs.Math.Bool.{or-true}
use Rattle.rl_plain.specs.Answers.{Fails}
use Rattle.rl_plain.specs.declared.refusal.OrMemory.{OrMemory}
use Rattle.rl_plain.specs.declared.refusal.OrMemory.TheVariants as errors
use Rattle.rl_query.specs.declared.fault.QueryFault.{QueryFault}
use Rattle.rl_query.specs.declared.fault.QueryFault.TheVariants as faults
use Rattle.rl_query.specs.declared.token.Lexeme.{Lexeme}
use Rattle.rl_query.specs.declared.token.Token.TheVariants as tokens
use Rattle.rl_selector_text.specs.declared.stop.Stop.{Stop}
use Rattle.rl_selector_text.specs.Answering.{Reads, IsForRoom}
use Rattle.rl_selector_text.specs.Meeting.{precedes_pattern, has_pattern_token, tokens_before, meets_pattern, ends_before_pattern, IsRefusal}
use Rattle.rl_selector_text.specs.Stops.{fault_of}
use Rattle.rl_selector_text.specs.Testing.{is_content}

-- what is refused for room
for_room : {X Y : Type 0} (view : X → Y) (read : Result Y QueryFault) (meets : Bool) (error : OrMemory QueryFault) → IsForRoom meets error → Reads view (Err error) read meets
for_room view read meets errors.Memory h = tt
for_room view read meets (errors.Fault faults.BadRegex) h = inr (refl, h)
for_room view read meets (errors.Fault _) h = absurd h

-- a text is read, and a pattern of it has no room
pub read_refused : {X Y : Type 0} (view : X → Y) (x : X) (lexemes : List Lexeme) (reading : Result Y Stop) (error : OrMemory QueryFault) → reading ≡ Ok (view x) → IsForRoom (has_pattern_token false lexemes) error → Reads view (Err error) (fault_of reading) (meets_pattern reading lexemes)
read_refused view x lexemes reading error is h = rw is (for_room view (Ok (view x)) (has_pattern_token false lexemes) error h)

-- reading stops, or memory runs out
pub stop_refused : {X Y : Type 0} (view : X → Y) (lexemes : List Lexeme) (reading : Result Y Stop) (stopped : OrMemory Stop) (error : OrMemory QueryFault) → Fails stopped reading → IsRefusal lexemes stopped error → Reads view (Err error) (fault_of reading) (meets_pattern reading lexemes)
stop_refused view lexemes reading errors.Memory error fails shown = rw shown tt
stop_refused view lexemes reading (errors.Fault stop) error fails (inl is) = rw (is, fails) (inl refl)
stop_refused view lexemes reading (errors.Fault stop) error fails (inr room) = rw fails (for_room view (Err stop.fault) (has_pattern_token false (tokens_before stop.offset lexemes)) error room)

-- a text after a sign of patterns, at an index among tokens
pub pattern_found : (after_sign : Bool) (lexemes : List Lexeme) (i : ℕ) (text : Lexeme) → i < length lexemes → text ≡ get_or lexemes i text → is_content text.token ≡ true → ends_before_pattern after_sign (take i lexemes) ≡ true → has_pattern_token after_sign lexemes ≡ true
pattern_found after_sign [] i text within is content sign = absurd (omega (arith, within))
pattern_found after_sign (l ∷ ls) zero text within is content sign = rw (sign, sym is, content) refl
pattern_found after_sign (l ∷ ls) (suc i) text within is content sign = ap (λ b. after_sign && is_content l.token || b) (pattern_found (precedes_pattern l.token) ls i text (omega (arith, within)) is content sign) ∙ or-true _

-- it has no room, so that a pattern of the tokens has none
pub pattern_room : (lexemes : List Lexeme) (i : ℕ) (text : Lexeme) (content : List ℕ) (error : OrMemory QueryFault) → i < length lexemes → text ≡ get_or lexemes i text → text.token ≡ tokens.Text content → IsForRoom (ends_before_pattern false (take i lexemes)) error → IsForRoom (has_pattern_token false lexemes) error
pattern_room lexemes i text content errors.Memory within is token h = tt
pattern_room lexemes i text content (errors.Fault faults.BadRegex) within is token h = pattern_found false lexemes i text within is (ap is_content token) h
pattern_room lexemes i text content (errors.Fault _) within is token h = absurd h

-- the sign at the end of tokens
pub ends_with : (after_sign : Bool) (lexemes : List Lexeme) (last : ℕ) (sign : Lexeme) → suc last ≡ length lexemes → sign ≡ slice_index_or lexemes last sign → ends_before_pattern after_sign lexemes ≡ precedes_pattern sign.token
ends_with after_sign [] last sign many is = cc
ends_with after_sign (l ∷ []) zero sign many is = ap (λ (s : Lexeme). precedes_pattern s.token) (sym is)
ends_with after_sign (l ∷ []) (suc last) sign many is = absurd (omega (arith, many))
ends_with after_sign (l ∷ m ∷ ms) zero sign many is = absurd (omega (arith, many))
ends_with after_sign (l ∷ m ∷ ms) (suc last) sign many is = ends_with (precedes_pattern l.token) (m ∷ ms) last sign (omega (arith, many)) is

-- a value that is answered was read
pub read_of : {A : Type 0} (reading : Result A Stop) (x : A) → fault_of reading ≡ Ok x → reading ≡ Ok x
read_of (Ok y) x h = cc
read_of (Err stop) x h = cc

-- why a text is refused that is read: for memory or for room
pub refused_read : {X Y : Type 0} (view : X → Y) (reading : Result Y Stop) (lexemes : List Lexeme) (error : OrMemory QueryFault) (y : Y) (patterned : Bool) → reading ≡ Ok y → has_pattern_token false lexemes ≡ patterned
    → Reads view (Err error) (fault_of reading) (meets_pattern reading lexemes) → IsForRoom patterned error
refused_read view reading lexemes errors.Memory y patterned is patterns h = tt
refused_read view reading lexemes (errors.Fault fault) y patterned is patterns (inl read) = cc (ap fault_of is)
refused_read view reading lexemes (errors.Fault fault) y patterned is patterns (inr h) =
    subst (λ f. IsForRoom patterned (errors.Fault f)) (sym h.0) (sym patterns ∙ sym (ap (λ r. meets_pattern r lexemes) is) ∙ h.1)
