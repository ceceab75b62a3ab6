-- What bytes say: no text, no mark, the fault of the document, or groups and commands.
use Rattle.std.proofs.Common.{◌≡◌, ℕ, Vec, Global, map, refl, ap, subst, ◌∙◌, length, string_bytes, arith}
use Rattle.std.specs.Str.{IsUtf8}
use Rattle.std.proofs.lemmas.Result.{err_from_is_err_and}
use Rattle.std.proofs.lemmas.Str.{IsUtf8-string_bytes}
use Rattle.rl_rules.specs.Forms.{group_form}
use Rattle.rl_rules.specs.declared.rule.Group.{Group}
use Rattle.rl_session.specs.Front.{front_form}
use Rattle.rl_session.proofs.Answering.{front_in-no_text, front_in-no_mark, front_in-groups, front_in-fault}
use Rattle.rl_session.proofs.Cut.{Begins-IsCut}
use Rattle.rl_session.proofs.front.front_in.Goals as goal

pub returns-in_default : goal.returns-in_default
returns-in_default c = front_in-no_text c.args.bytes.items (λ utf8. let never = c.in_default.ensures.succeeds utf8 in cc)

pub returns-in_default-split_front : goal.returns-in_default-split_front
returns-in_default-split_front c =
    let same : string_bytes c.in-Ok.text ≡ c.args.bytes.items = ap (λ (v : Vec ℕ Global). v.items) c.in-Ok.ensures.ok in
    front_in-no_mark c.args.bytes.items c.as_str.result.now (subst IsUtf8 same (IsUtf8-string_bytes c.in-Ok.text)) (c.as_str.ensures.value ∙ same) c.in_default-split_front.ensures.front

pub overflow_sub-start : goal.overflow_sub-start
overflow_sub-start c =
    let text = string_bytes c.in-Ok.text in
    let whole : c.len.result ≡ length text = omega (arith, c.len.ensures, c.in-Ok.text.bytes.ok.0) in
    omega (arith, whole, (Begins-IsCut text c.as_str.result.now c.in-Some.document.now c.in-Some.commands.now (length text) (IsUtf8-string_bytes c.in-Ok.text) c.as_str.ensures.value refl c.in-Some.ensures.cut).fits)

pub returns-in_err-groups : goal.returns-in_err-groups
returns-in_err-groups c =
    let same : string_bytes c.in-Ok.text ≡ c.args.bytes.items = ap (λ (v : Vec ℕ Global). v.items) c.in-Ok.ensures.ok in
    let error = err_from_is_err_and c.from_residual.result c.from_residual.ensures.1 in
    rw (error.1, error.2) (front_in-fault (λ (groups : Vec Group Global). map group_form groups.items) front_form c.args.bytes.items c.as_str.result.now c.in-Some.document.now c.in-Some.commands.now c.in_err-groups.field-0.0 (subst IsUtf8 same (IsUtf8-string_bytes c.in-Ok.text)) (c.as_str.ensures.value ∙ same) c.in-Some.ensures.front c.in_err-groups.ensures)

pub new-commands-requires : goal.new-commands-requires
new-commands-requires c =
    let text = string_bytes c.in-Ok.text in
    let whole : c.len.result ≡ length text = omega (arith, c.len.ensures, c.in-Ok.text.bytes.ok.0) in
    (Begins-IsCut text c.as_str.result.now c.in-Some.document.now c.in-Some.commands.now c.len.result (IsUtf8-string_bytes c.in-Ok.text) c.as_str.ensures.value whole c.in-Some.ensures.cut).boundary

pub returns : goal.returns
returns c =
    let text = string_bytes c.in-Ok.text in
    let same : text ≡ c.args.bytes.items = ap (λ (v : Vec ℕ Global). v.items) c.in-Ok.ensures.ok in
    let whole : c.len.result ≡ length text = omega (arith, c.len.ensures, c.in-Ok.text.bytes.ok.0) in
    let begins = Begins-IsCut text c.as_str.result.now c.in-Some.document.now c.in-Some.commands.now c.len.result (IsUtf8-string_bytes c.in-Ok.text) c.as_str.ensures.value whole c.in-Some.ensures.cut in
    front_in-groups c.args.bytes.items c.as_str.result.now c.in-Some.document.now c.in-Some.commands.now c.new-commands.result (map group_form c.in_ok-groups.groups.items) (subst IsUtf8 same (IsUtf8-string_bytes c.in-Ok.text)) (c.as_str.ensures.value ∙ same) c.in-Some.ensures.front c.in_ok-groups.ensures (c.new-commands.ensures ∙ begins.following)
