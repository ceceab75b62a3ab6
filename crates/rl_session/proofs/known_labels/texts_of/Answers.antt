-- The text of one member more; at the end no member is left.
use Rattle.std.proofs.Common.{◌≡◌, ◌<◌, ◌+◌, [], ◌∷◌, length, drop, sym, ap, subst, ◌∙◌, arith}
use Rattle.std.specs.Prelude.{IfSome}
use Rattle.std.proofs.lemmas.List.{drop_all, drop_more}
use Rattle.json.specs.Json as json
use Rattle.json.specs.Value.{members_view, value_view}
use Rattle.rl_session.proofs.Known.{texts_all, texts_before, texts_more}
use Rattle.rl_session.proofs.known_labels.texts_of.Goals as goal

pub loop-member-preserved : goal.loop-member-preserved
loop-member-preserved c =
    let members = c.args.members.now in
    let i = c.loop-member.member-index in
    let member = c.member-item.result in
    let items = c.loop-member.texts.items in
    let pair = c.in-Some.pair in
    let within : i < length members = omega arith in
    let left : drop i members ≡ member ∷ drop (i + 1) members = drop_more members i member within ∙ ap (λ m. m ∷ drop (i + 1) members) (sym c.member-item.is) in
    let rest = members_view (drop (i + 1) members) in
    let name : pair.0 ≡ member.0.now = subst (λ found. IfSome found (λ pair. pair.0 ≡ member.0.now)) c.in-Some.is c.in_ok-pair.ensures.name in
    let value : json.string pair.1 ≡ value_view member.1 = subst (λ found. IfSome found (λ pair. json.string pair.1 ≡ value_view member.1)) c.in-Some.is c.in_ok-pair.ensures.value in
    ap (λ texts. texts_before texts rest) c.in_ok-push.ensures.items
    ∙ texts_more items pair rest
    ∙ (λ k. texts_before items (json.member (name k) (value k) rest))
    ∙ ap (λ ms. texts_before items (members_view ms)) (sym left)
    ∙ c.loop-member.invariant

pub returns : goal.returns
returns c =
    let members = c.args.members.now in
    let items = c.loop-member.texts.items in
    let none : drop c.loop-member.member-index members ≡ [] = drop_all c.loop-member.member-index members (omega arith) in
    sym (texts_all items) ∙ ap (λ ms. texts_before items (members_view ms)) (sym none) ∙ c.loop-member.invariant
