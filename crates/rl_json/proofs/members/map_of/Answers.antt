-- One member more.
use Rattle.std.proofs.Common.{◌≡◌, ◌<◌, ◌+◌, ◌∷◌, length, drop, sym, ap, ◌∙◌, arith}
use Rattle.std.proofs.lemmas.List.{drop_more}
use Rattle.json.specs.Value.{members_view}
use Rattle.rl_json.specs.JsonData.{members_data, referred}
use Rattle.rl_json.proofs.JsonData.{inserted}
use Rattle.rl_json.proofs.members.map_of.Goals as goal

pub loop-member-preserved : goal.loop-member-preserved
loop-member-preserved c =
    let members = c.args.members.now in
    let i = c.loop-member.member-index in
    let found = c.loop-member.found.entries in
    let member = c.member-item.result in
    let within : i < length members = omega arith in
    let left : drop i members ≡ member ∷ drop (i + 1) members = drop_more members i member within ∙ ap (λ m. m ∷ drop (i + 1) members) (sym c.member-item.is) in
    ap (members_data (members_view (drop (i + 1) members))) (ap referred c.in_ok-insert.ensures.entries ∙ inserted found _ _)
    ∙ sym (ap (λ rest. members_data (members_view rest) (referred found)) left)
    ∙ c.loop-member.invariant
