-- A member with the key is found, or passed over.
use Rattle.std.proofs.Common.{◌<◌, length, sym, ap, ◌∙◌, arith, option_map}
use Rattle.json.specs.Value.{value_view}
use Rattle.rl_json.specs.JsonData.{data_of}
use Rattle.rl_json.proofs.JsonData.{value_here, value_elsewhere}
use Rattle.rl_json.proofs.members.value_at.Goals as goal
use Rattle.rl_json.proofs.members.value_at.Goals.{then-eq, else-eq}

pub loop-member-preserved : goal.loop-member-preserved
loop-member-preserved c =
    let members = c.args.members.now in
    let i = c.loop-member.member-index in
    let member = c.member-item.result in
    let key = c.args.key.now in
    let within : i < length members = omega arith in
    elim c.if-eq.branch [
      | then-eq w ↦ ap (option_map (λ v. data_of (value_view v.now))) w.found-is ∙ sym (value_here members i member within c.member-item.is key (sym c.eq.ensures ∙ w.if-eq.true))
      | else-eq w ↦
          ap (option_map (λ v. data_of (value_view v.now))) w.found-is ∙ c.loop-member.invariant
          ∙ sym (value_elsewhere members i member within c.member-item.is key (sym c.eq.ensures ∙ w.if-eq.false))
    ]
