-- The sign that a pattern follows is the last token before it.
use Rattle.std.proofs.Common.{◌-◌, length, false, IfErr, sym, subst, ◌∙◌, arith}
use Rattle.rl_selector_text.specs.Answering.{IsForRoom}
use Rattle.rl_selector_text.proofs.Meetings.{ends_with}
use Rattle.rl_selector_text.proofs.meeting.text_has_room.Goals as goal

pub returns-in-Some : goal.returns-in-Some
returns-in-Some c =
    let many = c.in-len2-up.len_at_least in
    let sign = ends_with false c.args.before.now (length c.args.before.now - 1) c.sign-item.result (omega (arith, many)) c.sign-item.is in
    subst (λ b. IfErr c.has_room.result (IsForRoom b)) (sym (sign ∙ c.in-Some.ensures)) c.has_room.ensures
