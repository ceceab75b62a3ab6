-- An object is empty where it is read of no members.
use Rattle.std.proofs.Common.{◌≡◌, ◌==◌, length, ap, sym, ◌∙◌, arith}
use Rattle.json.specs.Value.{value_view}
use Rattle.json.proofs.Trees.{view-Object}
use Rattle.serde_json.specs.Find.{as_object}
use Rattle.rl_json.specs.JsonData.{data_of}
use Rattle.rl_session.specs.PushBody.{is_empty_object}
use Rattle.rl_session.proofs.Documents.{is_empty_object_of}
use Rattle.rl_session.proofs.push.is_empty_object.Goals as goal

pub returns-in-Object : goal.returns-in-Object
returns-in-Object c =
    let len : c.in-Object.members.len ≡ length c.in-Object.members.items = omega (arith, c.in-Object.members.ok) in
    is_empty_object_of c.is_empty.result c.in-Object.members.items (c.is_empty.ensures ∙ ap (λ n. n == 0) len)
    ∙ sym (ap (λ j. is_empty_object (as_object (data_of j))) (ap value_view c.in-Object.is ∙ view-Object c.in-Object.members))
