-- The digest there is the receipt's.
use Rattle.std.proofs.Common.{◌≡◌, ℕ, List, [], get_or, slice_get, Some, sym, ap, ◌∙◌}
use Rattle.std.specs.Cmp.Lexicographic.{same_text}
use Rattle.std.proofs.lemmas.Option.{slice_get-get_or}
use Rattle.rl_audit.specs.Claims.{item_at}
use Rattle.rl_audit.proofs.receipts.has_digest.Goals as goal

pub returns-in-Some-get : goal.returns-in-Some-get
returns-in-Some-get c is =
    let digests = c.args.digests.now in
    let receipt = c.args.receipt.now in
    let own = c.as_slice.result.now in
    let digest = c.in-Some-get.digest.now in
    let column = c.in-Some.ensures.lookup.3 in
    let there = c.in-Some-get.ensures.lookup.3 in
    let own_is : own ≡ get_or digests receipt.shard [] = c.as_slice.ensures ∙ column.1 [] in
    let at : item_at digests (receipt.shard, receipt.place) ≡ Some digest =
    ap (λ (xs : List (List ℕ)). slice_get xs receipt.place) (sym own_is) ∙ slice_get-get_or own receipt.place [] there.0 ∙ ap (λ (x : List ℕ). Some x) (sym (there.1 [])) in
    record { item = digest; there = at; holds = sym (same_text digest receipt.digest (sym is ∙ c.eq.ensures)) }
