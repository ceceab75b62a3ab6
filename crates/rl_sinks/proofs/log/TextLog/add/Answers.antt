-- One text more waits after the others.
use Rattle.std.proofs.Common.{◌++◌, ◌∷◌, [], refl, sym, subst}
use Rattle.std.specs.Prelude.{IsTrue, not}
use Rattle.rl_sinks.specs.LogState.{IsLogged}
use Rattle.rl_sinks.specs.Pieces.{end_pieces}
use Rattle.rl_sinks.proofs.Written.{place_after}
use Rattle.rl_sinks.proofs.log.TextLog.add.Goals as goal

pub invariant_of-self-2 : goal.invariant_of-self-2
invariant_of-self-2 g c =
    let s = c.self.inside in
    let here = c.self.invariant.open_in_texts (subst (λ closed. IsTrue (not closed)) (sym c.if-self.false) refl) in
    let more = place_after s.texts.items (c.from_string.result ∷ []) s.next s.part here in
    subst (λ texts. IsLogged texts s.next s.part s.closed) (sym c.in_ok-push.ensures.items)
    (record { position = place_after (s.texts.items ++ c.from_string.result ∷ []) (end_pieces _) s.next s.part more; open_in_texts = λ _. more })
