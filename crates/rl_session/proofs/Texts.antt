-- Texts of a sink that are written one by one.
use Rattle.std.proofs.Common.{◌≡◌, ℕ, ◌+◌, List, [], ◌∷◌, ◌++◌, take, Option, None, Some, sym, ap, ◌∙◌, append-nil}
use Rattle.std.specs.Prelude.{slice_get, IfSome, option_and_then}
use Rattle.std.specs.List.{concat}
use Rattle.std.specs.Io.KnownBytes.{Appends}
use Rattle.std.proofs.lemmas.List.{take_more}
use Rattle.std.proofs.lemmas.List.Folds.{concat-append}
use Rattle.std.proofs.lemmas.Option.{slice_get_within, get_or_from_slice_get}
use Rattle.rl_sinks.specs.SinkState.{SinkState}
use Rattle.rl_session.proofs.Printing.{appends_more}

-- a text more of those that are kept
pub texts_more : (texts : List (List ℕ)) (i : ℕ) (text : List ℕ) → slice_get texts i ≡ Some text → concat (take i texts) ++ text ≡ concat (take (i + 1) texts)
texts_more texts i text is =
    sym (ap concat (take_more texts i text (slice_get_within texts i text is) ∙ ap (λ t. take i texts ++ t ∷ []) (get_or_from_slice_get texts i text text is))
    ∙ concat-append (take i texts) (text ∷ [])
    ∙ ap (λ t. concat (take i texts) ++ t) (append-nil text))

-- a text more of a sink, if there is one
pub texts_written : (sink : Option SinkState) (old mid new : Option (List ℕ)) (i : ℕ) (text : List ℕ) → Some text ≡ option_and_then (λ sink. slice_get sink.kept i) sink → IfSome sink (λ sink. Appends old mid (concat (take i sink.kept))) → Appends mid new text → IfSome sink (λ sink. Appends old new (concat (take (i + 1) sink.kept)))
texts_written None old mid new i text is before more = tt
texts_written (Some sink) old mid new i text is before more = appends_more old mid new _ _ _ before more (texts_more sink.kept i text (sym is))
