-- The shard that the list has.
use Rattle.std.proofs.Common.{◌≡◌, ℕ, Bor, List, length, get_or, ltb, Option, None, Some, IfSome, is_some, refl, sym, ap, ◌∙◌}
use Rattle.std.specs.Prelude.{slice_get}
use Rattle.std.specs.Option.{option_copied}
use Rattle.std.proofs.lemmas.Bool.{ltb-true, ltb-false}
use Rattle.std.proofs.lemmas.Option.{slice_get_past, slice_get_read}
use Rattle.rl_world.specs.WorldState.{WorldBooks}
use Rattle.rl_world.proofs.world.World.shard.Goals as goal

-- what was looked up in a list stands there
copied_at : {X : Type 0} (found : Option (Bor X)) (xs : List X) (i : ℕ) → is_some found ≡ ltb i (length xs) → IfSome found (λ x. x.now ≡ get_or xs i x.now) → option_copied found ≡ slice_get xs i
copied_at None xs i there is = sym (slice_get_past xs i (ltb-false i (length xs) (sym there)))
copied_at (Some x) xs i there is = sym (slice_get_read xs (length xs) i x.now refl (ltb-true i (length xs) (sym there)) is)

pub returns : goal.returns
returns g c =
    let lookup = c.get.ensures.lookup in
    copied_at c.get.result c.deref.result.now c.args.number lookup.0 lookup.1 ∙ ap (λ shards. slice_get shards c.args.number) (c.deref.ensures.value ∙ ap (λ (world : WorldBooks). world.shards) c.self.view_is)
