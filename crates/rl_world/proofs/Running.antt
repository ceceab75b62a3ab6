-- A run of a world, turn by turn.
use Rattle.std.proofs.Common.{◌≡◌, ℕ, true, false, List, [], ◌∷◌, ◌++◌, length, drop, refl, sym, ap, subst, ◌∙◌}
use Rattle.std.specs.List.{AllByRecursion}
use Rattle.std.proofs.lemmas.List.{append-nil, append_assoc}
use Rattle.std.proofs.Math.Seq.{drop-append_seam}
use Rattle.rl_aggregate.specs.declared.partial.Partial.{Partial}
use Rattle.rl_world.specs.ShardsTurn.{AreHonest, ShardsTurn}
use Rattle.rl_world.specs.WorldRun.{gained, SinkStep, Turned, Ran}
use Rattle.rl_world.specs.WorldState.{BookState, WorldBooks, WorldState, IsBookOf, TookPrefixes, world_of}
use Rattle.rl_world.specs.WorldStep.{WorldStep, IfRefused, IsRefused, asks_shard, partials}
use Rattle.rl_world.specs.declared.step.Step.{Step}
use Rattle.rl_world.specs.declared.step.Step.TheVariants as steps
use Rattle.rl_world.specs.declared.step.Reply.{Reply}
use Rattle.rl_world.specs.declared.step.Reply.TheVariants as replies
use Rattle.rl_world.proofs.Lifting.{lift_step}

-- what shards and books answer to a step is a turn of their world
turned : (old : WorldBooks) (step : Step) (reply : Reply) (new : WorldBooks) → IfRefused reply (λ refusal. IsRefused (world_of old.shards old.books) step refusal (world_of new.shards new.books))
    → (asks_shard step ≡ false → WorldStep partials (world_of old.shards old.books) step reply (world_of new.shards new.books)) → (AreHonest old.shards → WorldStep partials (world_of old.shards old.books) step reply (world_of new.shards new.books))
    → SinkStep old.books step reply new.books → ShardsTurn old step reply new → Turned old step reply new
turned old step reply new refused on_kept turn sinks stores = record {
  refused = λ refusal is. subst (λ answer. IfRefused answer (λ refusal. IsRefused (world_of old.shards old.books) step refusal (world_of new.shards new.books))) is refused;
  on_kept = on_kept;
  sinks = sinks;
  stores = stores;
  from_scratch = λ honest shown stands. lift_step shown step reply (world_of new.shards new.books) (subst (λ world. WorldStep partials world step reply (world_of new.shards new.books)) stands (turn honest));
}

-- a step that was refused left all that is kept
step_refused : (old new : WorldState (List Partial)) (step : Step) (reply : Reply) → WorldStep partials old step reply new → IfRefused reply (λ refusal. IsRefused old step refusal new)
step_refused old new step (replies.Refused refusal) turn = turn
step_refused old new step reply turn = tt

true_false : true ≡ false → ⊥
true_false h = cc

-- a step that asks no shard touches none
shards_kept : (old new : WorldBooks) (step : Step) (reply : Reply) → asks_shard step ≡ false → new.shards ≡ old.shards → ShardsTurn old step reply new
shards_kept old new (steps.Shard number step) reply free same = absurd (true_false free)
shards_kept old new (steps.Gather group number) reply free same = absurd (true_false free)
shards_kept old new step reply free same = same

-- the turn of a step that asks no shard, which is the same over any stores
pub turned_unasked : (old : WorldBooks) (step : Step) (reply : Reply) (new : WorldBooks) → asks_shard step ≡ false → WorldStep partials (world_of old.shards old.books) step reply (world_of new.shards new.books) → SinkStep old.books step reply new.books → new.shards ≡ old.shards → Turned old step reply new
turned_unasked old step reply new free turn sinks same =
    turned old step reply new (step_refused (world_of old.shards old.books) (world_of new.shards new.books) step reply turn) (λ _. turn) (λ _. turn) sinks (shards_kept old new step reply free same)

-- the turn of a step that asks a shard
pub turned_asked : (old : WorldBooks) (step : Step) (reply : Reply) (new : WorldBooks) → asks_shard step ≡ true → IfRefused reply (λ refusal. IsRefused (world_of old.shards old.books) step refusal (world_of new.shards new.books))
    → (AreHonest old.shards → WorldStep partials (world_of old.shards old.books) step reply (world_of new.shards new.books)) → SinkStep old.books step reply new.books → ShardsTurn old step reply new → Turned old step reply new
turned_asked old step reply new asks refused turn sinks stores = turned old step reply new refused (λ free. absurd (true_false (sym asks ∙ free))) turn sinks stores

-- a run goes on by one turn
run_more : (old : WorldBooks) (steps : List Step) (replies : List Reply) (mid : WorldBooks) (step : Step) (reply : Reply) (new : WorldBooks) → Ran old steps replies mid → Turned mid step reply new → Ran old (steps ++ step ∷ []) (replies ++ reply ∷ []) new
run_more old [] [] mid step reply new run turn = (new, subst (λ world. Turned world step reply new) run turn, refl)
run_more old (first ∷ steps) (answer ∷ replies) mid step reply new run turn = (run.0, run.1, run_more run.0 steps replies mid step reply new run.2 turn)
run_more old [] (answer ∷ replies) mid step reply new run turn = absurd run
run_more old (first ∷ steps) [] mid step reply new run turn = absurd run

-- a run so far, whose replies were added to a list
pub record RunSoFar (old : WorldBooks) (before : List Reply) (steps : List Step) (now : WorldBooks) (out : List Reply) : Type 0 where
  pub replies : List Reply
  pub answered_so : out ≡ before ++ replies
  pub run : Ran old steps replies now

pub run_none : (old : WorldBooks) (before out : List Reply) → out ≡ before → RunSoFar old before [] old out
run_none old before out same = record { replies = []; answered_so = same ∙ sym (append-nil before); run = refl }

pub run_next : (old : WorldBooks) (before : List Reply) (steps : List Step) (mid : WorldBooks) (out : List Reply) (step : Step) (reply : Reply) (new : WorldBooks) (now : List Reply) → RunSoFar old before steps mid out → Turned mid step reply new → now ≡ out ++ reply ∷ [] → RunSoFar old before (steps ++ step ∷ []) new now
run_next old before steps mid out step reply new now so_far turn more = record {
  replies = so_far.replies ++ reply ∷ [];
  answered_so = more ∙ ap (λ l. l ++ reply ∷ []) so_far.answered_so ∙ append_assoc before so_far.replies (reply ∷ []);
  run = run_more old steps so_far.replies mid step reply new so_far.run turn;
}

-- what a list gained is what was added to it
pub run_done : (old : WorldBooks) (before : List Reply) (steps : List Step) (now : WorldBooks) (out : List Reply) → RunSoFar old before steps now out → Ran old steps (gained before out) now
run_done old before steps now out so_far = subst (λ replies. Ran old steps replies now) (sym (ap (drop (length before)) so_far.answered_so ∙ drop-append_seam before so_far.replies)) so_far.run

-- the sinks of each book of a world took prefixes
pub each_prefix : (n : ℕ) (books : List BookState) → AllByRecursion (IsBookOf n) books → AllByRecursion TookPrefixes books
each_prefix n [] fits = tt
each_prefix n (book ∷ books) fits = (fits.0.1, each_prefix n books fits.1)
