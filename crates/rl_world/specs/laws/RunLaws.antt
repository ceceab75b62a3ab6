-- What follows of a run: a reply for each step, a replay by LogQL from scratch, and what it makes of each sink.
use Rattle.std.proofs.Common.{◌≡◌, ℕ, zero, suc, ◌+◌, ◌<◌, ◌%◌, ◌^◌, Bool, true, false, cond, ◌||◌, List, [], ◌∷◌, map, length, Option, None, Some, MatchOption, option_map, option_and_then, slice_get, slice_set, nat_lt, nat_eq, refl, sym, ap, subst, ◌∙◌, arith}
use Rattle.std.specs.List.{list_any, zip}
use Rattle.std.proofs.lemmas.List.Sums.{sum_by-cons}
use Rattle.std.proofs.lemmas.Option.{slice_get-map}
use Rattle.std.proofs.lemmas.Slice.Zip.{AllZip-long}
use Rattle.std.proofs.lemmas.Bool.{eqb-true, eqb-false, eq-eqb, ne_eqb}
use Rattle.rl_rules.specs.declared.evaluation.Evaluation.{Evaluation}
use Rattle.rl_sinks.specs.SinkState.{SinkState}
use Rattle.rl_world.specs.Offering.{Offered, AllOffered, is_behind, behind_from, behind_of}
use Rattle.rl_world.specs.Listings.{SinksFollow, listed_in, listing, listings, is_listed, latest, last_listing}
use Rattle.rl_world.specs.ShardsTurn.{AreHonest}
use Rattle.rl_world.specs.laws.StoreLaws.{get_set, get_set_other, still_honest}
use Rattle.rl_world.specs.Closed.{IsPumped}
use Rattle.rl_world.specs.WorldRun.{AreAsTheyWere, ArePumped, SinksOffered, SinkStep, Ran, Replays, BookOffers, offers}
use Rattle.rl_world.specs.WorldState.{BookState, WorldBooks, WorldState, world_of}
use Rattle.rl_world.specs.WorldStep.{Keeping, Turn, WorldStep, Replay, lists}
use Rattle.rl_world.specs.declared.step.Committed.{Committed}
use Rattle.rl_world.specs.declared.step.Step.{Step}
use Rattle.rl_world.specs.declared.step.Step.TheVariants as steps
use Rattle.rl_world.specs.declared.step.Reply.{Reply}
use Rattle.rl_world.specs.declared.step.Reply.TheVariants as replies

-- one reply for each step
pub ran_length : (old : WorldBooks) (steps : List Step) (replies : List Reply) (new : WorldBooks) → Ran old steps replies new → length replies ≡ length steps
ran_length old [] [] new run = refl
ran_length old (step ∷ steps) (reply ∷ replies) new run = ap suc (ran_length run.0 steps replies new run.2)
ran_length old [] (reply ∷ replies) new run = absurd run
ran_length old (step ∷ steps) [] new run = absurd run

-- a run over honest stores is a replay by LogQL from scratch, of any lists that may have been shown
pub ran_replays : (old : WorldBooks) (steps : List Step) (replies : List Reply) (new : WorldBooks) → AreHonest old.shards → Ran old steps replies new → Replays old steps replies new
ran_replays old [] [] new honest run shown stands = (shown, ap (λ (world : WorldBooks). world_of world.shards world.books) run ∙ stands, refl)
ran_replays old (step ∷ steps) (reply ∷ replies) new honest run shown stands =
    let first = run.1.from_scratch honest shown stands in
    let rest = ran_replays run.0 steps replies new (still_honest old step reply run.0 run.1.stores honest) run.2 first.0 first.1 in
    (rest.0, rest.1, (first.0, first.2, rest.2))
ran_replays old [] (reply ∷ replies) new honest run shown stands = absurd run
ran_replays old (step ∷ steps) [] new honest run shown stands = absurd run

some_is : {X : Type 0} (a b : X) → Some a ≡ Some b → a ≡ b
some_is a b h = cc

none_some : {X : Type 0} (x : X) → None ≡ Some x → ⊥
none_some x h = cc

true_false : true ≡ false → ⊥
true_false h = cc

-- a sink among those that were offered
record OfferedAt (evaluations : List Evaluation) (old : SinkState) (news : List SinkState) (k : ℕ) : Type 0 where
  pub new : SinkState
  pub there : slice_get news k ≡ Some new
  pub offered : Offered evaluations old new

offered_at : (evaluations : List Evaluation) (olds news : List SinkState) (k : ℕ) (old : SinkState) → AllOffered evaluations olds news → slice_get olds k ≡ Some old → OfferedAt evaluations old news k
offered_at evaluations [] [] k old all there = absurd (none_some old there)
offered_at evaluations (x ∷ olds) (y ∷ news) zero old all there = record { new = y; there = refl; offered = subst (λ o. Offered evaluations o y) (some_is x old there) all.0 }
offered_at evaluations (x ∷ olds) (y ∷ news) (suc k) old all there = let rest = offered_at evaluations olds news k old all.1 there in record { new = rest.new; there = rest.there; offered = rest.offered }
offered_at evaluations [] (y ∷ news) k old all there = absurd all
offered_at evaluations (x ∷ olds) [] k old all there = absurd all

-- a sink that is ready to be offered: it has taken and refused what it had
record ReadyAt (sink : SinkState) (ready : List SinkState) (k : ℕ) : Type 0 where
  pub one : SinkState
  pub there : slice_get ready k ≡ Some one
  pub count : one.count ≡ sink.count
  pub refusals : one.refusals ≡ sink.refusals

-- sinks that are ready, of which each has what it had
record IsReadiness (AreReady : List SinkState → List SinkState → Type 0) : Type 0 where
  pub at : (sinks ready : List SinkState) (k : ℕ) (sink : SinkState) → AreReady sinks ready → slice_get sinks k ≡ Some sink → ReadyAt sink ready k
  pub many : (sinks ready : List SinkState) → AreReady sinks ready → length ready ≡ length sinks

as_they_were : IsReadiness AreAsTheyWere
as_they_were = record {
  at = λ sinks ready k sink same there. record { one = sink; there = ap (λ all. slice_get all k) same ∙ there; count = refl; refusals = refl };
  many = λ sinks ready same. ap length same;
}

pumped_at : (sinks ready : List SinkState) (k : ℕ) (sink : SinkState) → ArePumped sinks ready → slice_get sinks k ≡ Some sink → ReadyAt sink ready k
pumped_at [] [] k sink all there = absurd (none_some sink there)
pumped_at (x ∷ sinks) (y ∷ ready) zero sink all there = record {
  one = y;
  there = refl;
  count = ap (λ (s : SinkState). s.count) all.0 ∙ ap (λ (s : SinkState). s.count) (some_is x sink there);
  refusals = ap (λ (s : SinkState). s.refusals) all.0 ∙ ap (λ (s : SinkState). s.refusals) (some_is x sink there);
}
pumped_at (x ∷ sinks) (y ∷ ready) (suc k) sink all there = let rest = pumped_at sinks ready k sink all.1 there in record { one = rest.one; there = rest.there; count = rest.count; refusals = rest.refusals }
pumped_at [] (y ∷ ready) k sink all there = absurd all
pumped_at (x ∷ sinks) [] k sink all there = absurd all

are_pumped : IsReadiness ArePumped
are_pumped = record { at = pumped_at; many = λ sinks ready all. AllZip-long IsPumped sinks ready all }

-- the numbers of those that are behind
none_before : (evaluations : List Evaluation) (sinks : List SinkState) (n m : ℕ) → m < n → list_any (λ behind. nat_eq behind m) (behind_from n evaluations sinks) ≡ false
none_before evaluations [] n m low = refl
none_before evaluations (sink ∷ sinks) n m low =
    elim (is_behind evaluations sink) as (λ b. list_any (λ behind. nat_eq behind m) (cond b (n ∷ behind_from (suc n) evaluations sinks) (behind_from (suc n) evaluations sinks)) ≡ false) [
      | true ↦ ap (λ b. b || list_any (λ behind. nat_eq behind m) (behind_from (suc n) evaluations sinks)) (ne_eqb n m (λ h. absurd (omega (arith, h, low)))) ∙ none_before evaluations sinks (suc n) m (omega (arith, low))
      | false ↦ none_before evaluations sinks (suc n) m (omega (arith, low))
    ]

listed_at : (evaluations : List Evaluation) (sinks : List SinkState) (n k : ℕ) (sink : SinkState) → slice_get sinks k ≡ Some sink → list_any (λ behind. nat_eq behind (n + k)) (behind_from n evaluations sinks) ≡ is_behind evaluations sink
listed_at evaluations [] n k sink there = absurd (none_some sink there)
listed_at evaluations (x ∷ sinks) n zero sink there =
    elim (is_behind evaluations x) as (λ b. is_behind evaluations x ≡ b → list_any (λ behind. nat_eq behind (n + 0)) (cond b (n ∷ behind_from (suc n) evaluations sinks) (behind_from (suc n) evaluations sinks)) ≡ is_behind evaluations sink) [
      | true ↦ λ is. ap (λ b. b || list_any (λ behind. nat_eq behind (n + 0)) (behind_from (suc n) evaluations sinks)) (eq-eqb n (n + 0) (omega arith)) ∙ sym is ∙ ap (is_behind evaluations) (some_is x sink there)
      | false ↦ λ is. none_before evaluations sinks (suc n) (n + 0) (omega arith) ∙ sym is ∙ ap (is_behind evaluations) (some_is x sink there)
    ] refl
listed_at evaluations (x ∷ sinks) n (suc k) sink there =
    let rest : list_any (λ behind. nat_eq behind (n + suc k)) (behind_from (suc n) evaluations sinks) ≡ is_behind evaluations sink = ap (λ m. list_any (λ behind. nat_eq behind m) (behind_from (suc n) evaluations sinks)) (omega arith) ∙ listed_at evaluations sinks (suc n) k sink there in
    elim (is_behind evaluations x) as (λ b. list_any (λ behind. nat_eq behind (n + suc k)) (cond b (n ∷ behind_from (suc n) evaluations sinks) (behind_from (suc n) evaluations sinks)) ≡ is_behind evaluations sink) [
      | true ↦ ap (λ b. b || list_any (λ behind. nat_eq behind (n + suc k)) (behind_from (suc n) evaluations sinks)) (ne_eqb n (n + suc k) (λ h. absurd (omega (arith, h)))) ∙ rest
      | false ↦ rest
    ]

-- what turns made of one sink: `count` refusals, and what the last commit says; with none, nothing
record FollowsOn (count : ℕ) (last : Option Bool) (group number : ℕ) (book : BookState) (sink : SinkState) (books : List BookState) : Type 0 where
  pub after : BookState
  pub there : slice_get books group ≡ Some after
  pub new : SinkState
  pub here : slice_get after.sinks number ≡ Some new
  pub refusals : new.refusals % 2 ^ 64 ≡ (sink.refusals + count) % 2 ^ 64
  pub behind : MatchOption last ((new.count ≡ sink.count) × (after.history.evaluations ≡ book.history.evaluations)) (λ listed. is_behind after.history.evaluations new ≡ listed)

mod_again : (n : ℕ) → n % 2 ^ 64 % 2 ^ 64 ≡ n % 2 ^ 64
mod_again n = omega arith

mod_chain : (new mid old a b : ℕ) → new % 2 ^ 64 ≡ (mid + b) % 2 ^ 64 → mid % 2 ^ 64 ≡ (old + a) % 2 ^ 64 → new % 2 ^ 64 ≡ (old + (a + b)) % 2 ^ 64
mod_chain new mid old a b first second = omega (arith, first, second)

-- a look-up through what sinks are offered
record OffersAt (books : List BookState) (group : ℕ) (book : BookState) : Type 0 where
  pub after : BookState
  pub there : slice_get books group ≡ Some after
  pub same : offers after ≡ offers book

offers_in : (o : Option BookState) (book : BookState) → option_map offers o ≡ Some (offers book) → (after : BookState) × (o ≡ Some after) × (offers after ≡ offers book)
offers_in None book h = absurd (none_some (offers book) h)
offers_in (Some after) book h = (after, refl, some_is (offers after) (offers book) h)

offers_at : (old new : List BookState) (group : ℕ) (book : BookState) → map offers new ≡ map offers old → slice_get old group ≡ Some book → OffersAt new group book
offers_at old new group book same there =
    let found = offers_in (slice_get new group) book (sym (slice_get-map offers new group) ∙ ap (λ l. slice_get l group) same ∙ slice_get-map offers old group ∙ ap (option_map offers) there) in
    record { after = found.0; there = found.1; same = found.2 }

-- a turn that touches no sink
untouched : (old new : List BookState) (group number : ℕ) (book : BookState) (sink : SinkState) → map offers new ≡ map offers old → slice_get old group ≡ Some book → slice_get book.sinks number ≡ Some sink → FollowsOn 0 None group number book sink new
untouched old new group number book sink same there here =
    let found = offers_at old new group book same there in
    record {
      after = found.after;
      there = found.there;
      new = sink;
      here = ap (λ (t : BookOffers). slice_get t.sinks number) found.same ∙ here;
      refusals = ap (λ n. n % 2 ^ 64) (omega arith);
      behind = (refl, ap (λ (t : BookOffers). t.evaluations) found.same);
    }

-- one refusal where the sink is behind
one_refusal : (old new : ℕ) (behind : Bool) → new ≡ cond behind ((old + 1) % 2 ^ 64) old → new % 2 ^ 64 ≡ (old + cond behind 1 0) % 2 ^ 64
one_refusal old new true is = ap (λ n. n % 2 ^ 64) is ∙ mod_again (old + 1)
one_refusal old new false is = ap (λ n. n % 2 ^ 64) (is ∙ omega arith)

-- the sinks of the sink's group were offered what they had not taken
offered_follows : (AreReady : List SinkState → List SinkState → Type 0) → IsReadiness AreReady → (old new : List BookState) (group number : ℕ) (book : BookState) (sink : SinkState) (behind : List ℕ) → SinksOffered AreReady old group behind new → slice_get old group ≡ Some book → slice_get book.sinks number ≡ Some sink
    → FollowsOn (cond (list_any (λ listed. nat_eq listed number) behind) 1 0) (Some (list_any (λ listed. nat_eq listed number) behind)) group number book sink new
offered_follows AreReady readiness old new group number book sink behind turn there here =
    let after = turn.after in
    let evaluations = after.history.evaluations in
    let mine : turn.before ≡ book = some_is turn.before book (sym turn.there ∙ there) in
    let ready = readiness.at book.sinks turn.ready number sink (subst (λ (b : BookState). AreReady b.sinks turn.ready) mine turn.are_ready) here in
    let offered = offered_at evaluations turn.ready after.sinks number ready.one turn.offered ready.there in
    let says : list_any (λ listed. nat_eq listed number) behind ≡ is_behind evaluations offered.new = ap (list_any (λ listed. nat_eq listed number)) turn.behind_is ∙ ap (λ n. list_any (λ listed. nat_eq listed n) (behind_of evaluations after.sinks)) (omega arith) ∙ listed_at evaluations after.sinks 0 number offered.new offered.there in
    record {
      after = after;
      there = ap (λ l. slice_get l group) turn.now ∙ get_set old group turn.before after turn.there;
      new = offered.new;
      here = offered.there;
      refusals = one_refusal sink.refusals offered.new.refusals (is_behind evaluations offered.new) (ap (λ (s : SinkState). s.refusals) offered.offered.state ∙ ap (λ old. cond (is_behind evaluations offered.new) ((old + 1) % 2 ^ 64) old) ready.refusals) ∙ ap (λ b. (sink.refusals + cond b 1 0) % 2 ^ 64) (sym says);
      behind = sym says;
    }

-- those of any group were
any_follows : (AreReady : List SinkState → List SinkState → Type 0) → IsReadiness AreReady → (old new : List BookState) (at group number : ℕ) (book : BookState) (sink : SinkState) (behind : List ℕ) → SinksOffered AreReady old at behind new → slice_get old group ≡ Some book → slice_get book.sinks number ≡ Some sink
    → FollowsOn (cond (is_listed (listed_in group number at behind)) 1 0) (listed_in group number at behind) group number book sink new
any_follows AreReady readiness old new at group number book sink behind turn there here =
    let Says : Bool → Type 0 = λ b. FollowsOn (cond (is_listed (cond b (Some (list_any (λ listed. nat_eq listed number) behind)) None)) 1 0) (cond b (Some (list_any (λ listed. nat_eq listed number) behind)) None) group number book sink new in
    elim (nat_eq at group) as (λ b. nat_eq at group ≡ b → Says b) [
      | true ↦ λ is. offered_follows AreReady readiness old new group number book sink behind (subst (λ g. SinksOffered AreReady old g behind new) (eqb-true at group is) turn) there here
      | false ↦ λ apart. record {
        after = book;
        there = ap (λ l. slice_get l group) turn.now ∙ get_set_other old at group turn.after (eqb-false at group apart) ∙ there;
        new = sink;
        here = here;
        refusals = ap (λ n. n % 2 ^ 64) (omega arith);
        behind = (refl, refl);
      }
    ] refl

-- what one turn makes of a sink
turn_follows : (old new : List BookState) (step : Step) (reply : Reply) (group number : ℕ) (book : BookState) (sink : SinkState) → SinkStep old step reply new → slice_get old group ≡ Some book → slice_get book.sinks number ≡ Some sink
    → FollowsOn (cond (is_listed (listing group number (step, reply))) 1 0) (listing group number (step, reply)) group number book sink new
turn_follows old new (steps.Commit at) (replies.Committed answer) group number book sink sinks there here = any_follows AreAsTheyWere as_they_were old new at group number book sink answer.behind sinks there here
turn_follows old new (steps.CatchUp at) (replies.CaughtUp behind) group number book sink sinks there here = any_follows ArePumped are_pumped old new at group number book sink behind sinks there here
turn_follows old new step reply group number book sink sinks there here = untouched old new group number book sink sinks there here

-- and a turn before others
follows_more : (count : ℕ) (last : Option Bool) (more : ℕ) (rest : Option Bool) (group number : ℕ) (book : BookState) (sink : SinkState) (mid new : List BookState) → (first : FollowsOn count last group number book sink mid) → FollowsOn more rest group number first.after first.new new
    → FollowsOn (count + more) (latest last rest) group number book sink new
follows_more count last more rest group number book sink mid new first then = record {
  after = then.after;
  there = then.there;
  new = then.new;
  here = then.here;
  refusals = mod_chain then.new.refusals first.new.refusals sink.refusals count more then.refusals first.refusals;
  behind = joined last rest first.behind then.behind;
}
  where
    joined : (last rest : Option Bool)
        → MatchOption last ((first.new.count ≡ sink.count) × (first.after.history.evaluations ≡ book.history.evaluations)) (λ listed. is_behind first.after.history.evaluations first.new ≡ listed)
        → MatchOption rest ((then.new.count ≡ first.new.count) × (then.after.history.evaluations ≡ first.after.history.evaluations)) (λ listed. is_behind then.after.history.evaluations then.new ≡ listed)
        → MatchOption (latest last rest) ((then.new.count ≡ sink.count) × (then.after.history.evaluations ≡ book.history.evaluations)) (λ listed. is_behind then.after.history.evaluations then.new ≡ listed)
    joined None None a b = (b.0 ∙ a.0, b.1 ∙ a.1)
    joined (Some listed) None a b = (λ i. nat_lt (b.0 i) (length (b.1 i))) ∙ a
    joined None (Some listed) a b = b
    joined (Some early) (Some listed) a b = b

run_follows : (old : WorldBooks) (steps : List Step) (replies : List Reply) (new : WorldBooks) (group number : ℕ) (book : BookState) (sink : SinkState) → Ran old steps replies new → slice_get old.books group ≡ Some book → slice_get book.sinks number ≡ Some sink
    → FollowsOn (listings group number (zip steps replies)) (last_listing group number (zip steps replies)) group number book sink new.books
run_follows old [] [] new group number book sink run there here = record {
  after = book;
  there = ap (λ (world : WorldBooks). slice_get world.books group) run ∙ there;
  new = sink;
  here = here;
  refusals = ap (λ n. n % 2 ^ 64) (omega arith);
  behind = (refl, refl);
}
run_follows old (step ∷ steps) (reply ∷ replies) new group number book sink run there here =
    let first = turn_follows old.books run.0.books step reply group number book sink run.1.sinks there here in
    let rest = run_follows run.0 steps replies new group number first.after first.new run.2 first.there first.here in
    let both = follows_more _ _ _ _ group number book sink run.0.books new.books first rest in
    subst (λ n. FollowsOn n (last_listing group number (zip (step ∷ steps) (reply ∷ replies))) group number book sink new.books) (sym (sum_by-cons (λ turn. cond (is_listed (listing group number turn)) 1 0) (step, reply) (zip steps replies))) both
run_follows old [] (reply ∷ replies) new group number book sink run there here = absurd run
run_follows old (step ∷ steps) [] new group number book sink run there here = absurd run

-- a sink by its numbers is in a book
record SinkIn (books : List BookState) (group number : ℕ) (sink : SinkState) : Type 0 where
  pub book : BookState
  pub there : slice_get books group ≡ Some book
  pub here : slice_get book.sinks number ≡ Some sink

sink_in : (o : Option BookState) (number : ℕ) (sink : SinkState) → option_and_then (λ (book : BookState). slice_get book.sinks number) o ≡ Some sink → (book : BookState) × (o ≡ Some book) × (slice_get book.sinks number ≡ Some sink)
sink_in None number sink h = absurd (none_some sink h)
sink_in (Some book) number sink h = (book, refl, h)

weaker : (last : Option Bool) (A B : Type 0) (P : Bool → Type 0) → MatchOption last (A × B) P → MatchOption last A P
weaker None A B P h = h.0
weaker (Some listed) A B P h = h

-- every sink follows
pub ran_follow : (old : WorldBooks) (steps : List Step) (replies : List Reply) (new : WorldBooks) → Ran old steps replies new → SinksFollow old.books steps replies new.books
ran_follow old steps replies new run group number sink at =
    let found = sink_in (slice_get old.books group) number sink at in
    let on = run_follows old steps replies new group number found.0 sink run found.1 found.2 in
    let last = last_listing group number (zip steps replies) in
    record {
      book = on.after;
      there = on.there;
      new = on.new;
      here = on.here;
      follows = record { refusals = on.refusals; behind = weaker last (on.new.count ≡ sink.count) (on.after.history.evaluations ≡ found.0.history.evaluations) (λ listed. is_behind on.after.history.evaluations on.new ≡ listed) on.behind };
    }

-- how many sinks each book has
abbrev pub sink_counts : List BookState → List ℕ
sink_counts books = map (λ book. length book.sinks) books

counts_offered : (books : List BookState) → map (λ (t : BookOffers). length t.sinks) (map offers books) ≡ sink_counts books
counts_offered [] = refl
counts_offered (book ∷ books) = ap (λ rest. length book.sinks ∷ rest) (counts_offered books)

counts_set : (books : List BookState) (group : ℕ) (before after : BookState) → slice_get books group ≡ Some before → length after.sinks ≡ length before.sinks → sink_counts (slice_set books group after) ≡ sink_counts books
counts_set [] group before after there same = refl
counts_set (book ∷ books) zero before after there same = ap (λ count. count ∷ sink_counts books) (same ∙ ap (λ (b : BookState). length b.sinks) (sym (some_is book before there)))
counts_set (book ∷ books) (suc group) before after there same = ap (λ rest. length book.sinks ∷ rest) (counts_set books group before after there same)

offered_counts : (AreReady : List SinkState → List SinkState → Type 0) → IsReadiness AreReady → (old new : List BookState) (group : ℕ) (behind : List ℕ) → SinksOffered AreReady old group behind new → sink_counts new ≡ sink_counts old
offered_counts AreReady readiness old new group behind turn =
    ap sink_counts turn.now
    ∙ counts_set old group turn.before turn.after turn.there (AllZip-long (Offered turn.after.history.evaluations) turn.ready turn.after.sinks turn.offered ∙ readiness.many turn.before.sinks turn.ready turn.are_ready)

turn_counts : (old new : List BookState) (step : Step) (reply : Reply) → SinkStep old step reply new → sink_counts new ≡ sink_counts old
turn_counts old new (steps.Commit group) (replies.Committed answer) offered = offered_counts AreAsTheyWere as_they_were old new group answer.behind offered
turn_counts old new (steps.CatchUp group) (replies.CaughtUp behind) offered = offered_counts ArePumped are_pumped old new group behind offered
turn_counts old new step reply same = sym (counts_offered new) ∙ ap (map (λ (t : BookOffers). length t.sinks)) same ∙ counts_offered old

-- no sink comes or goes
pub ran_counts : (old : WorldBooks) (steps : List Step) (replies : List Reply) (new : WorldBooks) → Ran old steps replies new → sink_counts new.books ≡ sink_counts old.books
ran_counts old [] [] new run = ap (λ (world : WorldBooks). sink_counts world.books) run
ran_counts old (step ∷ steps) (reply ∷ replies) new run = ran_counts run.0 steps replies new run.2 ∙ turn_counts old.books run.0.books step reply run.1.sinks
ran_counts old [] (reply ∷ replies) new run = absurd run
ran_counts old (step ∷ steps) [] new run = absurd run

-- a reply that lists no sink
abbrev pub unlisted : Reply → Reply
unlisted (replies.Committed answer) = replies.Committed (record { number = answer.number; evaluation = answer.evaluation; behind = [] })
unlisted (replies.CaughtUp behind) = replies.CaughtUp []
unlisted reply = reply

module _ {X : Type 0} (keeping : Keeping X) where
  turn_unlisted : (old : WorldState X) (step : Step) (answer : Committed) (new : WorldState X) → Turn keeping old step (replies.Committed answer) new → Turn keeping old step (unlisted (replies.Committed answer)) new
  turn_unlisted old (steps.Commit group) answer new turn = record { history = turn.history; there = turn.there; opened = turn.opened; open_is = turn.open_is; number_is = turn.number_is; evaluation_is = turn.evaluation_is; after = turn.after }
  turn_unlisted old step answer new turn = turn

  caught_unlisted : (old : WorldState X) (step : Step) (behind : List ℕ) (new : WorldState X) → Turn keeping old step (replies.CaughtUp behind) new → Turn keeping old step (replies.CaughtUp []) new
  caught_unlisted old (steps.CatchUp group) behind new turn = turn
  caught_unlisted old step behind new turn = turn

  step_unlisted : (old : WorldState X) (step : Step) (reply : Reply) (new : WorldState X) → WorldStep keeping old step reply new → WorldStep keeping old step (unlisted reply) new
  step_unlisted old step (replies.Committed answer) new turn = (turn.0, turn_unlisted old step answer new turn.1)
  step_unlisted old step (replies.CaughtUp behind) new turn = (turn.0, caught_unlisted old step behind new turn.1)
  step_unlisted old step reply new turn = turn

  -- a replay does not say which sinks are listed: that is left to what sinks follow
  replay_unlisted : (old : WorldState X) (steps : List Step) (replies : List Reply) (new : WorldState X) → Replay keeping old steps replies new → Replay keeping old steps (map unlisted replies) new
  replay_unlisted old [] [] new replay = replay
  replay_unlisted old (step ∷ steps) (reply ∷ replies) new replay = (replay.0, step_unlisted old step reply replay.0 replay.1, replay_unlisted replay.0 steps replies new replay.2)
  replay_unlisted old [] (reply ∷ replies) new replay = absurd replay
  replay_unlisted old (step ∷ steps) [] new replay = absurd replay

-- a run whose replies are given without those lists is still a replay
pub unlisted_replays : (old : WorldBooks) (steps : List Step) (replies shortened : List Reply) (new : WorldBooks) → AreHonest old.shards → Ran old steps replies new → shortened ≡ map unlisted replies → Replays old steps shortened new
unlisted_replays old steps replies shortened new honest run is shown stands =
    let replay = ran_replays old steps replies new honest run shown stands in
    (replay.0, replay.1, subst (λ said. Replay lists shown steps said replay.0) (sym is) (replay_unlisted lists shown steps replies replay.0 replay.2))
