-- Books that are driven through a history anew, item by item.
use Rattle.std.proofs.Common.{◌≡◌, ◌⊎◌, ◌<◌, ◌≤◌, ◌+◌, ◌-◌, inl, inr, ℕ, zero, suc, List, [], ◌∷◌, ◌++◌, length, take, None, Some, IfSome, slice_get, sym, ap, subst, ◌∙◌, arith}
use Rattle.std.proofs.lemmas.Bool.{cases_lt}
use Rattle.std.proofs.lemmas.List.{take_all, take_more}
use Rattle.std.proofs.lemmas.Option.{get_or_from_slice_get, none-some, slice_get_past, slice_get_within}
use Rattle.std.specs.List.{AllZip}
use Rattle.rl_aggregate.specs.declared.partial.Partial.{Partial}
use Rattle.rl_records.specs.declared.record.Record.{Record}
use Rattle.rl_rules.specs.declared.alert.Alert.{Alert}
use Rattle.rl_rules.specs.declared.evaluation.Evaluation.{Evaluation}
use Rattle.rl_rules.specs.declared.rule.Group.{Group}
use Rattle.rl_sinks.specs.SinkState.{SinkState}
use Rattle.rl_world.specs.BookCalls.{new_book}
use Rattle.rl_world.specs.History.{History, alerts_of, evaluations_in, group_after}
use Rattle.rl_world.specs.WorldState.{BookState}
use Rattle.rl_world.specs.declared.item.Item.{Item}
use Rattle.rl_world.specs.declared.item.Item.TheVariants as kinds
use Rattle.rl_world.proofs.Items.{evaluations-edited, evaluations-evaluated, group-edited, group-evaluated}
use Rattle.rl_audit.specs.Driven.{IsDriven}
use Rattle.rl_audit.specs.Founded.{alerts_left, IfEvaluated, IsAudited, IsFounded, PlacesRise}
use borrow.Author.Count.{below_more}

-- LISTS

-- with the item at an index the front has one more
pub take_next : {X : Type 0} (xs : List X) (n : ℕ) (x : X) → slice_get xs n ≡ Some x → take (n + 1) xs ≡ take n xs ++ x ∷ []
take_next xs n x there = take_more xs n x (slice_get_within xs n x there) ∙ ap (λ y. take n xs ++ y ∷ []) (get_or_from_slice_get xs n x x there)

-- where there is no item the list has ended
pub ended : {X : Type 0} (xs : List X) (n : ℕ) → slice_get xs n ≡ None → length xs ≤ n
ended [] n none = omega arith
ended (x ∷ xs) zero none = absurd (none-some x (sym none))
ended (x ∷ xs) (suc n) none = let rest = ended xs n none in omega arith

-- of what is not there anything holds
holds_past : {X : Type 0} (P : X → Type 0) (xs : List X) (n : ℕ) → length xs ≤ n → IfSome (slice_get xs n) P
holds_past P xs n past = subst (λ maybe. IfSome maybe P) (sym (slice_get_past xs n past)) tt

-- of what is there what holds of it
holds_there : {X : Type 0} (P : X → Type 0) (xs : List X) (n : ℕ) (x : X) → slice_get xs n ≡ Some x → P x → IfSome (slice_get xs n) P
holds_there P xs n x there holds = subst (λ maybe. IfSome maybe P) (sym there) holds

-- PLACES

-- an evaluation asks each shard after where another one asked it
abbrev IsBefore : Evaluation → Evaluation → Type 0
IsBefore one next = AllZip (λ place later. place < later) one.places next.places

-- it does so after the last one, if there is one
abbrev IsAfterAll : List Evaluation → Evaluation → Type 0
IsAfterAll evaluations evaluation = IfSome (slice_get evaluations (length evaluations - 1)) (λ last. IsBefore last evaluation)

rise_at : (evaluations : List Evaluation) (evaluation : Evaluation) → PlacesRise evaluations → IsAfterAll evaluations evaluation → (n : ℕ) → IfSome (slice_get (evaluations ++ evaluation ∷ []) n) (λ one. IfSome (slice_get (evaluations ++ evaluation ∷ []) (suc n)) (IsBefore one))
rise_at [] evaluation rise later zero = tt
rise_at [] evaluation rise later (suc n) = tt
rise_at (one ∷ []) evaluation rise later zero = later
rise_at (one ∷ []) evaluation rise later (suc zero) = tt
rise_at (one ∷ []) evaluation rise later (suc (suc n)) = tt
rise_at (one ∷ next ∷ others) evaluation rise later zero = rise zero
rise_at (one ∷ next ∷ others) evaluation rise later (suc n) =
    let last : length (one ∷ next ∷ others) - 1 ≡ suc (length (next ∷ others) - 1) = omega arith in
    rise_at (next ∷ others) evaluation (λ m. rise (suc m)) (subst (λ k. IfSome (slice_get (one ∷ next ∷ others) k) (λ before. IsBefore before evaluation)) last later) n

-- one evaluation more
pub rise_more : (evaluations : List Evaluation) (evaluation : Evaluation) → PlacesRise evaluations → IsAfterAll evaluations evaluation → PlacesRise (evaluations ++ evaluation ∷ [])
rise_more evaluations evaluation rise later = λ n. rise_at evaluations evaluation rise later n

-- ITEMS

-- what holds of the item at an index, as one of the group and its alerts that those before it leave
abbrev pub IsFoundedAt : (journals : List (List Record)) → BookState → ℕ → Type 0
IsFoundedAt journals book n = IfSome (slice_get book.history.items n) (IfEvaluated (IsFounded journals book.slot (group_after book.history.first (take n book.history.items)) (alerts_left book.history.first (take n book.history.items))))

-- a book was driven through the first n items of another one
pub record AreDriven (journals : List (List Record)) (book : BookState) (n : ℕ) (driven : BookState) : Type 0 where
  pub first : driven.history.first ≡ book.history.first
  pub items : driven.history.items ≡ take n book.history.items
  pub group : driven.history.group ≡ group_after book.history.first (take n book.history.items)
  pub evaluations : driven.history.evaluations ≡ evaluations_in (take n book.history.items)
  pub closed : driven.history.opened ≡ None
  pub shards : driven.shards ≡ length journals
  pub slot : driven.slot ≡ book.slot
  pub founded : (k : ℕ) → k < n → IsFoundedAt journals book k
  pub rise : PlacesRise (evaluations_in (take n book.history.items))

-- none yet
pub driven_none : (journals : List (List Record)) (book driven : BookState) (records shards : ℕ) (sinks : List SinkState) → driven ≡ new_book book.slot records shards book.history.first sinks → shards ≡ length journals → AreDriven journals book 0 driven
driven_none journals book driven records shards sinks is all = record {
  first = ap (λ (b : BookState). b.history.first) is;
  items = ap (λ (b : BookState). b.history.items) is;
  group = ap (λ (b : BookState). b.history.group) is;
  evaluations = ap (λ (b : BookState). b.history.evaluations) is;
  closed = ap (λ (b : BookState). b.history.opened) is;
  shards = ap (λ (b : BookState). b.shards) is ∙ all;
  slot = ap (λ (b : BookState). b.slot) is;
  founded = λ k below. absurd (omega (arith, below));
  rise = λ n. tt;
}

module _ (journals : List (List Record)) (book : BookState) (n : ℕ) (mid new : BookState) (so_far : AreDriven journals book n mid) where
  -- by an edit
  edited_more : (to : Group) → slice_get book.history.items n ≡ Some (kinds.Edited to) → IsDriven journals mid (kinds.Edited to) new → AreDriven journals book (n + 1) new
  edited_more to there made =
      let item : Item = kinds.Edited to in
      let done : List Item = take n book.history.items in
      let more : take (n + 1) book.history.items ≡ done ++ item ∷ [] = take_next book.history.items n item there in
      record {
        first = ap (λ (h : History (List Partial)). h.first) made.history ∙ so_far.first;
        items = ap (λ (h : History (List Partial)). h.items) made.history ∙ ap (λ (items : List Item). items ++ item ∷ []) so_far.items ∙ sym more;
        group = ap (λ (h : History (List Partial)). h.group) made.history ∙ sym (group-edited to book.history.first done) ∙ ap (group_after book.history.first) (sym more);
        evaluations = ap (λ (h : History (List Partial)). h.evaluations) made.history ∙ so_far.evaluations ∙ sym (evaluations-edited to done) ∙ ap evaluations_in (sym more);
        closed = ap (λ (h : History (List Partial)). h.opened) made.history;
        shards = made.shards ∙ so_far.shards;
        slot = made.slot ∙ so_far.slot;
        founded = below_more (IsFoundedAt journals book) n so_far.founded (holds_there _ book.history.items n item there tt);
        rise = subst PlacesRise (sym (ap evaluations_in more ∙ evaluations-edited to done)) so_far.rise;
      }

  -- by an evaluation
  evaluated_more : (evaluation : Evaluation) → slice_get book.history.items n ≡ Some (kinds.Evaluated evaluation) → IsDriven journals mid (kinds.Evaluated evaluation) new → AreDriven journals book (n + 1) new
  evaluated_more evaluation there made =
      let item : Item = kinds.Evaluated evaluation in
      let done : List Item = take n book.history.items in
      let more : take (n + 1) book.history.items ≡ done ++ item ∷ [] = take_next book.history.items n item there in
      let alerts : alerts_of mid.history ≡ alerts_left book.history.first done = λ k. alerts_left (so_far.first k) (so_far.items k) in
      let here : IsFounded journals book.slot (group_after book.history.first done) (alerts_left book.history.first done) evaluation =
      subst (λ (slot : ℕ). IsFounded journals slot (group_after book.history.first done) (alerts_left book.history.first done) evaluation) so_far.slot
      (subst (λ (group : Group). IsFounded journals mid.slot group (alerts_left book.history.first done) evaluation) so_far.group
      (subst (λ (alerts : List (List Alert)). IsFounded journals mid.slot mid.history.group alerts evaluation) alerts made.founded)) in
      record {
        first = ap (λ (h : History (List Partial)). h.first) made.history ∙ so_far.first;
        items = ap (λ (h : History (List Partial)). h.items) made.history ∙ ap (λ (items : List Item). items ++ item ∷ []) so_far.items ∙ sym more;
        group = ap (λ (h : History (List Partial)). h.group) made.history ∙ so_far.group ∙ sym (group-evaluated evaluation book.history.first done) ∙ ap (group_after book.history.first) (sym more);
        evaluations = ap (λ (h : History (List Partial)). h.evaluations) made.history ∙ ap (λ (evaluations : List Evaluation). evaluations ++ evaluation ∷ []) so_far.evaluations ∙ sym (evaluations-evaluated evaluation done) ∙ ap evaluations_in (sym more);
        closed = ap (λ (h : History (List Partial)). h.opened) made.history;
        shards = made.shards ∙ so_far.shards;
        slot = made.slot ∙ so_far.slot;
        founded = below_more (IsFoundedAt journals book) n so_far.founded (holds_there _ book.history.items n item there here);
        rise = subst PlacesRise (sym (ap evaluations_in more ∙ evaluations-evaluated evaluation done)) (rise_more (evaluations_in done) evaluation so_far.rise (subst (λ (evaluations : List Evaluation). IsAfterAll evaluations evaluation) so_far.evaluations made.later));
      }

  -- by an item more
  pub driven_more : (item : Item) → slice_get book.history.items n ≡ Some item → IsDriven journals mid item new → AreDriven journals book (n + 1) new
  driven_more (kinds.Edited to) there made = edited_more to there made
  driven_more (kinds.Evaluated evaluation) there made = evaluated_more evaluation there made

  -- by all of them
  pub driven_all : slice_get book.history.items n ≡ None → IsAudited journals book
  driven_all none =
      let past : length book.history.items ≤ n = ended book.history.items n none in (
        λ k. at k (cases_lt k n) past,
        subst (λ (items : List Item). PlacesRise (evaluations_in items)) (take_all n book.history.items past) so_far.rise,
      )
    where
      at : (k : ℕ) → (k < n) ⊎ (n ≤ k) → length book.history.items ≤ n → IsFoundedAt journals book k
      at k (inl below) past = so_far.founded k below
      at k (inr above) past = holds_past _ book.history.items k (omega (arith, above, past))
