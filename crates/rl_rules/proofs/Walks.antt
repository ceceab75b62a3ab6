-- Reading the tables of an array one after the other, as a loop does.
use Rattle.std.proofs.Common.{◌≡◌, inl, inr, ℕ, ◌+◌, ◌<◌, List, [], ◌∷◌, ◌++◌, map, length, get_or, drop, Some, None, Result, Ok, Err, is_ok, refl, sym, ap, subst, ◌∙◌, arith, append_assoc}
use Rattle.std.specs.Option.{option_map_or}
use Rattle.std.proofs.lemmas.List.{drop_more, map_push, length_push}
use Rattle.toml.specs.Data.{Members, as_table}
use Rattle.toml.specs.View.{view, items_view}
use Rattle.toml.specs.declared.value.Value.{Value}
use Rattle.rl_plain.specs.laws.Reading.{first_then, both, with_nothing}
use Rattle.rl_plain.specs.declared.refusal.OrMemory.{OrMemory}
use Rattle.rl_plain.specs.declared.refusal.OrMemory.TheVariants.{Fault, Memory}
use Rattle.rl_rules.specs.declared.fault.RulesFault.{RulesFault}
use Rattle.rl_rules.specs.Answering.{OneLacksRoom, IsRefused}
use Rattle.rl_rules.specs.Document.{tables_of, each_from}

-- what refuses a part refuses the whole
pub refused_with : {Y Z : Type 0} (e : OrMemory RulesFault) (part : Result Y RulesFault) (whole : Result Z RulesFault) (Lacks LacksToo : RulesFault → Type 0) → ((fault : RulesFault) → part ≡ Err fault → whole ≡ Err fault) → ((fault : RulesFault) → Lacks fault → LacksToo fault)
    → IsRefused e part Lacks → IsRefused e whole LacksToo
refused_with Memory part whole Lacks LacksToo fails lacks here = tt
refused_with (Fault fault) part whole Lacks LacksToo fails lacks (inl is) = inl (fails fault is)
refused_with (Fault fault) part whole Lacks LacksToo fails lacks (inr lack) = inr (lacks fault lack)

-- the tables from an index on
abbrev pub tables_from : ℕ → List Value → List Members
tables_from i vs = tables_of (items_view (drop i vs))

tables_next : (vs : List Value) (i : ℕ) (v : Value) → i < length vs → v ≡ get_or vs i v → tables_from i vs ≡ option_map_or (λ t. t ∷ tables_from (i + 1) vs) (as_table (view v)) (tables_from (i + 1) vs)
tables_next vs i v within is =
    ap (λ ws. tables_of (items_view ws)) (drop_more vs i v within)
    ∙ ap (λ w. option_map_or (λ t. t ∷ tables_from (i + 1) vs) (as_table (view w)) (tables_from (i + 1) vs)) (sym is)

module _ {A X : Type 0} (read : ℕ → Members → Result A RulesFault) (form : X → A) where
  -- tables that follow others are read after them
  each_after : (n m : ℕ) (ts us : List Members) → m ≡ n + length ts → each_from read n (ts ++ us) ≡ both (each_from read n ts) (each_from read m us)
  each_after n m [] us position = sym (with_nothing (each_from read n us)) ∙ ap (λ k. both (Ok []) (each_from read k us)) (omega (arith, position))
  each_after n m (t ∷ ts) us position = ap (first_then (read n t)) (each_after (n + 1) m ts us (omega (arith, position))) ∙ regroup (read n t) (each_from read (n + 1) ts) (each_from read m us)
    where
      regroup : (first : Result A RulesFault) (others rest : Result (List A) RulesFault) → first_then first (both others rest) ≡ both (first_then first others) rest
      regroup (Ok x) (Ok xs) (Ok ys) = refl
      regroup (Ok x) (Ok xs) (Err e) = refl
      regroup (Ok x) (Err e) rest = refl
      regroup (Err e) others rest = refl

  -- some tables were read, and those from an index on are left
  pub record AreRead (so_far : List X) (i : ℕ) (vs : List Value) : Type 0 where
    pub before : List Members
    pub are : tables_of (items_view vs) ≡ before ++ tables_from i vs
    pub count : length so_far ≡ length before
    pub are_read : each_from read 0 before ≡ Ok (map form so_far)

  -- a turn of the loop at a table, which is read
  pub one_more_read : (old new : List X) (x : X) (i : ℕ) (vs : List Value) (v : Value) (t : Members) → i < length vs → v ≡ get_or vs i v → Some t ≡ as_table (view v) → read (length old) t ≡ Ok (form x) → new ≡ old ++ x ∷ [] → AreRead old i vs → AreRead new (i + 1) vs
  one_more_read old new x i vs v t within is table here grows so_far =
      let next : tables_from i vs ≡ t ∷ tables_from (i + 1) vs = tables_next vs i v within is ∙ ap (λ o. option_map_or (λ m. m ∷ tables_from (i + 1) vs) o (tables_from (i + 1) vs)) (sym table) in
      let read_now = each_after 0 (length old) so_far.before (t ∷ []) (omega (arith, so_far.count)) ∙ ap (λ r. both r (first_then (read (length old) t) (Ok []))) so_far.are_read ∙ ap (λ r. both (Ok (map form old)) (first_then r (Ok []))) here in
      record {
        before = so_far.before ++ t ∷ [];
        are = so_far.are ∙ ap (λ ts. so_far.before ++ ts) next ∙ sym (append_assoc so_far.before (t ∷ []) (tables_from (i + 1) vs));
        count = ap length grows ∙ length_push old x ∙ ap (λ n. n + 1) so_far.count ∙ sym (length_push so_far.before t);
        are_read = read_now ∙ ap (λ xs. Ok xs) (sym (ap (map form) grows ∙ map_push form old x));
      }

  -- a turn at another value, which is passed over
  pub one_passed : (old new : List X) (i : ℕ) (vs : List Value) (v : Value) → i < length vs → v ≡ get_or vs i v → None ≡ as_table (view v) → new ≡ old → AreRead old i vs → AreRead new (i + 1) vs
  one_passed old new i vs v within is none same so_far =
      let next : tables_from i vs ≡ tables_from (i + 1) vs = tables_next vs i v within is ∙ ap (λ o. option_map_or (λ m. m ∷ tables_from (i + 1) vs) o (tables_from (i + 1) vs)) (sym none) in
      rw same (record { before = so_far.before; are = so_far.are ∙ ap (λ ts. so_far.before ++ ts) next; count = so_far.count; are_read = so_far.are_read })

  -- a table is refused
  pub refused : (Lacks : ℕ → Members → RulesFault → Type 0) (e : OrMemory RulesFault) (old : List X) (i n : ℕ) (vs : List Value) (v : Value) (t : Members) → i < length vs → v ≡ get_or vs i v → Some t ≡ as_table (view v) → n ≡ length old → IsRefused e (read n t) (Lacks n t)
      → AreRead old i vs → IsRefused e (each_from read 0 (tables_of (items_view vs))) (OneLacksRoom read Lacks (tables_of (items_view vs)))
  refused Lacks e old i n vs v t within is table count here so_far =
      let next : tables_from i vs ≡ t ∷ tables_from (i + 1) vs = tables_next vs i v within is ∙ ap (λ o. option_map_or (λ m. m ∷ tables_from (i + 1) vs) o (tables_from (i + 1) vs)) (sym table) in
      let all : tables_of (items_view vs) ≡ so_far.before ++ t ∷ tables_from (i + 1) vs = so_far.are ∙ ap (λ ts. so_far.before ++ ts) next in
      let following = each_from read (n + 1) (tables_from (i + 1) vs) in
      refused_with e (read n t) _ (Lacks n t) _
      (λ fault fails. rw all (each_after 0 n so_far.before (t ∷ tables_from (i + 1) vs) (omega (arith, count, so_far.count)) ∙ ap (λ r. both r (first_then (read n t) following)) so_far.are_read ∙ ap (λ r. both (Ok (map form old)) (first_then r following)) fails))
      (λ fault lacks. record { before = so_far.before; table = t; following = tables_from (i + 1) vs; are = all; are_read = ap is_ok so_far.are_read; lacks = subst (λ k. Lacks k t fault) (count ∙ so_far.count) lacks })
      here
