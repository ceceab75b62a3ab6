-- Items that are read of tables, one after another.
use Rattle.std.proofs.Common.{◌≡◌, ◌&&◌, List, [], ◌∷◌, ◌++◌, true, Option, None, Some, is_some, ap, sym, subst, refl, ◌∙◌, append_assoc}
use Rattle.std.specs.List.{AllZip}
use Rattle.std.specs.Option.{option_map_or}
use Rattle.std.proofs.lemmas.List.{append-nil}
use Rattle.toml.specs.Data.{as_table, Members}
use Rattle.toml.specs.View.{view, items_view}
use Rattle.toml.specs.declared.value.Value.{Value}
use Rattle.rl_rules.specs.Document.{are_tables, tables_of}
use Rattle.rl_rule_tests.specs.Document.{AreAppended}

-- the items so far, of which those of the tables that are left make those of all
pub record SoFar {T : Type 0} (Is : Members → T → Type 0) (tables left : List Members) (old new : List T) : Type 0 where
  pub more : List T
  pub all : new ≡ old ++ more
  pub on : (rest : List T) → AllZip Is left rest → AllZip Is tables (more ++ rest)

pub so_far_none : {T : Type 0} (Is : Members → T → Type 0) (tables : List Members) (old : List T) → SoFar Is tables tables old old
so_far_none Is tables old = record { more = []; all = sym (append-nil old); on = λ rest are. are }

pub so_far_next : {T : Type 0} (Is : Members → T → Type 0) (tables left next : List Members) (table : Members) (old new newer : List T) (item : T)
    → SoFar Is tables left old new → left ≡ table ∷ next → Is table item → newer ≡ new ++ item ∷ [] → SoFar Is tables next old newer
so_far_next Is tables left next table old new newer item so_far first is grown = record {
  more = so_far.more ++ item ∷ [];
  all = grown ∙ ap (λ items. items ++ item ∷ []) so_far.all ∙ append_assoc old so_far.more (item ∷ []);
  on = λ rest are. subst (AllZip Is tables) (sym (append_assoc so_far.more (item ∷ []) rest)) (so_far.on (item ∷ rest) (subst (λ tables. AllZip Is tables (item ∷ rest)) (sym first) (is, are)));
}

pub so_far_all : {T : Type 0} (Is : Members → T → Type 0) (tables : List Members) (old new : List T) → SoFar Is tables [] old new → AreAppended Is tables old new
so_far_all Is tables old new so_far = (so_far.more, so_far.all, subst (AllZip Is tables) (append-nil so_far.more) (so_far.on [] tt))

-- a table in front
pub tables_next : (vs next : List Value) (v : Value) (table : Members) → vs ≡ v ∷ next → as_table (view v) ≡ Some table → tables_of (items_view vs) ≡ table ∷ tables_of (items_view next)
tables_next vs next v table first is =
    ap (λ values. tables_of (items_view values)) first ∙ ap (λ found. option_map_or (λ one. one ∷ tables_of (items_view next)) found (tables_of (items_view next))) is

-- a table that is there
pub some_table : (found : Option Members) → is_some found ≡ true → (table : Members) × found ≡ Some table
some_table None is = cc
some_table (Some table) is = (table, refl)

-- the tables of values whose first is one are the same test as those that follow
pub tables_tested : (vs next : List Value) (v : Value) → vs ≡ v ∷ next → is_some (as_table (view v)) ≡ true → are_tables (items_view vs) ≡ are_tables (items_view next)
tables_tested vs next v first is = ap (λ values. are_tables (items_view values)) first ∙ ap (λ b. b && are_tables (items_view next)) is
