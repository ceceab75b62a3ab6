-- Tests of a document's tables, item by item and key by key.
use Rattle.std.proofs.Common.{◌≡◌, Bool, true, ◌&&◌, ◌||◌, List, [], ◌∷◌, map, None, Some, is_some, Option, refl, ap, string_bytes}
use Rattle.std.specs.Option.{option_map_or}
use Rattle.std.specs.List.{list_all, list_any}
use Rattle.std.specs.Map.{keys_of, values_of}
use Rattle.toml.specs.Data.{as_str, as_table, Members}
use Rattle.toml.specs.View.{view, items_view, members_view}
use Rattle.toml.specs.declared.value.Value.{Value}
use Rattle.toml.proofs.Views.{Entry}
use Rattle.rl_labels.specs.Name.{is_text}
use Rattle.rl_rules.specs.declared.shape.Key.{Key}
use Rattle.rl_rules.specs.Forms.{key_form}
use Rattle.rl_rules.specs.Document.{tables_of, are_tables, is_known}
use Rattle.rl_rules.specs.Values.{are_texts}

-- an array has tables alone where each item is one
pub tables_items : (vs : List Value) → are_tables (items_view vs) ≡ list_all (λ v. is_some (as_table (view v))) vs
tables_items [] = refl
tables_items (v ∷ vs) = ap (λ b. is_some (as_table (view v)) && b) (tables_items vs)

-- the tables of an array pass a test where each item passes that is one
pub tables_of_items : (test : Members → Bool) (vs : List Value) → list_all test (tables_of (items_view vs)) ≡ list_all (λ v. option_map_or test (as_table (view v)) true) vs
tables_of_items test [] = refl
tables_of_items test (v ∷ vs) = one (as_table (view v)) (tables_of (items_view vs)) (tables_of_items test vs)
  where
    one : {b : Bool} (o : Option Members) (rest : List Members) → list_all test rest ≡ b → list_all test (option_map_or (λ t. t ∷ rest) o rest) ≡ (option_map_or test o true && b)
    one (Some t) rest h = ap (λ b. test t && b) h
    one None rest h = h

list_any_of_map : {A B : Type 0} (p : B → Bool) (f : A → B) (xs : List A) → list_any p (map f xs) ≡ list_any (λ x. p (f x)) xs
list_any_of_map p f [] = refl
list_any_of_map p f (x ∷ xs) = ap (λ b. p (f x) || b) (list_any_of_map p f xs)

-- a table has texts alone where each value of its map is one
pub texts_alone : (es : List Entry) → are_texts (members_view es) ≡ list_all (λ v. is_some (as_str (view v))) (values_of es)
texts_alone [] = refl
texts_alone (e ∷ es) = ap (λ b. is_some (as_str (view e.1)) && b) (texts_alone es)

-- the keys of a table are those of its map
pub known_keys : (keys : List Key) (es : List Entry) → is_known (map key_form keys) (members_view es) ≡ list_all (λ name. list_any (λ key. is_text key.0.now (string_bytes name)) keys) (keys_of es)
known_keys keys [] = refl
known_keys keys (e ∷ es) = λ i. list_any_of_map (λ key. is_text key.name (string_bytes e.0)) key_form keys i && known_keys keys es i
