-- What stands at a key as an array of tables.
use Rattle.std.proofs.Common.{◌≡◌, true, false, Option, None, Some, is_some, refl}
use Rattle.std.specs.Option.{option_map_or}
use Rattle.toml.specs.Data.{as_array, Data, array, string, integer, float, boolean, datetime, table}
use Rattle.rl_rules.specs.Document.{are_tables, items_in}

-- what stands at a key is an array of tables, where its items are tables and nothing but an array stands there
pub tables_there : (found : Option Data) → option_map_or (λ value. is_some (as_array value)) found true ≡ true → are_tables (items_in found) ≡ true → option_map_or (λ value. option_map_or are_tables (as_array value) false) found true ≡ true
tables_there None is all = refl
tables_there (Some (array items)) is all = all
tables_there (Some (string text)) is all = cc
tables_there (Some (integer number)) is all = cc
tables_there (Some (float number)) is all = cc
tables_there (Some (boolean is_it)) is all = cc
tables_there (Some (datetime moment)) is all = cc
tables_there (Some (table _)) is all = cc
