-- What has no leaves.
use Rattle.std.proofs.Common.{◌≡◌, Option, Some, None, refl}
use Rattle.std.specs.Option.{option_map_or}
use Rattle.serde_json.specs.Data.{Num, null, number}
use Rattle.rl_pipeline.specs.JsonLeaves.{leaves_of}

pub number_leaves : (read : Option Num) → leaves_of (Some (option_map_or number read null)) ≡ None
number_leaves (Some n) = refl
number_leaves None = refl
