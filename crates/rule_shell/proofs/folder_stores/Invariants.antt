-- A store for each shard so far, over its folder.
use Rattle.std.proofs.Common.{◌≡◌, length, map}
use Rattle.rule_shell.specs.Stores.{shard_folders}
use Rattle.rule_shell.proofs.folder_stores.Given as goal

abbrev pub invariant-loop-number : goal.invariant-loop-number
invariant-loop-number l = (length l.stores.items ≡ l.number) × (map (λ store. store.inner.folder) l.stores.items ≡ shard_folders l.folder l.number)
