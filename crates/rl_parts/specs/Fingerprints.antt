-- Fingerprints of entries, which show that an entry is not in a part that a store has.
use Rattle.std.specs.Prelude.{ℕ, List, map}
use Rattle.std.specs.Hash as fed
use Rattle.std.specs.Hash.FoldHasher as folding
use Rattle.std.specs.List.{fold}
use Rattle.std.specs.List.Sorted.{IsPermutation, IsSorted}
use Rattle.std.specs.Ordering.{nat_cmp}
use Rattle.rl_labels.specs.declared.entry.Entry.{Entry}
use Rattle.rl_chunks.specs.EntryLines.{line_of}
use Rattle.rl_chunks.specs.declared.line.Line.{Line}

-- a hash of the timestamp and of the text
abbrev pub fingerprint : Line → ℕ
fingerprint line = folding.finish (folding.write (fold folding.write folding.initial (fed.u64 line.timestamp)) line.text)

-- the fingerprint of each entry
abbrev pub fingerprints_of : List Entry → List ℕ
fingerprints_of entries = map (λ entry. fingerprint (line_of entry)) entries

-- the fingerprints of all entries, in rising order
pub record AreFingerprints (entries : List Entry) (fingerprints : List ℕ) : Type 0 where
  pub all : IsPermutation (fingerprints_of entries) fingerprints
  pub rising : IsSorted nat_cmp fingerprints
