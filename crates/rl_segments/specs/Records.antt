-- What each record in memory has: its numbers have eight bytes, its moments are no later than the greatest, and its texts are UTF-8.
use Rattle.std.specs.Prelude.{ℕ, ◌<◌, ◌≤◌, ◌^◌, IsTrue, List, length}
use Rattle.std.specs.FinMap.{entries, len}
use Rattle.std.specs.List.{AllByRecursion}
use Rattle.std.specs.Str.{is_utf8}
use Rattle.rl_labels.specs.LabelSet.{LabelSet, Pair, labels_of}
use Rattle.rl_labels.specs.Quantity.{greatest_moment}
use Rattle.rl_labels.specs.declared.entry.Entry.{Entry}
use Rattle.rl_query.specs.declared.filter.Sieve.{Sieve}
use Rattle.rl_query.specs.declared.query.Term.{Term}
use Rattle.rl_aggregate.specs.declared.partial.Partial.{Partial}
use Rattle.rl_aggregate.specs.declared.volume.Volume.{Volume}
use Rattle.rl_deletes.specs.declared.deletion.Deletion.{Deletion}
use Rattle.rl_records.specs.Prints.{sieve_print, term_print}
use Rattle.rl_records.specs.declared.record.Record.{Record}
use Rattle.rl_records.specs.declared.step.ShardReply.{ShardReply}
use Rattle.rl_records.specs.declared.step.ShardReply.TheVariants as replies
use Rattle.rl_records.specs.declared.step.ShardStep.{ShardStep}
use Rattle.rl_records.specs.declared.step.ShardStep.TheVariants as steps

abbrev pub IsNumber : ℕ → Type 0
IsNumber n = n < 2 ^ 64

abbrev pub IsMoment : ℕ → Type 0
IsMoment t = t ≤ greatest_moment

abbrev pub IsText : List ℕ → Type 0
IsText text = IsTrue (is_utf8 text)

-- a label whose name and value are texts
abbrev pub IsTextual : Pair → Type 0
IsTextual pair = IsText pair.0 × IsText pair.1

abbrev pub AreTextual : LabelSet → Type 0
AreTextual labels = AllByRecursion IsTextual (labels_of labels)

abbrev pub IsEntry : Entry → Type 0
IsEntry entry = AreTextual entry.labels × IsMoment entry.timestamp × IsText entry.line

abbrev pub IsDeletion : Deletion Sieve → Type 0
IsDeletion deletion = IsNumber deletion.id × IsText (sieve_print deletion.selector) × IsMoment deletion.start × IsMoment deletion.end × IsMoment deletion.created

abbrev pub AreTerms : List Term → Type 0
AreTerms terms = IsNumber (length terms) × AllByRecursion (λ term. IsText (term_print term)) terms

abbrev pub IsStep : ShardStep → Type 0
IsStep (steps.Push entry) = IsEntry entry
IsStep steps.Cut = Unit {0}
IsStep steps.Flush = Unit {0}
IsStep (steps.Delete deletion) = IsDeletion deletion
IsStep (steps.Cancel id) = IsNumber id
IsStep (steps.Process id now) = IsNumber id × IsMoment now
IsStep (steps.Retain now) = IsMoment now
IsStep (steps.Collect slot terms t) = IsNumber slot × AreTerms terms × IsMoment t

abbrev pub IsTotal : LabelSet × Volume → Type 0
IsTotal total = AreTextual total.0 × IsNumber total.1.count × IsNumber total.1.bytes

abbrev pub IsPartial : Partial → Type 0
IsPartial partial = IsNumber partial.errors × IsNumber (len partial.totals) × AllByRecursion IsTotal (entries partial.totals)

abbrev pub IsReply : ShardReply → Type 0
IsReply (replies.Expired horizon) = IsMoment horizon
IsReply (replies.TooFarBehind newest) = IsMoment newest
IsReply (replies.Collected partials) = IsNumber (length partials) × AllByRecursion IsPartial partials
IsReply reply = Unit {0}

abbrev pub IsInMemory : Record → Type 0
IsInMemory it = IsStep it.step × IsReply it.reply
