-- The shares so far are joined, and then those of the passes so far.
use Rattle.std.proofs.Common.{◌≡◌, ◌+◌, ◌≤◌, length}
use Rattle.std.specs.List.{AllByRecursion, sum_by}
use Rattle.rl_workers.proofs.closing.join.Given as goal

abbrev pub invariant-loop-share : goal.invariant-loop-share
invariant-loop-share g l = record {
  one : AllByRecursion (λ share. share.parts ≡ 1) l.share-iterator.rest.items;
  parts : l.no_record.parts + length l.share-iterator.rest.items ≡ length l.fn.shares.items;
  amount : l.no_record.amount + sum_by (λ share. share.amount) l.share-iterator.rest.items ≡ sum_by (λ share. share.amount) l.fn.shares.items;
}

abbrev pub invariant-loop-pass : goal.invariant-loop-pass
invariant-loop-pass g l = record {
  record_parts : l.no_record.parts ≡ length l.fn.shares.items;
  record_amount : l.no_record.amount ≡ sum_by (λ share. share.amount) l.fn.shares.items;
  parts : l.no_receipt.parts + length l.pass-iterator.rest.items ≡ length l.fn.passes.items;
  apart : l.no_receipt.parts ≤ g.P.Ledger.parts;
  amount : l.no_receipt.amount + sum_by (λ pass. length pass.receipts) l.pass-iterator.rest.items ≡ sum_by (λ pass. length pass.receipts) l.fn.passes.items;
}
