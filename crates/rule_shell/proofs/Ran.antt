-- What callers did before a ruler was closed, and its close, are a run.
use Rattle.std.proofs.Common.{◌≡◌, ℕ, List, [], Bool, Result, Ok, Err, IfOk, length}
use Rattle.std.specs.List.{AllByRecursion}
use Rattle.rl_session.specs.Engine.{Listed}
use Rattle.rl_session.specs.Printer.{Printing}
use Rattle.rl_session.specs.declared.session.RunError.{RunError}
use Rattle.rl_session.specs.declared.session.Status.{Status}
use Rattle.rl_workers.specs.Receipts.{PassView}
use Rattle.rule_shell.specs.Runs.{Ends, IsRun, RunsWith}

pub ran : (pumps : Bool) (shards callers : ℕ) (groups : List Listed) (commands : List ℕ) (before middle after : Printing) (passes lefts : List PassView) (refused : Result Bool RunError) (result : Result Status RunError)
    → length passes ≡ callers → AllByRecursion (λ pass. (pass.receipts ≡ []) × (pass.notes ≡ [])) passes
    → RunsWith pumps shards groups passes commands before refused middle lefts → Ends lefts refused middle result after
    → IfOk result (IsRun pumps shards callers groups commands before after)
ran pumps shards callers groups commands before middle after passes lefts refused (Err error) each fresh runs ends = tt
ran pumps shards callers groups commands before middle after passes lefts (Ok refused) (Ok status) each fresh runs ends = record {
  passes = passes;
  each = each;
  fresh = fresh;
  refused = refused;
  middle = middle;
  lefts = lefts;
  runs = runs;
  ends = ends;
}
ran pumps shards callers groups commands before middle after passes lefts (Err error) (Ok status) each fresh runs ends = absurd (let is : Result.Ok status ≡ Err error = ends.0 in cc)
