-- Each group so far has the sinks that are asked for.
use Rattle.std.proofs.Common.{◌≡◌, length}
use Rattle.rl_sinks.specs.contracts.sink.BoxDynSinkSendSink.TheImpl.{ghosts}
use Rattle.rule_shell.proofs.FreshSinks.{AreAsked}
use Rattle.rule_shell.proofs.run_over.OwnLists.{own-1, lawful-own-1}
use Rattle.rule_shell.proofs.run_over.Hidden.{sends-own-1}
use Rattle.rule_shell.proofs.run_over.Given as goal

abbrev pub invariant-loop : goal.invariant-loop
invariant-loop g l = (length l.sinks.items ≡ l.counter) × AreAsked (ghosts (own-1, lawful-own-1, sends-own-1)).state l.plan.sinks l.sinks.items

abbrev pub ghosts-run_session-L-Ledger : goal.ghosts-run_session-L-Ledger
ghosts-run_session-L-Ledger g a = record { name = a.blanks.0.name; parts = a.blanks.0.parts }

abbrev pub ghosts-run_session-P-Ledger : goal.ghosts-run_session-P-Ledger
ghosts-run_session-P-Ledger g a = record { name = a.blanks.1.name; parts = a.blanks.1.parts }

abbrev pub ghosts-run_session-L-Crew : goal.ghosts-run_session-L-Crew
ghosts-run_session-L-Crew g a = record { all = a.blanks.0.parts }

abbrev pub ghosts-run_session-P-Crew : goal.ghosts-run_session-P-Crew
ghosts-run_session-P-Crew g a = record { all = a.blanks.1.parts }
