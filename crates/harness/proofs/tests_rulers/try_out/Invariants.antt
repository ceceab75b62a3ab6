use Rattle.harness.proofs.tests_rulers.try_out.Given as goal

abbrev pub ghosts-tried-L-Ledger : goal.ghosts-tried-L-Ledger
ghosts-tried-L-Ledger g a = record { name = a.blanks.0.name; parts = a.blanks.0.parts }

abbrev pub ghosts-tried-P-Ledger : goal.ghosts-tried-P-Ledger
ghosts-tried-P-Ledger g a = record { name = a.blanks.1.name; parts = a.blanks.1.parts }

abbrev pub ghosts-tried-L-Crew : goal.ghosts-tried-L-Crew
ghosts-tried-L-Crew g a = record { all = a.blanks.0.parts }

abbrev pub ghosts-tried-P-Crew : goal.ghosts-tried-P-Crew
ghosts-tried-P-Crew g a = record { all = a.blanks.1.parts }
