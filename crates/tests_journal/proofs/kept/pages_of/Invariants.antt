use Rattle.tests_journal.proofs.kept.pages_of.Given as goal

-- the store that was just made
abbrev pub ghosts-files_after : goal.ghosts-files_after
ghosts-files_after g a = record { history = a.blank.history; limit = a.blank.limit }
