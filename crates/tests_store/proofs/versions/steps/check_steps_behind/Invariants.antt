use Rattle.tests_store.proofs.versions.steps.check_steps_behind.Given as goal

-- the store that was just made
abbrev pub ghosts-answered_by : goal.ghosts-answered_by
ghosts-answered_by g a = record { history = a.blank.history; limit = a.blank.limit }
