use Rattle.check_tasks.proofs.given.work.Given as goal

-- the store that was just made
abbrev pub ghosts-opens : goal.ghosts-opens
ghosts-opens g a = record { history = a.blank.history; limit = a.blank.limit }
