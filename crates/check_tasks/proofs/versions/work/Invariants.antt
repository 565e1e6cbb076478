use Rattle.check_tasks.proofs.versions.work.Given as goal

-- the store that was just made
abbrev pub ghosts-tried : goal.ghosts-tried
ghosts-tried g a = record { history = a.blank.history; limit = a.blank.limit }
