use Rattle.bench_timings.proofs.versions.opening.Given as goal

-- the store that was just made
abbrev pub ghosts-timed_open : goal.ghosts-timed_open
ghosts-timed_open g a = record { history = a.blank.history; limit = a.blank.limit }

-- the store that was just made
abbrev pub ghosts-refused_open : goal.ghosts-refused_open
ghosts-refused_open g a = record { history = a.blank.history; limit = a.blank.limit }
