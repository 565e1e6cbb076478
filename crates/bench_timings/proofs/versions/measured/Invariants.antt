use Rattle.bench_timings.proofs.versions.measured.Given as goal

-- the store that was just made
abbrev pub ghosts-timed_puts : goal.ghosts-timed_puts
ghosts-timed_puts g a = record { history = a.blank.history; limit = a.blank.limit }
