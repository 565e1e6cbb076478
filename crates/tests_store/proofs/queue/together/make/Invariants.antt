use Rattle.tests_store.proofs.queue.together.make.Given as goal

-- the store and the queue that were just made
abbrev pub ghosts-run-N-StoreName : goal.ghosts-run-N-StoreName
ghosts-run-N-StoreName g a = record { history = a.blank.history; limit = a.blank.limit }

abbrev pub ghosts-run-N-LineName : goal.ghosts-run-N-LineName
ghosts-run-N-LineName g a = record { queue = a.queue.name; places = a.queue.places }
