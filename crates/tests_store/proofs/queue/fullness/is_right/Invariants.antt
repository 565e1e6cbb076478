use Rattle.tests_store.proofs.queue.fullness.is_right.Given as goal

-- the store and the queue that were just made
abbrev pub ghosts-right_steps_over-N-StoreName : goal.ghosts-right_steps_over-N-StoreName
ghosts-right_steps_over-N-StoreName g a = record { history = a.blank.history; limit = a.blank.limit }

abbrev pub ghosts-right_steps_over-N-LineName : goal.ghosts-right_steps_over-N-LineName
ghosts-right_steps_over-N-LineName g a = record { queue = a.queue.name; places = a.queue.places }
