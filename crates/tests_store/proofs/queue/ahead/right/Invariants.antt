use Rattle.tests_store.proofs.queue.ahead.right.Given as goal

-- the store and the queue that were just made
abbrev pub ghosts-right_steps_of-N-StoreName : goal.ghosts-right_steps_of-N-StoreName
ghosts-right_steps_of-N-StoreName g a = record { history = a.blank.history; limit = a.blank.limit }

abbrev pub ghosts-right_steps_of-N-LineName : goal.ghosts-right_steps_of-N-LineName
ghosts-right_steps_of-N-LineName g a = record { queue = a.queue.name; places = a.queue.places }
