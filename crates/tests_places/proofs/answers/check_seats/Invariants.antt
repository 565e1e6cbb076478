use Rattle.tests_places.proofs.answers.check_seats.Given as goal

-- the store and the queue that were just made
abbrev pub ghosts-check_shared_gates-N-StoreName : goal.ghosts-check_shared_gates-N-StoreName
ghosts-check_shared_gates-N-StoreName g a = record { history = a.blank.history; limit = a.blank.limit }

abbrev pub ghosts-check_shared_gates-N-LineName : goal.ghosts-check_shared_gates-N-LineName
ghosts-check_shared_gates-N-LineName g a = record { queue = a.queue.name; places = a.queue.places }
