use Rattle.tests_places.proofs.places.ending.cut_off.Given as goal

-- the store and the queue that were just made
abbrev pub ghosts-cut_off_named-N-StoreName : goal.ghosts-cut_off_named-N-StoreName
ghosts-cut_off_named-N-StoreName g a = record { history = a.blank.history; limit = a.blank.limit }

abbrev pub ghosts-cut_off_named-N-LineName : goal.ghosts-cut_off_named-N-LineName
ghosts-cut_off_named-N-LineName g a = record { queue = a.queue.name; places = a.queue.places }
