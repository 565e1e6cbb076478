use Rattle.tests_places.proofs.places.gates.play.Given as goal

-- the store and the queue that were just made
abbrev pub ghosts-play_named-N-StoreName : goal.ghosts-play_named-N-StoreName
ghosts-play_named-N-StoreName g a = record { history = a.blank.history; limit = a.blank.limit }

abbrev pub ghosts-play_named-N-LineName : goal.ghosts-play_named-N-LineName
ghosts-play_named-N-LineName g a = record { queue = a.queue.name; places = a.queue.places }
