use Rattle.check_tasks.proofs.queue.worked.Given as goal

-- the store and the queue that were just made
abbrev pub ghosts-tried-N-StoreName : goal.ghosts-tried-N-StoreName
ghosts-tried-N-StoreName g a = record { history = a.blank.history; limit = a.blank.limit }

abbrev pub ghosts-tried-N-LineName : goal.ghosts-tried-N-LineName
ghosts-tried-N-LineName g a = record { queue = a.queue.name; places = a.queue.places }
