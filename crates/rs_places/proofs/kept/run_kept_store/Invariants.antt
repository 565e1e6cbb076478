use Rattle.rs_places.proofs.kept.run_kept_store.Given as goal

-- the store and the queue that were just made
abbrev pub ghosts-run_kept_named-N-StoreName : goal.ghosts-run_kept_named-N-StoreName
ghosts-run_kept_named-N-StoreName g a = record { history = a.blank.history; limit = a.blank.limit }

abbrev pub ghosts-run_kept_named-N-LineName : goal.ghosts-run_kept_named-N-LineName
ghosts-run_kept_named-N-LineName g a = record { queue = a.queue.name; places = a.queue.places }
