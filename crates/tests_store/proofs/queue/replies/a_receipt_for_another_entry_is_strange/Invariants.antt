use Rattle.tests_store.proofs.queue.replies.a_receipt_for_another_entry_is_strange.Given as goal

-- the store that was just made
abbrev pub ghosts-code_of_other-N-StoreName : goal.ghosts-code_of_other-N-StoreName
ghosts-code_of_other-N-StoreName g a = record { history = a.blank.history; limit = a.blank.limit }
