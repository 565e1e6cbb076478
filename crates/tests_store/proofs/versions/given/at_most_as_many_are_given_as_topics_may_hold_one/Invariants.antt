use Rattle.tests_store.proofs.versions.given.at_most_as_many_are_given_as_topics_may_hold_one.Given as goal

-- the store that was just made
abbrev pub ghosts-begun : goal.ghosts-begun
ghosts-begun g a = record { history = a.blank.history; limit = a.blank.limit }
