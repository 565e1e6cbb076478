-- What is left of a text behind some of its levels.
use Rattle.std.specs.Prelude.{ℕ, nat_le, if◌then◌else◌, List, [], length, drop}
use Rattle.rs_topic.specs.Topics.{levels}

-- the levels of a text from a byte on; none past its end
abbrev pub levels_from : ℕ → List ℕ → List (List ℕ)
levels_from at text = if nat_le at (length text) then levels (drop at text) else []
