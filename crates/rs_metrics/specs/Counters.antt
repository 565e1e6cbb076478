-- Where each counter stands among the numbers of a shard.
use Rattle.std.specs.Prelude.{ℕ, ◌+◌, ◌*◌}
use Rattle.rs_metrics.specs.declared.counter.End.{End}
use Rattle.rs_metrics.specs.declared.counter.End.TheVariants as Ends
use Rattle.rs_metrics.specs.declared.counter.Outcome.{Outcome}
use Rattle.rs_metrics.specs.declared.counter.Outcome.TheVariants as Outcomes
use Rattle.rs_metrics.specs.declared.counter.FilterOutcome.{FilterOutcome}
use Rattle.rs_metrics.specs.declared.counter.FilterOutcome.TheVariants as Filters
use Rattle.rs_metrics.specs.declared.counter.Qos.{Qos}
use Rattle.rs_metrics.specs.declared.counter.Qos.TheVariants.{AtMostOnce, AtLeastOnce, ExactlyOnce}
use Rattle.rs_metrics.specs.declared.counter.Counter.{Counter}
use Rattle.rs_metrics.specs.declared.counter.Counter.TheVariants as Counts

abbrev pub end_index : End → ℕ
end_index Ends.ClientDisconnected = 0
end_index Ends.EndOfInput = 1
end_index Ends.CutInput = 2
end_index Ends.ClosedWithCode = 3
end_index Ends.ClosedSilently = 4
end_index Ends.ReadFailed = 5
end_index Ends.WriteFailed = 6
end_index Ends.OutOfMemory = 7

abbrev pub outcome_index : Outcome → ℕ
outcome_index Outcomes.Stored = 0
outcome_index Outcomes.StoreFull = 1
outcome_index Outcomes.OutOfMemory = 2
outcome_index Outcomes.NotKnown = 3

abbrev pub filter_index : FilterOutcome → ℕ
filter_index Filters.Answered = 0
filter_index Filters.OutOfMemory = 1
filter_index Filters.TooManyMessages = 2

abbrev pub qos_level : Qos → ℕ
qos_level AtMostOnce = 0
qos_level AtLeastOnce = 1
qos_level ExactlyOnce = 2

-- the ends of connections first, their beginnings last
abbrev pub index_of : Counter → ℕ
index_of (Counts.Ended end) = end_index end
index_of (Counts.Set qos outcome) = 8 + qos_level qos * 4 + outcome_index outcome
index_of (Counts.Clear outcome) = 20 + outcome_index outcome
index_of (Counts.Filter outcome) = 24 + filter_index outcome
index_of Counts.PacketsIn = 27
index_of Counts.BytesIn = 28
index_of Counts.BytesOut = 29
index_of Counts.Replayed = 30
index_of Counts.Sent = 31
index_of Counts.PacketsOut = 32
index_of Counts.Opened = 33
