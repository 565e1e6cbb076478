-- The numbers of a snapshot.
use Rattle.std.specs.Prelude.{ℕ, ◌-◌, Bool, true, false, Option, Some, None, slice_index, fold, take}
use Rattle.rs_metrics.specs.declared.counter.Counter.{Counter}
use Rattle.rs_metrics.specs.declared.counter.Counter.TheVariants.{Opened, Sent}
use Rattle.rs_metrics.specs.declared.snapshot.JournalNumbers.{JournalNumbers}
use Rattle.rs_metrics.specs.declared.snapshot.JournalPart.{JournalPart}
use Rattle.rs_metrics.specs.declared.snapshot.JournalPart.TheVariants.{Commits, Micros, Written, Size, Refusing}
use Rattle.rs_metrics.specs.declared.snapshot.Snapshot.{Snapshot}
use Rattle.rs_metrics.specs.declared.snapshot.Source.{Source}
use Rattle.rs_metrics.specs.declared.snapshot.Source.TheVariants as From
use Rattle.rs_metrics.specs.Counters.{index_of}

abbrev pub count_of : Snapshot → Counter → ℕ
count_of s counter = slice_index s.counts (index_of counter)

-- connections that began, less those that ended in each of the eight ways
abbrev pub clients_of : Snapshot → ℕ
clients_of s = fold (λ clients ended. clients - ended) (count_of s Opened) (take 8 s.counts)

abbrev pub flag_of : Bool → ℕ
flag_of true = 1
flag_of false = 0

abbrev pub part_of : JournalNumbers → JournalPart → ℕ
part_of j Commits = j.commits
part_of j Micros = j.micros
part_of j Written = j.written
part_of j Size = j.size
part_of j Refusing = flag_of j.is_refusing

abbrev pub journal_number : Option JournalNumbers → JournalPart → Option ℕ
journal_number (Some journal) part = Some (part_of journal part)
journal_number None part = None

-- the number that comes from there, if there is one
abbrev pub number_of : Snapshot → Source → Option ℕ
number_of s (From.Counter counter) = Some (count_of s counter)
number_of s From.Clients = Some (clients_of s)
number_of s From.ClientLimit = Some s.limits.clients
number_of s From.Topics = Some s.topics
number_of s From.TopicLimit = Some s.limits.topics
number_of s From.Bytes = Some s.bytes
number_of s From.ByteLimit = s.limits.bytes
number_of s From.Version = Some s.version
number_of s From.Waiting = Some (count_of s Sent - s.taken)
number_of s From.Taking = Some (flag_of s.is_taking)
number_of s From.Resident = s.resident
number_of s From.Started = Some s.started
number_of s (From.Journal part) = journal_number s.journal part
