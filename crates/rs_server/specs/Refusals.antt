-- What a gate refused, by cause.
use Rattle.std.specs.Prelude.{Option, None, Some, Result, Ok, Err}
use Rattle.rs_message.specs.declared.fault.SubmitFault.{SubmitFault}
use Rattle.rs_message.specs.declared.fault.SubmitFault.TheVariants.{Full, NoMemory, Open, Strange, Closed}
use Rattle.rs_server.specs.Counts.{next_count}
use Rattle.rs_server.specs.declared.counted_gate.CountedGate.{CountedGate}
use Rattle.rs_server.specs.declared.counted_gate.Refusals.{Refusals}

abbrev pub gate_of : {G : Type 0} → CountedGate G → G
gate_of it = it.inner

abbrev pub refusals_of : {G : Type 0} → CountedGate G → Refusals
refusals_of it = it.refusals

-- nothing was refused
abbrev pub none_refused : Refusals
none_refused = record { full = 0; no_memory = 0; unknown = 0; filters_no_memory = 0; filters_too_long = 0 }

-- the counts after this answer to a change
abbrev pub with_change : {A : Type 0} → Result A SubmitFault → Refusals → Refusals
with_change (Ok _) r = r
with_change (Err Full) r = record r { full = next_count r.full }
with_change (Err NoMemory) r = record r { no_memory = next_count r.no_memory }
with_change (Err Open) r = record r { unknown = next_count r.unknown }
with_change (Err Strange) r = record r { unknown = next_count r.unknown }
with_change (Err Closed) r = record r { unknown = next_count r.unknown }

-- the counts after this answer to a filter: none if there are too many messages, an error if memory was refused
abbrev pub with_filter : {A E : Type 0} → Result (Option A) E → Refusals → Refusals
with_filter (Ok (Some _)) r = r
with_filter (Ok None) r = record r { filters_too_long = next_count r.filters_too_long }
with_filter (Err _) r = record r { filters_no_memory = next_count r.filters_no_memory }
