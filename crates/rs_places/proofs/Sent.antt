-- Seats that gates share, and gates, may cross threads, each in one step. They have seats, which read a catalogue of a recursive type.
use denote.RattleType.{RattleType}
use denote.Enum.Declared as enum
use denote.Param.Send.{IsSend, IsSync, enum_send, recorded_send, recorded_sync, struct_send, struct_sync, view_send}
use denote.Struct.Declared.{shape}
use Rattle.core.proofs.sync.Sent.{Mutex-send, Mutex-sync}
use Rattle.core.specs.contracts.sync.Mutex as Mutex
use Rattle.rs_intake_line.proofs.intake.Intake.TheSendSync as intake
use Rattle.rs_intake_line.proofs.line.SeatLine.TheSendSync as line
use Rattle.rs_intake_line.specs.contracts.intake.Intake as Intake
use Rattle.rs_intake_line.specs.declared.name.LineName as LineName
use Rattle.rs_version.proofs.Sent.{seat_send, u64_send}
use Rattle.rs_version.proofs.receipt.Told.TheSendSync as told
use Rattle.rs_version.specs.contracts.seat.Seat as Seat
use Rattle.rs_version.specs.declared.history.StoreName as StoreName
use Rattle.std.proofs.Crossing.{Arc-send, Vec-send, Vec-sync}
use Rattle.rs_places.specs.contracts.seats.Reads as Reads
use Rattle.rs_places.specs.contracts.seats.Seats as Seats
use Rattle.rs_places.specs.contracts.shared_gate.SharedGate as Gate
use Rattle.rs_places.specs.contracts.shared_gate.SharedGate.TheInside as InGate

module _ (N : RattleType) (h : StoreName.Ghosts N.Denot) where
  seats_send : IsSend (Seats.the_row N h)
  seats_send = recorded_send (Seats.the_field N h).row _ _ (Seats.the_type N h).to_one (struct_send (shape (Seats.the_type N h)) (Vec-send (Mutex.the_row (Seat.the_row N h)) (Mutex-send (Seat.the_row N h) (seat_send N h)), tt))

  seats_sync : IsSync (Seats.the_row N h)
  seats_sync = recorded_sync (Seats.the_field N h).row _ _ (Seats.the_type N h).to_one (struct_sync (shape (Seats.the_type N h)) (Vec-sync (Mutex.the_row (Seat.the_row N h)) (Mutex-sync (Seat.the_row N h) (seat_send N h)), tt))

  reads_send : IsSend (Reads.the_field N h).row
  reads_send = enum_send (enum.shape (Reads.the_type N h)) ((seat_send N h, tt), ((Arc-send (Seats.the_row N h) seats_send seats_sync, (u64_send, tt)), tt))

pub gate_send : (N R : RattleType) (g : LineName.Ghosts N.Denot) (h : StoreName.Ghosts N.Denot) → IsSend R → IsSend (Gate.the_row N R g h)
gate_send N R g h s = view_send (InGate.the_row N R g h) _ _ _ _
    (recorded_send (InGate.the_field N R g h).row _ _ (InGate.the_type N R g h).to_one (struct_send (shape (InGate.the_type N R g h)) (
      s,
      (Arc-send (Intake.the_row N) (intake.the_send N) (intake.the_sync N), (told.the_send N h, (reads_send N h, (line.the_send N g h, tt)))),
    )))
