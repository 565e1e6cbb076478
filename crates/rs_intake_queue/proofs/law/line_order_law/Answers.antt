use Rattle.rs_intake_queue.proofs.Queues.{in_order, end_is_last}
use Rattle.rs_intake_queue.proofs.law.line_order_law.Goals as goal

pub returns : goal.returns
returns _ = record { order = in_order; last = end_is_last }
