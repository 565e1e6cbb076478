-- Which queue a value belongs to.
use Rattle.std.specs.Prelude.{ℕ, ◌≡◌, []}
use Rattle.atomic_table.specs.declared.badge.Badge.{Badge}
use Rattle.atomic_table.specs.Seated.{TableId}
use Rattle.crossbeam_channel.specs.declared.flavors.array.Key.{Key}
use Rattle.crossbeam_channel.specs.declared.flavors.array.Doing.{Doing}
use Rattle.crossbeam_channel.specs.declared.flavors.array.Rows.{Rows}
use Rattle.crossbeam_channel.specs.Claims.{Pass, IsKeyed, no_key}
use Rattle.rs_intake_queue.specs.declared.rule.PassView.{PassView}
use Rattle.rs_intake_queue.specs.declared.job.Job.{Job}

pub record QueueName : Type 0 where
  pub table : TableId
  pub key : Badge (Key Job)

abbrev pub no_queue : QueueName
no_queue = let key : Badge (Key Job) = no_key in record { table = key.table_id; key = key }

-- a queue before its lines are made
pub record Unnamed : Type 0 where
  pub name : QueueName
  pub places : ℕ

abbrev pub name_of : {Q M L A : Type 0} → Rows (Badge (Key Job)) (Doing Job PassView) Q M (Key Job) L A → QueueName
name_of c = record { table = c.stamps.shared.table_id; key = c.stamps.shared.key }

-- the channel is this queue
pub record IsQueue {Q M L A : Type 0} (name : QueueName) (c : Rows (Badge (Key Job)) (Doing Job PassView) Q M (Key Job) L A) : Type 0 where
  pub table_is : c.stamps.shared.table_id ≡ name.table
  pub key_is : c.stamps.shared.key ≡ name.key
  pub keyed : IsKeyed c

-- the pass is one of this queue
pub record IsIn (name : QueueName) (pass : Pass Job PassView) : Type 0 where
  pub table_is : pass.table_id ≡ name.table
  pub key_is : pass.me.0.of ≡ name.key
  pub none_held : pass.me.1 ≡ []
