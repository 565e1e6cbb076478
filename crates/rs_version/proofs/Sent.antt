-- Seats and the writer may cross threads, each in one step. The catalogue is a recursive type, for which no such step is made.
use mathlib.Core.List.{List, [], ◌∷◌}
use Prim.Native.Nat.{ℕ}
use mir.Syntax.{Ty}
use denote.Builtin.{u64}
use denote.Exit.{no}
use denote.RattleType.{RattleType}
use denote.Param.{param, arg}
use denote.Param.Send.{IsSend, IsSync, AllSend, arg_send, param_send, recorded_send, recorded_sync, sendable, struct_send, struct_sync, view_send}
use denote.Struct.Declared.{shape}
use denote.Struct.Field.{rows, u64-field}
use denote.Struct.Tuple.{Tuple, TupleAt, field_at, parts, type_at}
use Rattle.core.proofs.option.Option.TheSendSync as option
use Rattle.core.specs.contracts.option.Option as Option
use Rattle.left_right.proofs.reader.Reader.TheSendSync as reader
use Rattle.left_right.proofs.writer.Writer.TheSendSync as copy_writer
use Rattle.rs_message.proofs.entry.Entry.TheSendSync as entry
use Rattle.rs_message.proofs.places.PlaceCount.TheSendSync as count
use Rattle.rs_message.specs.contracts.entry.Entry as Entry
use Rattle.rs_store.proofs.calm.Calm.TheSendSync as calm
use Rattle.rs_store.proofs.limit.TopicLimit.TheSendSync as limit
use Rattle.rs_store.specs.contracts.content.Content as Content
use Rattle.rs_tree.proofs.Sent.{tree_send, tree_sync}
use Rattle.rs_version.proofs.catalogue_copy.CopyStep.TheSendSync as step
use Rattle.rs_version.proofs.named.NamedList.TheSendSync as list
use Rattle.rs_version.proofs.named.NewHistory.TheSendSync as new_history
use Rattle.rs_version.proofs.named.WholeHistory.TheSendSync as whole
use Rattle.rs_version.proofs.prefix.Prefix.TheSendSync as prefix
use Rattle.rs_version.proofs.reserve.Reserve.TheSendSync as reserve
use Rattle.rs_version.specs.contracts.blank.Blank as Blank
use Rattle.rs_version.specs.contracts.blank.Blank.TheInside as InBlank
use Rattle.rs_version.specs.contracts.catalogue_copy.CatalogueCopy as CatalogueCopy
use Rattle.rs_version.specs.contracts.catalogue_copy.CatalogueCopyAbsorbCopyStep.TheImpl as absorb
use Rattle.rs_version.specs.contracts.catalogue_copy.CopyStep as CopyStep
use Rattle.rs_version.specs.contracts.copies.Copies as Copies
use Rattle.rs_version.specs.contracts.prefix.Prefix as Prefix
use Rattle.rs_version.specs.contracts.rule.KnownVersion as KnownVersion
use Rattle.rs_version.specs.contracts.rule.VersionRule as VersionRule
use Rattle.rs_version.specs.contracts.rule.VersionRuleProtocolCatalogueCopyOptionKnownVersion.TheImpl as rule
use Rattle.rs_version.specs.contracts.seat.Seat as Seat
use Rattle.rs_version.specs.contracts.seat.Seat.TheInside as InSeat
use Rattle.rs_version.specs.contracts.writer.VersionWriter as VersionWriter
use Rattle.rs_version.specs.contracts.writer.VersionWriter.TheInside as InWriter
use Rattle.rs_version.specs.declared.history.StoreName as StoreName
use Rattle.std.proofs.Crossing.{frees}
use Rattle.std.proofs.alloc.Global.TheSendSync as heap
use Rattle.std.specs.contracts.alloc.Global as Global
use Rattle.std.specs.contracts.impls.GlobalAllocator.TheImpl.{ghosts}

copy_send : IsSend CatalogueCopy.the_row
copy_send = recorded_send CatalogueCopy.the_field.row _ _ CatalogueCopy.the_type.to_one (struct_send (shape CatalogueCopy.the_type) (tree_send, (prefix.the_send, tt)))

copy_sync : IsSync CatalogueCopy.the_row
copy_sync = recorded_sync CatalogueCopy.the_field.row _ _ CatalogueCopy.the_type.to_one (struct_sync (shape CatalogueCopy.the_type) (tree_sync, (prefix.the_sync, tt)))

abbrev known_row : RattleType
known_row = Option.the_row KnownVersion.the_row

abbrev state_row : RattleType
state_row = Tuple (Content.the_row ∷ Prefix.the_row ∷ [])

copies_send : IsSend Copies.the_field.row
copies_send = struct_send (shape Copies.the_type) (
  copy_writer.the_field_send CatalogueCopy.the_row CopyStep.the_row known_row VersionRule.the_row Global.the_row state_row absorb.ghosts rule.ghosts ghosts
      copy_send step.the_send heap.the_send copy_sync heap.the_sync frees,
  (option.the_field_send CopyStep.the_row step.the_send, tt),
)

memory_send : IsSend u64-field.row
memory_send = search sendable

module _ (N : RattleType) (g : StoreName.Ghosts N.Denot) where
  pub seat_send : IsSend (Seat.the_row N g)
  seat_send = view_send (InSeat.the_row N g) _ _ _ _
      (recorded_send (InSeat.the_field N g).row _ _ (InSeat.the_type N g).to_one (struct_send (shape (InSeat.the_type N g)) (
        reader.the_field_send CatalogueCopy.the_row known_row VersionRule.the_row Global.the_row rule.ghosts ghosts heap.the_send copy_sync heap.the_sync frees,
        (list.the_send N g, tt),
      )))

  module _ (R : RattleType) where
    pub writer_send : IsSend R → IsSend (VersionWriter.the_row N R g)
    writer_send s = view_send (InWriter.the_row N R g) _ _ _ _
        (recorded_send (InWriter.the_field N R g).row _ _ (InWriter.the_type N R g).to_one (struct_send (shape (InWriter.the_type N R g)) (
          s,
          (
            copies_send,
            (
              whole.the_send N g,
              (
                calm.the_send,
                (option.the_field_send Entry.the_row entry.the_send, (reserve.the_field_send, (memory_send, tt))),
              ),
            ),
          ),
        )))

pub u64_send : IsSend u64
u64_send = search sendable

-- a store before it has a name
pub blank_send : IsSend Blank.the_row
blank_send = view_send InBlank.the_row _ _ _ _
    (recorded_send InBlank.the_field.row _ _ InBlank.the_type.to_one (struct_send (shape InBlank.the_type) (
      heap.the_field_send,
      (new_history.the_field_send, (limit.the_send, (count.the_send, (tree_send, (tree_send, (memory_send, tt)))))),
    )))

all_rows : (Ts : List RattleType) → AllSend Ts → AllSend (rows (parts Ts))
all_rows [] s = tt
all_rows (T ∷ Ts) s = (s.0, all_rows Ts s.1)

-- a closure, or a tuple, crosses if each of its parts does
all_send : (i : ℕ) (δ : Ty) (name : List ℕ) (Ts : List RattleType) → AllSend Ts → IsSend (param i (arg δ no (TupleAt name Ts)))
all_send i δ name Ts s = param_send i _ (arg_send δ no _ (recorded_send (field_at name Ts).row _ _ (type_at name Ts).to_one (struct_send (shape (type_at name Ts)) (all_rows Ts s))))

pub parts_send-2 : {i : ℕ} {δ : Ty} (name : List ℕ) {A B : RattleType} → IsSend A → IsSend B → IsSend (param i (arg δ no (TupleAt name (A ∷ B ∷ []))))
parts_send-2 {i} {δ} name {A} {B} a b = all_send i δ name (A ∷ B ∷ []) (a, (b, tt))

pub parts_send-3 : {i : ℕ} {δ : Ty} (name : List ℕ) {A B C : RattleType} → IsSend A → IsSend B → IsSend C → IsSend (param i (arg δ no (TupleAt name (A ∷ B ∷ C ∷ []))))
parts_send-3 {i} {δ} name {A} {B} {C} a b c = all_send i δ name (A ∷ B ∷ C ∷ []) (a, (b, (c, tt)))

pub parts_send-4 : {i : ℕ} {δ : Ty} (name : List ℕ) {A B C D : RattleType} → IsSend A → IsSend B → IsSend C → IsSend D → IsSend (param i (arg δ no (TupleAt name (A ∷ B ∷ C ∷ D ∷ []))))
parts_send-4 {i} {δ} name {A} {B} {C} {D} a b c d = all_send i δ name (A ∷ B ∷ C ∷ D ∷ []) (a, (b, (c, (d, tt))))
