-- What may cross threads: a pass is sent, and a turn is shared, wherever its value may be sent.
use denote.RattleType.{RattleType}
use denote.Param.Send.{IsSend, IsSync, sendable, struct_send, struct_sync, recorded_send, recorded_sync, Frees, part_keyless}
use denote.Struct.Struct.{Struct}
use denote.Struct.Owning.{shape}
use denote.Struct.Declared as declared
use denote.Struct.Tuple.{Tuple}
use denote.Builtin.{u32}
use Rattle.std.specs.Prelude.{[], ◌∷◌}
use Rattle.std.specs.contracts.option.Option as option
use Rattle.std.specs.contracts.snapshot.Snapshot as snapshot
use Rattle.std.specs.declared.alloc.Allocator as alloc
use Rattle.std.proofs.Crossing.{frees, sync}
use Rattle.atomic_table.specs.declared.shared.TableRule as rule
use Rattle.atomic_table.specs.contracts.shared.Shared as shared
use Rattle.atomic_table.specs.contracts.shared.Seat as seat
use Rattle.atomic_table.specs.contracts.owned.Table as table
use Rattle.atomic_table.specs.contracts.send_lease.SendLease as lease
use Rattle.atomic_table.proofs.Rights.{right_send}
use Rattle.atomic_table.proofs.Sent.{seat_keyless, shares_keyless}
use Rattle.kb_turn.specs.declared.told.Told as told
use Rattle.kb_turn.specs.contracts.pass.Pass as pass
use Rattle.kb_turn.specs.contracts.turn.Turn as turn
use Rattle.kb_turn.specs.contracts.view.View as view
use Rattle.kb_turn.specs.contracts.view.Law as law
use Rattle.kb_turn.specs.Rule.{Whole}
use Rattle.kb_turn.specs.Views.{maker}

option_send : (T : RattleType) → IsSend T → IsSend (option.the_field T).row
option_send T s = search (sendable, s) depth 40 fits 20000 steps 5000000

option_row : (T : RattleType) → IsSend T → IsSend (option.the_row T)
option_row T s = recorded_send (option.the_field T).row _ _ (option.the_type T).to_one (option_send T s)

seat_send : (S V : RattleType) → IsSend S → IsSend (seat.the_row S V)
seat_send S V s = record { owned = λ d vs. ((λ vss. (tt, ((λ uss. (tt, tt)), tt))), seat_keyless S s V.coded.code d.table_id d.id d.me); leaving = λ k f vs. tt }

lease_sync : (T A : RattleType) (g : alloc.Ghosts A.Denot) → Frees g g.dealloc_token → IsSync (lease.the_row T A g)
lease_sync T A g f = record { shared = λ d b o ν q. part_keyless (lease.the_row T A g) (right_send T A g f) q d b o }

shared_sync : (S V K P : RattleType) (g : rule.Ghosts P.Denot S.Denot V.Denot K.Denot) → IsSend S → IsSync (shared.the_row S V K P g)
shared_sync S V K P g s = let fields : IsSync (Struct (shape (shared.the_type S V K P g))) = search sendable depth 20 in
    record { shared = λ d b o ν. (fields.shared (d.words, (d.slots, (tt, tt))) b o ν, shares_keyless S s V.coded.code d.table_id (g.holds d.key) d.words d.slots ν) }

table_sync : (S V K P A : RattleType) (g : rule.Ghosts P.Denot S.Denot V.Denot K.Denot) (h : alloc.Ghosts A.Denot) → IsSend S → IsSync A → Frees h h.dealloc_token → IsSync (table.the_field S V K P A g h).row
table_sync S V K P A g h s a f = struct_sync (declared.shape (table.the_type S V K P A g h)) (shared_sync S V K P g s, (search sendable, (search sendable, (lease_sync _ A h f, (lease_sync S A h f, (a, tt))))))

-- as a field of a struct
pub pass_field_send : (T E : RattleType) (g : told.Ghosts T.Denot E.Denot) → IsSend T → IsSend (pass.the_field T E g).row
pass_field_send T E g s = struct_send (declared.shape (pass.the_type T E g)) (seat_send _ _ (option_row T s), (search sendable, tt))

pub turn_field_sync : (T E : RattleType) (g : told.Ghosts T.Denot E.Denot) → IsSend T → IsSync (turn.the_field T E g).row
turn_field_sync T E g s = struct_sync (declared.shape (turn.the_type T E g)) (table_sync (option.the_row T) (view.the_row E) (Tuple (u32 ∷ snapshot.the_row T ∷ [])) law.the_row _ record { holds = λ k. Whole g.told g.number_of k.0; first = λ k. maker (g.told k.1.value) k.0 } _ (option_row T s) sync frees, tt)

-- by itself
pub pass_send : (T E : RattleType) (g : told.Ghosts T.Denot E.Denot) → IsSend T → IsSend (pass.the_row T E g)
pass_send T E g s = recorded_send (pass.the_field T E g).row _ _ (pass.the_type T E g).to_one (pass_field_send T E g s)

pub turn_sync : (T E : RattleType) (g : told.Ghosts T.Denot E.Denot) → IsSend T → IsSync (turn.the_row T E g)
turn_sync T E g s = recorded_sync (turn.the_field T E g).row _ _ (turn.the_type T E g).to_one (turn_field_sync T E g s)
