-- Any thread may share a lock.
use denote.RattleType.{RattleType}
use denote.Param.Send.{IsSend, IsSync, recorded_sync, sendable, struct_sync, view_sync}
use denote.Struct.Declared.{shape}
use Rattle.std.specs.contracts.alloc.Global as heap
use Rattle.std.specs.contracts.impls.GlobalAllocator.TheImpl.{ghosts}
use Rattle.std.proofs.Crossing as crossing
use Rattle.std.proofs.Crossing.{crosses}
use Rattle.atomic_table.specs.contracts.owned.Table as cells
use Rattle.atomic_table.specs.declared.shared.TableRule as rule
use Rattle.atomic_table.proofs.shared.Shared.TheSendSync as shared
use Rattle.atomic_table.proofs.send_lease.SendLease.TheSendSync as lease
use Rattle.crossbeam_utils.specs.contracts.cache_padded.CachePadded as padded
use Rattle.txc_table_lock.specs.contracts.lock.Lock as lock
use Rattle.txc_table_lock.specs.declared.rule.LockInvariant as holds

-- any thread may share what has cache lines of its own if it may share it without them
padded_syncs : (T : RattleType) → IsSync T → IsSync (padded.the_field T).row
padded_syncs T syncs =
    struct_sync (shape (padded.the_type T))
    (search (crosses, sendable) depth 20, (syncs, (search (crosses, sendable) depth 20, tt)))

-- any thread may share a table of cells whose values may go to any thread
cells_sync : (S V K P : RattleType) (g : rule.Ghosts P.Denot S.Denot V.Denot K.Denot) → IsSend S
    → IsSync (cells.the_field S V K P heap.the_row g ghosts).row
cells_sync S V K P g sends =
    struct_sync (shape (cells.the_type S V K P heap.the_row g ghosts)) (
      shared.the_sync S V K P g sends,
      (
        search sendable,
        (
          search sendable,
          (
            lease.the_sync _ heap.the_row ghosts crossing.send crossing.frees,
            (
              lease.the_sync S heap.the_row ghosts crossing.send crossing.frees,
              (search (crosses, sendable) depth 40, tt),
            ),
          ),
        ),
      ),
    )

-- any thread may share a lock whose value may go to any thread
pub lock_syncs : (X G F : RattleType) (g : holds.Ghosts F.Denot X.Denot G.Denot) → IsSend X
    → IsSync (lock.the_row X G F g)
lock_syncs X G F g sends =
    view_sync _ _ _ _ _
    (recorded_sync (lock.TheInside.the_field X G F g).row _ _ (lock.TheInside.the_type X G F g).to_one
    (struct_sync (shape (lock.TheInside.the_type X G F g)) (
      search (cells_sync, sendable) depth 20,
      (search (crosses, sendable) depth 40, tt),
    )))
