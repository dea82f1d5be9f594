-- Volumes are `Send`, since their nodes and all that they own are; and so are clients and flushers.
use denote.Param.Send.{IsSend, IsSync, sendable, recorded_send, recorded_sync, struct_send, struct_sync, view_send, AllSend, AllSync}
use denote.Struct.Declared.{shape}
use Rattle.std.proofs.Crossing.{crosses}
use Rattle.node.proofs.node.Node.TheLaws.TheKnot.{both_send-Node, both_sync-Node}
use Rattle.pathkey.proofs.key.Key.TheSendSync as keys
use Rattle.std.proofs.collections.BTreeMap.TheSendSync as maps
use Rattle.pathkey.proofs.snap_name.SnapName.TheSendSync as names
use Rattle.pending.proofs.pending.Pending.TheSendSync as pendings
use Rattle.meta_index.proofs.update.MetaUpdate.TheSendSync as meta_updates
use Rattle.reference.proofs.reply.Meta.TheSendSync as metas_cross
use Rattle.block_index.proofs.update.BlockUpdate.TheSendSync as block_updates
use Rattle.block_index.proofs.block.Block.TheSendSync as blocks_cross
use Rattle.call_compiler.specs.contracts.indexes.Indexes as indexes
use Rattle.meta_index.specs.contracts.index.MetaIndex as metas
use Rattle.meta_index.specs.contracts.update.MetaUpdate as meta_update
use Rattle.reference.specs.contracts.reply.Meta as meta
use Rattle.block_index.specs.contracts.index.BlockIndex as blocks
use Rattle.block_index.specs.contracts.update.BlockUpdate as block_update
use Rattle.block_index.specs.contracts.block.Block as block
use Rattle.node.specs.contracts.node.Node as node
use Rattle.node.specs.contracts.tree.Tree as tree
use Rattle.jobs.specs.contracts.marks.Marks as marks
use Rattle.volume.specs.contracts.live_indexes.LiveIndexes as live
use Rattle.volume.specs.contracts.volume.Volume as volume
use denote.RattleType.{RattleType}
use Rattle.engine.specs.declared.engine_rule.EngineId as naming
use Rattle.engine.specs.contracts.locked_state.LockedState as state
use Rattle.engine.specs.contracts.locked_state.LockedState.TheInside as desk_inside
use Rattle.std.specs.contracts.option.Option as option
use Rattle.engine.specs.contracts.engine_shared.EngineShared as shared
use Rattle.engine.specs.contracts.client.Client as client
use Rattle.engine.specs.contracts.flusher.Flusher as flusher
use Rattle.atomic_table.proofs.shared.Seat.TheSendSync as seats
use Rattle.atomic_table.proofs.owned.Table.TheSendSync as tables
use Rattle.atomic_table.proofs.badge.Badge.TheSendSync as badges
use Rattle.std.proofs.sync.Mutex.TheSendSync as mutexes
use Rattle.std.proofs.option.Option.TheSendSync as options
use Rattle.volume.specs.contracts.fs_root.FsRoot as rooted
use Rattle.volume.specs.contracts.snapshots.Snapshots as snapshots
use Rattle.change_log.specs.contracts.key_log.KeyLog as key_log
use Rattle.change_log.specs.contracts.key_log.LogPosition as log_position
use Rattle.change_log.specs.contracts.change_log.SnapshotPosition as snapshot_position
use Rattle.change_log.specs.contracts.change_log.ChangeLog as change_log

meta_node_send : IsSend (node.the_row meta_update.the_row meta.the_row)
meta_node_send = search (both_send-Node, keys.the_send, keys.the_sync, pendings.the_send, pendings.the_sync, meta_updates.the_send, meta_updates.the_sync, metas_cross.the_send, metas_cross.the_sync, sendable, crosses) depth 20

meta_node_sync : IsSync (node.the_row meta_update.the_row meta.the_row)
meta_node_sync = search (both_sync-Node, keys.the_send, keys.the_sync, pendings.the_send, pendings.the_sync, meta_updates.the_send, meta_updates.the_sync, metas_cross.the_send, metas_cross.the_sync, sendable, crosses) depth 20

meta_tree_send : IsSend (tree.the_row meta_update.the_row meta.the_row)
meta_tree_send = search (meta_node_send, meta_node_sync, sendable, crosses) depth 20

block_node_send : IsSend (node.the_row block_update.the_row block.the_row)
block_node_send = search (both_send-Node, keys.the_send, keys.the_sync, pendings.the_send, pendings.the_sync, block_updates.the_send, block_updates.the_sync, blocks_cross.the_send, blocks_cross.the_sync, sendable, crosses) depth 20

block_node_sync : IsSync (node.the_row block_update.the_row block.the_row)
block_node_sync = search (both_sync-Node, keys.the_send, keys.the_sync, pendings.the_send, pendings.the_sync, block_updates.the_send, block_updates.the_sync, blocks_cross.the_send, blocks_cross.the_sync, sendable, crosses) depth 20

block_tree_send : IsSend (tree.the_row block_update.the_row block.the_row)
block_tree_send = search (block_node_send, block_node_sync, sendable, crosses) depth 20

metas_field_send : IsSend metas.the_field.row
metas_field_send = struct_send (shape metas.the_type) (meta_tree_send, tt)

blocks_field_send : IsSend blocks.the_field.row
blocks_field_send = struct_send (shape blocks.the_type) (block_tree_send, tt)

indexes_field_send : IsSend indexes.the_field.row
indexes_field_send = struct_send (shape indexes.the_type) (metas_field_send, (blocks_field_send, tt))

rooted_field_send : IsSend rooted.the_field.row
rooted_field_send = struct_send (shape rooted.the_type) (indexes_field_send, (search (sendable, crosses) depth 20, tt))

rooted_send : IsSend rooted.the_row
rooted_send = recorded_send rooted.the_field.row _ _ rooted.the_type.to_one rooted_field_send

snapshots_send : IsSend snapshots.the_row
snapshots_send = search (rooted_send, maps.the_send, names.the_send, sendable, crosses) depth 20

marks_send : IsSend marks.the_row
marks_send = search (keys.the_send, sendable, crosses) depth 20

live_send : IsSend live.the_row
live_send = search (indexes_field_send, marks_send, sendable, crosses) depth 20

key_log_send : IsSend key_log.the_row
key_log_send = search (keys.the_send, sendable, crosses) depth 20

position_field_send : IsSend log_position.the_field.row
position_field_send = search (sendable, crosses) depth 20

snapshot_position_send : IsSend snapshot_position.the_row
snapshot_position_send = recorded_send snapshot_position.the_field.row _ _ snapshot_position.the_type.to_one
    (struct_send (shape snapshot_position.the_type) (names.the_send, (position_field_send, (position_field_send, tt))))

change_log_send : IsSend change_log.the_row
change_log_send = search (key_log_send, snapshot_position_send, sendable, crosses) depth 20

pub volume_send : IsSend volume.the_row
volume_send = search (live_send, snapshots_send, change_log_send, sendable, crosses) depth 20

module _ (J : RattleType) (g : naming.Ghosts J.Denot) where
  desk_inside_send : IsSend (desk_inside.the_row J g)
  desk_inside_send = recorded_send (desk_inside.the_field J g).row _ _ (desk_inside.the_type J g).to_one
      (struct_send (shape (desk_inside.the_type J g)) (volume_send, (search (sendable, crosses) depth 20, (search (seats.the_send, sendable, crosses) depth 20, (search (sendable, crosses) depth 20, tt)))))

  desk_send : IsSend (state.the_row J g)
  desk_send = view_send (desk_inside.the_row J g) _ _ _ _ desk_inside_send

  kept_send : IsSend (option.the_row (state.the_row J g))
  kept_send = search (desk_send, options.the_send, sendable, crosses) depth 20

  hub_fields_send : AllSend (shape (shared.the_type J g)).fields
  hub_fields_send = (search (tables.the_field_send, sendable, crosses) depth 20, (search (kept_send, mutexes.the_send, sendable, crosses) depth 20, tt))

  hub_fields_sync : AllSync (shape (shared.the_type J g)).fields
  hub_fields_sync = (search (tables.the_field_sync, sendable, crosses) depth 20, (search (kept_send, mutexes.the_sync, sendable, crosses) depth 20, tt))

  hub_send : IsSend (shared.the_row J g)
  hub_send = recorded_send (shared.the_field J g).row _ _ (shared.the_type J g).to_one (struct_send (shape (shared.the_type J g)) hub_fields_send)

  hub_sync : IsSync (shared.the_row J g)
  hub_sync = recorded_sync (shared.the_field J g).row _ _ (shared.the_type J g).to_one (struct_sync (shape (shared.the_type J g)) hub_fields_sync)

  pub client_send : IsSend (client.the_row J g)
  client_send = search (hub_send, hub_sync, badges.the_send, sendable, crosses) depth 20

  pub flusher_send : IsSend (flusher.the_row J g)
  flusher_send = search (hub_send, hub_sync, badges.the_send, sendable, crosses) depth 20
