-- Sessions on fresh states of few nodes, by computation.
use mathlib.Core.Path.{◌≡◌, refl}
use mathlib.Core.List.{List, [], ◌∷◌, ◌++◌}
use Prim.Native.Nat.{ℕ, ◌*◌, ◌/◌}
use lib.Count.{count_leading_zeros}
use lib.ListN.{length, replicate}
use Rattle.meaning.specs.Limits.{node_cells, frame_size, program_nodes}
use Rattle.meaning.specs.Lent.{Lent}
use Rattle.meaning.specs.Fresh.{fresh_state}
use Rattle.meaning.specs.Frames.{to_bytes}
use Rattle.meaning.specs.Batch.{answer_bytes}
use Rattle.serving.specs.Served.{serve_all}
use Rattle.serving.specs.Lending.{replies, frames_in}
use Rattle.meaning.specs.Counting as MeaningCounting
use Rattle.meaning.specs.Lent as MeaningLent
use Rattle.meaning.specs.Shape as MeaningShape
use Rattle.meaning.specs.Trees as MeaningTrees
use Rattle.meaning.specs.Fresh as MeaningFresh
use Rattle.meaning.specs.Frames as MeaningFrames
use Rattle.meaning.specs.Operations as MeaningOperations
use Rattle.meaning.specs.Costs as MeaningCosts
use Rattle.meaning.specs.Supply as MeaningSupply
use Rattle.meaning.specs.Checks as MeaningChecks
use Rattle.meaning.specs.Serve as MeaningServe
use Rattle.cells.specs.Cells as CellsCells
use Rattle.store.specs.Store as StoreStore
use Rattle.sweep.specs.Sweep as SweepSweep
use Rattle.paths.specs.Paths as PathsPaths
use Rattle.paths.specs.Edits as PathsEdits
use Rattle.index.specs.Index as IndexIndex
use Rattle.level.specs.Level as LevelLevel
use Rattle.levels.specs.Levels as LevelsLevels
use Rattle.walk.specs.Walk as WalkWalk
use Rattle.frames.specs.Run as FramesRun
use Rattle.frames.specs.Serve as FramesServe

-- numbers of so many bytes each, one behind the other: a line's frame is 12, its answer 6
unfoldable pub bytes : (k : ℕ) → List ℕ → List ℕ
unfolding to_bytes
bytes k [] = []
bytes k (n ∷ ns) = to_bytes k n ++ bytes k ns

-- the answer bytes to request bytes
unfoldable pub answers_to : Lent → (requests : List ℕ) → List ℕ
unfolding frames_in answer_bytes count_leading_zeros serve_all MeaningCounting.sum_to MeaningCounting.how_many MeaningCounting.occurrences MeaningCounting.rows MeaningCounting.divides MeaningLent.is_free MeaningLent.free_nodes MeaningLent.free_order MeaningLent.child_count MeaningLent.walk_record MeaningLent.walk_records MeaningShape.degree MeaningShape.bits_to_write MeaningShape.if_left MeaningShape.levels MeaningShape.height MeaningShape.bucket MeaningShape.mask MeaningShape.root_max_capacity MeaningShape.is_root_full MeaningTrees.Shaped MeaningTrees.element MeaningTrees.contents MeaningFresh.down_from MeaningFresh.fresh_state MeaningFrames.from_bytes MeaningFrames.to_bytes MeaningFrames.decode MeaningFrames.encode MeaningOperations.operations MeaningOperations.op_of MeaningOperations.anyone MeaningOperations.host_alone MeaningOperations.uses MeaningOperations.owner_or MeaningOperations.giver MeaningOperations.taker MeaningCosts.drop_fresh MeaningCosts.plain MeaningCosts.new_cost MeaningCosts.push_cost MeaningCosts.set_cost MeaningCosts.drop_cost MeaningCosts.priced MeaningCosts.cost MeaningSupply.is_short MeaningChecks.no_fault MeaningChecks.faults MeaningChecks.any_field MeaningChecks.nothing_there MeaningChecks.is_full MeaningChecks.source_of MeaningChecks.left_of MeaningChecks.◌if◌ MeaningChecks.entry_checks MeaningChecks.find_checks MeaningChecks.earlier_checks MeaningChecks.nodes_check MeaningChecks.checks MeaningChecks.first_of MeaningServe.refused MeaningServe.respond MeaningServe.step MeaningServe.serve MeaningServe.run CellsCells.cells_of CellsCells.put_cells StoreStore.children_of StoreStore.write_node StoreStore.top StoreStore.make StoreStore.raise StoreStore.raises SweepSweep.lower_from SweepSweep.lower SweepSweep.lowers SweepSweep.vacate SweepSweep.scan SweepSweep.sweep SweepSweep.release PathsPaths.source PathsPaths.leaf_with PathsPaths.branch_with PathsPaths.assoc PathsPaths.grow PathsPaths.leaf_cut PathsPaths.branch_cut PathsPaths.drop_last PathsEdits.empty_leaf PathsEdits.new_edit PathsEdits.share_edit PathsEdits.set_edit PathsEdits.push_edit PathsEdits.first_child PathsEdits.drop_edit IndexIndex.first IndexIndex.advanced IndexIndex.finished IndexIndex.place LevelLevel.current_at LevelLevel.pushed LevelLevel.popped LevelLevel.dug LevelLevel.index_after LevelLevel.stepped_at LevelLevel.ended_at LevelsLevels.renewed LevelsLevels.advanced_by LevelsLevels.dug_down LevelsLevels.initialised LevelsLevels.one_taken WalkWalk.version_of_walk WalkWalk.stored WalkWalk.opened WalkWalk.cleared_from WalkWalk.closed WalkWalk.is_ended WalkWalk.taken_of WalkWalk.taken_by FramesRun.version_in FramesRun.walk_in FramesRun.seen_in FramesServe.fills FramesServe.empties FramesServe.item_at FramesServe.opens FramesServe.got_of FramesServe.takes FramesServe.closes FramesServe.done FramesServe.verdict FramesServe.fresh_in FramesServe.respond FramesServe.serve
answers_to s requests = answer_bytes (replies s (frames_in (length requests / frame_size) requests))

-- the session of document 01, over as many nodes as the program has

unfoldable pub example_requests : List ℕ
unfolding bytes
example_requests =
    bytes 12
    (0x010000000000000500000000
    ∷ 0x010600010000000000000007
    ∷ 0x010401000000000000000000
    ∷ 0x010401000000000100000000
    ∷ 0x020301000000000000000000
    ∷ 0x010800000000000000000000
    ∷ 0x010A00000000000000000000
    ∷ 0x000D00000000000000000000
    ∷ [])

unfoldable pub example_answers : List ℕ
unfolding bytes
example_answers =
    bytes 6
    (0x000100000000
    ∷ 0x000100000000
    ∷ 0x000000000007
    ∷ 0x080000000000
    ∷ 0x050000000000
    ∷ 0x000000000000
    ∷ 0x080000000000
    ∷ 0x0000000000FE
    ∷ [])

abbrev pub example_state : Lent
example_state = fresh_state program_nodes (replicate (node_cells * program_nodes) 0)

pub example : answers_to example_state example_requests ≡ example_answers
unfolding answers_to example_requests example_answers
example = refl

-- an open walk holds its version after the slot is released, and what it held is free once it is closed
pub walk-holds : answers_to (fresh_state 4 (replicate (node_cells * 4) 0))
    (bytes 12 (0x010000000000000500000000
    ∷ 0x010600010000000000000007
    ∷ 0x010801010000000000000000
    ∷ 0x010201000000000000000000
    ∷ 0x000D00000000000000000000
    ∷ 0x010901000000000000000000
    ∷ 0x010901000000000000000000
    ∷ 0x010B01000000000000000000
    ∷ 0x000D00000000000000000000
    ∷ []))
    ≡ bytes 6 (0x000100000000
    ∷ 0x000100000000
    ∷ 0x000000000000
    ∷ 0x000000000000
    ∷ 0x000000000002
    ∷ 0x000000000007
    ∷ 0x080000000000
    ∷ 0x000000000000
    ∷ 0x000000000003
    ∷ [])
unfolding bytes answers_to
walk-holds = refl

-- a hand-over costs nothing; with no node free a new version gets 10, and the node that a release gives back serves it
pub shortage : answers_to (fresh_state 3 (replicate (node_cells * 3) 0))
    (bytes 12 (0x010000010000000500000000
    ∷ 0x000C01020000000100000003
    ∷ 0x010000030000000100000000
    ∷ 0x010000040000000100000000
    ∷ 0x010000050000000100000000
    ∷ 0x010204000000000000000000
    ∷ 0x010000050000000100000000
    ∷ []))
    ≡ bytes 6 (0x000100000000
    ∷ 0x000000000000
    ∷ 0x000100000000
    ∷ 0x000100000000
    ∷ 0x0A0000000000
    ∷ 0x000000000000
    ∷ 0x000100000000
    ∷ [])
unfolding bytes answers_to
shortage = refl
