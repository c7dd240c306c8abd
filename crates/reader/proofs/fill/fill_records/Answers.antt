-- `reader::fill::fill_records` meets its contract: the records that are left are due, each with its path in the table. Assumes nothing.
use mathlib.Core.Path.{refl, ◌∙◌}
use Prim.Native.Nat.{◌+◌, ◌≤◌}
use native.Mathlib.Omega.{arith}
use lib.ListN.{length-set}
use Rattle.tree.specs.Tree.{nodes_t}
use Rattle.reader.specs.Fill.{Room}
use Rattle.reader.proofs.Fills.{First, left-start, left-done, left-next, first, len_is, level_is, path-is, whole, room_stays, slot_due, record_due}
use Rattle.reader.proofs.fill.fill_records.Goals as goal
use Rattle.reader.proofs.fill.fill_records.Goals.{After-from, In-loop-c}

-- the record at the cursor, and the room for it
first_at : (c : In-loop-c)
    → let v = c.loop-c in
    First c.args.tree.now c.args.numbers.now v.starts v.words v.labels v.c c.requires.tree
first_at c =
    first (c.loop-c.invariant.3 c.requires.tree c.requires.known) c.loop-c-test.true

room_at : (c : In-loop-c)
    → Room c.loop-c.words c.loop-c.labels (nodes_t c.requires.tree)
room_at c =
    room_stays c.loop-c.invariant.1 c.loop-c.invariant.2 c.requires.room

-- where the label ends
end_at : (c : After-from) → c.from-start.result + c.from.result ≤ 4096
end_at c =
    let f = first (c.loop-c.invariant.3 c.requires.tree c.requires.known) c.loop-c-test.true in
    omega (arith, path-is f c.level_at-level.ensures.0 c.from-start.ensures, c.from.ensures, len_is f, f.own.deep)

pub loop-c-init : goal.loop-c-init
loop-c-init c = (refl, refl, refl, λ t k. left-start _ _ _ _ _ t refl refl k)

pub level_at-level-requires : goal.level_at-level-requires
level_at-level-requires c = omega (arith, whole (first_at (goal.at.level_at-level-requires c).In-loop-c))

pub bounds-starts-level : goal.bounds-starts-level
bounds-starts-level c =
    let f = first_at (goal.at.bounds-starts-level c).In-loop-c in
    omega (arith, level_is f c.level_at-level.ensures.0, f.own.shallow)

pub bounds-tree-at : goal.bounds-tree-at
bounds-tree-at c = omega (arith, whole (first_at (goal.at.bounds-tree-at c).In-loop-c))

pub overflow_add-end : goal.overflow_add-end
overflow_add-end c = omega (arith, end_at (goal.at.overflow_add-end c).After-from)

pub overflow_cast-starts : goal.overflow_cast-starts
overflow_cast-starts c = omega (arith, end_at (goal.at.overflow_cast-starts c).After-from)

pub bounds-starts-level-in-loop-c : goal.bounds-starts-level-in-loop-c
bounds-starts-level-in-loop-c c =
    let f = first_at (goal.at.bounds-starts-level-in-loop-c c).In-loop-c in
    omega (arith, level_is f c.level_at-level.ensures.0, f.own.shallow)

pub fill_slot-requires : goal.fill_slot-requires
fill_slot-requires c =
    let f = first_at (goal.at.fill_slot-requires c).In-loop-c in
    slot_due f (path-is f c.level_at-level.ensures.0 c.from-start.ensures) (room_at (goal.at.fill_slot-requires c).In-loop-c)

pub behind-c-requires : goal.behind-c-requires
behind-c-requires c =
    record_due (first_at (goal.at.behind-c-requires c).In-loop-c) (omega (arith, c.well_formed)) (room_at (goal.at.behind-c-requires c).In-loop-c)

pub loop-c-preserved : goal.loop-c-preserved
loop-c-preserved c =
    let v = c.loop-c in
    let put = c.fill_slot.ensures in (
      simp length-set v.invariant.0,
      put.words ∙ v.invariant.1,
      put.labels ∙ v.invariant.2,
      λ t k. left-next (first (v.invariant.3 t k) c.loop-c-test.true) c.level_at-level.ensures.0 c.from-start.ensures
          (omega (arith, c.from.ensures)) put c.behind-c.ensures,
    )

pub returns : goal.returns
returns c =
    let v = c.loop-c in
    record { words = v.invariant.1; labels = v.invariant.2; filled = λ t k. left-done (v.invariant.3 t k) c.loop-c-test.false }
