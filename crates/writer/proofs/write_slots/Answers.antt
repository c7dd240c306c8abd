-- `writer::write_slots` meets its contract: the rows that are left are due, each with its level in the table. Assumes nothing.
use Prim.Native.Nat.{ℕ}
use native.Mathlib.Omega.{arith}
use lib.ListN.{get_or-replicate, length-replicate, length-set}
use Rattle.writer.proofs.Rows.{Flat, flat_start, flat_done, flat_room, flat_step, at, level_is, slot, head-deep, head_level}
use Rattle.writer.proofs.write_slots.Goals as goal
use Rattle.writer.proofs.write_slots.Goals.{In-loop-i}

-- what is left of the forest that stands below the root, and its first node
flat_at : (c : In-loop-i)
    → let v = c.loop-i in
    Flat c.args.words.now c.args.labels.now v.levels v.i c.args.n c.args.out.now c.args.at v.out v.place c.requires.forest
flat_at c =
    c.loop-i.invariant.1 c.requires.forest c.requires.run

pub loop-i-init : goal.loop-i-init
loop-i-init c =
    (length-replicate {A = ℕ} 4097 1, λ f r. flat_start _ _ _ _ _ _ f (λ s h. get_or-replicate {A = ℕ} 4097 s 1 0 h) r)

pub bounds-levels-start : goal.bounds-levels-start
bounds-levels-start c =
    let h = at (flat_at (goal.at.bounds-levels-start c).In-loop-i) c.loop-i-test.true in
    omega (arith, c.start_at-start.ensures.0, (slot h).start, head-deep h)

pub overflow_add-levels : goal.overflow_add-levels
overflow_add-levels c =
    let f = flat_at (goal.at.overflow_add-levels c).In-loop-i in
    let taken = c.loop-i-test.true in
    omega (arith, head_level (at f taken), level_is f taken c.start_at-start.ensures.0 c.from-level.ensures)

pub overflow_cast-levels : goal.overflow_cast-levels
overflow_cast-levels c =
    let f = flat_at (goal.at.overflow_cast-levels c).In-loop-i in
    let taken = c.loop-i-test.true in
    omega (arith, head_level (at f taken), level_is f taken c.start_at-start.ensures.0 c.from-level.ensures)

pub bounds-levels-end : goal.bounds-levels-end
bounds-levels-end c =
    let h = at (flat_at (goal.at.bounds-levels-end c).In-loop-i) c.loop-i-test.true in
    omega (arith, c.start_at-start.ensures.0, c.len_at.ensures.0, (slot h).start, head-deep h)

pub write_record-place-requires : goal.write_record-place-requires
write_record-place-requires c =
    let pre = c.requires in
    let f = flat_at (goal.at.write_record-place-requires c).In-loop-i in
    let taken = c.loop-i-test.true in
    flat_room f taken pre.within pre.fits (level_is f taken c.start_at-start.ensures.0 c.from-level.ensures)

pub loop-i-preserved : goal.loop-i-preserved
loop-i-preserved c =
    let begun = c.start_at-start.ensures.0 in
    let v = c.loop-i in (
      simp length-set v.invariant.0,
      λ f r. flat_step (v.invariant.1 f r) c.loop-i-test.true v.invariant.0 begun (omega (arith, c.len_at.ensures.0)) c.from-level.ensures
          (rw c.follows-sibling.ensures at c.write_record-place.ensures),
    )

pub returns : goal.returns
returns c = λ f r. flat_done (c.loop-i.invariant.1 f r) c.loop-i-test.false
