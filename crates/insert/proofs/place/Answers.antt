-- `insert::place` meets its contract, by where the search has ended. Assumes nothing.
use mathlib.Core.Path.{refl}
use Rattle.tree.specs.Image.{numbers_w}
use Rattle.pool.proofs.Answers.{bytes_of}
use Rattle.search.specs.declared.Stop.{Stop}
use Rattle.search.proofs.Answers.{Known, knows, got_at}
use Rattle.insert.proofs.Ends.{set_asks, set_meets, gap-most, gap_asks, gap-slots, inside_asks, inside_grows, fork_asks, fork-slots, from_fits, from_most, meets}
use Rattle.insert.proofs.place.Goals as goal
use Rattle.insert.proofs.place.Goals.{In-Root, In-Gap, In-Inside, In-Fork}

-- what is known of the place, at each end of the search
at_number : (c : In-Root) → let a = c.args in Known a.words.now a.labels.now a.key.now a.d
at_number c = knows c.requires.0

at_gap : (c : In-Gap) → let a = c.args in Known a.words.now a.labels.now a.key.now a.d
at_gap c = knows c.requires.0

at_inside : (c : In-Inside) → let a = c.args in Known a.words.now a.labels.now a.key.now a.d
at_inside c = knows c.requires.0

at_fork : (c : In-Fork) → let a = c.args in Known a.words.now a.labels.now a.key.now a.d
at_fork c = knows c.requires.0

pub set_number-requires : goal.set_number-requires
set_number-requires c = set_asks (at_number (goal.at.set_number-requires c).In-Root) c.in-Root.is

pub slice_bounds-leaf-count : goal.slice_bounds-leaf-count
slice_bounds-leaf-count c = gap-most (at_gap (goal.at.slice_bounds-leaf-count c).In-Gap) c.in-Gap.is

pub slice_bounds-leaf-start : goal.slice_bounds-leaf-start
slice_bounds-leaf-start c = gap-most (at_gap (goal.at.slice_bounds-leaf-start c).In-Gap) c.in-Gap.is

pub add_leaf-requires : goal.add_leaf-requires
add_leaf-requires c =
    let w = at_gap (goal.at.add_leaf-requires c).In-Gap in
    let e = c.in-Gap.is in
    let p = c.requires in
    (p.1, gap_asks w e, gap-slots w _ p.2 e)

pub add_cut-requires : goal.add_cut-requires
add_cut-requires c =
    let w = at_inside (goal.at.add_cut-requires c).In-Inside in
    let e = c.in-Inside.is in
    let p = c.requires in
    let a = inside_asks w _ e in
    (inside_grows w _ p.2 _ p.1 _ e, a.1, a.0)

pub overflow_add-from : goal.overflow_add-from
overflow_add-from c = from_fits (at_fork (goal.at.overflow_add-from c).In-Fork) _ c.in-Fork.is

pub slice_bounds-fork-count : goal.slice_bounds-fork-count
slice_bounds-fork-count c = from_most (at_fork (goal.at.slice_bounds-fork-count c).In-Fork) _ c.in-Fork.is

pub slice_bounds-fork-start : goal.slice_bounds-fork-start
slice_bounds-fork-start c = from_most (at_fork (goal.at.slice_bounds-fork-start c).In-Fork) _ c.in-Fork.is

pub add_fork-requires : goal.add_fork-requires
add_fork-requires c =
    let w = at_fork (goal.at.add_fork-requires c).In-Fork in
    let e = c.in-Fork.is in
    let p = c.requires in
    (p.1, (fork_asks w _ e).1, fork-slots w _ p.2 _ e, p.0.whole.rule)

pub returns-in-Root : goal.returns-in-Root
returns-in-Root c =
    let done = c.set_number.ensures in
    let rule = c.requires.0.whole.rule in
    set_meets (at_number (goal.at.returns-in-Root c).In-Root) c.in-Root.is (bytes_of c.args.key.now c.type_inv.key) _ done.told (done.placed _ rule)

pub returns-in-Gap : goal.returns-in-Gap
unfolding got_at numbers_w
returns-in-Gap c =
    meets (at_gap (goal.at.returns-in-Gap c).In-Gap) (bytes_of c.args.key.now c.type_inv.key) _
    Stop.Gap c.in-Gap.is _ _ _ refl c.add_leaf.ensures

pub returns-in-Inside : goal.returns-in-Inside
unfolding got_at numbers_w
returns-in-Inside c =
    meets (at_inside (goal.at.returns-in-Inside c).In-Inside) (bytes_of c.args.key.now c.type_inv.key) _
    (Stop.Inside _) c.in-Inside.is _ _ _ refl c.add_cut.ensures

pub returns-in-Fork : goal.returns-in-Fork
unfolding got_at numbers_w
returns-in-Fork c =
    meets (at_fork (goal.at.returns-in-Fork c).In-Fork) (bytes_of c.args.key.now c.type_inv.key) _
    (Stop.Fork _) c.in-Fork.is _ _ _ refl c.add_fork.ensures
