-- Where a forest stands in a pool, slot by slot; the list of records says the same. Assumes nothing.
use mathlib.Core.Path.{◌≡◌, refl, subst}
use mathlib.Core.List.{List}
use Prim.Native.Nat.{ℕ, suc, ◌+◌, ◌≤◌}
use native.Mathlib.Omega.{arith}
use lib.ListN.{length, length-append}
use Rattle.tree.specs.Tree.{Forest, nil, node, Tree, nodes_f, nodes_t, WellFormed}
use Rattle.slots.specs.Layout.{nodes_of}
use Rattle.slots.specs.Records.{rec_at, run, recs_from, node_rec, recs_f, root_rec}
use Rattle.slots.proofs.Runs.{run-whole, run_parts}
use Rattle.pool.specs.Rule.{Lengths}

-- The forest f stands from slot c on, under a path of s bytes.
abbrev pub Stands : (ws bs : List ℕ) (s : ℕ) → Forest → ℕ → Type 0
Stands ws bs s nil c = Unit {0}
Stands ws bs s (node b l w kids rest) c =
    (rec_at ws bs c ≡ node_rec s b l w (nodes_f kids)) × Stands ws bs (s + suc (length l)) kids (c + 1) × Stands ws bs s rest (c + suc (nodes_f kids))

-- A pool that holds the tree t
pub record Holds (ws bs : List ℕ) (t : Tree) : Type 0 where
  pub slots : ℕ
  pub lengths : Lengths ws bs slots
  pub nodes : nodes_of ws ≡ nodes_t t
  pub room : nodes_t t ≤ slots
  pub root : rec_at ws bs 0 ≡ root_rec t.num (nodes_f t.kids)
  pub kids : Stands ws bs 0 t.kids 1
  pub wf : WellFormed t

pub nodes_are : (t : Tree) → nodes_t t ≡ suc (nodes_f t.kids)
unfolding nodes_t
nodes_are t = refl

pub stands_at : (ws bs : List ℕ) (s : ℕ) (f : Forest) {c d : ℕ} → c ≡ d → Stands ws bs s f c → Stands ws bs s f d
stands_at ws bs s f e h = subst (λ (x : ℕ). Stands ws bs s f x) e h

-- The list of records
pub recs_f-length : (s : ℕ) (f : Forest) → length (recs_f s f) ≡ nodes_f f
unfolding recs_f nodes_f
recs_f-length s nil = refl
recs_f-length s (node b l w kids rest) =
    let k = recs_f-length (s + suc (length l)) kids in
    let r = recs_f-length s rest in
    omega (arith, length-append (recs_f (s + suc (length l)) kids) (recs_f s rest))

pub stands_recs : (ws bs : List ℕ) (s : ℕ) (f : Forest) (c : ℕ) → Stands ws bs s f c → recs_from ws bs c (nodes_f f) ≡ recs_f s f
unfolding nodes_f recs_f
stands_recs ws bs s nil c h = unfold run in refl
stands_recs ws bs s (node b l w kids rest) c h =
    let k = stands_recs ws bs (s + suc (length l)) kids (c + 1) h.1 in
    let r = stands_recs ws bs s rest (c + suc (nodes_f kids)) h.2 in
    let m = recs_f-length (s + suc (length l)) kids in
    let n = recs_f-length s rest in
    rw (← m, ← n)
    (run-whole (rec_at ws bs) c (node_rec s b l w (length (recs_f (s + suc (length l)) kids))) (recs_f (s + suc (length l)) kids) (recs_f s rest)
    (record { slot = rw m h.0; below = rw m k; beside = rw (m, n) r }))

pub recs_stands : (ws bs : List ℕ) (s : ℕ) (f : Forest) (c : ℕ) → recs_from ws bs c (nodes_f f) ≡ recs_f s f → Stands ws bs s f c
unfolding nodes_f recs_f
recs_stands ws bs s nil c e = tt
recs_stands ws bs s (node b l w kids rest) c e =
    let m = recs_f-length (s + suc (length l)) kids in
    let n = recs_f-length s rest in
    let p = run_parts (rec_at ws bs) c (node_rec s b l w (nodes_f kids)) (recs_f (s + suc (length l)) kids) (recs_f s rest) (rw (m, n) e) in
    (p.slot, recs_stands ws bs (s + suc (length l)) kids (c + 1) (rw m at p.below), recs_stands ws bs s rest (c + suc (nodes_f kids)) (rw (m, n) at p.beside))
