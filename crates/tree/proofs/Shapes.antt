-- Two parts of well-formedness that most laws ask for by themselves: siblings ascend; every node leads to a number. And a
-- node that gets other siblings. Assumes nothing.
use Prim.Native.Nat.{ℕ, suc, ◌+◌, ◌<◌}
use native.Mathlib.Omega.{arith}
use lib.ListN.{length}
use Rattle.tree.specs.Key.{Key}
use Rattle.tree.specs.Map.{Num}
use Rattle.tree.specs.Tree.{Forest, nil, node, Above, Used, Wf}

-- Siblings ascend, at every depth.
abbrev pub Rising : Forest → Type 0
Rising nil = Unit {0}
Rising (node b l w kids rest) = Above b rest × Rising kids × Rising rest

-- Every node has a number or a child.
abbrev pub Bearing : Forest → Type 0
Bearing nil = Unit {0}
Bearing (node b l w kids rest) = Used w kids × Bearing kids × Bearing rest

pub wf-rising : (f : Forest) (s : ℕ) → Wf s f → Rising f
wf-rising nil s h = tt
wf-rising (node b l w kids rest) s h = (h.above, wf-rising kids (s + suc (length l)) h.wkids, wf-rising rest s h.wrest)

pub wf_bearing : (f : Forest) (s : ℕ) → Wf s f → Bearing f
wf_bearing nil s h = tt
wf_bearing (node b l w kids rest) s h = (h.used, wf_bearing kids (s + suc (length l)) h.wkids, wf_bearing rest s h.wrest)

pub above_trans : (c b : ℕ) (f : Forest) → c < b → Above b f → Above c f
above_trans c b nil i h = tt
above_trans c b (node x l w kids rest) i h = omega arith

-- A node with other younger siblings
pub wf-beside : {s b : ℕ} {l : Key} {w : Num} {kids rest f : Forest} → Wf s (node b l w kids rest) → Above b f → Wf s f → Wf s (node b l w kids f)
wf-beside h above r =
    record { byte = h.byte; bytes = h.bytes; short = h.short; deep = h.deep; above = above; used = h.used; wkids = h.wkids; wrest = r }
