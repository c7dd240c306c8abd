-- Each way of ending by itself: how many slots it takes, and what is placed. Assumes nothing.
use mathlib.Core.Path.{◌≡◌, refl, sym, ap, ◌∙◌, subst}
use mathlib.Core.Bool.{Bool, true, false}
use mathlib.Core.List.{List, [], ◌∷◌}
use Prim.Native.Nat.{ℕ, ◌+◌, ◌-◌, ◌≤◌, ◌<◌}
use native.Mathlib.Omega.{arith}
use lib.Dec.{ltb}
use lib.ListN.{length, get_or, length-append}
use Rattle.tree.specs.Key.{Key}
use Rattle.tree.specs.Map.{Num}
use Rattle.tree.specs.Image.{numbers_w}
use Rattle.std.specs.Prelude.{Option, Some, None}
use Rattle.tree.specs.Told.{done, old_before}
use Rattle.tree.specs.declared.RuleNo.{RuleNo}
use Rattle.slots.specs.Layout.{bytes_for, nodes_of, len_of, span_of, label_of, start_of}
use Rattle.pool.specs.Rule.{PoolRule}
use Rattle.slots.specs.Bare.{Bare, stored_of, bare_at, bares_from, Filled, front_of, back_of}
use Rattle.splice.specs.Splice.{Settled}
use Rattle.splice.specs.Spans.{Covers}
use Rattle.label.proofs.Moves.{by_eq}
use Rattle.slots.proofs.Runs.{run_length}
use Rattle.splice.proofs.Spans.{covers_linked, covers_same, covers_to, rule_rests}
use Rattle.search.specs.declared.Stop.{Stop}
use Rattle.insert.specs.Splices.{leaf_nodes, KeyLeft, new_nodes, leaf_bares, Grows, Opens, Forks, Replaced, fork_bares, fork_side, fork_was, total, Placed}
use Rattle.insert.proofs.Leaves.{run_one, leaf-length}
use Rattle.insert.proofs.Spans.{Like, like}
use Rattle.insert.proofs.Places.{upper_is}

-- The place where the search has ended, under another name
pub left_at : {s s' : Stop} (above len : ℕ) → s ≡ s' → KeyLeft s above len → KeyLeft s' above len
left_at above len e h = subst (λ (x : Stop). KeyLeft x above len) e h

pub new_at : {s s' : Stop} (above len : ℕ) → s ≡ s' → new_nodes s above len ≡ new_nodes s' above len
new_at above len e = ap (λ (x : Stop). new_nodes x above len) e

-- Of n slots in use and k new ones, `was` were there before in the place of xs.
module _ {ws bs : List ℕ} {n k : ℕ} (g : Grows ws bs n k) {at was : ℕ} {xs : List Bare}
    (count : length xs ≡ was + k) where
  pub placed_grown : {us vs cs : List ℕ} → Replaced ws bs us cs at was xs → Settled us vs (n + k)
      → Placed ws bs vs cs at was xs
  placed_grown {us} {vs} {cs} r s =
      let e : n + k ≡ total ws was xs = omega (arith, g.nodes) in
      record { spliced = us; fits = omega (arith, g.room); replaced = r; settled = rw e at s }

pub leaf_placed : {ws bs us vs cs : List ℕ} {at n k s : ℕ} {q : Key} (v : ℕ) → Grows ws bs n k → Opens ws bs at s q → k ≡ leaf_nodes (length q)
    → Replaced ws bs us cs at 0 (leaf_bares s q v) → Settled us vs (n + k) → Placed ws bs vs cs at 0 (leaf_bares s q v)
leaf_placed {s = s} {q} v g o kn r d = placed_grown g (omega (arith, leaf-length s q v o.left)) r d

-- A fork adds the upper part and the leaf.
pub fork-count : (ws bs : List ℕ) (at m : ℕ) (q : Key) (v : ℕ) (b : Bool) → 1 ≤ length q → 1 ≤ span_of ws at
    → length (fork_bares ws bs at m q v b) ≡ fork_was ws at b + 1 + leaf_nodes (length q)
fork-count ws bs at m q v true h s =
    let l = leaf_bares (start_of ws at + m) q v in
    omega (arith, length-append l (back_of m (bare_at ws bs at) ∷ []), leaf-length (start_of ws at + m) q v h)
fork-count ws bs at m q v false h s =
    let l = leaf_bares (start_of ws at + m) q v in
    let ks = bares_from ws bs (at + 1) (span_of ws at - 1) in
    omega (arith, length-append (back_of m (bare_at ws bs at) ∷ ks) l, run_length (bare_at ws bs) (at + 1) (span_of ws at - 1), leaf-length (start_of ws at + m) q v h)

pub fork_placed : {ws bs us vs cs : List ℕ} {at n k m : ℕ} {q : Key} (v : ℕ) → Grows ws bs n k → Forks ws at m q → k ≡ 1 + leaf_nodes (length q)
    → let b = fork_side ws bs at m q in
    Replaced ws bs us cs at (fork_was ws at b) (fork_bares ws bs at m q v b) → Settled us vs (n + k)
    → Placed ws bs vs cs at (fork_was ws at b) (fork_bares ws bs at m q v b)
fork_placed {ws} {bs} {at = at} {m = m} {q = q} v g f kn r d =
    placed_grown g (omega (arith, fork-count ws bs at m q v (fork_side ws bs at m q) f.left f.span)) r d

-- a fork on the side that the bytes say
pub fork-on : (ws bs vs cs : List ℕ) (at m : ℕ) (q : Key) (v : ℕ) (b r : Bool) → r ≡ fork_side ws bs at m q → r ≡ b
    → Replaced ws bs vs cs at (fork_was ws at b) (fork_bares ws bs at m q v b)
    → Replaced ws bs vs cs at (fork_was ws at (fork_side ws bs at m q)) (fork_bares ws bs at m q v (fork_side ws bs at m q))
fork-on ws bs vs cs at m q v b r e f h =
    let z : b ≡ fork_side ws bs at m q = sym f ∙ e in
    rw z at h

-- the two bytes, as the code reads them
pub side_is : (ws bs : List ℕ) (at m : ℕ) (q label : Key) → label ≡ label_of ws bs at → ltb (get_or q 0 0) (get_or label m 0) ≡ fork_side ws bs at m q
side_is ws bs at m q label e = ap (λ (l : Key). ltb (get_or q 0 0) (get_or l m 0)) e

-- A slot filled anew stands where it stood.
pub replaced_one : (ws bs vs cs : List ℕ) (at : ℕ) (x : Bare) → bytes_for (nodes_of ws) ≤ length bs → at < nodes_of ws → Filled ws bs vs cs at x → Replaced ws bs vs cs at 1 (x ∷ [])
replaced_one ws bs vs cs at x h l f =
    record {
      len_w = f.len_w;
      len_b = f.len_b;
      front = λ i o. f.others i (λ q. omega arith) (omega arith);
      slots = run_one (bare_at vs cs) at ∙ ap (λ (z : Bare). z ∷ []) f.slot;
      back = λ i o. f.others (at + 1 + i) (λ q. omega arith) (omega arith);
    }

-- The old number is told before the count.
pub told_set : (old : Option RuleNo) (n : ℕ) {w : Num} → stored_of old ≡ w → done (old_before old (n ∷ [])) ≡ done (numbers_w w (n ∷ []))
unfolding numbers_w
told_set None n e = rw (← e) refl
told_set (Some v) n e = rw (← e) refl

-- Where every slot says what it said, but for its number, the spans are right.
settled_same : (ws bs us : List ℕ) → PoolRule ws bs → nodes_of us ≡ nodes_of ws → ((i : ℕ) → i < nodes_of ws → Like ws us i i) → Settled us us (nodes_of ws)
settled_same ws bs us r e h =
    let n = nodes_of ws in
    let covers : (j : ℕ) → j < n → Covers us n j (j + span_of us j) =
    λ j l. covers_to (omega (arith, (h j l).span)) (covers_same us (λ i q. (h i q).start) (λ i q. (h i q).len) (rule_rests ws bs r j l).covers) in
    record { len = refl; nodes = e; spans = covers_linked us n covers; bares = λ ds i. refl }

-- A number is set: the pool is settled as it stands.
pub number_placed : (ws bs us : List ℕ) (at len : ℕ) (w : Num) → len ≡ len_of ws at → PoolRule ws bs → at < nodes_of ws
    → len_of ws at ≤ 255 → Filled ws bs us bs at (front_of len w (bare_at ws bs at)) → span_of us at ≡ span_of ws at
    → Placed ws bs us bs at 1 (front_of (len_of ws at) w (bare_at ws bs at) ∷ [])
number_placed ws bs us at len w el r l short f own =
    let m = len_of ws at in
    let x = front_of m w (bare_at ws bs at) in
    let g : Filled ws bs us bs at x = rw el at f in
    let room : bytes_for (nodes_of ws) ≤ length bs = omega (arith, r.lengths, r.room) in
    let up = upper_is ws bs us bs at at m (omega arith) short (omega arith) w g.slot own in
    let same : (i : ℕ) → i < nodes_of ws → Like ws us i i =
    λ i q.
    by_eq i at
    (λ z. rw z (record { start = up.start; len = up.len; span = up.span }))
    (λ ne. like ws bs us bs i i (g.others i ne (omega arith)) (g.spans i ne)) in
    let c : nodes_of ws ≡ total ws 1 (x ∷ []) = omega arith in
    record {
      spliced = us;
      fits = omega (arith, r.lengths, r.room);
      replaced = replaced_one ws bs us bs at x room l g;
      settled = rw c at (settled_same ws bs us r (g.head 0 (omega arith)) same);
    }
