-- The rule as the code tests it holds exactly where the pool has a tree. Assumes nothing.
use mathlib.Core.Path.{◌≡◌, refl, sym, ◌∙◌, subst}
use mathlib.Core.List.{List}
use mathlib.Core.Option.{some}
use Prim.Native.Nat.{ℕ, zero, suc, ◌+◌, ◌≤◌, ◌<◌}
use native.Mathlib.Omega.{arith}
use Rattle.tree.specs.Tree.{Forest, nil, Tree}
use Rattle.tree.specs.Key.{key_max}
use Rattle.label.proofs.Moves.{by_lt, by_eq}
use Rattle.slots.specs.Layout.{nodes_of, start_of, len_of, span_of, first_of, num_at}
use Rattle.pool.specs.Pool.{joined, forest_at, rooted, pool_tree}
use Rattle.pool.specs.Rule.{Child, Children, done, child, NodeAt, PoolRule}
use Rattle.pool.proofs.Decode.{Kid, at-end, at_kid, node_in, ended, begun, found, slots_of_lem, Root, tree_of, treed}

-- A forest that is there
pub record There (n : ℕ) (ws bs : List ℕ) (s least c e : ℕ) : Type 0 where
  pub forest : Forest
  pub is : forest_at n ws bs s least c e ≡ some forest

joined-some : (ws bs : List ℕ) (s least c e n : ℕ) → (c ≡ e → ⊥) → Kid ws bs s least c e
    → There n ws bs (s + len_of ws c) 0 (c + 1) (c + span_of ws c) → There n ws bs s (first_of bs c + 1) (c + span_of ws c) e → There (suc n) ws bs s least c e
joined-some ws bs s least c e n h k x y =
    record { forest = node_in ws bs c x.forest y.forest; is = at_kid ws bs s least c e n h k ∙ rw (x.is, y.is) (unfold joined in refl) }

-- the chain with its bounds under other names
pub children_at : {ws bs : List ℕ} {s s' e e' least c : ℕ} → s ≡ s' → e ≡ e' → Children ws bs s e least c → Children ws bs s' e' least c
children_at {ws} {bs} {s} {s'} {e} {e'} {least} {c} p q k =
    subst (λ (x : ℕ). Children ws bs x e' least c) p (subst (λ (x : ℕ). Children ws bs s x least c) q k)

module _ (ws bs : List ℕ) (n : ℕ) where
  -- From the rule to the forest
  module _ (each : (i : ℕ) → i < n → NodeAt ws bs n i) where
    kid_there : (s least c e : ℕ) → e ≤ n → Child ws bs s e least c → Kid ws bs s least c e
    kid_there s least c e h k =
        let v = each c (omega (arith, k.span, k.inside)) in
        record {
          start = k.start;
          some = k.some;
          short = k.short;
          deep = omega (arith, v.deep, k.start);
          has = v.has;
          span = k.span;
          inside = k.inside;
          used = k.used;
          order = k.order;
        }

    chain-there : (fuel s least c e : ℕ) → e ≤ n → e ≤ c + fuel → c ≤ e → Children ws bs s e least c → There fuel ws bs s least c e
    chain-there zero s least c e h l m k = record { forest = nil; is = at-end ws bs s least c e zero (omega arith) }
    chain-there (suc fuel) s least c e h l m (done q) = record { forest = nil; is = at-end ws bs s least c e (suc fuel) q }
    chain-there (suc fuel) s least c e h l m (child k rest) =
        let kid = kid_there s least c e h k in
        let v = each c (omega (arith, k.span, k.inside)) in
        let b : start_of ws c + len_of ws c ≡ s + len_of ws c = omega (arith, k.start) in
        joined-some ws bs s least c e fuel (λ q. omega (arith, k.span, k.inside)) kid
        (chain-there fuel (s + len_of ws c) 0 (c + 1) (c + span_of ws c) (omega (arith, k.inside)) (omega (arith, k.inside)) (omega (arith, k.span)) (children_at b refl v.kids))
        (chain-there fuel s (first_of bs c + 1) (c + span_of ws c) e h (omega (arith, k.span)) k.inside rest)

  -- and back
  record Fits (s least c e : ℕ) : Type 0 where
    chain : Children ws bs s e least c
    each : (i : ℕ) → c ≤ i → i < e → NodeAt ws bs n i

  node_at : (s least c e : ℕ) → e ≤ n → Kid ws bs s least c e → Children ws bs (s + len_of ws c) (c + span_of ws c) 0 (c + 1) → NodeAt ws bs n c
  node_at s least c e h k ch =
      record {
        has = k.has;
        deep = omega (arith, k.deep, k.start);
        span = k.span;
        inside = omega (arith, k.inside);
        kids = children_at (omega (arith, k.start)) refl ch;
      }

  found-fits : (fuel s least c e : ℕ) (f : Forest) → e ≤ n → forest_at fuel ws bs s least c e ≡ some f → Fits s least c e
  found-fits zero s least c e f h q =
      elim (found zero ws bs s least c e f q) [
        | ended i j ↦ record { chain = done i; each = λ x a b. absurd (omega arith) }
        | begun m z i k ks rest p r w ↦ absurd (omega arith)
      ]
  found-fits (suc fuel) s least c e f h q =
      elim (found (suc fuel) ws bs s least c e f q) [
        | ended i j ↦ record { chain = done i; each = λ x a b. absurd (omega arith) }
        | begun m z i k ks rest p r w ↦
            let z' : m ≡ fuel = omega arith in
            let x = found-fits fuel (s + len_of ws c) 0 (c + 1) (c + span_of ws c) ks (omega (arith, k.inside)) (rw z' at p) in
            let y = found-fits fuel s (first_of bs c + 1) (c + span_of ws c) e rest h (rw z' at r) in
            let kid : Child ws bs s e least c =
            record { start = k.start; some = k.some; short = k.short; span = k.span; inside = k.inside; used = k.used; order = k.order } in
            record {
              chain = child kid y.chain;
              each = λ j a b.
                  by_eq j c
                  (λ e₁. subst (λ (u : ℕ). NodeAt ws bs n u) (sym e₁) (node_at s least c e h k x.chain))
                  (λ ne. by_lt j (c + span_of ws c) (λ l. x.each j (by_lt c j (λ g. omega arith) (λ g. absurd (ne (omega arith)))) l) (λ l. y.each j l b));
            }
      ]

pub rule-tree : (ws bs : List ℕ) → PoolRule ws bs → (t : Tree) × (pool_tree ws bs ≡ some t)
rule-tree ws bs r =
    let n = nodes_of ws in
    let v = r.each 0 r.nodes in
    let root : Root ws r.slots =
    record { nodes = r.nodes; room = r.room; start = r.root-start; len = r.root-len; has = v.has; span = r.root-span } in
    let ch : Children ws bs 0 n 0 1 = children_at (omega (arith, r.root-start, r.root-len)) (omega (arith, r.root-span)) v.kids in
    let x = chain-there ws bs n r.each n 0 0 1 n (omega arith) (omega arith) r.nodes ch in
    let e : rooted (num_at ws 0) (some x.forest) ≡ some (record { num = num_at ws 0; kids = x.forest }) = unfold rooted in refl in
    (record { num = num_at ws 0; kids = x.forest }, tree_of ws bs r.slots (slots_of_lem ws bs r.slots r.lengths) root ∙ rw x.is e)

pub tree-rule : (ws bs : List ℕ) (t : Tree) → pool_tree ws bs ≡ some t → PoolRule ws bs
tree-rule ws bs t e =
    let h = treed ws bs t e in
    let n = nodes_of ws in
    let r = h.root in
    let x = found-fits ws bs n n 0 0 1 n t.kids (omega arith) h.kids in
    let top : NodeAt ws bs n 0 =
    record {
      has = r.has;
      deep = unfold key_max in omega (arith, r.start, r.len);
      span = omega (arith, r.span, r.nodes);
      inside = omega (arith, r.span);
      kids = children_at (omega (arith, r.start, r.len)) (omega (arith, r.span)) x.chain;
    } in
    record {
      slots = h.slots;
      lengths = h.lengths;
      nodes = r.nodes;
      room = r.room;
      root-start = r.start;
      root-len = r.len;
      root-span = r.span;
      each = λ i l. by_eq i 0 (λ q. subst (λ (u : ℕ). NodeAt ws bs n u) (sym q) top) (λ ne. x.each i (by_lt 0 i (λ g. omega arith) (λ g. absurd (ne (omega arith)))) l);
    }
