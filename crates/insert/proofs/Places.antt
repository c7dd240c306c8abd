-- Records in their place: a leaf in a gap, a cut, a cut with a leaf beside the lower part. Assumes nothing.
use mathlib.Core.Path.{◌≡◌, refl, sym, ap, ◌∙◌}
use mathlib.Core.List.{List, [], ◌∷◌, ◌++◌}
use mathlib.Core.Bool.{true, false}
use mathlib.Core.Option.{none}
use Prim.Native.Nat.{ℕ, suc, ◌+◌, ◌-◌, ◌≤◌, ◌<◌}
use native.Mathlib.Omega.{arith}
use lib.ListN.{length, length-append, length-drop}
use lib.Seq.{length-take-le}
use Rattle.tree.specs.Key.{Key}
use Rattle.tree.specs.Map.{Num}
use Rattle.slots.specs.Layout.{RoomIn, nodes_of, start_of, len_of, span_of, label_of}
use Rattle.slots.specs.Records.{run}
use Rattle.pool.specs.Rule.{Within, PoolRule}
use Rattle.slots.specs.Bare.{Bare, bare_at, bares_from, front_of, back_of, Filled}
use Rattle.splice.specs.Splice.{Moved}
use Rattle.splice.specs.Spans.{Loose}
use Rattle.splice.proofs.Bares.{start_is, len_is}
use Rattle.slots.proofs.Cuts.{label-length}
use Rattle.splice.proofs.Spans.{Rests, rule_rests}
use Rattle.slots.proofs.Runs.{run_cons, run-whole, run_ext, run_length}
use Rattle.insert.specs.Splices.{leaf_nodes, leaf_bares, Built, Grows, Opens, Cuts, Replaced, Forks, fork_bares}
use Rattle.insert.proofs.Leaves.{run_one, leaf-length}
use Rattle.insert.proofs.Spans.{like, Leafy, leafy_none, leafy_kept, built_leafy, leaf-loose}
use Rattle.insert.proofs.Parts.{Upper, Lower, before-loose, behind-loose}

-- A leaf in a gap
opened : (ws bs us ds vs cs : List ℕ) (at n k : ℕ) (xs : List Bare) → n ≡ nodes_of ws → at ≤ n → Within ws bs (n + k) → length xs ≡ k
    → Moved ws bs us ds at n k → Built us ds vs cs at xs → Replaced ws bs vs cs at 0 xs
opened ws bs us ds vs cs at n k xs e h w l m b =
    let ld = m.len_b in
    let wl = w.labels in
    record {
      len_w = b.len_w ∙ m.len_w;
      len_b = b.len_b ∙ m.len_b;
      front = λ i o. b.low i o (omega arith) ∙ m.low i (omega arith);
      slots = b.slots;
      back = λ i o.
          let j : at + length xs + i ≡ at + i + k = omega arith in
          let z : at + i ≡ at + 0 + i = omega arith in
          b.high (at + length xs + i) (omega arith) (omega arith) ∙ ap (bare_at us ds) j ∙ m.moved (at + i) (omega arith) (omega arith) ∙ ap (bare_at ws bs) z;
    }

-- In a pool of n slots the spans are right.
rests_are : (ws bs : List ℕ) (n : ℕ) → n ≡ nodes_of ws → PoolRule ws bs → (j : ℕ) → j < n → Rests ws n j
rests_are ws bs n e r = rw e (rule_rests ws bs r)

pub leaf_opened : {ws bs us ds vs cs : List ℕ} {at n k s : ℕ} {q : Key} (v : ℕ) → Grows ws bs n k → Opens ws bs at s q → k ≡ leaf_nodes (length q) → Moved ws bs us ds at n k
    → Built us ds vs cs at (leaf_bares s q v) → Replaced ws bs vs cs at 0 (leaf_bares s q v) × Loose vs (n + k) at k 0
leaf_opened {ws} {bs} {us} {ds} {vs} {cs} {at} {n} {k} {s} {q} v g o kn m b =
    let e = g.nodes in
    let ld = m.len_b in
    let wl = g.within.labels in
    let inside = o.inside in
    let l = leaf-length s q v o.left ∙ sym kn in
    let one : 1 ≤ k = omega arith in (
      opened ws bs us ds vs cs at n k (leaf_bares s q v) e (omega arith) g.within l m b,
      leaf-loose ws vs n at k s (rests_are ws bs n e o.rule) (omega arith) one (λ h. o.beside (omega arith))
          (λ i h. like ws bs vs cs i i (b.low i h (omega arith) ∙ m.low i (omega arith)) (b.low-span i h ∙ m.low-span i (omega arith)))
          (λ i h p. like ws bs vs cs i (i + k) (b.high (i + k) (omega arith) (omega arith) ∙ m.moved i h p) (b.high-span (i + k) (omega arith) ∙ m.moved-span i h p))
          (built_leafy us ds vs cs at s q v k o.left l b),
    )

-- The two parts of a cut
module _ (ws bs vs cs : List ℕ) (at lo m : ℕ) (cut : m ≤ len_of ws at) (short : len_of ws at ≤ 255) (room : RoomIn bs at) where
  pub upper_is : (u : Num) → bare_at vs cs at ≡ front_of m u (bare_at ws bs at) → span_of vs at ≡ span_of ws at → Upper ws vs at m
  unfolding bare_at
  upper_is u e s =
      let x = front_of m u (bare_at ws bs at) in
      let n = label-length ws bs at short room in
      record { start = start_is vs cs at x e; len = len_is vs cs at x e ∙ length-take-le m (label_of ws bs at) (omega arith); span = s }

  lower-is : bare_at vs cs lo ≡ back_of m (bare_at ws bs at) → span_of vs lo ≡ span_of ws at → Lower ws vs at lo m
  unfolding bare_at
  lower-is e s =
      let x = back_of m (bare_at ws bs at) in
      let n = label-length ws bs at short room in
      record {
        start = start_is vs cs lo x e;
        len = omega (arith, start_is vs cs lo x e, len_is vs cs lo x e, length-drop m (label_of ws bs at));
        span = s;
      }

-- no slot at all
built_none : (ws bs : List ℕ) (at : ℕ) → Built ws bs ws bs at []
built_none ws bs at = record { len_w = refl; len_b = refl; head = λ j h. refl; slots = unfold run in refl; low = λ i h r. refl; high = λ i h r. refl; low-span = λ i h. refl; new_span = λ i h l. absurd (omega arith); high-span = λ i h. refl }

-- A cut with the records xs between its parts: the slots from `at` on have moved up by one more than there are xs.
module _ (ws bs us ds : List ℕ) (at n k m lo : ℕ) (le : lo ≡ at + 1 + k) (e : n ≡ nodes_of ws) (c : Cuts ws at m) (w : Within ws bs (n + (1 + k))) (mv : Moved ws bs us ds at n (1 + k)) where
  -- the upper part is still there, and so is the lower one, further up
  upper_there : bare_at us ds at ≡ bare_at ws bs at
  upper_there = mv.low at (omega arith)

  lower-there : bare_at us ds lo ≡ bare_at ws bs at
  lower-there =
      let j : lo ≡ at + (1 + k) = omega arith in
      ap (bare_at us ds) j ∙ mv.moved at (omega arith) (omega (arith, c.used))

  module _ (vs cs : List ℕ) (x : Bare) (f : Filled us ds vs cs at x) where
    lower-next : bare_at vs cs lo ≡ bare_at ws bs at
    lower-next = f.others lo (λ q. omega arith) (omega (arith, w.labels, mv.len_b, c.used)) ∙ lower-there

    module _ (vs₂ cs₂ : List ℕ) (xs : List Bare) (l : length xs ≡ k) (b : Built vs cs vs₂ cs₂ (at + 1) xs) where
      lower_then : bare_at vs₂ cs₂ lo ≡ bare_at ws bs at
      lower_then = b.high lo (omega arith) (omega (arith, w.labels, mv.len_b, f.len_b, c.used)) ∙ lower-next

      cut_around : (vs₃ cs₃ : List ℕ) (y : Bare) → Filled vs₂ cs₂ vs₃ cs₃ lo y → Replaced ws bs vs₃ cs₃ at 1 (x ∷ xs ++ (y ∷ []))
      cut_around vs₃ cs₃ y g =
          let l₁ = mv.len_b in
          let l₂ = f.len_b in
          let l₃ = b.len_b in
          let wl = w.labels in
          let cu = c.used in
          let ll : length (x ∷ xs ++ (y ∷ [])) ≡ suc (length xs + 1) = ap suc (length-append xs (y ∷ [])) in
          let j : at + suc (length xs) ≡ lo = omega arith in
          record {
            len_w = g.len_w ∙ b.len_w ∙ f.len_w ∙ mv.len_w;
            len_b = g.len_b ∙ b.len_b ∙ f.len_b ∙ mv.len_b;
            front = λ i h.
                g.others i (λ q. omega arith) (omega arith) ∙ b.low i (omega arith) (omega arith) ∙ f.others i (λ q. omega arith) (omega arith) ∙ mv.low i (omega arith);
            slots =
                ap (bares_from vs₃ cs₃ at) ll
                ∙ run-whole (bare_at vs₃ cs₃) at x xs (y ∷ [])
                (record {
                  slot = g.others at (λ q. omega arith) (omega arith) ∙ b.low at (omega arith) (omega arith) ∙ f.slot;
                  below = run_ext (bare_at vs₃ cs₃) (bare_at vs₂ cs₂) (at + 1) (at + 1) (length xs) (λ i h. g.others (at + 1 + i) (λ q. omega arith) (omega arith)) ∙ b.slots;
                  beside = run_one (bare_at vs₃ cs₃) (at + suc (length xs)) ∙ ap (λ (z : Bare). z ∷ []) (ap (bare_at vs₃ cs₃) j ∙ g.slot);
                });
            back = λ i h.
                let p : at + length (x ∷ xs ++ (y ∷ [])) + i ≡ at + 1 + k + 1 + i = omega (arith, ll) in
                let q : at + 1 + k + 1 + i ≡ at + 1 + i + (1 + k) = omega arith in
                ap (bare_at vs₃ cs₃) p
                ∙ g.others (at + 1 + k + 1 + i) (λ z. omega arith) (omega arith)
                ∙ b.high (at + 1 + k + 1 + i) (omega arith) (omega arith)
                ∙ f.others (at + 1 + k + 1 + i) (λ z. omega arith) (omega arith)
                ∙ ap (bare_at us ds) q
                ∙ mv.moved (at + 1 + i) (omega arith) (omega arith);
          }

      -- and the spans that are short
      cut_short : PoolRule ws bs → (vs₃ cs₃ : List ℕ) (u : Num) → x ≡ front_of m u (bare_at ws bs at) → Filled vs₂ cs₂ vs₃ cs₃ lo (back_of m (bare_at ws bs at))
          → span_of vs at ≡ span_of us at → span_of vs₃ lo ≡ span_of vs₂ lo → Leafy vs₂ (at + 1) k (start_of ws at + m) → Loose vs₃ (n + (1 + k)) (at + 1) (1 + k) 0
      cut_short rule vs₃ cs₃ u ex g own own₂ leaf =
          let l₁ = mv.len_b in
          let l₂ = f.len_b in
          let l₃ = b.len_b in
          let wl = w.labels in
          let cu = c.used in
          let z : lo ≡ at + (1 + k) = omega arith in
          before-loose ws vs₃ n at k m (rests_are ws bs n e rule) (omega arith) c.some c.cut
          (λ i h.
          like ws bs vs₃ cs₃ i i
          (g.others i (λ q. omega arith) (omega arith) ∙ b.low i (omega arith) (omega arith) ∙ f.others i (λ q. omega arith) (omega arith) ∙ mv.low i (omega arith))
          (g.spans i (λ q. omega arith) ∙ b.low-span i (omega arith) ∙ f.spans i (λ q. omega arith) ∙ mv.low-span i (omega arith)))
          (upper_is ws bs vs₃ cs₃ at lo m c.cut c.short (omega arith) u
          (g.others at (λ q. omega arith) (omega arith) ∙ b.low at (omega arith) (omega arith) ∙ f.slot ∙ ex)
          (g.spans at (λ q. omega arith) ∙ b.low-span at (omega arith) ∙ own ∙ mv.low-span at (omega arith)))
          (rw (← le)
          (lower-is ws bs vs₃ cs₃ at lo m c.cut c.short (omega arith) g.slot
          (own₂ ∙ b.high-span lo (omega arith) ∙ f.spans lo (λ q. omega arith) ∙ ap (span_of us) z ∙ mv.moved-span at (omega arith) (omega arith))))
          (λ i h q.
          like ws bs vs₃ cs₃ i (i + (1 + k))
          (g.others (i + (1 + k)) (λ y. omega arith) (omega arith) ∙ b.high (i + (1 + k)) (omega arith) (omega arith) ∙ f.others (i + (1 + k)) (λ y. omega arith) (omega arith) ∙ mv.moved i (omega arith) q)
          (g.spans (i + (1 + k)) (λ y. omega arith) ∙ b.high-span (i + (1 + k)) (omega arith) ∙ f.spans (i + (1 + k)) (λ y. omega arith) ∙ mv.moved-span i (omega arith) q))
          (leafy_kept vs₂ vs₃ (at + 1) k (start_of ws at + m) (λ i h q. like vs₂ cs₂ vs₃ cs₃ i i (g.others i (λ y. omega arith) (omega arith)) (g.spans i (λ y. omega arith))) leaf)

-- as the code leaves them: each part is made of what stands in its slot
cut_parts : (ws bs us ds vs cs vs₂ cs₂ vs₃ cs₃ : List ℕ) (at n k m lo : ℕ) (u : Num) (xs : List Bare) → lo ≡ at + 1 + k → n ≡ nodes_of ws → Cuts ws at m → Within ws bs (n + (1 + k))
    → PoolRule ws bs → Moved ws bs us ds at n (1 + k)
    → Filled us ds vs cs at (front_of m u (bare_at us ds at)) × (span_of vs at ≡ span_of us at) → length xs ≡ k → Built vs cs vs₂ cs₂ (at + 1) xs
    → Leafy vs₂ (at + 1) k (start_of ws at + m) → Filled vs₂ cs₂ vs₃ cs₃ lo (back_of m (bare_at vs₂ cs₂ lo)) × (span_of vs₃ lo ≡ span_of vs₂ lo)
    → Replaced ws bs vs₃ cs₃ at 1 (front_of m u (bare_at ws bs at) ∷ xs ++ (back_of m (bare_at ws bs at) ∷ [])) × Loose vs₃ (n + (1 + k)) (at + 1) (1 + k) 0
cut_parts ws bs us ds vs cs vs₂ cs₂ vs₃ cs₃ at n k m lo u xs le e c w rule mv f l b leaf g =
    let f' : Filled us ds vs cs at (front_of m u (bare_at ws bs at)) = rw (upper_there ws bs us ds at n k m lo le e c w mv) at f.0 in
    let o = lower_then ws bs us ds at n k m lo le e c w mv vs cs (front_of m u (bare_at ws bs at)) f' vs₂ cs₂ xs l b in
    let g' : Filled vs₂ cs₂ vs₃ cs₃ lo (back_of m (bare_at ws bs at)) = rw o at g.0 in (
      cut_around ws bs us ds at n k m lo le e c w mv vs cs (front_of m u (bare_at ws bs at)) f' vs₂ cs₂ xs l b vs₃ cs₃ (back_of m (bare_at ws bs at)) g',
      cut_short ws bs us ds at n k m lo le e c w mv vs cs (front_of m u (bare_at ws bs at)) f' vs₂ cs₂ xs l b rule vs₃ cs₃ u refl g' f.1 g.1 leaf,
    )

-- A cut with the records xs behind the subtree of its lower part, which ends at `end`
module _ (ws bs us ds us₂ ds₂ : List ℕ) (at n k m end : ℕ) (e : n ≡ nodes_of ws) (c : Cuts ws at m) (w : Within ws bs (n + (1 + k))) (less : at < end) (most : end ≤ n)
    (mv : Moved ws bs us ds end n (1 + k)) (mv₂ : Moved us ds us₂ ds₂ at end 1) where
  high_upper : bare_at us₂ ds₂ at ≡ bare_at ws bs at
  high_upper = mv₂.low at (omega arith) ∙ mv.low at (omega arith)

  -- what stood from `at` on stands one slot higher
  higher : (i : ℕ) → at ≤ i → i < end → bare_at us₂ ds₂ (i + 1) ≡ bare_at ws bs i
  higher i h l = mv₂.moved i h l ∙ mv.low i (omega arith)

  module _ (vs cs : List ℕ) (x : Bare) (f : Filled us₂ ds₂ vs cs at x) where
    high-lower : bare_at vs cs (at + 1) ≡ bare_at ws bs at
    high-lower = f.others (at + 1) (λ q. omega arith) (omega (arith, w.labels, mv.len_b, mv₂.len_b)) ∙ higher at (omega arith) less

    module _ (vs₂ cs₂ : List ℕ) (y : Bare) (g : Filled vs cs vs₂ cs₂ (at + 1) y) (vs₃ cs₃ : List ℕ) (xs : List Bare) (l : length xs ≡ k)
        (b : Built vs₂ cs₂ vs₃ cs₃ (end + 1) xs) where
      -- the slots behind the two parts, up to the end
      kids-there : (i : ℕ) → i < end - (at + 1) → bare_at vs₃ cs₃ (at + 2 + i) ≡ bare_at ws bs (at + 1 + i)
      kids-there i h =
          let l₁ = mv.len_b in
          let l₂ = mv₂.len_b in
          let l₃ = f.len_b in
          let l₄ = g.len_b in
          let wl = w.labels in
          let j : at + 2 + i ≡ at + 1 + i + 1 = omega arith in
          b.low (at + 2 + i) (omega arith) (omega arith)
          ∙ g.others (at + 2 + i) (λ q. omega arith) (omega arith)
          ∙ f.others (at + 2 + i) (λ q. omega arith) (omega arith)
          ∙ ap (bare_at us₂ ds₂) j
          ∙ higher (at + 1 + i) (omega arith) (omega arith)

      cut-behind : Replaced ws bs vs₃ cs₃ at (end - at) (x ∷ (y ∷ bares_from ws bs (at + 1) (end - (at + 1))) ++ xs)
      cut-behind =
          let l₁ = mv.len_b in
          let l₂ = mv₂.len_b in
          let l₃ = f.len_b in
          let l₄ = g.len_b in
          let wl = w.labels in
          let ks = bares_from ws bs (at + 1) (end - (at + 1)) in
          let lk : length ks ≡ end - (at + 1) = run_length (bare_at ws bs) (at + 1) (end - (at + 1)) in
          let ll : length (x ∷ (y ∷ ks) ++ xs) ≡ suc (suc (length ks) + length xs) = ap suc (length-append (y ∷ ks) xs) in
          let j : at + suc (suc (length ks)) ≡ end + 1 = omega arith in
          let two : suc (at + 1) ≡ at + 2 = omega arith in
          let y-there : bare_at vs₃ cs₃ (at + 1) ≡ y = b.low (at + 1) (omega arith) (omega arith) ∙ g.slot in
          let ks_there : bares_from vs₃ cs₃ (suc (at + 1)) (length ks) ≡ ks =
          ap (λ (i : ℕ). bares_from vs₃ cs₃ i (length ks)) two
          ∙ ap (bares_from vs₃ cs₃ (at + 2)) lk
          ∙ run_ext (bare_at vs₃ cs₃) (bare_at ws bs) (at + 2) (at + 1) (end - (at + 1)) kids-there in
          record {
            len_w = b.len_w ∙ g.len_w ∙ f.len_w ∙ mv₂.len_w ∙ mv.len_w;
            len_b = b.len_b ∙ g.len_b ∙ f.len_b ∙ mv₂.len_b ∙ mv.len_b;
            front = λ i h.
                b.low i (omega arith) (omega arith)
                ∙ g.others i (λ q. omega arith) (omega arith)
                ∙ f.others i (λ q. omega arith) (omega arith)
                ∙ mv₂.low i (omega arith)
                ∙ mv.low i (omega arith);
            slots =
                ap (bares_from vs₃ cs₃ at) ll
                ∙ run-whole (bare_at vs₃ cs₃) at x (y ∷ ks) xs
                (record {
                  slot = b.low at (omega arith) (omega arith) ∙ g.others at (λ q. omega arith) (omega arith) ∙ f.slot;
                  below = run_cons (bare_at vs₃ cs₃) (at + 1) (length ks) ∙ cc (y-there, ks_there);
                  beside = ap (λ (i : ℕ). bares_from vs₃ cs₃ i (length xs)) j ∙ b.slots;
                });
            back = λ i h.
                let p : at + length (x ∷ (y ∷ ks) ++ xs) + i ≡ end + 1 + k + i = omega (arith, ll) in
                let q : end + 1 + k + i ≡ end + i + (1 + k) = omega arith in
                let z : end + i ≡ at + (end - at) + i = omega arith in
                ap (bare_at vs₃ cs₃) p
                ∙ b.high (end + 1 + k + i) (omega arith) (omega arith)
                ∙ g.others (end + 1 + k + i) (λ o. omega arith) (omega arith)
                ∙ f.others (end + 1 + k + i) (λ o. omega arith) (omega arith)
                ∙ mv₂.high (end + 1 + k + i) (omega arith) (omega arith)
                ∙ ap (bare_at us ds) q
                ∙ mv.moved (end + i) (omega arith) (omega arith)
                ∙ ap (bare_at ws bs) z;
          }

      -- and the spans that are short
      behind-short : PoolRule ws bs → end ≡ at + span_of ws at → m < len_of ws at → 1 ≤ k → x ≡ front_of m none (bare_at ws bs at) → y ≡ back_of m (bare_at ws bs at)
          → span_of vs at ≡ span_of us₂ at → span_of vs₂ (at + 1) ≡ span_of vs (at + 1) → Leafy vs₃ (end + 1) k (start_of ws at + m) → Loose vs₃ (n + (1 + k)) (at + 1) (1 + k) 0
      behind-short rule ended cut one ex ey own own₂ leaf =
          let l₁ = mv.len_b in
          let l₂ = mv₂.len_b in
          let l₃ = f.len_b in
          let l₄ = g.len_b in
          let wl = w.labels in
          behind-loose ws vs₃ n at end k m (rests_are ws bs n e rule) (omega arith) ended c.some cut one
          (λ i h.
          like ws bs vs₃ cs₃ i i
          (b.low i (omega arith) (omega arith) ∙ g.others i (λ q. omega arith) (omega arith) ∙ f.others i (λ q. omega arith) (omega arith) ∙ mv₂.low i (omega arith) ∙ mv.low i (omega arith))
          (b.low-span i (omega arith) ∙ g.spans i (λ q. omega arith) ∙ f.spans i (λ q. omega arith) ∙ mv₂.low-span i (omega arith) ∙ mv.low-span i (omega arith)))
          (upper_is ws bs vs₃ cs₃ at (at + 1) m c.cut c.short (omega arith) none
          (b.low at (omega arith) (omega arith) ∙ g.others at (λ q. omega arith) (omega arith) ∙ f.slot ∙ ex)
          (b.low-span at (omega arith) ∙ g.spans at (λ q. omega arith) ∙ own ∙ mv₂.low-span at (omega arith) ∙ mv.low-span at (omega arith)))
          (lower-is ws bs vs₃ cs₃ at (at + 1) m c.cut c.short (omega arith)
          (b.low (at + 1) (omega arith) (omega arith) ∙ g.slot ∙ ey)
          (b.low-span (at + 1) (omega arith) ∙ own₂ ∙ f.spans (at + 1) (λ q. omega arith) ∙ mv₂.moved-span at (omega arith) less ∙ mv.low-span at (omega arith)))
          (λ i h q.
          like ws bs vs₃ cs₃ i (i + 1)
          (b.low (i + 1) (omega arith) (omega arith) ∙ g.others (i + 1) (λ z. omega arith) (omega arith) ∙ f.others (i + 1) (λ z. omega arith) (omega arith) ∙ higher i (omega arith) q)
          (b.low-span (i + 1) (omega arith) ∙ g.spans (i + 1) (λ z. omega arith) ∙ f.spans (i + 1) (λ z. omega arith) ∙ mv₂.moved-span i (omega arith) q ∙ mv.low-span i (omega arith)))
          (λ i h q.
          like ws bs vs₃ cs₃ i (i + (1 + k))
          (b.high (i + (1 + k)) (omega arith) (omega arith)
          ∙ g.others (i + (1 + k)) (λ z. omega arith) (omega arith)
          ∙ f.others (i + (1 + k)) (λ z. omega arith) (omega arith)
          ∙ mv₂.high (i + (1 + k)) (omega arith) (omega arith)
          ∙ mv.moved i h q)
          (b.high-span (i + (1 + k)) (omega arith)
          ∙ g.spans (i + (1 + k)) (λ z. omega arith)
          ∙ f.spans (i + (1 + k)) (λ z. omega arith)
          ∙ mv₂.high-span (i + (1 + k)) (omega arith)
          ∙ mv.moved-span i h q))
          leaf

-- as the code leaves them, where the subtree has so many nodes
behind_parts : (ws bs us ds us₂ ds₂ vs cs vs₂ cs₂ vs₃ cs₃ : List ℕ) (at n k m span : ℕ) (xs : List Bare) → n ≡ nodes_of ws → Cuts ws at m → Within ws bs (n + (1 + k))
    → 1 ≤ span → at + span ≤ n → PoolRule ws bs → span ≡ span_of ws at → m < len_of ws at → 1 ≤ k → Moved ws bs us ds (at + span) n (1 + k) → Moved us ds us₂ ds₂ at (at + span) 1
    → Filled us₂ ds₂ vs cs at (front_of m none (bare_at us₂ ds₂ at)) × (span_of vs at ≡ span_of us₂ at)
    → Filled vs cs vs₂ cs₂ (at + 1) (back_of m (bare_at vs cs (at + 1))) × (span_of vs₂ (at + 1) ≡ span_of vs (at + 1))
    → length xs ≡ k → Built vs₂ cs₂ vs₃ cs₃ (at + span + 1) xs → Leafy vs₃ (at + span + 1) k (start_of ws at + m)
    → Replaced ws bs vs₃ cs₃ at span (front_of m none (bare_at ws bs at) ∷ (back_of m (bare_at ws bs at) ∷ bares_from ws bs (at + 1) (span - 1)) ++ xs)
    × Loose vs₃ (n + (1 + k)) (at + 1) (1 + k) 0
behind_parts ws bs us ds us₂ ds₂ vs cs vs₂ cs₂ vs₃ cs₃ at n k m span xs e c w one most rule sp cut some mv mv₂ f g l b leaf =
    let h : at < at + span = omega arith in
    let f' : Filled us₂ ds₂ vs cs at (front_of m none (bare_at ws bs at)) = rw (high_upper ws bs us ds us₂ ds₂ at n k m (at + span) e c w h most mv mv₂) at f.0 in
    let o = high-lower ws bs us ds us₂ ds₂ at n k m (at + span) e c w h most mv mv₂ vs cs (front_of m none (bare_at ws bs at)) f' in
    let p : at + span - at ≡ span = omega arith in
    let q : at + span - (at + 1) ≡ span - 1 = omega arith in
    let g' : Filled vs cs vs₂ cs₂ (at + 1) (back_of m (bare_at ws bs at)) = rw o at g.0 in (
      rw (p, q) at
          (cut-behind ws bs us ds us₂ ds₂ at n k m (at + span) e c w h most mv mv₂ vs cs (front_of m none (bare_at ws bs at)) f' vs₂ cs₂ (back_of m (bare_at ws bs at)) g' vs₃ cs₃ xs l b),
      behind-short ws bs us ds us₂ ds₂ at n k m (at + span) e c w h most mv mv₂ vs cs (front_of m none (bare_at ws bs at)) f' vs₂ cs₂ (back_of m (bare_at ws bs at)) g' vs₃ cs₃ xs l b
          rule (ap (λ (x : ℕ). at + x) sp) cut some refl refl f.1 g.1 leaf,
    )

-- A cut alone: its lower part stands in the next slot.
pub cut-lower : {ws bs us ds vs : List ℕ} {at n m : ℕ} {x : Bare} → Grows ws bs n 1 → Cuts ws at m → Moved ws bs us ds at n 1 → Filled us ds vs ds at x → bare_at vs ds (at + 1) ≡ bare_at ws bs at
cut-lower {ws} {bs} {us} {ds} {vs} {at} {n} {m} {x} g c mv f = lower-next ws bs us ds at n 0 m (at + 1) (omega arith) g.nodes c g.within mv vs ds x f

pub cut_two : {ws bs us ds vs vs₂ cs₂ : List ℕ} {at n m : ℕ} {u : Num} → Grows ws bs n 1 → Cuts ws at m → PoolRule ws bs → Moved ws bs us ds at n 1
    → Filled us ds vs ds at (front_of m u (bare_at us ds at)) × (span_of vs at ≡ span_of us at)
    → Filled vs ds vs₂ cs₂ (at + 1) (back_of m (bare_at vs ds (at + 1))) × (span_of vs₂ (at + 1) ≡ span_of vs (at + 1))
    → Replaced ws bs vs₂ cs₂ at 1 (front_of m u (bare_at ws bs at) ∷ back_of m (bare_at ws bs at) ∷ []) × Loose vs₂ (n + 1) (at + 1) 1 0
cut_two {ws} {bs} {us} {ds} {vs} {vs₂} {cs₂} {at} {n} {m} {u} g c rule mv f b =
    cut_parts ws bs us ds vs ds vs ds vs₂ cs₂ at n 0 m (at + 1) u [] (omega arith) g.nodes c g.within rule mv f refl (built_none vs ds (at + 1)) (leafy_none vs (at + 1) (start_of ws at + m)) b

-- The two parts of a fork, where the leaf comes behind the subtree
module _ {ws bs us ds us₂ ds₂ : List ℕ} {at n k m span : ℕ} {q : Key} (g : Grows ws bs n k) (fork : Forks ws at m q) (kn : k ≡ 1 + leaf_nodes (length q)) (sp : span ≡ span_of ws at)
    (mv : Moved ws bs us ds (at + span) n k) (mv₂ : Moved us ds us₂ ds₂ at (at + span) 1) where
  pub behind_upper : bare_at us₂ ds₂ at ≡ bare_at ws bs at
  behind_upper = mv₂.low at (omega arith) ∙ mv.low at (omega (arith, fork.span))

  pub behind-lower : {vs cs : List ℕ} {x : Bare} → Filled us₂ ds₂ vs cs at x → bare_at vs cs (at + 1) ≡ bare_at ws bs at
  behind-lower {vs} {cs} {x} f =
      let inside = fork.inside in
      high-lower ws bs us ds us₂ ds₂ at n (leaf_nodes (length q)) m (at + span) g.nodes fork.cuts (rw kn at g.within) (omega (arith, fork.span)) (omega (arith, g.nodes)) (rw kn at mv) mv₂ vs cs x f

-- A fork: the k new slots are the lower part's, and those of the leaf for what is left of the key.
module _ {ws bs : List ℕ} {at n k m start : ℕ} {q : Key} (v : ℕ) (g : Grows ws bs n k) (fork : Forks ws at m q) (kn : k ≡ 1 + leaf_nodes (length q)) (rule : PoolRule ws bs) (st : start ≡ start_of ws at) where
  abbrev leaf : List Bare
  leaf = leaf_bares (start_of ws at + m) q v

  leaf-count : length leaf ≡ leaf_nodes (length q)
  leaf-count = leaf-length (start_of ws at + m) q v fork.left

  all_within : Within ws bs (n + (1 + leaf_nodes (length q)))
  all_within = rw kn at g.within

  -- the lower part, where the leaf stands before it
  pub before-lower : {us ds vs cs vs₂ cs₂ : List ℕ} {x : Bare} → Moved ws bs us ds at n k → Filled us ds vs cs at x → Built vs cs vs₂ cs₂ (at + 1) (leaf_bares (start + m) q v)
      → bare_at vs₂ cs₂ (at + k) ≡ bare_at ws bs at
  before-lower {us} {ds} {vs} {cs} {vs₂} {cs₂} {x} mv f b =
      let b' : Built vs cs vs₂ cs₂ (at + 1) leaf = rw st at b in
      let mv' : Moved ws bs us ds at n (1 + leaf_nodes (length q)) = rw kn at mv in
      lower_then ws bs us ds at n (leaf_nodes (length q)) m (at + k) (omega arith) g.nodes fork.cuts all_within mv' vs cs x f vs₂ cs₂ leaf leaf-count b'

  pub forked_before : {us ds vs cs vs₂ cs₂ vs₃ cs₃ : List ℕ} → Moved ws bs us ds at n k → Filled us ds vs cs at (front_of m none (bare_at us ds at)) × (span_of vs at ≡ span_of us at)
      → Built vs cs vs₂ cs₂ (at + 1) (leaf_bares (start + m) q v)
      → Filled vs₂ cs₂ vs₃ cs₃ (at + k) (back_of m (bare_at vs₂ cs₂ (at + k))) × (span_of vs₃ (at + k) ≡ span_of vs₂ (at + k))
      → Replaced ws bs vs₃ cs₃ at 1 (fork_bares ws bs at m q v true) × Loose vs₃ (n + k) (at + 1) k 0
  forked_before {us} {ds} {vs} {cs} {vs₂} {cs₂} {vs₃} {cs₃} mv f b l =
      let b' : Built vs cs vs₂ cs₂ (at + 1) leaf = rw st at b in
      let mv' : Moved ws bs us ds at n (1 + leaf_nodes (length q)) = rw kn at mv in
      let r = cut_parts ws bs us ds vs cs vs₂ cs₂ vs₃ cs₃ at n (leaf_nodes (length q)) m (at + k) none leaf (omega arith) g.nodes fork.cuts all_within rule mv' f leaf-count b'
      (built_leafy vs cs vs₂ cs₂ (at + 1) (start_of ws at + m) q v (leaf_nodes (length q)) fork.left leaf-count b') l in
      (r.0, rw kn r.1)

  pub forked_behind : {us ds us₂ ds₂ vs cs vs₂ cs₂ vs₃ cs₃ : List ℕ} {span : ℕ} → span ≡ span_of ws at → Moved ws bs us ds (at + span) n k → Moved us ds us₂ ds₂ at (at + span) 1
      → Filled us₂ ds₂ vs cs at (front_of m none (bare_at us₂ ds₂ at)) × (span_of vs at ≡ span_of us₂ at)
      → Filled vs cs vs₂ cs₂ (at + 1) (back_of m (bare_at vs cs (at + 1))) × (span_of vs₂ (at + 1) ≡ span_of vs (at + 1))
      → Built vs₂ cs₂ vs₃ cs₃ (at + span + 1) (leaf_bares (start + m) q v)
      → Replaced ws bs vs₃ cs₃ at (span_of ws at) (fork_bares ws bs at m q v false) × Loose vs₃ (n + k) (at + 1) k 0
  forked_behind {us} {ds} {us₂} {ds₂} {vs} {cs} {vs₂} {cs₂} {vs₃} {cs₃} {span} sp mv mv₂ f l b =
      let b' : Built vs₂ cs₂ vs₃ cs₃ (at + span + 1) leaf = rw st at b in
      let mv' : Moved ws bs us ds (at + span) n (1 + leaf_nodes (length q)) = rw kn at mv in
      let inside = fork.inside in
      let r = behind_parts ws bs us ds us₂ ds₂ vs cs vs₂ cs₂ vs₃ cs₃ at n (leaf_nodes (length q)) m span leaf g.nodes fork.cuts all_within (omega (arith, fork.span)) (omega (arith, g.nodes)) rule sp
      fork.less (omega arith) mv' mv₂ f l leaf-count b' (built_leafy vs₂ cs₂ vs₃ cs₃ (at + span + 1) (start_of ws at + m) q v (leaf_nodes (length q)) fork.left leaf-count b') in
      (rw (← sp) r.0, rw kn r.1)
