-- What write has done where it tells 0: the image and the numbers of the pool's tree stand at the fronts of the outputs, and
-- their lengths are told. So pools that hold one tree are written alike. Assumes nothing.
use mathlib.Core.Path.{◌≡◌, refl, sym, ap, ◌∙◌}
use mathlib.Core.Bool.{Bool, true, false}
use mathlib.Core.List.{List, [], ◌∷◌}
use mathlib.Core.Option.{Option, none, some}
use Prim.Native.Nat.{ℕ}
use native.Mathlib.Omega.{arith}
use lib.ListN.{length}
use lib.Dec.{leb}
use Rattle.tree.specs.Tree.{Tree}
use Rattle.tree.specs.Image.{image_t, numbers_t}
use Rattle.tree.specs.Told.{Answer, Told, done, written_told}
use Rattle.tree.specs.Calls.{both, write_call}
use Rattle.tree.specs.declared.Written.{Written}
use Rattle.pool.specs.Lent.{Lent, tree_in}
use Rattle.writer.specs.Post.{front, after, WriteAllows}
use Rattle.promises.specs.Pools.{Accepted}

-- 0 is told of a tree only, with both lengths.
pub record Tells (o : Option Tree) (told : Told) : Type 0 where
  pub tree : Tree
  pub held : o ≡ some tree
  pub lengths : told ≡ done (length (image_t tree) ∷ length (numbers_t tree) ∷ [])

tells : (o : Option Tree) (bytes numbers : ℕ) → Accepted (write_call o bytes numbers) → Tells o (write_call o bytes numbers)
unfolding write_call
tells none bytes numbers e = absurd (omega arith)
tells (some t) bytes numbers e = go (both (leb (length (image_t t)) bytes) (leb (length (numbers_t t)) numbers)) refl
  where
    go : (b : Bool) → both (leb (length (image_t t)) bytes) (leb (length (numbers_t t)) numbers) ≡ b → Tells (some t) (write_call (some t) bytes numbers)
    go false g = absurd (omega (arith, rw (g, write_call) at e))
    go true g = record { tree = t; held = refl; lengths = rw (g, write_call) }

pub record Wrote (l : Lent) (r : Answer Written) (tree numbers tree' numbers' : List ℕ) : Type 0 where
  pub whole : Tree
  pub held : tree_in l ≡ some whole
  pub lengths : written_told r ≡ done (length (image_t whole) ∷ length (numbers_t whole) ∷ [])
  pub bytes : tree' ≡ front (image_t whole) tree
  pub nums : numbers' ≡ front (numbers_t whole) numbers

after-done : (o : Option Tree) (t : Tree) (n : ℕ) (what : Tree → List ℕ) (out : List ℕ) → o ≡ some t → n ≡ 0 → after o n what out ≡ front (what t) out
unfolding after
after-done o t n what out e f = rw (e, f)

pub write_leaves : (l : Lent) (r : Answer Written) (tree numbers tree' numbers' : List ℕ) → WriteAllows r l tree numbers tree' numbers' → Accepted (written_told r)
    → Wrote l r tree numbers tree' numbers'
write_leaves l r tree numbers tree' numbers' w e =
    let t = tells (tree_in l) (length tree) (length numbers) (sym (ap (λ (z : Told). z.number) w.said) ∙ e) in
    record {
      whole = t.tree;
      held = t.held;
      lengths = w.said ∙ t.lengths;
      bytes = w.bytes ∙ after-done (tree_in l) t.tree _ image_t tree t.held e;
      nums = w.nums ∙ after-done (tree_in l) t.tree _ numbers_t numbers t.held e;
    }

-- The same bytes and the same numbers stand at the fronts, and the same lengths are told.
pub record WroteSame (r s : Answer Written) (tree numbers tree' numbers' tree₂ numbers₂ tree₂' numbers₂' : List ℕ) : Type 0 where
  pub image : List ℕ
  pub list : List ℕ
  pub lengths : written_told r ≡ done (length image ∷ length list ∷ [])
  pub lengths₂ : written_told s ≡ done (length image ∷ length list ∷ [])
  pub bytes : tree' ≡ front image tree
  pub bytes₂ : tree₂' ≡ front image tree₂
  pub nums : numbers' ≡ front list numbers
  pub nums₂ : numbers₂' ≡ front list numbers₂

pub wrote_same : (l m : Lent) → tree_in l ≡ tree_in m → {tree numbers tree' numbers' tree₂ numbers₂ tree₂' numbers₂' : List ℕ} (r s : Answer Written)
    → WriteAllows r l tree numbers tree' numbers' → WriteAllows s m tree₂ numbers₂ tree₂' numbers₂' → Accepted (written_told r) → Accepted (written_told s)
    → WroteSame r s tree numbers tree' numbers' tree₂ numbers₂ tree₂' numbers₂'
wrote_same l m e {tree} {numbers} {tree'} {numbers'} {tree₂} {numbers₂} {tree₂'} {numbers₂'} r s a b f g =
    let x = write_leaves l r tree numbers tree' numbers' a f in
    let y = write_leaves m s tree₂ numbers₂ tree₂' numbers₂' b g in
    let same : y.whole ≡ x.whole = cc (x.held, y.held) in
    record {
      image = image_t x.whole;
      list = numbers_t x.whole;
      lengths = x.lengths;
      lengths₂ = rw same at y.lengths;
      bytes = x.bytes;
      bytes₂ = rw same at y.bytes;
      nums = x.nums;
      nums₂ = rw same at y.nums;
    }
