-- What slots say one after another: joined, taken apart, compared place by place. Assumes nothing.
use mathlib.Core.Path.{◌≡◌, refl, sym, ap, ◌∙◌}
use mathlib.Core.List.{List, [], ◌∷◌, ◌++◌}
use Prim.Native.Nat.{ℕ, zero, suc, ◌+◌, ◌<◌}
use native.Mathlib.Nat.{add-zero, zero-add, suc-add, add-suc}
use native.Mathlib.Omega.{arith}
use lib.ListN.{length}
use Rattle.slots.specs.Records.{run}

-- two lists joined at the same place
pub append_parts : {A : Type 0} (a b c d : List A) → length a ≡ length c → a ++ b ≡ c ++ d → (a ≡ c) × (b ≡ d)
append_parts [] b [] d l e = (refl, e)
append_parts [] b (y ∷ c) d l e = absurd (omega arith)
append_parts (x ∷ a) b [] d l e = absurd (omega arith)
append_parts (x ∷ a) b (y ∷ c) d l e =
    let t : a ++ b ≡ c ++ d = cc in
    let h : x ≡ y = cc in
    let r = append_parts a b c d (omega arith) t in
    let r₀ : a ≡ c = r.0 in
    (cc, r.1)

module _ {A : Type 0} (at : ℕ → A) where
  pub run_cons : (i m : ℕ) → run at i (suc m) ≡ at i ∷ run at (suc i) m
  unfolding run
  run_cons i m = refl

  pub run_join : (i m k : ℕ) → run at i (m + k) ≡ run at i m ++ run at (i + m) k
  unfolding run
  run_join i zero k = rw (zero-add, add-zero)
  run_join i (suc m) k = rw (suc-add, run_join (suc i) m k, suc-add, ← add-suc)

  pub run_length : (i m : ℕ) → length (run at i m) ≡ m
  unfolding run
  run_length i zero = refl
  run_length i (suc m) = ap suc (run_length (suc i) m)

  -- a slot, k behind it, and r behind those
  run-node : (c k r : ℕ) → run at c (suc (k + r)) ≡ at c ∷ run at (c + 1) k ++ run at (c + suc k) r
  run-node c k r =
      let a : suc c ≡ c + 1 = omega arith in
      let b : c + 1 + k ≡ c + suc k = omega arith in
      run_cons c (k + r) ∙ rw (a, run_join (c + 1) k r, b)

  pub record Parts (c : ℕ) (x : A) (xs ys : List A) : Type 0 where
    pub slot : at c ≡ x
    pub below : run at (c + 1) (length xs) ≡ xs
    pub beside : run at (c + suc (length xs)) (length ys) ≡ ys

  pub run-whole : (c : ℕ) (x : A) (xs ys : List A) → Parts c x xs ys → run at c (suc (length xs + length ys)) ≡ x ∷ xs ++ ys
  run-whole c x xs ys p = run-node c (length xs) (length ys) ∙ cc (p.slot, p.below, p.beside)

  pub run_parts : (c : ℕ) (x : A) (xs ys : List A) → run at c (suc (length xs + length ys)) ≡ x ∷ xs ++ ys → Parts c x xs ys
  run_parts c x xs ys e =
      let k = length xs in
      let r = length ys in
      let q : at c ∷ run at (c + 1) k ++ run at (c + suc k) r ≡ x ∷ xs ++ ys = sym (run-node c k r) ∙ e in
      let t : run at (c + 1) k ++ run at (c + suc k) r ≡ xs ++ ys = cc in
      let p = append_parts (run at (c + 1) k) (run at (c + suc k) r) xs ys (run_length (c + 1) k) t in
      record { slot = cc; below = p.0; beside = p.1 }

-- two runs that agree place by place
pub run_ext : {A : Type 0} (f g : ℕ → A) (j i m : ℕ) → ((x : ℕ) → x < m → f (j + x) ≡ g (i + x)) → run f j m ≡ run g i m
unfolding run
run_ext f g j i zero h = refl
run_ext f g j i (suc m) h =
    let head : f j ≡ g i = ap f (omega arith) ∙ h 0 (omega arith) ∙ ap g (omega arith) in
    let tail : run f (suc j) m ≡ run g (suc i) m =
    run_ext f g (suc j) (suc i) m (λ x l. ap f (omega arith) ∙ h (suc x) (omega arith) ∙ ap g (omega arith)) in
    cc
