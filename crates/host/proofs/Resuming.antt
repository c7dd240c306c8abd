-- A step of the walk that a lent state stands for is the step of that state. Assumes nothing.
use mathlib.Core.Path.{◌≡◌, refl, ap, ◌∙◌}
use mathlib.Core.Bool.{Bool, true, false}
use mathlib.Core.List.{List}
use mathlib.Core.Option.{Option, none, some}
use Prim.Native.Nat.{ℕ, zero, suc, ◌≤◌}
use native.Mathlib.Omega.{arith}
use lib.ListN.{length}
use Rattle.tree.specs.Key.{Key, key_max}
use Rattle.tree.specs.Map.{Pair}
use Rattle.tree.specs.Tree.{Tree}
use Rattle.tree.specs.Told.{stepped_told}
use Rattle.tree.specs.Calls.{fits, last_fits, step_call}
use Rattle.walk.specs.declared.Walk.{Walk}
use Rattle.walk.specs.declared.Step.{Step}
use Rattle.walk.specs.Walks.{prefix_of, last_of, Begins, HandedIn, Leaves, step_of, Steps}
use Rattle.host.specs.Host.{over, last_given, Returns, key_written, NextGiven}
use Rattle.host.specs.Resumed.{Resumes}
use Rattle.host.proofs.Handed.{returned}
use borrow.Author.Tests.{leb-true}

fits-short : (k : Key) → fits k ≡ true → length k ≤ key_max
unfolding fits
fits-short k e = leb-true _ _ e

fits-same : (p q : Key) → length p ≡ length q → fits p ≡ fits q
unfolding fits
fits-same p q e = rw e

given-none : (begun : ℕ) (l : Key) → begun ≡ 0 → last_given begun l ≡ none
unfolding last_given
given-none zero l e = refl
given-none (suc n) l e = absurd (omega arith)

given-some : (begun : ℕ) (l : Key) → (begun ≡ 0 → ⊥) → last_given begun l ≡ some l
unfolding last_given
given-some zero l e = absurd (e refl)
given-some (suc n) l e = refl

pub resumes_fresh : {p : Key} {w : Walk} (begun : ℕ) (l : Key) → Begins p w → begun ≡ 0 → Resumes p (last_given begun l) w
resumes_fresh {p} {w} begun l b e =
    rw (given-none begun l e)
    (record {
      prefix = λ f. b.prefix (fits-short p f);
      prefix_fits = fits-same (prefix_of w) p b.len;
      last = λ f. b.fresh;
      last_fits = ap last_fits b.fresh;
    })

-- Behind a last key the walk goes on.
pub resumes_given : {p : Key} {w u : Walk} (begun : ℕ) (l : Key) → Begins p w → HandedIn l w u → (begun ≡ 0 → ⊥) → Resumes p (last_given begun l) u
unfolding last_fits
resumes_given {p} {w} {u} begun l b g e =
    rw (given-some begun l e)
    (record {
      prefix = λ f. g.prefix ∙ b.prefix (fits-short p f);
      prefix_fits = ap fits g.prefix ∙ fits-same (prefix_of w) p b.len;
      last = λ f. g.last ∙ ap some (g.kept (fits-short l f));
      last_fits = ap last_fits g.last ∙ fits-same g.given l g.len;
    })

written_not : {n : ℕ} (m : ℕ) → n ≡ suc m → (x y : Option Pair) (out : List ℕ) → key_written n x out ≡ key_written n y out
unfolding key_written
written_not m e x y out = rw e

-- What a step leaves in the output
left-bytes : (n : ℕ) (x : Option Pair) (w w' : Walk) (out out' : List ℕ) → Leaves n x w w' out out' → out' ≡ key_written n x out
unfolding key_written
left-bytes zero (some x) w w' out out' g = g.bytes
left-bytes zero none w w' out out' g = absurd g
left-bytes (suc n) x w w' out out' g = g.bytes

-- A key that is too long counts only as such, so that the walk which did not keep it gives the same step.
module _ {p : Key} {l : Option Key} {w : Walk} (s : Resumes p l w) where
  call_by : (t : Tree) (room : ℕ) (a b : Bool) → fits p ≡ a → last_fits l ≡ b → step_call (some t) (prefix_of w) (last_of w) room ≡ step_call (some t) p l room
  unfolding step_call
  call_by t room false b e f = rw (step_call, s.prefix_fits, e)
  call_by t room true false e f = rw (step_call, s.prefix_fits, e, s.last_fits, f)
  call_by t room true true e f = rw (s.prefix e, s.last f)

  same_call : (o : Option Tree) (room : ℕ) → step_call o (prefix_of w) (last_of w) room ≡ step_call o p l room
  unfolding step_call
  same_call none room = refl
  same_call (some t) room = call_by t room (fits p) (last_fits l) refl refl

  module _ (n room : ℕ) (out : List ℕ) where
    written_by : (t : Tree) (a b : Bool) → fits p ≡ a → last_fits l ≡ b → n ≡ (step_call (some t) p l room).number
        → key_written n (step_of (some t) (prefix_of w) (last_of w)) out ≡ key_written n (step_of (some t) p l) out
    unfolding step_call
    written_by t false b e f h = written_not 1 (h ∙ rw (step_call, e)) _ _ out
    written_by t true false e f h = written_not 1 (h ∙ rw (step_call, e, f)) _ _ out
    written_by t true true e f h = rw (s.prefix e, s.last f)

    same_written : (o : Option Tree) → n ≡ (step_call o p l room).number → key_written n (step_of o (prefix_of w) (last_of w)) out ≡ key_written n (step_of o p l) out
    unfolding step_of
    same_written none h = refl
    same_written (some t) h = written_by t (fits p) (last_fits l) refl refl h

  pub next-given : {o : Option Tree} {x : Step} {r : ℕ} {rs rs' out out' : List ℕ} → Steps o w x out out'
      → Returns over (stepped_told x.answer) r rs rs' → NextGiven o p l r rs rs' out out'
  next-given {o} {x} {r} {rs} {rs'} {out} {out'} g h =
      let back = returned (g.said ∙ same_call o (length out)) h in
      record {
        returns = back;
        bytes = left-bytes r (step_of o (prefix_of w) (last_of w)) w x.walk out out' (rw (← h.number) at g.left) ∙ same_written r (length out) out o back.number;
      }
