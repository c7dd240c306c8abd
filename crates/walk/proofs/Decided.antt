-- The contracts decide what a new walk, one that goes on behind a key, and a step answer and leave: two results that they allow
-- agree. Of a walk its prefix and its last key count; the bytes of its arrays behind them are free. Assumes nothing.
use mathlib.Core.Path.{◌≡◌, refl, sym, ap, ◌∙◌}
use mathlib.Core.Bool.{Bool, true, false}
use mathlib.Core.List.{List}
use mathlib.Core.Option.{Option, none, some}
use Prim.Native.Nat.{ℕ, zero, suc, ◌≤◌, ◌<◌}
use native.Mathlib.Omega.{arith}
use lib.ListN.{length}
use Rattle.tree.specs.Key.{Key, key_max}
use Rattle.tree.specs.Map.{Pair}
use Rattle.tree.specs.Tree.{Tree}
use Rattle.tree.specs.Told.{Told, refusal, stepped_told}
use Rattle.tree.specs.Calls.{fits, last_fits, step_call}
use Rattle.tree.proofs.OneAnswer.{stepped_one}
use Rattle.walk.specs.declared.Walk.{Walk}
use Rattle.walk.specs.declared.Step.{Step}
use Rattle.walk.specs.Walks.{prefix_of, last_of, Begins, HandedIn, Leaves, step_of, Steps}
use Rattle.walk.proofs.Answers.{fits_long, call_prefix, call_last}

-- Two walks that go on alike
pub record Alike (v w : Walk) : Type 0 where
  pub prefix : prefix_of v ≡ prefix_of w
  pub last : last_of v ≡ last_of w

pub begins_decided : {p : Key} {v w : Walk} → length p ≤ key_max → Begins p v → Begins p w → Alike v w
begins_decided h a b = record { prefix = a.prefix h ∙ sym (b.prefix h); last = a.fresh ∙ sym b.fresh }

-- A walk under a prefix that is too long gets 2 at every step.
pub begins_long : {t : Tree} {p : Key} {w : Walk} {r : Step} {out out' : List ℕ} → 4096 < length p → Begins p w → Steps (some t) w r out out' → stepped_told r.answer ≡ refusal 2
unfolding key_max
begins_long {t} {p} {w} {r} {out} h b s = s.said ∙ sym (call_prefix t (prefix_of w) (last_of w) (length out) (fits_long (prefix_of w) (omega (arith, b.len))))

pub handed_in_decided : {l : Key} {w u v : Walk} → length l ≤ key_max → HandedIn l w u → HandedIn l w v → Alike u v
handed_in_decided h a b =
    record { prefix = a.prefix ∙ sym b.prefix; last = a.last ∙ ap some (a.kept h) ∙ sym (b.last ∙ ap some (b.kept h)) }

-- So does a walk behind a last key that is too long.
long_last : (t : Tree) (p : Key) (l : Option Key) (room : ℕ) (b : Bool) → fits p ≡ b → last_fits l ≡ false → refusal 2 ≡ step_call (some t) p l room
long_last t p l room false e f = call_prefix t p l room e
long_last t p l room true e f = call_last t p l room e f

pub handed_in_long : {t : Tree} {l : Key} {w u : Walk} {r : Step} {out out' : List ℕ} → 4096 < length l → HandedIn l w u → Steps (some t) u r out out'
    → stepped_told r.answer ≡ refusal 2
unfolding last_fits key_max
handed_in_long {t} {l} {w} {u} {r} {out} h g s =
    let f : last_fits (last_of u) ≡ false = ap last_fits g.last ∙ fits_long g.given (omega (arith, g.len)) in
    s.said ∙ sym (long_last t (prefix_of u) (last_of u) (length out) (fits (prefix_of u)) refl f)

-- what is left by the number told
record Left (n : ℕ) (u v : Walk) (a b : List ℕ) : Type 0 where
  walk : Alike u v
  kept : ¬ (n ≡ 0) → u ≡ v
  out : a ≡ b

leaves_decided : (n : ℕ) (x : Option Pair) (w u v : Walk) (out a b : List ℕ) → Leaves n x w u out a → Leaves n x w v out b → Left n u v a b
leaves_decided zero (some x) w u v out a b p q =
    record {
      walk = record { prefix = p.prefix ∙ sym q.prefix; last = p.last ∙ sym q.last };
      kept = λ h. absurd (h refl);
      out = p.bytes ∙ sym q.bytes;
    }
leaves_decided zero none w u v out a b p q = absurd p
leaves_decided (suc n) x w u v out a b p q =
    let e = p.walk ∙ sym q.walk in
    record { walk = record { prefix = ap prefix_of e; last = ap last_of e }; kept = λ h. e; out = p.bytes ∙ sym q.bytes }

-- Two steps agree: in the answer, in what the walk handed on stands for, and in every byte of the output; a refused walk is
-- the one that was handed in.
pub record Same (r s : Step) (a b : List ℕ) : Type 0 where
  pub answer : r.answer ≡ s.answer
  pub walk : Alike r.walk s.walk
  pub kept : ¬ ((stepped_told r.answer).number ≡ 0) → r.walk ≡ s.walk
  pub out : a ≡ b

pub step_determined : {o : Option Tree} {w : Walk} {r s : Step} {out a b : List ℕ} → Steps o w r out a → Steps o w s out b → Same r s a b
step_determined {o} {w} {r} {s} {out} {a} {b} p q =
    let e : stepped_told r.answer ≡ stepped_told s.answer = p.said ∙ sym q.said in
    let n : (stepped_told s.answer).number ≡ (stepped_told r.answer).number = ap (λ (z : Told). z.number) (sym e) in
    let l = leaves_decided (stepped_told r.answer).number (step_of o (prefix_of w) (last_of w)) w r.walk s.walk out a b p.left (rw n at q.left) in
    record { answer = stepped_one r.answer s.answer e; walk = l.walk; kept = l.kept; out = l.out }
