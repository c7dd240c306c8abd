-- Each step of the tree goes the key's way down, through what stands around a forest. Assumes nothing.
use mathlib.Core.Path.{◌≡◌, refl, ap, ◌∙◌}
use mathlib.Core.List.{◌∷◌, ◌++◌, append_assoc}
use Prim.Native.Nat.{ℕ}
use Rattle.tree.specs.Key.{Key}
use Rattle.tree.specs.Tree.{Forest, node}
use Rattle.tree.specs.Search.{looks_f}
use Rattle.tree.specs.Insert.{insert_f}
use Rattle.tree.specs.Remove.{erase_f}
use Rattle.tree.specs.Split.{detach_f, leave_f}
use Rattle.tree.specs.Context.{Context, top, down, over, plug, depth, Leads, settled, passed}
use Rattle.tree.proofs.Parts.{part-label_ends, strip-append}
use Rattle.tree.proofs.Find.{find_f, find_f_gt}
use Rattle.tree.proofs.Looks.{looks_gt, looks_label_ends, find_further}
use Rattle.tree.proofs.InsertFind.{insert_f_gt, insert_f-label_ends}
use Rattle.tree.proofs.RemoveFind.{erase_f_gt, erase_f-there}
use Rattle.tree.proofs.SplitFind.{detach_f_gt, detach_f-label_ends, leave_f_gt, leave_f-label_ends}
use Rattle.tree.proofs.Nodes.{added_f, added_f_gt, added_f_label_ends}

-- The steps go the same way.
module _ (v : ℕ) where
  pub insert-plug : (C : Context) (f : Forest) (a : ℕ) (k : Key) (y : ℕ) (r : Key) → Leads C a k y r → insert_f (plug C f) a k v ≡ plug C (insert_f f y r v)
  unfolding plug
  insert-plug top f a k y r h = cc
  insert-plug (down b l w rest C) f a k y r h =
      insert-plug C (node b l w f rest) a k b (l ++ y ∷ r) h ∙ ap (plug C) (insert_f-label_ends b l w f rest b (l ++ y ∷ r) v y r refl (part-label_ends l y r))
  insert-plug (over b l w kids C) f a k y r h = insert-plug C (node b l w kids f) a k y r h.1 ∙ ap (plug C) (insert_f_gt b l w kids f y r v h.0)

pub added_plug : (C : Context) (f : Forest) (a : ℕ) (k : Key) (y : ℕ) (r : Key) → Leads C a k y r → added_f (plug C f) a k ≡ added_f f y r
unfolding plug
added_plug top f a k y r h = cc
added_plug (down b l w rest C) f a k y r h =
    added_plug C (node b l w f rest) a k b (l ++ y ∷ r) h ∙ added_f_label_ends b l w f rest b (l ++ y ∷ r) y r refl (part-label_ends l y r)
added_plug (over b l w kids C) f a k y r h = added_plug C (node b l w kids f) a k y r h.1 ∙ added_f_gt b l w kids f y r h.0

pub find_plug : (C : Context) (f : Forest) (a : ℕ) (k : Key) (y : ℕ) (r : Key) → Leads C a k y r → find_f (plug C f) a k ≡ find_f f y r
unfolding plug
find_plug top f a k y r h = cc
find_plug (down b l w rest C) f a k y r h = find_plug C (node b l w f rest) a k b (l ++ y ∷ r) h ∙ find_further b l w f rest b y r refl
find_plug (over b l w kids C) f a k y r h = find_plug C (node b l w kids f) a k y r h.1 ∙ find_f_gt b l w kids f y r h.0

pub detach_plug : (C : Context) (f : Forest) (a : ℕ) (k : Key) (y : ℕ) (r : Key) → Leads C a k y r → detach_f (plug C f) a k ≡ detach_f f y r
unfolding plug
detach_plug top f a k y r h = cc
detach_plug (down b l w rest C) f a k y r h =
    detach_plug C (node b l w f rest) a k b (l ++ y ∷ r) h ∙ detach_f-label_ends b l w f rest b (l ++ y ∷ r) y r refl (part-label_ends l y r)
detach_plug (over b l w kids C) f a k y r h = detach_plug C (node b l w kids f) a k y r h.1 ∙ detach_f_gt b l w kids f y r h.0

pub erase-plug : (C : Context) (f : Forest) (a : ℕ) (k : Key) (y : ℕ) (r : Key) → Leads C a k y r → erase_f (plug C f) a k ≡ settled C (erase_f f y r)
unfolding plug settled
erase-plug top f a k y r h = cc
erase-plug (down b l w rest C) f a k y r h =
    erase-plug C (node b l w f rest) a k b (l ++ y ∷ r) h ∙ ap (settled C) (erase_f-there b l w f rest b (l ++ y ∷ r) y r refl (strip-append l (y ∷ r)))
erase-plug (over b l w kids C) f a k y r h = erase-plug C (node b l w kids f) a k y r h.1 ∙ ap (settled C) (erase_f_gt b l w kids f y r h.0)

pub leave_plug : (C : Context) (f : Forest) (a : ℕ) (k : Key) (y : ℕ) (r : Key) → Leads C a k y r → leave_f (plug C f) a k ≡ settled C (leave_f f y r)
unfolding plug settled
leave_plug top f a k y r h = cc
leave_plug (down b l w rest C) f a k y r h =
    leave_plug C (node b l w f rest) a k b (l ++ y ∷ r) h ∙ ap (settled C) (leave_f-label_ends b l w f rest b (l ++ y ∷ r) y r refl (part-label_ends l y r))
leave_plug (over b l w kids C) f a k y r h = leave_plug C (node b l w kids f) a k y r h.1 ∙ ap (settled C) (leave_f_gt b l w kids f y r h.0)

pub looks_plug : (C : Context) (f : Forest) (a : ℕ) (k : Key) (y : ℕ) (r : Key) → Leads C a k y r → looks_f 0 (plug C f) a k ≡ passed C ++ looks_f (depth C) f y r
unfolding plug depth passed
looks_plug top f a k y r h = cc
looks_plug (down b l w rest C) f a k y r h =
    looks_plug C (node b l w f rest) a k b (l ++ y ∷ r) h
    ∙ rw (looks_label_ends (depth C) b l w f rest b (l ++ y ∷ r) y r refl (part-label_ends l y r), append_assoc)
looks_plug (over b l w kids C) f a k y r h =
    looks_plug C (node b l w kids f) a k y r h.1 ∙ rw (looks_gt (depth C) b l w kids f y r h.0, append_assoc)
