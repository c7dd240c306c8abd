-- Labelling, erasing and both halves of a split sift a list: what a key finds afterwards, and that the keys still ascend.
-- Assumes nothing.
use mathlib.Core.Path.{◌≡◌, refl, sym, ◌∙◌, fun_ext}
use mathlib.Core.List.{[], ◌∷◌, ◌++◌}
use mathlib.Core.Option.{Option, none, some}
use Rattle.tree.specs.Key.{Key, order, strip}
use Rattle.tree.specs.Map.{Pair, Pairs, AllKeys, Before, Ascending, lookup, erase, starting_with, not_starting_with}
use Rattle.tree.specs.Tree.{labelled}
use Rattle.tree.proofs.Order.{none-some, three, before-prefix, before_unprefix, below, level, over, line}
use Rattle.tree.proofs.Parts.{strip-some, strip-append, starts, not, stripped}
use Rattle.tree.proofs.Find.{under, at, upd, upd_at, upd_off}
use Rattle.tree.proofs.SplitFind.{clip, wipe}
use Rattle.tree.proofs.MapOps.{one, two, twin, before_differs, lookup-empty, lookup_head, lookup_tail}

-- What becomes of a pair: f says under which key it goes on, if it does.
data Sifted (op : Pairs → Pairs) (f : Key → Option Key) (x : Pair) (m : Pairs) : Type 0 where
  gone : f x.0 ≡ none → op (x ∷ m) ≡ op m → Sifted op f x m
  kept : (q : Key) → f x.0 ≡ some q → op (x ∷ m) ≡ (q, x.1) ∷ op m → Sifted op f x m

-- An operation that does so with each pair, where g is f backwards and f keeps the order
record Sifts (op : Pairs → Pairs) (f g : Key → Option Key) : Type 0 where
  end : op [] ≡ []
  step : (x : Pair) (m : Pairs) → Sifted op f x m
  there : (k q : Key) → f k ≡ some q → g q ≡ some k
  back : (k q : Key) → g q ≡ some k → f k ≡ some q
  ordered : (a b c d : Key) → f a ≡ some c → f b ≡ some d → Before a b → Before c d

module _ {op : Pairs → Pairs} {f g : Key → Option Key} (s : Sifts op f g) where
  -- a pair that does not go on under q changes nothing for q
  other : (x : Pair) (m : Pairs) (q : Key) → ¬ (f x.0 ≡ some q) → under (g q) (lookup (x ∷ m)) ≡ under (g q) (lookup m)
  other x m q ne = go (g q) refl
    where
      go : (o : Option Key) → g q ≡ o → under o (lookup (x ∷ m)) ≡ under o (lookup m)
      go none e = unfold under in refl
      go (some k) e = unfold under in (lookup_tail x m k (λ i. ne (rw i at (s.back k q e))))

  empty : (o : Option Key) → under o (lookup []) ≡ none
  empty none = unfold under in refl
  empty (some k) = unfold under in (lookup-empty k)

  sift_lookup : (m : Pairs) (q : Key) → lookup (op m) q ≡ under (g q) (lookup m)
  sift_lookup [] q = rw s.end (lookup-empty q ∙ sym (empty (g q)))
  sift_lookup (x ∷ m) q =
      elim (s.step x m) [
        | gone e i ↦ rw (i, other x m q (λ j. none-some q (sym e ∙ j))) (sift_lookup m q)
        | kept r e i ↦
            elim (twin q r) [
              | one h ↦ rw (i, h, s.there x.0 r e) (unfold under in (lookup_head (r, x.1) (op m) ∙ sym (lookup_head x m)))
              | two ne ↦ rw (i, other x m q (λ j. ne (cc))) (lookup_tail (r, x.1) (op m) q ne ∙ sift_lookup m q)
            ]
      ]

  sift_before : (a c : Key) → f a ≡ some c → (m : Pairs) → AllKeys (Before a) m → AllKeys (Before c) (op m)
  sift_before a c e [] h = rw s.end tt
  sift_before a c e (x ∷ m) h =
      elim (s.step x m) [
        | gone j i ↦ rw i (sift_before a c e m h.1)
        | kept q j i ↦ rw i (s.ordered a x.0 c q e j h.0, sift_before a c e m h.1)
      ]

  sift_ascend : (m : Pairs) → Ascending m → Ascending (op m)
  sift_ascend [] h = rw s.end tt
  sift_ascend (x ∷ m) h =
      elim (s.step x m) [
        | gone j i ↦ rw i (sift_ascend m h.1)
        | kept q j i ↦ rw i (sift_before x.0 q j m h.0, sift_ascend m h.1)
      ]

-- A label put before every key
labels : (l : Key) → Sifts (labelled l) (λ k. some (l ++ k)) (strip l)
unfolding labelled
labels l = record {
  end = refl;
  step = λ x m. kept (l ++ x.0) refl refl;
  there = λ k q e. cc (strip-append l k);
  back = λ k q e. cc (strip-some l q k e);
  ordered = λ a b c d i j h. cc (before-prefix l a b h);
}

pub lookup-labelled : (l : Key) (m : Pairs) → lookup (labelled l m) ≡ at l (lookup m)
unfolding at
lookup-labelled l m = fun_ext (sift_lookup (labels l) m)

pub labelled_ascend : (l : Key) (m : Pairs) → Ascending m → Ascending (labelled l m)
labelled_ascend l = sift_ascend (labels l)

-- The keys behind a prefix
detaches : (p : Key) → Sifts (starting_with p) (strip p) (λ k. some (p ++ k))
unfolding starting_with
detaches p = record {
  end = refl;
  step = λ x m. elim (stripped p x.0) [ starts r i e ↦ kept r e (rw (e, starting_with)) | not e ↦ gone e (rw (e, starting_with)) ];
  there = λ k q e. cc (strip-some p k q e);
  back = λ k q e. cc (strip-append p q);
  ordered = λ a b c d i j h. before_unprefix p c d (cc (h, strip-some p a c i, strip-some p b d j));
}

pub lookup_starting : (p : Key) (m : Pairs) (q : Key) → lookup (starting_with p m) q ≡ lookup m (p ++ q)
unfolding under
lookup_starting p = sift_lookup (detaches p)

pub starting_ascend : (p : Key) (m : Pairs) → Ascending m → Ascending (starting_with p m)
starting_ascend p = sift_ascend (detaches p)

-- An operation that leaves pairs out and changes none: f is then its own way back.
data Filtered (op : Pairs → Pairs) (f : Key → Option Key) (x : Pair) (m : Pairs) : Type 0 where
  goes : f x.0 ≡ none → op (x ∷ m) ≡ op m → Filtered op f x m
  stays : f x.0 ≡ some x.0 → op (x ∷ m) ≡ x ∷ op m → Filtered op f x m

filters : (op : Pairs → Pairs) (f : Key → Option Key) → op [] ≡ [] → ((x : Pair) (m : Pairs) → Filtered op f x m) → Sifts op f f
filters op f e s = record {
  end = e;
  step = λ x m. elim (s x m) [ goes i j ↦ gone i j | stays i j ↦ kept x.0 i j ];
  there = λ k q i. cc (same k q i);
  back = λ k q i. cc (same q k i);
  ordered = λ a b c d i j g. cc (same a c i, same b d j);
}
  where
    same : (k q : Key) → f k ≡ some q → k ≡ q
    same k q i = elim (s (k, 0) []) [ goes g j ↦ cc | stays g j ↦ cc ]

-- The keys that do not start with a prefix
unfoldable besides : Key → Key → Option Key
besides p k = elim (strip p k) [ none ↦ some k | some r ↦ none ]

leaves : (p : Key) → Sifts (not_starting_with p) (besides p) (besides p)
unfolding not_starting_with besides
leaves p = filters (not_starting_with p) (besides p) refl λ x m.
    elim (stripped p x.0) [
      | starts r i e ↦ goes (rw (e, besides)) (rw (e, not_starting_with))
      | not e ↦ stays (rw (e, besides)) (rw (e, not_starting_with))
    ]

pub lookup_not_starting : (p : Key) (m : Pairs) → lookup (not_starting_with p m) ≡ clip p (lookup m)
unfolding clip wipe under besides
lookup_not_starting p m = fun_ext λ q.
    sift_lookup (leaves p) m q ∙
    elim (stripped p q) [ starts r j e ↦ rw (e, besides) | not e ↦ rw (e, besides) ]

pub not_starting_ascend : (p : Key) (m : Pairs) → Ascending m → Ascending (not_starting_with p m)
not_starting_ascend p = sift_ascend (leaves p)

-- All keys but one
unfoldable except : Key → Key → Option Key
except k q = three (order k q) (some q) none (some q)

erases : (k : Key) → Sifts (erase k) (except k) (except k)
unfolding erase except three
erases k = filters (erase k) (except k) refl λ x m.
    elim (line k x.0) [
      | below h ↦ stays (rw h) (rw (h, erase))
      | level h e ↦ goes (rw e) (rw (e, erase))
      | over h e ↦ stays (rw e) (rw (e, erase))
    ]

pub lookup-erase : (k : Key) (m : Pairs) → lookup (erase k m) ≡ upd k none (lookup m)
unfolding under except three
lookup-erase k m = fun_ext λ q.
    sift_lookup (erases k) m q ∙
    elim (line k q) [
      | below h ↦ rw h (sym (upd_off k none (lookup m) q (λ e. before_differs k q h (sym e))))
      | level h e ↦ rw (e, h) (sym (upd_at q none (lookup m)))
      | over h e ↦ rw e (sym (upd_off k none (lookup m) q (before_differs q k h)))
    ]

pub erase_ascend : (k : Key) (m : Pairs) → Ascending m → Ascending (erase k m)
erase_ascend k = sift_ascend (erases k)
