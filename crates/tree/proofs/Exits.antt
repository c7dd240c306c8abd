-- What is known where an `ok_or` has let go on, and where it has not. Assumes nothing.
use Rattle.std.proofs.Common.{◌≡◌, refl, Option, Some, None, Ok, Err, ok_or}

pub was-some : {A E : Type 0} (o : Option A) (e : E) {x : A} → Ok x ≡ ok_or o e → o ≡ Some x
was-some None e h = absurd (cc)
was-some (Some y) e h = cc

pub record WasNone {A E : Type 0} (o : Option A) (e f : E) : Type 0 where
  pub none : o ≡ None
  pub refusal : f ≡ e

pub was-none : {A E : Type 0} (o : Option A) (e : E) {f : E} → Err f ≡ ok_or o e → WasNone o e f
was-none None e h = record { none = refl; refusal = cc }
was-none (Some y) e h = absurd (cc)
