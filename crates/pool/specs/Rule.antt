-- The rule as the code tests it: each slot in use by itself, in a loop over its children.
use Rattle.std.specs.Prelude.{◌≡◌, List, Bool, true, false, ℕ, ◌+◌, ◌≤◌, ◌<◌, length}
use Rattle.tree.specs.Key.{key_max}
use Rattle.slots.specs.Layout.{words_for, bytes_for, nodes_of, start_of, len_of, has_of, span_of, first_of}

-- A test's answer
pub record Says (r : Bool) (P : Type 0) : Type 0 where
  pub yes : r ≡ true → P
  pub no : r ≡ false → P → ⊥

-- The slots below e lie within the buffers.
pub record Within (ws bs : List ℕ) (e : ℕ) : Type 0 where
  pub words : words_for e ≤ length ws
  pub labels : bytes_for e ≤ length bs

-- Slot c as a child: base bytes above it, its first byte at least `least`, its span within e
pub record Child (ws bs : List ℕ) (base e least c : ℕ) : Type 0 where
  pub start : start_of ws c ≡ base
  pub some : 1 ≤ len_of ws c
  pub short : len_of ws c ≤ 255
  pub span : 1 ≤ span_of ws c
  pub inside : c + span_of ws c ≤ e
  pub used : 2 ≤ has_of ws c + span_of ws c
  pub order : least ≤ first_of bs c

-- From slot c the children, each younger at elder + span, end exactly at e.
pub data Children (ws bs : List ℕ) (base e : ℕ) : ℕ → ℕ → Type 0 where
  done : {least c : ℕ} → c ≡ e → Children ws bs base e least c
  child : {least c : ℕ} → Child ws bs base e least c → Children ws bs base e (first_of bs c + 1) (c + span_of ws c) → Children ws bs base e least c

-- Slot i of n, as a node
pub record NodeAt (ws bs : List ℕ) (n i : ℕ) : Type 0 where
  pub has : has_of ws i ≤ 1
  pub deep : start_of ws i + len_of ws i ≤ key_max
  pub span : 1 ≤ span_of ws i
  pub inside : i + span_of ws i ≤ n
  pub kids : Children ws bs (start_of ws i + len_of ws i) (i + span_of ws i) 0 (i + 1)

-- The lengths are those of `slots` slots.
pub record Lengths (ws bs : List ℕ) (slots : ℕ) : Type 0 where
  pub least : 1 ≤ slots
  pub most : slots ≤ 16384
  pub labels : length bs ≡ bytes_for slots
  pub words : length ws ≡ words_for slots

-- The whole pool
pub record PoolRule (ws bs : List ℕ) : Type 0 where
  pub slots : ℕ
  pub lengths : Lengths ws bs slots
  pub nodes : 1 ≤ nodes_of ws
  pub room : nodes_of ws ≤ slots
  pub root-start : start_of ws 0 ≡ 0
  pub root-len : len_of ws 0 ≡ 0
  pub root-span : span_of ws 0 ≡ nodes_of ws
  pub each : (i : ℕ) → i < nodes_of ws → NodeAt ws bs (nodes_of ws) i
