-- The names of the commands and of the pools, as bytes, and the front of a command. Assumes nothing.
use Rattle.std.specs.Prelude.{◌≡◌, List, ◌⊎◌, ℕ, ◌+◌, ◌≤◌, ◌<◌, Bool, eqb, length, take, drop, get_or, codes, Option, Some, None, IfSome, Result, Ok, Err}
use Rattle.line.specs.Spelling.{index_of}
use Rattle.command.specs.declared.Verb.{Verb}
use Rattle.command.specs.declared.Named.{Named}
use Rattle.command.specs.declared.Front.{Front}
use Rattle.command.specs.declared.Command.{Command}
use Rattle.command.specs.declared.Order.{Order}
use Rattle.command.specs.declared.NotCommand.{NotCommand}

-- What a command is called
abbrev pub verb_name : Verb → List ℕ
verb_name Verb.Make = codes "make"
verb_name Verb.Clear = codes "clear"
verb_name Verb.Counts = codes "counts"
verb_name Verb.Write = codes "write"
verb_name Verb.Get = codes "get"
verb_name Verb.Remove = codes "remove"
verb_name Verb.Longest = codes "longest"
verb_name Verb.Shared = codes "shared"
verb_name Verb.Walk = codes "walk"
verb_name Verb.Insert = codes "insert"
verb_name Verb.Split = codes "split"
verb_name Verb.Read = codes "read"
verb_name Verb.Step = codes "step"

-- What a pool is called
abbrev pub pool_name : Named → List ℕ
pool_name Named.First = codes "0"
pool_name Named.Second = codes "1"

-- What a word is the name of; none where it is no name
abbrev pub NameOf : {A : Type 0} → (A → List ℕ) → Option A → List ℕ → Type 0
NameOf name (Some a) s = name a ≡ s
NameOf {A} name None s = (a : A) → name a ≡ s → ⊥

abbrev pub VerbOf : Option Verb → List ℕ → Type 0
VerbOf = NameOf verb_name

abbrev pub NamedOf : Option Named → List ℕ → Type 0
NamedOf = NameOf pool_name

-- The first word of a line ends at the first space, or with the line; and what stands behind that space.
abbrev pub first_word : List ℕ → List ℕ
first_word s = take (index_of 32 s) s

abbrev pub behind_word : List ℕ → List ℕ
behind_word s = drop (index_of 32 s + 1) s

-- The front of a line of two words or more: what each of the first two names, and where the second ends
pub record FrontIn (s : List ℕ) (r : Front) : Type 0 where
  pub verb : VerbOf r.verb (first_word s)
  pub pool : NamedOf r.pool (first_word (behind_word s))
  pub end : r.end ≡ index_of 32 s + 1 + index_of 32 (behind_word s)
  pub more : index_of 32 s < length s
  pub within : r.end ≤ length s

-- A line of one word has no front.
abbrev pub FrontOf : Option Front → List ℕ → Type 0
FrontOf (Some r) s = FrontIn s r
FrontOf None s = length s ≤ index_of 32 s

-- A front that names both is that of a command.
abbrev pub Commands : Front → Option Command → Type 0
Commands r (Some c) = (r.verb ≡ Some c.verb) × (r.pool ≡ Some c.pool) × (c.end ≡ r.end)
Commands r None = (r.verb ≡ None) ⊎ (r.pool ≡ None)

-- The front of a command: a verb, a pool, and where the pool's name ends
pub record Fronted (s : List ℕ) (r : Command) : Type 0 where
  pub verb : VerbOf (Some r.verb) (first_word s)
  pub pool : NamedOf (Some r.pool) (first_word (behind_word s))
  pub end : r.end ≡ index_of 32 s + 1 + index_of 32 (behind_word s)
  pub more : index_of 32 s < length s
  pub within : r.end ≤ length s

-- A line of one word is no command, nor is one whose first word is no verb or whose second is no pool.
abbrev pub CommandOf : Option Command → List ℕ → Type 0
CommandOf (Some r) s = Fronted s r
CommandOf None s = index_of 32 s < length s → VerbOf None (first_word s) ⊎ NamedOf None (first_word (behind_word s))

-- A comment is told by its first byte, `#`.
abbrev pub CommentOf : Bool → List ℕ → Type 0
CommentOf b s = b ≡ eqb (get_or s 0 0) 35

-- The verb that an order carries out
abbrev pub verb_of : Order → Verb
verb_of Order.Make = Verb.Make
verb_of Order.Clear = Verb.Clear
verb_of Order.Counts = Verb.Counts
verb_of Order.Write = Verb.Write
verb_of (Order.Get n) = Verb.Get
verb_of (Order.Remove n) = Verb.Remove
verb_of (Order.Longest n) = Verb.Longest
verb_of (Order.Shared n) = Verb.Shared
verb_of (Order.Walk n) = Verb.Walk
verb_of (Order.Insert n r) = Verb.Insert
verb_of (Order.Split n) = Verb.Split
verb_of (Order.Read n k) = Verb.Read
verb_of (Order.Step h) = Verb.Step

-- An order, where there is one, is of this verb.
abbrev pub OrderOf : Verb → Option Order → Type 0
OrderOf v r = IfSome r (λ w. verb_of w ≡ v)

-- What a line of n bytes, of which s holds as many as fit, asks for: what its front names, if it fits and its words are good for
-- that. The order is of the verb that the line names. Of a line that is no command, but fits and has two words, it is told what
-- its front names.
abbrev pub AskedOf : Result (Command × Order) NotCommand → List ℕ → ℕ → Type 0
AskedOf (Ok (c, w)) s n = (n ≤ length s) × CommandOf (Some c) (take n s) × (verb_of w ≡ c.verb)
AskedOf (Err NotCommand.TooLong) s n = length s < n
AskedOf (Err NotCommand.Alone) s n = (n ≤ length s) × FrontOf None (take n s)
AskedOf (Err (NotCommand.Front r)) s n = (n ≤ length s) × FrontOf (Some r) (take n s) × CommandOf None (take n s)
AskedOf (Err (NotCommand.Words c)) s n = (n ≤ length s) × CommandOf (Some c) (take n s)

-- An empty line and a comment ask for nothing.
abbrev pub HeardOf : Option (Result (Command × Order) NotCommand) → List ℕ → ℕ → Type 0
HeardOf None s n = (n ≡ 0) ⊎ (get_or s 0 0 ≡ 35)
HeardOf (Some r) s n = (0 < n) × (get_or s 0 0 ≡ 35 → ⊥) × AskedOf r s n
