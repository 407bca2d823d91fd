-- The jump from the lowest bit of the index up (document 02, note 2; SCOPE 2.4): what one round does, where the jump
-- stands after k rounds, and how it ends.
use Rattle.std.specs.Prelude.{◌≡◌, ℕ, suc, ◌/◌, ◌%◌, ◌^◌, cond, ◌==◌}
use Rattle.affine.specs.declared.Affine.{Affine}
use Rattle.affine.specs.declared.Progress.{Progress}
use Rattle.affine.specs.Affine.{apply, iterate, Walks, Composes}

-- The map "times factor, plus offset".
abbrev pub affine_of : ℕ → ℕ → Affine
affine_of factor offset = record { factor = factor; offset = offset }

-- The map of no step.
abbrev pub identity : Affine
identity = affine_of 1 0

-- "Times a, plus c" in hand, "times factor, plus offset" done, and the index left.
abbrev pub progress_of : ℕ → ℕ → ℕ → ℕ → ℕ → Progress
progress_of a c factor offset left = record { stride = affine_of a c; done = affine_of factor offset; left = left }

-- Before the first round: one step in hand, nothing done, the whole index left.
abbrev pub start_of : ℕ → ℕ → ℕ → Progress
start_of a c i = progress_of a c 1 0 i

-- What the lowest bit of the index left asks for: the stride, or no step.
abbrev pub selected_of : Progress → Affine
selected_of p = cond (p.left % 2 == 0) identity p.stride

-- r is p one round later.
pub record OneRound (p r : Progress) : Type 0 where
  pub stride : Composes p.stride p.stride r.stride
  pub done : Composes p.done (selected_of p) r.done
  pub left : r.left ≡ p.left / 2

-- r is p k rounds later.
pub data Rounded : ℕ → Progress → Progress → Type 0 where
  none : {p : Progress} → Rounded 0 p p
  next : {k : ℕ} {p q r : Progress} → Rounded k p q → OneRound q r → Rounded (suc k) p r

-- The map r is what some number of rounds from p on leave done, with no index left.
pub record Performed (p : Progress) (r : Affine) : Type 0 where
  pub rounds : ℕ
  pub last : Progress
  pub rounded : Rounded rounds p last
  pub over : last.left ≡ 0
  pub result : last.done ≡ r

-- What a jump returns: the map of i steps of "times a, plus c", and that by rounds from the start.
pub record Jumps (a c i : ℕ) (r : Affine) : Type 0 where
  pub walks : Walks a c i r
  pub performed : Performed (start_of a c i) r

-- A row of states of the jump of i steps of "times a, plus c": each is one round later than the one before it. A row has no
-- end: after the jump's last round it goes on with rounds at index 0.
pub record Row (a c i : ℕ) (state : ℕ → Progress) : Type 0 where
  pub starts : state 0 ≡ start_of a c i
  pub next : (k : ℕ) → OneRound (state k) (state (suc k))

-- Where that jump stands after k rounds: the map of 2 ^ k steps is in hand, the map of (i modulo 2 ^ k) steps is done, and
-- i / 2 ^ k, rounded down, is left.
pub record Traced (a c i k : ℕ) (p : Progress) : Type 0 where
  pub stride : Walks a c (2 ^ k) p.stride
  pub done : Walks a c (i % 2 ^ k) p.done
  pub left : p.left ≡ i / 2 ^ k

-- For the functions behind the jump. r is p some rounds later.
pub record Onward (p r : Progress) : Type 0 where
  pub rounds : ℕ
  pub rounded : Rounded rounds p r

-- For the laws. r is f followed by n steps of "times a, plus c".
pub record Continues (a c n : ℕ) (f r : Affine) : Type 0 where
  pub continues : (x : ℕ) → apply r x % 2 ^ 64 ≡ iterate a c n (apply f x) % 2 ^ 64

-- What n rounds make of p: its stride 2 ^ n times over, what is done followed by as many strides as the low n bits of the
-- index say, and the other bits.
pub record Rounds (n : ℕ) (p r : Progress) : Type 0 where
  pub stride : Walks p.stride.factor p.stride.offset (2 ^ n) r.stride
  pub done : Continues p.stride.factor p.stride.offset (p.left % 2 ^ n) p.done r.done
  pub left : r.left ≡ p.left / 2 ^ n
