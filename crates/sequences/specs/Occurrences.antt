-- All indices at which a sequence yields a number, and the low places of a sequence (document 02, note 3; SCOPE 3.8).
use Rattle.std.specs.Prelude.{◌≡◌, ◌↔◌, ◌⊎◌, Option, Some, None, ℕ, suc, ◌+◌, ◌*◌, ◌%◌, ◌^◌, ◌≤◌, ◌<◌}
use Rattle.sequences.specs.declared.Indices.{Indices}
use Rattle.sequences.specs.declared.Indices.TheVariants.{Once, Every, Never}
use Rattle.sequences.specs.Index.{LeastIndex, Located, Absent}
use Rattle.sequences.specs.Orbit.{IsOrbit}

-- What x yields, in the lowest m places.
unfoldable pub low : ℕ → (ℕ → ℕ) → ℕ → ℕ
low m x i = x i % 2 ^ m

-- All indices of y, however large: the one given is the least, or there is none; where it does not recur, no other index
-- yields y; where it does, y is yielded exactly at the index given plus a multiple of `every`.
pub record AllIndices (x : ℕ → ℕ) (y found index recurs every : ℕ) : Type 0 where
  pub least : LeastIndex x y found index
  pub going_on : (recurs ≡ 1) ⊎ (recurs ≡ 0)
  pub once : found ≡ 1 → recurs ≡ 0 → (i : ℕ) → (x i ≡ y) ↔ (i ≡ index)
  pub again : found ≡ 1 → recurs ≡ 1 → (i : ℕ) → (x i ≡ y) ↔ ((t : ℕ) × (i ≡ index + t * every))

-- For the functions behind the call: k is the least index of y, before the preperiod of x.
pub record Alone (x : ℕ → ℕ) (y bound k : ℕ) : Type 0 where
  pub located : Located x y bound k
  pub preperiod : ℕ
  pub period : ℕ
  pub orbit : IsOrbit x preperiod period
  pub room : preperiod + period ≤ bound
  pub before : k < preperiod

-- k is the least index of y, not before the preperiod of x, whose period is P.
pub record Recurring (x : ℕ → ℕ) (y bound k P : ℕ) : Type 0 where
  pub located : Located x y bound k
  pub preperiod : ℕ
  pub orbit : IsOrbit x preperiod P
  pub room : preperiod + P ≤ bound
  pub reached : preperiod ≤ k

-- where y stands, in plain data: its only index; its least one and the period less 1; nowhere
abbrev pub IndicesAre : (ℕ → ℕ) → ℕ → ℕ → Indices → Type 0
IndicesAre x y bound (Once k) = Alone x y bound k
IndicesAre x y bound (Every k last) = Recurring x y bound k (suc last)
IndicesAre x y bound Never = Absent x y

-- The least of these indices, if there is one.
abbrev pub least_of : Indices → Option ℕ
least_of (Once k) = Some k
least_of (Every k last) = Some k
least_of Never = None
