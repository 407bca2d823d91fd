-- The signed number of steps from one number to another, in a sequence that goes round with any period P (document 02, note 1;
-- SCOPE 3.7). The definition searches below P; the record says what it finds in the note's words, by steps from the numbers.
-- The integers are the kit's: `pos n` is n, and `negsuc n` is −(n + 1).
use Rattle.std.specs.Prelude.{◌≡◌, cond, ◌↔◌, ◌⊎◌, ℕ, zero, suc, ◌+◌, ◌*◌, ◌<◌, eqb, ltb, ℤ, pos, negsuc, neg_ℤ, ◌-ℤ◌, ◌*ℤ◌, ◌≤ℤ◌, ◌<ℤ◌}
use Rattle.words.specs.Congruence.{Congruent}
use Rattle.sequences.specs.Least.{least}
use Rattle.sequences.specs.Index.{index_of}
use Rattle.sequences.specs.Orbit.{IsOrbit}

-- The least d for which x yields `to` d indices after the first index of `from`; P if there is none below it.
unfoldable pub ahead_of : (ℕ → ℕ) → ℕ → ℕ → ℕ → ℕ
ahead_of x P from to = least (λ d. eqb (x (index_of x P from + d)) to) P

-- d steps ahead, d below P, as the signed count: d itself in the first half of the period, otherwise d − P.
abbrev pub signed_of : ℕ → ℕ → ℤ
signed_of P d = cond (ltb (2 * d) P) (pos d) (pos d -ℤ pos P)

-- The signed count from one number to another, where both occur.
unfoldable pub steps_of : (ℕ → ℕ) → ℕ → ℕ → ℕ → ℤ
steps_of x P from to = signed_of P (ahead_of x P from to)

-- d single steps from v.
unfoldable pub stepped : (ℕ → ℕ) → ℕ → ℕ → ℕ
stepped next zero v = v
stepped next (suc d) v = next (stepped next d v)

-- d single steps from `from` give `to`; where d is negative, −d single steps from `to` give `from`.
abbrev pub Leads : (ℕ → ℕ) → ℕ → ℕ → ℤ → Type 0
Leads next from to (pos d) = stepped next d from ≡ to
Leads next from to (negsuc d) = stepped next (suc d) to ≡ from

-- −P ≤ 2d < P.
pub record InRange (P : ℕ) (d : ℤ) : Type 0 where
  pub not_below : neg_ℤ (pos P) ≤ℤ (pos 2 *ℤ d)
  pub not_beyond : (pos 2 *ℤ d) <ℤ pos P

-- What the gap means, in a sequence x of single steps `next` that goes round from its first element on, with the period P:
-- the count given leads from one number to the other and is in the range; no other one in the range does; never comes exactly
-- when one of the two has no index, however large.
pub record SignedSteps (next x : ℕ → ℕ) (P from to found : ℕ) (steps : ℤ) : Type 0 where
  pub period : IsOrbit x 0 P
  pub answer : (found ≡ 1) ⊎ (found ≡ 0)
  pub leads : found ≡ 1 → Leads next from to steps
  pub in_range : found ≡ 1 → InRange P steps
  pub only : found ≡ 1 → (d : ℤ) → InRange P d → Leads next from to d → d ≡ steps
  pub never : (found ≡ 0) ↔ (((i : ℕ) → x i ≡ from → ⊥) ⊎ ((i : ℕ) → x i ≡ to → ⊥))

-- For the functions behind the call: d steps, fewer than P, lead from index i to index j.
pub record Ahead (P i j d : ℕ) : Type 0 where
  pub below : d < P
  pub leads : Congruent P (i + d) j
