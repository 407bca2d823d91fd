-- The orbit of a sequence of numbers: preperiod (document 01: run-in) and period (document 01: cycle length; SCOPE 3.2).
-- The definitions search below a bound; the record says what they find without one.
use Rattle.std.specs.Prelude.{◌≡◌, ℕ, suc, ◌+◌, ◌^◌, ◌≤◌, ◌<◌, eqb, ltb}
use Rattle.sequences.specs.declared.Orbit.{Orbit}
use Rattle.sequences.specs.Least.{least}

-- The least d for which element t + 1 + d equals element t; the bound if there is none below it.
unfoldable pub return_less_one : (ℕ → ℕ) → ℕ → ℕ → ℕ
return_less_one x bound t = least (λ d. eqb (x (t + 1 + d)) (x t)) bound

-- The least index whose element occurs again at a later index.
unfoldable pub preperiod_of : (ℕ → ℕ) → ℕ → ℕ
preperiod_of x bound = least (λ t. ltb (return_less_one x bound t) bound) bound

-- The least P ≥ 1 for which element t + P equals element t, t the preperiod.
unfoldable pub period_of : (ℕ → ℕ) → ℕ → ℕ
period_of x bound = suc (return_less_one x bound (preperiod_of x bound))

-- t and P are the preperiod and the period of x: no bound on any index.
pub record IsOrbit (x : ℕ → ℕ) (t P : ℕ) : Type 0 where
  pub positive : 1 ≤ P
  pub returns : x (t + P) ≡ x t
  pub shortest : (d : ℕ) → 1 ≤ d → x (t + d) ≡ x t → P ≤ d
  pub first : (i j : ℕ) → i < t → i < j → x j ≡ x i → ⊥

-- The exponent of a power of two, 0 to 64.
unfoldable pub exponent_of : ℕ → ℕ
exponent_of p = least (λ e. eqb (2 ^ e) p) 65

-- P is a power of two that has an exponent of at most 64.
pub record IsPower (P : ℕ) : Type 0 where
  pub exponent : ℕ
  pub small : exponent ≤ 64
  pub power : P ≡ 2 ^ exponent

-- For the functions behind the calls: an orbit with its period less 1, and below the bound there is room for it.
pub record OrbitIs (x : ℕ → ℕ) (bound : ℕ) (o : Orbit) : Type 0 where
  pub orbit : IsOrbit x o.preperiod (suc o.last)
  pub within : o.preperiod + o.last < bound
