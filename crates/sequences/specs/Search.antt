-- What a search up the bit places begins with, for the functions behind the calls.
use Rattle.std.specs.Prelude.{◌≡◌, ℕ, ◌+◌, ◌*◌, ◌%◌, ◌^◌, ◌≤◌}
use Rattle.words.specs.Congruence.{Congruent}
use Rattle.sequences.specs.Places.{Isometric}

-- Where a search for y stands, modulo 2 ^ n: at element k, which is `away` above y. What the element j indices further on is
-- above y is the factor times what this one is, and the drift more.
pub record Front (n : ℕ) (x : ℕ → ℕ) (y k j away drift factor : ℕ) : Type 0 where
  pub here : Congruent (2 ^ n) (y + away) (x k)
  pub moves : (i : ℕ) → Congruent (2 ^ n) (x (i + j) + factor * y) (y + drift + factor * x i)

-- A search for y in the low `limit` of the n places of x: it begins at element 0, and with strides of one index.
pub record Begins (n : ℕ) (x : ℕ → ℕ) (y limit away drift factor : ℕ) : Type 0 where
  pub isometric : Isometric n x
  pub front : Front n x y 0 1 away drift factor
  pub odd : factor % 2 ≡ 1
  pub within : limit ≤ n
  pub word : n ≤ 64
