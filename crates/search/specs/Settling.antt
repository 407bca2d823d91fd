-- What the searches promise: of every sequence and number with which they can have begun.
use Rattle.std.specs.Prelude.{ℕ}
use Rattle.sequences.specs.Places.{Settles}
use Rattle.sequences.specs.Search.{Begins}
use Rattle.search.specs.declared.Settled.{Settled}

-- The places that a search settles, the least index and the exponent of the period in them.
pub record Settling (away drift factor limit : ℕ) (r : Settled) : Type 0 where
  pub settles : (n : ℕ) (x : ℕ → ℕ) (y : ℕ) → Begins n x y limit away drift factor →
      Settles x y limit r.places r.index r.exponent

-- The exponent of the period: the first element is sought, so that all places are settled, and the least index is 0.
pub record Doubling (drift factor limit exponent : ℕ) : Type 0 where
  pub settles : (n : ℕ) (x : ℕ → ℕ) → Begins n x (x 0) limit 0 drift factor → Settles x (x 0) limit limit 0 exponent
