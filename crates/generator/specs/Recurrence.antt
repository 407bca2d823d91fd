-- The generator of documents 01 and 02, by its recurrence (SCOPE 2.1, 2.2, 2.7).
use Rattle.std.specs.Prelude.{ℕ, zero, suc, ◌+◌, ◌*◌, ◌%◌, ◌^◌}
use Rattle.generator.specs.declared.Generator.{Generator}
use Rattle.generator.specs.declared.Kind.{Kind}
use Rattle.generator.specs.declared.Kind.TheVariants.{Linear, Prime}

-- The kind, by the width: 0 stands for the prime-modulus models, any other width is that of a linear generator.
abbrev pub kind_at : ℕ → Kind
kind_at zero = Prime
kind_at (suc n) = Linear

abbrev pub kind_of : Generator → Kind
kind_of g = kind_at g.width

-- What the elements are reduced by: 2 ^ n for the width n; for the prime-modulus models the prime.
abbrev pub modulus_of : Kind → ℕ → ℕ
modulus_of Linear n = 2 ^ n
modulus_of Prime n = 2147483647

unfoldable pub modulus : Generator → ℕ
modulus g = modulus_of (kind_of g) g.width

-- One step: multiply, add, and reduce by the modulus, which for a linear generator is to keep the low bits.
unfoldable pub step : Generator → ℕ → ℕ
step g x = (g.multiplier * x + g.increment) % modulus g

-- What index i yields.
unfoldable pub element : Generator → ℕ → ℕ
element g zero = g.seed
element g (suc i) = step g (element g i)
