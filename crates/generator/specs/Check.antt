-- When a call on a generator declines (SCOPE 6): 3 and 4, which every call meets first, and 7.
use Rattle.std.specs.Prelude.{Bool, cond, not, ◌||◌, ℕ, ◌%◌, eqb, leb, ltb}
use Rattle.generator.specs.declared.Generator.{Generator}
use Rattle.generator.specs.declared.Kind.{Kind}
use Rattle.generator.specs.declared.Kind.TheVariants.{Linear, Prime}
use Rattle.generator.specs.Recurrence.{kind_of, modulus}

-- 3: the width is above 64.
abbrev pub width_refused : ℕ → Bool
width_refused n = ltb 64 n

-- 4, of a linear generator: the multiplier, the increment or the seed is not below the modulus. Of a prime-modulus model: the
-- multiplier is not 16807, the increment is not 0, or the seed is 0 or not below the modulus.
abbrev pub operand_refused : Kind → Generator → Bool
operand_refused Linear g =
    leb (modulus g) g.multiplier || (leb (modulus g) g.increment || leb (modulus g) g.seed)
operand_refused Prime g =
    not (eqb g.multiplier 16807)
    || (not (eqb g.increment 0) || (eqb g.seed 0 || leb (modulus g) g.seed))

-- The refusal that every call on a generator meets first, 0 for none.
unfoldable pub refusal_of : Generator → ℕ
refusal_of g = cond (width_refused g.width) 3 (cond (operand_refused (kind_of g) g) 4 0)

-- 7: the multiplier is even.
unfoldable pub parity_refusal : Generator → ℕ
parity_refusal g = cond (eqb (g.multiplier % 2) 0) 7 0
