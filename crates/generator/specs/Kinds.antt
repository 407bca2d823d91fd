-- What the crates above ask of a generator, whatever its kind.
use Rattle.std.specs.Prelude.{◌≡◌, ℕ, ◌+◌}
use Rattle.generator.specs.declared.Generator.{Generator}
use Rattle.generator.specs.declared.Kind.{Kind}
use Rattle.generator.specs.declared.Kind.TheVariants as kind
use Rattle.generator.specs.Recurrence.{kind_of, element}
use Rattle.generator.specs.Check.{refusal_of}
use Rattle.generator.specs.Linear.{Linear}
use Rattle.generator.specs.Prime.{Prime}

-- An accepted generator of that kind.
abbrev pub OfKind : Generator → Kind → Type 0
OfKind g kind.Linear = Linear g
OfKind g kind.Prime = Prime g

-- r is the kind of g, and says what is known of it if it is accepted.
pub record KindIs (g : Generator) (r : Kind) : Type 0 where
  pub is : kind_of g ≡ r
  pub of_kind : refusal_of g ≡ 0 → OfKind g r

-- x is one of the elements.
pub record IsElement (g : Generator) (x : ℕ) : Type 0 where
  pub index : ℕ
  pub yields : element g index ≡ x

-- The generator with another seed.
abbrev pub seeded : Generator → ℕ → Generator
seeded g x = record { width = g.width; multiplier = g.multiplier; increment = g.increment; seed = x }

-- r is g with its element x for its seed: it is accepted, and goes on from x as g does.
pub record Restarted (g : Generator) (x : ℕ) (r : Generator) : Type 0 where
  pub equals : r ≡ seeded g x
  pub accepted : refusal_of r ≡ 0
  pub goes_on : (i : ℕ) → element g i ≡ x → (p : ℕ) → element r p ≡ element g (i + p)
