-- The linear kind, for the functions behind the calls: a generator of it that no condition of the refusal table applies to,
-- and the map of its one step.
use Rattle.std.specs.Prelude.{◌≡◌, ◌^◌, ◌≤◌, ◌<◌}
use Rattle.affine.specs.declared.Affine.{Affine}
use Rattle.generator.specs.declared.Generator.{Generator}
use Rattle.generator.specs.declared.Kind.TheVariants as kind
use Rattle.generator.specs.Recurrence.{kind_of}

pub record Linear (g : Generator) : Type 0 where
  pub kind : kind_of g ≡ kind.Linear
  pub width_low : 1 ≤ g.width
  pub width_high : g.width ≤ 64
  pub multiplier_below : g.multiplier < 2 ^ g.width
  pub increment_below : g.increment < 2 ^ g.width
  pub seed_below : g.seed < 2 ^ g.width

-- The map of one step.
abbrev pub once_of : Generator → Affine
once_of g = record { factor = g.multiplier; offset = g.increment }
