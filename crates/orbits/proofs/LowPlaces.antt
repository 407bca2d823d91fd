-- The low places of a generator that has bit places: equal ones have equal successors, and the period is a power of two; with an
-- odd multiplier there is no preperiod, with an even one the period is 1. All n places of an element are the element.
use Rattle.std.proofs.Common.{◌≡◌, ℕ, ◌%◌, ◌^◌, ◌≤◌, le_trans}
use Rattle.sequences.specs.Index.{index_of}
use Rattle.sequences.specs.Orbit.{IsOrbit, IsPower}
use Rattle.sequences.specs.Occurrences.{low}
use Rattle.sequences.proofs.Orbits.{Follows}
use Rattle.sequences.proofs.LowPlaces.{whole_index}
use Rattle.generator.specs.declared.Generator.{Generator}
use Rattle.generator.specs.Recurrence.{element}
use Rattle.generator.specs.Check.{refusal_of}
use Rattle.generator.specs.Linear.{Linear}
use Rattle.generator.proofs.Refusals.{linear_kind, accepted_kind}
use Rattle.linear_orbits.proofs.Elements.{reduced}
use Rattle.linear_orbits.proofs.LinearOrbits as linear

module _ (g : Generator) (m : ℕ) (pre : (refusal_of g ≡ 0) × (1 ≤ m) × (m ≤ g.width)) where
  lin : Linear g
  lin = accepted_kind g (linear_kind g (le_trans pre.1 pre.2)) pre.0

  pub low_follows : Follows (low m (element g))
  low_follows = linear.low_follows m lin pre.2

  pub low_power : {t P : ℕ} → IsOrbit (low m (element g)) t P → (p : IsPower P) × (p.exponent ≤ m)
  low_power o =
      let e = linear.low_power m lin pre.2 o in (
        record { exponent = e.0; small = le_trans e.1 (le_trans pre.2 lin.width_high); power = e.2 },
        e.1,
      )

  pub low_odd_orbit : g.multiplier % 2 ≡ 1 → (P : ℕ) × IsOrbit (low m (element g)) 0 P
  low_odd_orbit p = let o = linear.low_odd_orbit m lin pre.2 p in (2 ^ o.0, o.2)

  pub low_even_orbit : g.multiplier % 2 ≡ 0 → (t : ℕ) × IsOrbit (low m (element g)) t 1
  low_even_orbit p = let o = linear.low_even_orbit m lin pre.2 p in (o.0, o.1.1)

pub all_places : (g : Generator) → refusal_of g ≡ 0 → 1 ≤ g.width → (bound y : ℕ) →
    index_of (low g.width (element g)) bound y ≡ index_of (element g) bound y
all_places g z l bound y = whole_index (reduced (accepted_kind g (linear_kind g l) z)) bound y
