-- A linear generator with an odd multiplier begins the search for any number: one step multiplies what an element is above the
-- number by the multiplier, and adds what a step from the number leads to above it.
use Rattle.std.proofs.Common.{◌≡◌, ℕ, ◌+◌, ◌*◌, ◌%◌, ◌^◌, ◌≤◌, sym, ap, ◌∙◌, le_refl, arith}
use Rattle.words.proofs.Congruence.{Congruent, same_trans, same_of_eq, same_lower}
use Rattle.sequences.specs.Orbit.{IsOrbit}
use Rattle.sequences.specs.Search.{Begins}
use Rattle.sequences.proofs.Matching.{settles_orbit}
use Rattle.sequences.proofs.Searches.{front_affine}
use Rattle.search.specs.Settling.{Doubling}
use Rattle.generator.specs.declared.Generator.{Generator}
use Rattle.generator.specs.Recurrence.{element}
use Rattle.generator.specs.Linear.{Linear}
use Rattle.generator.proofs.Elements.{element_start}
use Rattle.linear_orbits.proofs.Elements.{reduced, isometric, next_place}

-- what is above v by the difference that the machine takes
above : {u : ℕ} (d v : ℕ) → (d + v) % 2 ^ 64 ≡ u % 2 ^ 64 → Congruent (2 ^ 64) (v + d) u
above d v e = record { same = ap (λ (t : ℕ). t % 2 ^ 64) (let q : v + d ≡ d + v = omega arith in q) ∙ e }

pub generator_begins : {g : Generator} (y limit away drift : ℕ) →
    (Linear g) × (g.multiplier % 2 ≡ 1) × (limit ≤ g.width) → (away + y) % 2 ^ 64 ≡ g.seed % 2 ^ 64 →
    (drift + y) % 2 ^ 64 ≡ (g.multiplier * y + g.increment) % 2 ^ 64 →
    Begins g.width (element g) y limit away drift g.multiplier
generator_begins {g} y limit away drift pre ea ed =
    record {
      isometric = isometric v pre.1;
      front =
          front_affine g.multiplier g.increment (λ i. next_place v g.width i (le_refl _))
          (same_trans (low (above away y ea)) (same_of_eq _ (sym (element_start g))))
          (low (above drift y ed));
      odd = pre.1;
      within = pre.2;
      word = v.width_high;
    }
  where
    v : Linear g
    v = pre.0

    low : {u w : ℕ} → Congruent (2 ^ 64) u w → Congruent (2 ^ g.width) u w
    low h = same_lower g.width v.width_high h

-- the orbit is read off how often the period doubles, where the seed itself is sought
pub doublings_orbit : {g : Generator} (drift : ℕ) {e : ℕ} → Linear g → g.multiplier % 2 ≡ 1 →
    (drift + g.seed) % 2 ^ 64 ≡ (g.multiplier * g.seed + g.increment) % 2 ^ 64 →
    Doubling drift g.multiplier g.width e → (e ≤ g.width) × IsOrbit (element g) 0 (2 ^ e)
doublings_orbit {g} drift v odd ed h =
    settles_orbit (h.settles _ _ begun) (le_refl _) (isometric v odd) (reduced v)
  where
    begun : Begins g.width (element g) (element g 0) g.width 0 drift g.multiplier
    begun =
        rw element_start
        (generator_begins g.seed g.width 0 drift (v, odd, le_refl _)
        (ap (λ (t : ℕ). t % 2 ^ 64) (let q : 0 + g.seed ≡ g.seed = omega arith in q)) ed)
