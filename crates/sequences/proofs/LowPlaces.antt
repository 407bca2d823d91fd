-- The low m places of a sequence are a sequence of their own, with elements of m places. In up to m places its elements agree
-- with those of the sequence. So it is isometric or contracting where the sequence is; equal elements of it then have equal
-- successors; and a search that settles m places of the sequence finds the indices of a number in it. The low n places of a
-- sequence of n places are the sequence itself.
use mathlib.Core.Path.{◌≡◌, refl, ap, subst, fun_ext}
use mathlib.Core.Logic.Iff
use mathlib.Core.Logic.{◌↔◌}
use Prim.Native.Nat.{ℕ, suc, ◌%◌, ◌^◌, ◌≤◌, ◌<◌}
use native.Mathlib.Nat.{le_refl, le_trans, lt_of_lt_of_le, mod-lt, mod-eq_of_lt}
use native.Mathlib.Omega.{arith}
use lib.Dec.{eqb}
use lib.Pow.{pow_pos, pow_mono}
use Rattle.words.proofs.Congruence.{mod_lower}
use Rattle.sequences.specs.Index.{index_of, Located, Absent}
use Rattle.sequences.specs.Orbit.{IsOrbit}
use Rattle.sequences.specs.Places.{Settles}
use Rattle.sequences.specs.Occurrences.{low, Recurring, IndicesAre}
use Rattle.sequences.proofs.Least.{least_same}
use Rattle.sequences.proofs.Orbits.{Follows}
use Rattle.sequences.proofs.Agreement.{Agree, Reduced, agree_of_eq, agree_sym, agree_trans, agree_lower, reduced_eq}
use Rattle.sequences.proofs.Isometric.{Isometric}
use Rattle.sequences.proofs.Matching.{settles_found, settles_orbit}
use Rattle.sequences.proofs.Contracting.{Contracting, next_equal, resting, rest_orbit}
use Rattle.sequences.specs.declared.Indices.{Indices}

-- the definition, and that its elements have m places
pub low_is : (m : ℕ) (x : ℕ → ℕ) (i : ℕ) → low m x i ≡ x i % 2 ^ m
unfolding low
low_is m x i = refl

pub low_reduced : (m : ℕ) (x : ℕ → ℕ) → Reduced m (low m x)
unfolding low
low_reduced m x = record { below = λ i. mod-lt (x i) (pow_pos m) }

-- agreement in k places, up to m
module _ (m : ℕ) (x : ℕ → ℕ) {k : ℕ} (l : k ≤ m) where
  low_agree : (i : ℕ) → Agree k (low m x i) (x i)
  unfolding low
  low_agree i = record { places = record { same = mod_lower m k (x i) l } }

  low_with : (i y : ℕ) → Agree k (low m x i) y ↔ Agree k (x i) y
  low_with i y = (agree_trans (agree_sym (low_agree i)), agree_trans (low_agree i))

  low_both : (i j : ℕ) → Agree k (low m x i) (low m x j) ↔ Agree k (x i) (x j)
  low_both i j = (
    λ h. agree_trans (agree_sym (low_agree i)) (agree_trans h (low_agree j)),
    λ h. agree_trans (low_agree i) (agree_trans h (agree_sym (low_agree j))),
  )

-- isometric and contracting sequences of n places
module _ {n : ℕ} {x : ℕ → ℕ} (m : ℕ) (l : m ≤ n) where
  pub low_isometric : Isometric n x → Isometric m (low m x)
  low_isometric iso =
      record {
        step =
            λ k i j b. (
              λ h. (low_both m x b (suc i) (suc j)).1 ((iso.step k i j (le_trans b l)).0 ((low_both m x b i j).0 h)),
              λ h. (low_both m x b i j).1 ((iso.step k i j (le_trans b l)).1 ((low_both m x b (suc i) (suc j)).0 h)),
            );
      }

  pub isometric_follows : Isometric n x → Follows (low m x)
  isometric_follows iso =
      record {
        next =
            λ i j e.
            reduced_eq (low_reduced m x) (suc i) (suc j)
            (((low_isometric iso).step m i j (le_refl m)).0 (agree_of_eq m e));
      }

  pub low_contracting : Contracting n x → Contracting m (low m x)
  low_contracting con =
      record {
        step =
            λ k i j b h.
            (low_both m x b (suc i) (suc j)).1 (con.step k i j (le_trans b l) ((low_both m x (omega arith) i j).0 h));
      }

  pub contracting_follows : Contracting n x → Follows (low m x)
  contracting_follows con = record { next = next_equal (low_contracting con) (low_reduced m x) }

  -- it comes to rest after m steps at most
  pub low_rest : Contracting n x → (t : ℕ) × ((t ≤ m) × IsOrbit (low m x) t 1)
  low_rest con =
      let r = resting (low_contracting con) (low_reduced m x) in
      (r.0, rest_orbit (low_contracting con) (low_reduced m x) r.1)

  -- what a search of x settles, if it settles m places
  module _ {y p k e : ℕ} (s : Settles x y m p k e) where
    low_settles : Settles (low m x) y m p k e
    low_settles =
        record {
          within = s.within;
          exponent_within = s.exponent_within;
          below = s.below;
          exactly = λ i. Iff.trans (low_with m x s.within i y) (s.exactly i);
          stops = λ h i a. s.stops h i ((low_with m x h i y).0 a);
        }

    pub low_recurring : {bound : ℕ} → Isometric n x → m ≤ p → y < 2 ^ m → 2 ^ m ≤ bound →
        (e ≤ m) × Recurring (low m x) y bound k (2 ^ e)
    low_recurring iso all h room = (
      orbit.0,
      record {
        located = record { below = lt_of_lt_of_le found.below room; yields = found.yields; first = found.first };
        preperiod = 0;
        orbit = orbit.1;
        room = le_trans (omega (arith, pow_mono orbit.0)) room;
        reached = omega arith;
      },
    )
      where
        found : Located (low m x) y (2 ^ m) k
        found = settles_found low_settles all (low_reduced m x) h

        orbit : (e ≤ m) × IsOrbit (low m x) 0 (2 ^ e)
        orbit = settles_orbit low_settles all (low_isometric iso) (low_reduced m x)

-- if it settles fewer, whatever its limit, no element agrees in one place more, and so none in m
pub low_never : {x : ℕ → ℕ} {y limit p k e : ℕ} (m : ℕ) → Settles x y limit p k e → p < limit → p < m → Absent (low m x) y
low_never {x} {y} {p = p} m s l h =
    record {
      none = λ i q. s.stops l i (agree_lower (suc p) h ((low_with m x (le_refl m) i y).0 (agree_of_eq m q)));
    }

-- a number of 2 ^ n or more is no element of n places
pub reduced_absent : {n y : ℕ} {x : ℕ → ℕ} → Reduced n x → 2 ^ n ≤ y → Absent x y
reduced_absent red l = record { none = λ i e. omega (arith, red.below i) }

-- all places
module _ {n : ℕ} {x : ℕ → ℕ} (red : Reduced n x) where
  low_whole : (i : ℕ) → low n x i ≡ x i
  unfolding low
  low_whole i = mod-eq_of_lt (red.below i)

  pub whole_indices : (y bound : ℕ) (r : Indices) → IndicesAre (low n x) y bound r → IndicesAre x y bound r
  whole_indices y bound r h = subst (λ (z : ℕ → ℕ). IndicesAre z y bound r) (fun_ext low_whole) h

  -- the definition of the index finds the same
  pub whole_index : (bound y : ℕ) → index_of (low n x) bound y ≡ index_of x bound y
  unfolding index_of
  whole_index bound y = least_same bound (λ i. ap (λ (v : ℕ). eqb v y) (low_whole i))
