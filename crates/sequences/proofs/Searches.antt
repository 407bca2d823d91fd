-- A search for y up the bit places of an isometric sequence x, round by round. With m places settled it stands at an element k
-- that is `away` above y, with the period 2 ^ e in these places as its stride: a period later, what an element is above y is the
-- factor times as much, and the drift more. The factor is odd, and `away` has no bit below place m, so that at place m the factor
-- changes nothing: there element k + 2 ^ e is the drift above element k. So the period doubles at place m exactly when α of the
-- drift is m, and y differs from element k there exactly when α of `away` is. Two strides are one with the factor squared and the
-- drift times (the factor and 1), whichever of the two elements the search goes on from.
--   front_affine                   steps of "times a, plus c" are such strides
--   front_moved, front_twice       one stride on; twice the stride
--   search_start                   before the first place
--   search_stays, search_stops     the period stays, and y agrees or differs
--   search_doubles, search_ahead   the period doubles, and y agrees or differs
--   search_done                    all places are settled
--   search_index                   the index a period on, as the machine reckons it
use mathlib.Core.Path.{◌≡◌, refl, ap, ◌∙◌}
use Prim.Native.Nat.{ℕ, suc, ◌+◌, ◌*◌, ◌/◌, ◌%◌, ◌^◌, ◌≤◌, ◌<◌}
use native.Mathlib.Nat.{le_refl, le_trans, mod-eq_of_lt}
use native.Mathlib.Numerals.{add-one}
use native.Mathlib.Omega.{arith}
use lib.Pow.{pow_mono}
use Rattle.words.specs.Alpha.{Alpha}
use Rattle.words.proofs.Congruence.{
  Congruent,
  from_multiples,
  to_multiples,
  same_refl,
  same_sym,
  same_trans,
  same_of_eq,
  same_regroup,
  same_result,
  same_add,
  same_scale,
  same_mul,
  same_add_cancel,
  same_lower,
}
use Rattle.words.proofs.Places.{alpha_below, alpha_above, above_agree, above_zero}
use Rattle.sequences.specs.Places.{Settles}
use Rattle.sequences.specs.Search.{Front, Begins}
use Rattle.sequences.proofs.Agreement.{Agree}
use Rattle.sequences.proofs.Matching.{
  Matched,
  matched_start,
  matched_exponent,
  matched_returns,
  matched_settles,
  stays_agrees,
  stays_differs,
  doubles_agrees,
  doubles_differs,
}

-- a sequence whose step is "times a, plus c": the drift is what one step from y leads to, above y
pub front_affine : {n : ℕ} {x : ℕ → ℕ} {y away drift : ℕ} (a c : ℕ) →
    ((i : ℕ) → Congruent (2 ^ n) (x (suc i)) (a * x i + c)) →
    Congruent (2 ^ n) (y + away) (x 0) → Congruent (2 ^ n) (y + drift) (a * y + c) → Front n x y 0 1 away drift a
front_affine {x = x} {y} a c next here there =
    record {
      here = here;
      moves =
          λ i.
          rw add-one
          (same_trans (same_add (next i) (same_refl _ (a * y)))
          (same_regroup (same_sym (same_add there (same_refl _ (a * x i)))) (omega arith) refl));
    }

module _ {n : ℕ} {x : ℕ → ℕ} {y k j away drift factor : ℕ} (p : Front n x y k j away drift factor) where
  -- one stride on
  front_moved : {moved : ℕ} → Congruent (2 ^ n) moved (factor * away + drift) →
      Congruent (2 ^ n) (y + moved) (x (k + j))
  front_moved h =
      same_add_cancel {c = factor * y} {d = factor * y}
      (same_trans
      (same_add (same_add (same_refl _ y) h) (same_refl _ (factor * y)))
      (same_trans
      (same_regroup (same_add (same_refl _ (y + drift)) (same_scale factor p.here)) (omega arith) refl)
      (same_sym (p.moves k))))
      (same_refl _ (factor * y))

  -- twice the stride
  front_twice : {square wide : ℕ} → Congruent (2 ^ n) square (factor * factor) →
      Congruent (2 ^ n) wide ((factor + 1) * drift) →
      (i : ℕ) → Congruent (2 ^ n) (x (i + (j + j)) + square * y) (y + wide + square * x i)
  front_twice {square} {wide} es ew i =
      same_trans (same_add (same_of_eq _ far) (scaled y))
      (same_trans middle (same_sym (same_add (same_add (same_refl _ y) ew) (scaled (x i)))))
    where
      far : x (i + (j + j)) ≡ x (i + j + j)
      far = ap x (let q : i + (j + j) ≡ i + j + j = omega arith in q)

      scaled : (u : ℕ) → Congruent (2 ^ n) (square * u) (factor * (factor * u))
      scaled u = same_regroup (same_mul es (same_refl _ u)) refl (omega arith)

      middle : Congruent (2 ^ n) (x (i + j + j) + factor * (factor * y)) (y + (factor + 1) * drift + factor * (factor * x i))
      middle =
          same_add_cancel {c = factor * y + factor * x (i + j)} {d = factor * x (i + j) + factor * y}
          (same_regroup (same_add (p.moves (i + j)) (same_scale factor (p.moves i))) (omega arith) (omega arith))
          (same_of_eq _ (omega arith))

-- u and v agree below place m, so that an odd factor times what lies between them is just that through place m
odd_scale : (f m : ℕ) {u v : ℕ} → f % 2 ≡ 1 → Congruent (2 ^ m) u v → Congruent (2 ^ suc m) (f * u + v) (f * v + u)
odd_scale f m {u} {v} odd h =
    from_multiples (f / 2 * (v / 2 ^ m)) (f / 2 * (u / 2 ^ m))
    (let t : 2 ^ suc m ≡ 2 ^ m + 2 ^ m = omega arith in
    let w : f ≡ f / 2 + f / 2 + 1 = omega arith in
    rw t
    (omega
    (arith, ap (λ (k : ℕ). f / 2 * k) (to_multiples h), ap (λ (k : ℕ). k * u) w, ap (λ (k : ℕ). k * v) w)))

-- squares of odd numbers are odd, modulo 2 ^ 64 too
odd_square : (f : ℕ) {square : ℕ} → f % 2 ≡ 1 → square ≡ f * f % 2 ^ 64 → square % 2 ≡ 1
odd_square f odd e =
    (same_trans (same_lower {n = 64} 1 (omega arith) (same_result (f * f) e)) (same_mul one one)).same
  where
    one : Congruent (2 ^ 1) f 1
    one = record { same = odd }

-- what the search holds with m places settled
pub record Searching (n : ℕ) (x : ℕ → ℕ) (y limit away drift factor k e m : ℕ) : Type 0 where
  pub places : m ≤ limit
  pub matched : Matched x y m e k
  pub front : Front n x y k (2 ^ e) away drift factor
  pub odd : factor % 2 ≡ 1

pub search_start : {n : ℕ} {x : ℕ → ℕ} {y limit away drift factor : ℕ} → Begins n x y limit away drift factor →
    Searching n x y limit away drift factor 0 0 0
search_start {x = x} {y} b =
    record { places = omega arith; matched = matched_start x y; front = b.front; odd = b.odd }

module _ {n : ℕ} {x : ℕ → ℕ} {y limit away₀ drift₀ factor₀ : ℕ} (b : Begins n x y limit away₀ drift₀ factor₀)
    {away drift factor k e m : ℕ} (s : Searching n x y limit away drift factor k e m) where
  settled_places : m ≤ n
  settled_places = le_trans s.places b.within

  pub search_done : limit ≤ m → Settles x y limit m k e
  search_done l = matched_settles b.isometric settled_places s.matched s.places (λ f. absurd (omega arith))

  module _ (l : m < limit) where
    next_place : suc m ≤ n
    next_place = le_trans l b.within

    narrow : suc m ≤ 64
    narrow = le_trans next_place b.word

    -- through place m, the element a period on is the drift above element k
    drifts : Congruent (2 ^ suc m) (x k + drift) (x (k + 2 ^ e))
    drifts =
        same_add_cancel {c = factor * y} {d = factor * y}
        (same_trans
        (same_regroup
        (same_add (same_refl _ drift) (same_sym (odd_scale factor m s.odd s.matched.agrees.places)))
        (omega arith)
        (omega arith))
        (same_sym (same_lower (suc m) next_place (s.front.moves k))))
        (same_refl _ (factor * y))

    -- the index a period on fits, and the machine's sum is it
    pub search_index : {period ahead : ℕ} → Congruent (2 ^ 64) period (2 ^ e) → ahead ≡ (k + period) % 2 ^ 64 →
        ahead ≡ k + 2 ^ e
    search_index h q =
        q ∙ (same_add (same_refl _ k) h).same
        ∙ mod-eq_of_lt
        (omega (arith, s.matched.below, pow_mono {i = suc e} {j = 64} (omega (arith, matched_exponent s.matched, narrow))))

    module _ {returning differs : ℕ} (α : Alpha drift returning) (β : Alpha away differs) where
      -- x returns in m places, so that the drift has no bit below place m
      returning_from : m ≤ returning
      returning_from =
          alpha_above α m (le_trans settled_places b.word)
          (above_zero drift drifts (omega arith) (matched_returns b.isometric settled_places s.matched).places)

      stays : (returning ≡ m → ⊥) → Agree (suc m) (x (k + 2 ^ e)) (x k)
      stays d =
          record {
            places = above_agree drift drifts (le_refl (suc m)) (alpha_below α (suc m) (omega (arith, returning_from)));
          }

      doubles : returning ≡ m → Agree (suc m) (x (k + 2 ^ e)) (x k) → ⊥
      doubles d a =
          omega (arith, alpha_above α (suc m) narrow (above_zero drift drifts (le_refl (suc m)) a.places))

      -- element k agrees with y in m places, so that it is above y by a number with no bit below place m
      differs_from : m ≤ differs
      differs_from =
          alpha_above β m (le_trans settled_places b.word)
          (above_zero away s.front.here settled_places s.matched.agrees.places)

      agrees : (differs ≡ m → ⊥) → Agree (suc m) (x k) y
      agrees d =
          record {
            places = above_agree away s.front.here next_place (alpha_below β (suc m) (omega (arith, differs_from)));
          }

      apart : differs ≡ m → Agree (suc m) (x k) y → ⊥
      apart d a =
          omega (arith, alpha_above β (suc m) narrow (above_zero away s.front.here next_place a.places))

      pub search_stops : (returning ≡ m → ⊥) → differs ≡ m → Settles x y limit m k e
      search_stops r d =
          matched_settles b.isometric settled_places s.matched s.places
          (λ f. stays_differs b.isometric next_place s.matched (stays r) (apart d))

      pub search_stays : (returning ≡ m → ⊥) → (differs ≡ m → ⊥) → Searching n x y limit away drift factor k e (m + 1)
      search_stays r d =
          rw add-one
          (record {
            places = l;
            matched = stays_agrees b.isometric next_place s.matched (stays r) (agrees d);
            front = s.front;
            odd = s.odd;
          })

      -- with twice the period, as the machine reckons modulo 2 ^ 64
      module _ {next wide square : ℕ} (en : next ≡ (factor + 1) % 2 ^ 64) (ew : wide ≡ next * drift % 2 ^ 64)
          (es : square ≡ factor * factor % 2 ^ 64) (r : returning ≡ m) where
        low : {u : ℕ} (v : ℕ) → u ≡ v % 2 ^ 64 → Congruent (2 ^ n) u v
        low v h = same_lower n b.word (same_result v h)

        twice : (i : ℕ) → Congruent (2 ^ n) (x (i + 2 ^ suc e) + square * y) (y + wide + square * x i)
        twice i =
            let q : 2 ^ suc e ≡ 2 ^ e + 2 ^ e = omega arith in
            rw q
            (front_twice s.front (low _ es) (same_trans (low _ ew) (same_mul (low _ en) (same_refl _ drift))) i)

        pub search_doubles : (differs ≡ m → ⊥) → Searching n x y limit away wide square k (e + 1) (m + 1)
        search_doubles d =
            rw (add-one m, add-one e)
            (record {
              places = l;
              matched = doubles_agrees b.isometric next_place s.matched (doubles r) (agrees d);
              front = record { here = s.front.here; moves = twice };
              odd = odd_square factor s.odd es;
            })

        pub search_ahead : {product moved : ℕ} → product ≡ factor * away % 2 ^ 64 → moved ≡ (product + drift) % 2 ^ 64 →
            differs ≡ m → Searching n x y limit moved wide square (k + 2 ^ e) (e + 1) (m + 1)
        search_ahead ep em d =
            rw (add-one m, add-one e)
            (record {
              places = l;
              matched = doubles_differs b.isometric next_place s.matched (doubles r) (apart d);
              front =
                  record {
                    here =
                        front_moved s.front (same_trans (low _ em) (same_add (low _ ep) (same_refl _ drift)));
                    moves = twice;
                  };
              odd = odd_square factor s.odd es;
            })
