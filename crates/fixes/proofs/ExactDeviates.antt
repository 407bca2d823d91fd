-- The deviates. (2 * k - 2 ^ p) / 2 ^ (p + 1), for k up to 2 ^ p and p from 1 to 53, is a float, since its numerator is twice
-- k - 2 ^ (p - 1), whose size is 2 ^ 52 at most. With k the bits kept of an element it is that element's deviate, and it is what the
-- machine makes of them. At k = 0 it is -1/2, and at k = 2 ^ p it would be 1/2; so what is said of the order follows from one law:
-- two of these floats compare as their k do.
use mathlib.Core.Path.{◌≡◌, refl, sym, ap, ap₂, subst, ◌∙◌}
use mathlib.Core.Bool.{Bool, true, false, cond, not, ◌&&◌, ◌||◌}
use Prim.Native.Nat.{ℕ, zero, suc, ◌+◌, ◌*◌, ◌-◌, ◌/◌, ◌%◌, ◌^◌, ◌≤◌, ◌<◌, min, zero-le}
use native.Mathlib.Nat.{le_refl, le_of_lt, one-mul, mod-eq_of_lt, zero-div, pow-succ', two-pow-succ}
use native.Mathlib.Omega.{arith}
use lib.Dec.{T, eqb, ltb, le→leb}
use lib.IntN.{ℤ, pos, negsuc, nat_abs, sub_ℕ, ◌-ℤ◌}
use lib.Pow.{pow-add, pow_pos, pow_mono, shr_lt, shl-shr}
use lib.Signed.{non_neg}
use lib.Ieee.{Float, fin, binary64, below, level, round, sub, div, lt, le, eq, of_int, in_float, of_bits}
use lib.Ieee.Back.{round_whole}
use lib.Ieee.Exact.{HasValue}
use lib.Ieee.Scale.{round_same}
use borrow.Author.Tests.{lt-ltb, le-ltb, ltb-true, ltb-false, ne_eqb, eqb-true}
use Rattle.fixes.specs.Deviate.{places_of, kept_of, IsExactly, nearest_to, deviate_of, half, minus_half, Deviate}
use Rattle.fixes.proofs.Floats.{iff_ltb, iff_eqb, lt_values, eq_values, quotient, difference, less_half, exact, twice_exact}

and_true : (a : Bool) → (a && true) ≡ a
and_true true = refl
and_true false = refl

and_false : (a : Bool) → (a && false) ≡ false
and_false true = refl
and_false false = refl

-- numbers of which one is not 0 are not both equal and 0
unlike_signs : (a b : ℕ) → 0 < a + b → (eqb a b && eqb a 0) ≡ false
unlike_signs a b h = go (eqb a 0) refl
  where
    go : (t : Bool) → eqb a 0 ≡ t → (eqb a b && t) ≡ false
    go true e = and_true (eqb a b) ∙ ne_eqb a b (λ z. omega (arith, eqb-true a 0 e))
    go false e = and_false (eqb a b)

-- The float of k at p places.
abbrev at : ℕ → ℕ → Float
at p k = nearest_to (sub_ℕ (2 * k) (2 ^ p)) (2 ^ suc p)

-- It is exactly its fraction.
module _ (p : ℕ) (P : 1 ≤ p) (H : p ≤ 53) where
  halves : 2 ^ p ≡ 2 ^ (p - 1) + 2 ^ (p - 1)
  halves = let next : p ≡ suc (p - 1) = omega arith in ap (λ (k : ℕ). 2 ^ k) next ∙ two-pow-succ (p - 1)

  half_small : 2 ^ (p - 1) < 2 ^ 53
  half_small = let h : p - 1 ≤ 52 = omega arith in omega (arith, pow_mono {i = p - 1} {j = 52} h)

  exact_by_sign : (k : ℕ) → k ≤ 2 ^ p → (t : Bool) → ltb (2 * k) (2 ^ p) ≡ t →
      let z = cond t (negsuc (2 ^ p - suc (2 * k))) (pos (2 * k - 2 ^ p)) in
      IsExactly (nearest_to z (2 ^ suc p)) z (2 ^ suc p)
  exact_by_sign k K true e =
      let twice : 2 * (2 ^ (p - 1) - k) ≡ suc (2 ^ p - suc (2 * k)) = omega (arith, ltb-true (2 * k) (2 ^ p) e, halves) in
      subst (λ (z : ℕ). HasValue (round binary64 true z (2 ^ suc p)) true z (2 ^ suc p)) twice
      (twice_exact true (2 ^ (p - 1) - k) p H (omega (arith, half_small)))
  exact_by_sign k K false e =
      let twice : 2 * (k - 2 ^ (p - 1)) ≡ 2 * k - 2 ^ p = omega (arith, ltb-false (2 * k) (2 ^ p) e, halves) in
      subst (λ (z : ℕ). HasValue (round binary64 false z (2 ^ suc p)) false z (2 ^ suc p)) twice
      (twice_exact false (k - 2 ^ (p - 1)) p H (omega (arith, half_small, halves)))

  exact_at : (k : ℕ) → k ≤ 2 ^ p → IsExactly (at p k) (sub_ℕ (2 * k) (2 ^ p)) (2 ^ suc p)
  exact_at k K = exact_by_sign k K (ltb (2 * k) (2 ^ p)) refl

-- Two of them compare as their numbers do: by the signs of the two numerators, over the one denominator.
module _ (k l w : ℕ) where
  by_signs : (s t : Bool) → ltb (2 * k) w ≡ s → ltb (2 * l) w ≡ t →
      let y = cond s (negsuc (w - suc (2 * k))) (pos (2 * k - w)) in
      let z = cond t (negsuc (w - suc (2 * l))) (pos (2 * l - w)) in
      (below (not (non_neg y)) (nat_abs y) (not (non_neg z)) (nat_abs z) ≡ ltb k l)
      × (level (not (non_neg y)) (nat_abs y) (not (non_neg z)) (nat_abs z) ≡ eqb k l)
  by_signs true true d e =
      let u : 2 * k < w = ltb-true _ _ d in
      let v : 2 * l < w = ltb-true _ _ e in
      let a = suc (w - suc (2 * k)) in
      let b = suc (w - suc (2 * l)) in (
        iff_ltb b a k l (λ h. omega (arith, u, v)) (λ h. omega (arith, u, v)),
        and_true _ ∙ iff_eqb a b k l (λ h. omega (arith, u, v)) (λ h. omega (arith, u, v)),
      )
  by_signs true false d e =
      let u : 2 * k < w = ltb-true _ _ d in
      let v : w ≤ 2 * l = ltb-false _ _ e in
      let a = suc (w - suc (2 * k)) in
      let b = 2 * l - w in (
        lt-ltb 0 (a + b) (omega arith) ∙ sym (lt-ltb k l (omega (arith, u, v))),
        unlike_signs a b (omega arith) ∙ sym (ne_eqb k l (λ h. omega (arith, u, v))),
      )
  by_signs false true d e =
      let u : w ≤ 2 * k = ltb-false _ _ d in
      let v : 2 * l < w = ltb-true _ _ e in (
        sym (le-ltb k l (omega (arith, u, v))),
        unlike_signs (2 * k - w) (suc (w - suc (2 * l))) (omega arith) ∙ sym (ne_eqb k l (λ h. omega (arith, u, v))),
      )
  by_signs false false d e =
      let u : w ≤ 2 * k = ltb-false _ _ d in
      let v : w ≤ 2 * l = ltb-false _ _ e in
      let a = 2 * k - w in
      let b = 2 * l - w in (
        iff_ltb a b k l (λ h. omega (arith, u, v)) (λ h. omega (arith, u, v)),
        and_true _ ∙ iff_eqb a b k l (λ h. omega (arith, u, v)) (λ h. omega (arith, u, v)),
      )

module _ (p : ℕ) (P : 1 ≤ p) (H : p ≤ 53) {k l : ℕ} (K : k ≤ 2 ^ p) (L : l ≤ 2 ^ p) where
  compare_at : (lt (at p k) (at p l) ≡ ltb k l) × (eq (at p k) (at p l) ≡ eqb k l)
  compare_at =
      let y = sub_ℕ (2 * k) (2 ^ p) in
      let z = sub_ℕ (2 * l) (2 ^ p) in
      let s = not (non_neg y) in
      let t = not (non_neg z) in
      let signs = by_signs k l (2 ^ p) (ltb (2 * k) (2 ^ p)) (ltb (2 * l) (2 ^ p)) refl refl in
      let e = exact_at p P H k K in
      let f = exact_at p P H l L in (
        lt_values s t (nat_abs y) (nat_abs z) (2 ^ suc p) (pow_pos (suc p)) (at p k) (at p l) e f ∙ signs.0,
        eq_values s t (nat_abs y) (nat_abs z) (2 ^ suc p) (pow_pos (suc p)) (at p k) (at p l) e f ∙ signs.1,
      )

-- The first of them is -1/2, that in the middle +0.0, and the one behind the last 1/2.
sub_less : (a b : ℕ) → a < b → sub_ℕ a b ≡ negsuc (b - suc a)
sub_less a b h = ap (λ (t : Bool). cond t (negsuc (b - suc a)) (pos (a - b))) (lt-ltb a b h)

sub_more : (a b : ℕ) → b ≤ a → sub_ℕ a b ≡ pos (a - b)
sub_more a b h = ap (λ (t : Bool). cond t (negsuc (b - suc a)) (pos (a - b))) (le-ltb a b h)

one_half : (s : Bool) → round binary64 s 1 2 ≡ fin s 1 (negsuc 0)
unfolding round
one_half true = refl
one_half false = refl

no_part : round binary64 false 0 1 ≡ fin false 0 (pos 0)
unfolding round
no_part = refl

at_first : (p : ℕ) → at p 0 ≡ minus_half
at_first p =
    let h : 0 < 2 ^ p = pow_pos p in
    ap (λ (z : ℤ). nearest_to z (2 ^ suc p)) (sub_less 0 (2 ^ p) h)
    ∙ round_same binary64 true (suc (2 ^ p - 1)) (2 ^ suc p) 1 2 (pow_pos (suc p)) (omega arith) (omega (arith, h))
    ∙ one_half true

at_middle : (r : ℕ) → at (suc r) (2 ^ r) ≡ fin false 0 (pos 0)
at_middle r =
    ap (λ (z : ℤ). nearest_to z (2 ^ suc (suc r))) (sub_more (2 * 2 ^ r) (2 ^ suc r) (omega arith))
    ∙ round_same binary64 false (2 * 2 ^ r - 2 ^ suc r) (2 ^ suc (suc r)) 0 1 (pow_pos (suc (suc r))) (omega arith) (omega arith)
    ∙ no_part

at_end : (p : ℕ) → at p (2 ^ p) ≡ half
at_end p =
    ap (λ (z : ℤ). nearest_to z (2 ^ suc p)) (sub_more (2 * 2 ^ p) (2 ^ p) (omega arith))
    ∙ round_same binary64 false (2 * 2 ^ p - 2 ^ p) (2 ^ suc p) 1 2 (pow_pos (suc p)) (omega arith) (omega arith)
    ∙ one_half false

-- The bits kept are below 2 ^ places.
kept_below : (n x : ℕ) → x < 2 ^ n → kept_of n x < 2 ^ places_of n
kept_below n x h =
    let parts : n ≡ min n 53 + (n - 53) = omega arith in
    shr_lt (min n 53) (n - 53) (subst (λ (k : ℕ). x < 2 ^ k) parts h)

deviate_at_lem : (n x : ℕ) → deviate_of n x ≡ at (places_of n) (kept_of n x)
unfolding deviate_of
deviate_at_lem n x = ap (λ (z : ℤ). nearest_to z (2 ^ suc (places_of n))) (difference (2 * kept_of n x) (2 ^ places_of n))

-- What the deviate of an element is, by the laws above.
least_first : (k : ℕ) → (ltb 0 k || eqb 0 k) ≡ true
least_first zero = refl
least_first (suc k) = ap (λ (t : Bool). t || eqb 0 (suc k)) (lt-ltb 0 (suc k) (omega arith))

first_least : (p : ℕ) → 1 ≤ p → p ≤ 53 → (k : ℕ) → k ≤ 2 ^ p → le minus_half (at p k) ≡ true
unfolding le
first_least p P H k K =
    ap (λ (first : Float). lt first (at p k) || eq first (at p k)) (sym (at_first p))
    ∙ let c = compare_at p P H zero-le K in ap₂ (λ (s t : Bool). s || t) c.0 c.1
    ∙ least_first k

below_end : (p : ℕ) → 1 ≤ p → p ≤ 53 → (k : ℕ) → k < 2 ^ p → lt (at p k) half ≡ true
below_end p P H k K =
    ap (lt (at p k)) (sym (at_end p)) ∙ (compare_at p P H (le_of_lt K) (le_refl (2 ^ p))).0 ∙ lt-ltb k (2 ^ p) K

pub deviates : (n x : ℕ) → 1 ≤ n → x < 2 ^ n → Deviate n x (deviate_of n x)
deviates n x N X =
    let p = places_of n in
    let k = kept_of n x in
    let P : 1 ≤ p = omega arith in
    let H : p ≤ 53 = omega arith in
    let K : k < 2 ^ p = kept_below n x X in
    let J : k ≤ 2 ^ p = omega arith in
    rw (deviate_at_lem n x)
    (record {
      exact = rw (difference (2 * k) (2 ^ p)) (exact_at p P H k J);
      at_least = first_least p P H k J;
      below = below_end p P H k K;
      less = λ y Y. ap (lt (at p k)) (deviate_at_lem n y) ∙ (compare_at p P H J (le_of_lt (kept_below n y Y))).0;
      equal = λ y Y. ap (eq (at p k)) (deviate_at_lem n y) ∙ (compare_at p P H J (le_of_lt (kept_below n y Y))).1;
    })

-- It is what the machine makes of the element: the bits kept and 2 ^ places as floats, their quotient, and one half taken off.
module _ (n x : ℕ) (X : x < 2 ^ n) where
  places_few : 2 ^ places_of n ≤ 2 ^ 53
  places_few = let H : places_of n ≤ 53 = omega arith in pow_mono H

  kept_few : kept_of n x < 2 ^ 53
  kept_few = omega (arith, kept_below n x X, places_few)

  made : sub binary64 (div binary64 (of_int binary64 (pos (kept_of n x))) (of_int binary64 (pos (2 ^ places_of n)))) half ≡ deviate_of n x
  unfolding of_int deviate_of
  made =
      let p = places_of n in
      let k = kept_of n x in
      ap (λ (q : Float). sub binary64 q half)
      (quotient k (2 ^ p) (pow_pos p) (round binary64 false k 1) (round binary64 false (2 ^ p) 1)
      (round_whole binary64 false k (le_of_lt kept_few))
      (round_whole binary64 false (2 ^ p) places_few))
      ∙ less_half k (2 ^ p) (pow_pos p) (round binary64 false k (2 ^ p)) (exact false k p (omega arith) kept_few)
      ∙ ap (nearest_to (pos (2 * k) -ℤ pos (2 ^ p))) (sym (pow-succ' 2 p))

  module _ {p : ℕ} (is : p ≡ places_of n) where
    kept_is : x / 2 ^ (n - p) ≡ kept_of n x
    kept_is = let dropped : n - p ≡ n - 53 = omega (arith, is) in ap (λ (k : ℕ). x / 2 ^ k) dropped

    whole_is : 1 * 2 ^ p % 2 ^ 64 ≡ 2 ^ places_of n
    whole_is =
        rw is
        (ap (λ (k : ℕ). k % 2 ^ 64) (one-mul (2 ^ places_of n)) ∙ mod-eq_of_lt (omega (arith, places_few)))

    pub kept_fits : T (in_float binary64 (pos (x / 2 ^ (n - p))))
    unfolding in_float
    kept_fits = rw kept_is (le→leb (kept_of n x) (2 ^ 53) (le_of_lt kept_few))

    pub whole_fits : T (in_float binary64 (pos (1 * 2 ^ p % 2 ^ 64)))
    unfolding in_float
    whole_fits = rw whole_is (le→leb (2 ^ places_of n) (2 ^ 53) places_few)

    pub machine_made :
        sub binary64 (div binary64 (of_int binary64 (pos (x / 2 ^ (n - p)))) (of_int binary64 (pos (1 * 2 ^ p % 2 ^ 64))))
        (of_bits binary64 4602678819172646912)
        ≡ deviate_of n x
    unfolding of_bits
    machine_made = rw (kept_is, whole_is) made

-- The lowest element gives -1/2, at every width, and the one in the middle +0.0.
pub first_deviate : (n : ℕ) → deviate_of n 0 ≡ minus_half
first_deviate n = deviate_at_lem n 0 ∙ ap (at (places_of n)) (zero-div (2 ^ (n - 53))) ∙ at_first (places_of n)

pub middle_deviate : (n : ℕ) → deviate_of (suc n) (2 ^ n) ≡ fin false 0 (pos 0)
middle_deviate n =
    let m = min n 52 in
    let dropped = suc n - 53 in
    let next : places_of (suc n) ≡ suc m = omega arith in
    let parts : n ≡ m + dropped = omega arith in
    let kept : kept_of (suc n) (2 ^ n) ≡ 2 ^ m =
    ap (λ (z : ℕ). z / 2 ^ dropped) (ap (λ (k : ℕ). 2 ^ k) parts ∙ pow-add 2 m dropped) ∙ shl-shr (2 ^ m) dropped in
    deviate_at_lem (suc n) (2 ^ n) ∙ ap₂ at next kept ∙ at_middle m
