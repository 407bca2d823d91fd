-- Floats by the fractions that they are. Two floats compare as their fractions do; the quotient of two whole numbers is their
-- fraction, rounded once; one half taken off a fraction is the difference, rounded once; and a fraction with few digits over a power
-- of two is not changed by rounding. That two fractions are equal is said by their products crosswise.
use mathlib.Core.Path.{◌≡◌, refl, sym, ap, ap₂, subst, ◌∙◌}
use mathlib.Core.Bool.{Bool, true, false, cond, ◌&&◌, ◌||◌, beq, true≢false}
use Prim.Native.Nat.{ℕ, zero, suc, ◌+◌, ◌*◌, ◌-◌, ◌^◌, ◌≤◌, ◌<◌, zero-le}
use native.Mathlib.Nat.{mul-one, mul_comm, mul_assoc, mul_left_comm, mul_right_comm, mul-sub, add-mul, zero-mul, mul-pos}
use native.Mathlib.Nat.{mul-le-mul_right, mul-lt-mul_of_pos_right, le_of_mul-le-mul_right, lt_of_mul-lt-mul_right}
use native.Mathlib.Nat.{eq_of_mul-eq-mul_right, lt_of_lt_of_le, pow-succ'}
use native.Mathlib.Omega.{arith}
use lib.Dec.{eqb, ltb}
use lib.IntN.{pos, negsuc, sub_ℕ, ◌-ℤ◌}
use lib.Pow.{pow-add, pow_pos, pow_mono, shl_lt}
use lib.Ieee.{Float, nan, inf, fin, binary64, up, down, below, level, round, neg, sum, add, sub, div, lt, eq}
use lib.Ieee.Exact.{HasValue, round_exact}
use lib.Ieee.Fits.{up_pos, down_pos}
use lib.Ieee.Scale.{round_same}
use borrow.Author.Tests.{lt-ltb, le-ltb, ltb-true, ltb-false, eq-eqb, ne_eqb, eqb-true, eqb-false}
use Rattle.fixes.specs.Deviate.{nearest_to, half}

-- Tests of facts that hold together are equal.
pub iff_ltb : (a b c d : ℕ) → (c < d → a < b) → (d ≤ c → b ≤ a) → ltb a b ≡ ltb c d
iff_ltb a b c d f g = go (ltb c d) refl
  where
    go : (t : Bool) → ltb c d ≡ t → ltb a b ≡ t
    go true e = lt-ltb a b (f (ltb-true c d e))
    go false e = le-ltb a b (g (ltb-false c d e))

pub iff_eqb : (a b c d : ℕ) → (c ≡ d → a ≡ b) → (a ≡ b → c ≡ d) → eqb a b ≡ eqb c d
iff_eqb a b c d f g = go (eqb c d) refl
  where
    go : (t : Bool) → eqb c d ≡ t → eqb a b ≡ t
    go true e = eq-eqb a b (f (eqb-true c d e))
    go false e = ne_eqb a b (λ z. eqb-false c d e (g z))

-- x / d and a / c are the same fraction.
record Same (x d a c : ℕ) : Type 0 where
  pub crosswise : x * c ≡ a * d

-- Of fractions over one denominator the numerators tell which is less, and whether they are equal.
module _ {x y a b c d : ℕ} (C : 0 < c) (D : 0 < d) (p : Same x d a c) (q : Same y d b c) where
  less : a < b → x < y
  less h =
      let scaled : a * d < b * d = mul-lt-mul_of_pos_right h D in
      lt_of_mul-lt-mul_right c (omega (arith, scaled, p.crosswise, q.crosswise))

  no_less : b ≤ a → y ≤ x
  no_less h =
      let scaled : b * d ≤ a * d = mul-le-mul_right d h in
      le_of_mul-le-mul_right (omega (arith, scaled, p.crosswise, q.crosswise)) C

  same_ltb : ltb x y ≡ ltb a b
  same_ltb = iff_ltb x y a b less no_less

  same_eqb : eqb x y ≡ eqb a b
  same_eqb =
      iff_eqb x y a b
      (λ z. eq_of_mul-eq-mul_right c C x y (p.crosswise ∙ ap (λ (u : ℕ). u * d) z ∙ sym q.crosswise))
      (λ z. eq_of_mul-eq-mul_right d D a b (sym p.crosswise ∙ ap (λ (u : ℕ). u * c) z ∙ q.crosswise))

same_zero : (d c : ℕ) → Same 0 d 0 c
same_zero d c = record { crosswise = zero-mul c ∙ sym (zero-mul d) }

same_sum : {x y a b c d : ℕ} → Same x d a c → Same y d b c → Same (x + y) d (a + b) c
same_sum {x} {y} {a} {b} {c} {d} p q =
    record { crosswise = add-mul x y c ∙ ap₂ (λ (u v : ℕ). u + v) p.crosswise q.crosswise ∙ sym (add-mul a b d) }

-- the same with signs
module _ {x y a b c d : ℕ} (C : 0 < c) (D : 0 < d) (p : Same x d a c) (q : Same y d b c) where
  same_below : (s t : Bool) → below s x t y ≡ below s a t b
  same_below false false = same_ltb C D p q
  same_below false true = refl
  same_below true false = same_ltb C D (same_zero d c) (same_sum p q)
  same_below true true = same_ltb C D q p

  same_level : (s t : Bool) → level s x t y ≡ level s a t b
  same_level s t = ap₂ (λ (u v : Bool). u && (beq s t || v)) (same_eqb C D p q) (same_eqb C D p (same_zero d c))

-- Two floats over one denominator compare as their numerators do. The machine has both over another one, the product of theirs.
over : (u c a e d : ℕ) → u * c ≡ a * e → Same (u * d) (e * d) a c
over u c a e d p = record { crosswise = mul_right_comm u d c ∙ ap (λ (z : ℕ). z * d) p ∙ mul_assoc a e d }

module _ (s t : Bool) (a b c : ℕ) (C : 0 < c) where
  record Compared (x y : Float) : Type 0 where
    pub left : ℕ
    pub right : ℕ
    pub denominator : ℕ
    pub positive : 0 < denominator
    pub left_is : Same left denominator a c
    pub right_is : Same right denominator b c
    pub less : lt x y ≡ below s left t right
    pub equal : eq x y ≡ level s left t right

  compared : (x y : Float) → HasValue x s a c → HasValue y t b c → Compared x y
  unfolding lt eq
  compared nan y p q = absurd p
  compared (inf u) y p q = absurd p
  compared (fin u m e) nan p q = absurd q
  compared (fin u m e) (inf v) p q = absurd q
  compared (fin u m e) (fin v n d) p q =
      let x = m * up e * down d in
      let y = n * up d * down e in
      record {
        left = x;
        right = y;
        denominator = down e * down d;
        positive = mul-pos (down_pos e) (down_pos d);
        left_is = over (m * up e) c a (down e) (down d) p.1;
        right_is = subst (λ (k : ℕ). Same y k b c) (mul_comm (down d) (down e)) (over (n * up d) c b (down d) (down e) q.1);
        less = ap₂ (λ (i j : Bool). below i x j y) p.0 q.0;
        equal = ap₂ (λ (i j : Bool). level i x j y) p.0 q.0;
      }

  module _ (x y : Float) (p : HasValue x s a c) (q : HasValue y t b c) where
    pub lt_values : lt x y ≡ below s a t b
    lt_values = let r = compared x y p q in r.less ∙ same_below C r.positive r.left_is r.right_is s t

    pub eq_values : eq x y ≡ level s a t b
    eq_values = let r = compared x y p q in r.equal ∙ same_level C r.positive r.left_is r.right_is s t

-- The quotient of two whole numbers is their fraction, rounded once.
quotient_crosswise : (u v k w e d : ℕ) → u * 1 ≡ k * e → v * 1 ≡ w * d → u * d * w ≡ k * (v * e)
quotient_crosswise u v k w e d p q =
    let ring : k * e * d * w ≡ k * (w * d * e) = simp (mul_assoc, mul_comm, mul_left_comm) in
    ap (λ (z : ℕ). z * d * w) (sym (mul-one u) ∙ p) ∙ ring ∙ ap (λ (z : ℕ). k * (z * e)) (sym q ∙ mul-one v)

not_zero : (n u v : ℕ) → 0 < v → n * u * 1 ≡ v → n ≡ 0 → ⊥
not_zero n u v h q z = let e : 0 * u * 1 ≡ v = subst (λ (k : ℕ). k * u * 1 ≡ v) z q in omega (arith, e, zero-mul u)

pub quotient : (k w : ℕ) → 0 < w → (x y : Float) → HasValue x false k 1 → HasValue y false w 1 →
    div binary64 x y ≡ round binary64 false k w
unfolding div
quotient k w W nan y p q = absurd p
quotient k w W (inf s) y p q = absurd p
quotient k w W (fin s m e) nan p q = absurd q
quotient k w W (fin s m e) (inf t) p q = absurd q
quotient k w W (fin true m e) (fin t n d) p q = absurd (true≢false p.0)
quotient k w W (fin false m e) (fin true n d) p q = absurd (true≢false q.0)
quotient k w W (fin false m e) (fin false n d) p q =
    let some : n ≡ 0 → ⊥ = not_zero n (up d) (w * down d) (mul-pos W (down_pos d)) q.1 in
    let N : 0 < n = omega (arith, some) in
    rw (ne_eqb n 0 some)
    (round_same binary64 false (m * up e * down d) (n * up d * down e) k w (mul-pos (mul-pos N (up_pos d)) (down_pos e)) W
    (quotient_crosswise (m * up e) (n * up d) k w (down e) (down d) p.1 q.1))

-- A difference of whole numbers, by which of them is less.
pub difference : (a b : ℕ) → pos a -ℤ pos b ≡ sub_ℕ a b
difference a zero =
    let same : a + 0 ≡ a - 0 = omega arith in
    ap (λ (k : ℕ). pos k) same ∙ sym (ap (λ (t : Bool). cond t (negsuc (0 - suc a)) (pos (a - 0))) (le-ltb a 0 zero-le))
difference a (suc b) = refl

-- One half taken off k / w leaves (2 * k - w) / (2 * w), rounded once. The machine has a / b for 2 * k / w, here u / w, and comes to
-- (a - b) / (b * 2).
module _ (a b u w : ℕ) (p : a * w ≡ u * b) where
  swapped : 2 * w * b ≡ b * 2 * w
  swapped = omega arith

  crossed : 2 * w * a ≡ b * 2 * u
  crossed = omega (arith, p)

  below_crosswise : (b - a) * (2 * w) ≡ (w - u) * (b * 2)
  below_crosswise =
      mul_comm (b - a) (2 * w)
      ∙ mul-sub (2 * w) b a
      ∙ ap₂ (λ (x y : ℕ). x - y) swapped crossed
      ∙ sym (mul-sub (b * 2) w u)
      ∙ mul_comm (b * 2) (w - u)

  above_crosswise : (a - b) * (2 * w) ≡ (u - w) * (b * 2)
  above_crosswise =
      mul_comm (a - b) (2 * w)
      ∙ mul-sub (2 * w) a b
      ∙ ap₂ (λ (x y : ℕ). x - y) crossed swapped
      ∙ sym (mul-sub (b * 2) u w)
      ∙ mul_comm (b * 2) (u - w)

  module _ (B : 0 < b) (W : 0 < w) where
    by_sign : (t : Bool) → ltb u w ≡ t →
        cond t (round binary64 true (b - a) (b * 2)) (round binary64 false (a - b) (b * 2))
        ≡ nearest_to (cond t (negsuc (w - suc u)) (pos (u - w))) (2 * w)
    by_sign true e =
        let s : w - u ≡ suc (w - suc u) = omega (arith, ltb-true u w e) in
        round_same binary64 true (b - a) (b * 2) (suc (w - suc u)) (2 * w) (omega arith) (omega arith)
        (below_crosswise ∙ ap (λ (z : ℕ). z * (b * 2)) s)
    by_sign false e =
        round_same binary64 false (a - b) (b * 2) (u - w) (2 * w) (omega arith) (omega arith) above_crosswise

    taken_off :
        cond (ltb a b) (round binary64 true (b - a) (b * 2)) (round binary64 false (a - b) (b * 2)) ≡ nearest_to (sub_ℕ u w) (2 * w)
    taken_off =
        ap (λ (t : Bool). cond t (round binary64 true (b - a) (b * 2)) (round binary64 false (a - b) (b * 2)))
        (same_ltb W B (record { crosswise = p }) (record { crosswise = mul_comm b w }))
        ∙ by_sign (ltb u w) refl

doubled : (m k w e : ℕ) → m * w ≡ k * e → m * 2 * w ≡ 2 * k * e
doubled m k w e p = omega (arith, p)

pub less_half : (k w : ℕ) → 0 < w → (x : Float) → HasValue x false k w →
    sub binary64 x half ≡ nearest_to (pos (2 * k) -ℤ pos w) (2 * w)
unfolding sub add sum neg
less_half k w W nan p = absurd p
less_half k w W (inf s) p = absurd p
less_half k w W (fin true m e) p = absurd (true≢false p.0)
less_half k w W (fin false m e) p =
    let one : 1 * 1 * down e ≡ down e = omega arith in
    rw (one, difference (2 * k) w)
    (taken_off (m * up e * 2) (down e) (2 * k) w (doubled (m * up e) k w (down e) p.1) (down_pos e) W)

-- A number of at most 53 digits over 2 ^ p is a float, and so is twice such a number over 2 ^ (p + 1). Rounding counts in 2 ^ -1074,
-- the least float above 0.
in_units : (q p l : ℕ) → p ≤ l → q * 2 ^ l ≡ q * 2 ^ (l - p) * 2 ^ p
in_units q p l h =
    let parts : l ≡ l - p + p = omega arith in
    ap (λ (k : ℕ). q * 2 ^ k) parts
    ∙ ap (λ (z : ℕ). q * z) (pow-add 2 (l - p) p)
    ∙ sym (mul_assoc q (2 ^ (l - p)) (2 ^ p))

twice_in_units : (q p l : ℕ) → p ≤ l → 2 * q * 2 ^ l ≡ q * 2 ^ (l - p) * 2 ^ suc p
twice_in_units q p l h =
    let less : suc l - suc p ≡ l - p = omega arith in
    ap (λ (z : ℕ). z * 2 ^ l) (mul_comm 2 q)
    ∙ mul_assoc q 2 (2 ^ l)
    ∙ ap (λ (z : ℕ). q * z) (sym (pow-succ' 2 l))
    ∙ in_units q (suc p) (suc l) (omega arith)
    ∙ ap (λ (k : ℕ). q * 2 ^ k * 2 ^ suc p) less

module _ (s : Bool) (q p : ℕ) (P : p ≤ 53) (Q : q < 2 ^ 53) where
  in_range : q * 2 ^ (1074 - p) < 2 ^ 2098
  in_range = lt_of_lt_of_le (shl_lt 53 (1074 - p) Q) (pow_mono {j = 2098} (omega arith))

  pub exact : HasValue (round binary64 s q (2 ^ p)) s q (2 ^ p)
  exact = round_exact binary64 s q (2 ^ p) q (1074 - p) (pow_pos p) Q in_range (in_units q p 1074 (omega arith))

  pub twice_exact : HasValue (round binary64 s (2 * q) (2 ^ suc p)) s (2 * q) (2 ^ suc p)
  twice_exact =
      round_exact binary64 s (2 * q) (2 ^ suc p) q (1074 - p) (pow_pos (suc p)) Q in_range (twice_in_units q p 1074 (omega arith))
