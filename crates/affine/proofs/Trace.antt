-- What some rounds of a jump make of any state: the stride 2 ^ n times over, what is done followed by as many strides as the
-- low n bits of the index left say, and the other bits of it. A round more doubles the first (`walks_add`) and adds it to the
-- second where the next bit is 1 (`continues_add`). So after k rounds from the start the map of 2 ^ k steps is in hand, the map of
-- (i modulo 2 ^ k) steps is done and i / 2 ^ k is left; and once nothing is left, that modulo is i itself: what is done is
-- the map of all i steps.
use Rattle.std.proofs.Common.{◌≡◌, ℕ, zero, suc, ◌+◌, ◌*◌, ◌/◌, ◌%◌, ◌^◌, ◌≤◌, sym, refl, ap, ◌∙◌, subst, add-zero, add-suc, arith, shr-shr, eq-eqb, ne_eqb}
use mathlib.Core.Logic.{by_cases}
use native.Mathlib.Decide.{ℕ_discrete}
use lib.Pow.{split, mod-pow-add}
use Rattle.affine.specs.declared.Affine.{Affine}
use Rattle.affine.specs.declared.Progress.{Progress}
use Rattle.affine.specs.Affine.{apply, iterate, Walks, Composes}
use Rattle.affine.specs.Trace.{
  identity,
  start_of,
  selected_of,
  OneRound,
  Rounded,
  none,
  next,
  Performed,
  Jumps,
  Row,
  Traced,
  Onward,
  Continues,
  Rounds,
}
use Rattle.affine.proofs.Walking.{steps_add, walks_none, walks_one, walks_as, walks_add}

-- a map followed by no step, and by j steps more
continues_none : (a c : ℕ) (f : Affine) → Continues a c 0 f f
unfolding iterate
continues_none a c f = record { continues = λ x. refl }

continues_as : {a c i j : ℕ} {f r : Affine} → i ≡ j → Continues a c i f r → Continues a c j f r
continues_as {a} {c} {f = f} {r = r} e h = subst (λ (n : ℕ). Continues a c n f r) e h

continues_add :
    {a c i j : ℕ} {f g second r : Affine} →
    Continues a c i f g →
    Walks a c j second →
    Composes g second r →
    Continues a c (i + j) f r
continues_add {i = i} {f = f} h w k =
    record { continues = λ x. steps_add i x (apply f x) (h.continues x) w k }

-- from the map of no step on, it is the map of the steps
continues_start : {a c i : ℕ} {r : Affine} → Continues a c i identity r → Walks a c i r
continues_start {a} {c} {i} h =
    record { walks = λ x. h.continues x ∙ ap (λ (y : ℕ). iterate a c i y % 2 ^ 64) (omega arith) }

-- what the lowest bit asks for is as many strides as it says
selected_walks : {a c s : ℕ} (p : Progress) → Walks a c s p.stride → Walks a c (p.left % 2 * s) (selected_of p)
selected_walks {a} {c} {s} p w =
    by_cases (ℕ_discrete (p.left % 2) 0)
    (λ e. rw (eq-eqb _ _ e) (walks_as (omega (arith, ap (λ (b : ℕ). b * s) e)) (walks_none a c)))
    (λ n. rw (ne_eqb _ _ n) (walks_as (omega (arith, ap (λ (b : ℕ). b * s) (one n))) w))
  where
    one : (p.left % 2 ≡ 0 → ⊥) → p.left % 2 ≡ 1
    one n = omega (arith, n)

-- no round, and one round more
rounds_none : (p : Progress) → Rounds 0 p p
rounds_none p =
    record {
      stride = walks_one p.stride.factor p.stride.offset;
      done = continues_as (omega arith) (continues_none _ _ p.done);
      left = omega arith;
    }

rounds_next : {k : ℕ} {p q r : Progress} → Rounds k p q → OneRound q r → Rounds (suc k) p r
rounds_next {k} {p} {q} t h =
    record {
      stride = walks_as (omega arith) (walks_add t.stride t.stride h.stride);
      done = continues_as next_bit (continues_add t.done (selected_walks q t.stride) h.done);
      left = h.left ∙ ap (λ (n : ℕ). n / 2) t.left ∙ shr-shr p.left k 1 ∙ ap (λ (n : ℕ). p.left / 2 ^ n) (omega arith);
    }
  where
    next_bit : p.left % 2 ^ k + q.left % 2 * 2 ^ k ≡ p.left % 2 ^ suc k
    next_bit =
        let e : 1 + k ≡ suc k = omega arith in
        omega (
          arith,
          ap (λ (n : ℕ). n % 2 * 2 ^ k) t.left,
          mod-pow-add p.left 1 k,
          ap (λ (n : ℕ). p.left % 2 ^ n) e,
        )

pub rounded_rounds : {k : ℕ} {p q : Progress} → Rounded k p q → Rounds k p q
rounded_rounds (none {p}) = rounds_none p
rounded_rounds (next t h) = rounds_next (rounded_rounds t) h

-- k rounds more
pub rounded_add : {j k : ℕ} {p q r : Progress} → Rounded j p q → Rounded k q r → Rounded (j + k) p r
rounded_add {j} {p = p} {q = q} f none = subst (λ (n : ℕ). Rounded n p q) (sym (add-zero j)) f
rounded_add {j} {p = p} {r = r} f (next {k} g h) =
    subst (λ (n : ℕ). Rounded n p r) (sym (add-suc j k)) (next (rounded_add f g) h)

-- some rounds, and k more
pub onward_add : {k : ℕ} {p q r : Progress} → Onward p q → Rounded k q r → Onward p r
onward_add {k} t h = record { rounds = t.rounds + k; rounded = rounded_add t.rounded h }

-- the index does not grow
pub rounded_within : {k : ℕ} {p q : Progress} → Rounded k p q → q.left ≤ p.left
rounded_within none = omega arith
rounded_within (next t h) = omega (arith, rounded_within t, h.left)

-- the trace: of every row of states in which each next one meets what `round` ensures
pub row_rounded : {a c i : ℕ} {state : ℕ → Progress} → Row a c i state → (k : ℕ) → Rounded k (start_of a c i) (state k)
row_rounded {a} {c} {i} row zero = subst (λ (p : Progress). Rounded 0 (start_of a c i) p) (sym row.starts) none
row_rounded row (suc k) = next (row_rounded row k) (row.next k)

pub trace : {a c i : ℕ} {state : ℕ → Progress} → Row a c i state → (k : ℕ) → Traced a c i k (state k)
trace row k =
    let t = rounded_rounds (row_rounded row k) in
    record { stride = t.stride; done = continues_start t.done; left = t.left }

-- a round at index 0 leaves index 0 and the same map done
pub round_at_zero :
    {p r : Progress} →
    p.left ≡ 0 →
    OneRound p r →
    (r.left ≡ 0) × ((x : ℕ) → apply r.done x % 2 ^ 64 ≡ apply p.done x % 2 ^ 64)
round_at_zero {p} e h =
    let even : p.left % 2 ≡ 0 = omega (arith, e) in
    (h.left ∙ omega (arith, e), λ x. (rw (eq-eqb _ _ even) at h.done).composes x ∙ ap (λ (y : ℕ). y % 2 ^ 64) (omega arith))

-- what `finish` returns: with no index left what is done, otherwise what it returns for the state n rounds later
pub performed_now : (p : Progress) → p.left ≡ 0 → Performed p p.done
performed_now p e = record { rounds = 0; last = p; rounded = none; over = e; result = refl }

pub performed_later : {n : ℕ} {p q : Progress} {r : Affine} → Rounded n p q → Performed q r → Performed p r
performed_later {n} t h =
    record {
      rounds = n + h.rounds;
      last = h.last;
      rounded = rounded_add t h.rounded;
      over = h.over;
      result = h.result;
    }

-- rounds down to index 0 have done all steps that were left, from the start on the map of i steps
pub performed_continues :
    {p : Progress} {r : Affine} →
    Performed p r →
    Continues p.stride.factor p.stride.offset p.left p.done r
performed_continues {p} h =
    let t = rounded_rounds h.rounded in
    subst (λ (f : Affine). Continues p.stride.factor p.stride.offset p.left p.done f) h.result
    (continues_as (all h.rounds (sym t.left ∙ h.over)) t.done)
  where
    all : (k : ℕ) → p.left / 2 ^ k ≡ 0 → p.left % 2 ^ k ≡ p.left
    all k e = omega (arith, split p.left k, ap (λ (m : ℕ). 2 ^ k * m) e)

pub jumps : {a c i : ℕ} {r : Affine} → Performed (start_of a c i) r → Jumps a c i r
jumps h = record { walks = continues_start (performed_continues h); performed = h }
