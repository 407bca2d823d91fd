-- The map of i steps followed by that of j steps is the map of i + j steps: steps take congruent numbers to congruent numbers,
-- so a map that gives what i steps give, modulo 2 ^ 64, serves for them before any further steps.
use Rattle.std.proofs.Common.{◌≡◌, ℕ, zero, suc, ◌+◌, ◌*◌, ◌%◌, ◌^◌, sym, refl, ap, ◌∙◌, subst, add-zero, add-suc, arith}
use Rattle.words.proofs.Congruence.{Congruent, same_refl, same_regroup, same_result, same_add, same_scale, same_mul}
use Rattle.affine.specs.declared.Affine.{Affine}
use Rattle.affine.specs.Affine.{apply, iterate, Walks, Composes}

-- i steps and then j are i + j
pub iterate_add : (a c i j x : ℕ) → iterate a c (i + j) x ≡ iterate a c j (iterate a c i x)
unfolding iterate
iterate_add a c i zero x = ap (λ (k : ℕ). iterate a c k x) (add-zero i)
iterate_add a c i (suc j) x =
    ap (λ (k : ℕ). iterate a c k x) (add-suc i j) ∙ ap (λ (y : ℕ). a * y + c) (iterate_add a c i j x)

-- a map takes congruent numbers to congruent numbers, and so do i steps
pub same_affine : {m x y : ℕ} (a c : ℕ) → Congruent m x y → Congruent m (a * x + c) (a * y + c)
same_affine {m} a c h = same_add (same_scale a h) (same_refl m c)

pub same_iterate : {m x y : ℕ} (a c i : ℕ) → Congruent m x y → Congruent m (iterate a c i x) (iterate a c i y)
unfolding iterate
same_iterate a c zero h = h
same_iterate a c (suc i) h = same_affine a c (same_iterate a c i h)

-- the product of the factors, and the second map's value at the first one's offset
pub composed :
    (first second r : Affine) →
    r.factor ≡ second.factor * first.factor % 2 ^ 64 →
    r.offset ≡ apply second first.offset % 2 ^ 64 →
    Composes first second r
composed first second r e f =
    record {
      composes =
          λ x.
          (same_regroup {t = apply second (apply first x)}
          (same_add (same_mul (same_result _ e) (same_refl (2 ^ 64) x)) (same_result _ f))
          refl
          (omega arith)).same;
    }

-- where a map takes x to i steps from y, a map of j steps behind it leads to i + j steps from y
pub steps_add :
    {a c j : ℕ} {first second r : Affine} (i x y : ℕ) →
    apply first x % 2 ^ 64 ≡ iterate a c i y % 2 ^ 64 →
    Walks a c j second →
    Composes first second r →
    apply r x % 2 ^ 64 ≡ iterate a c (i + j) y % 2 ^ 64
steps_add {a} {c} {j} {first} i x y e w h =
    h.composes x ∙ w.walks (apply first x)
    ∙ (same_iterate a c j (record { same = e })).same
    ∙ ap (λ (z : ℕ). z % 2 ^ 64) (sym (iterate_add a c i j y))

-- a map of i steps followed by one of j steps is a map of i + j steps
pub walks_add :
    {a c i j : ℕ} {first second r : Affine} →
    Walks a c i first →
    Walks a c j second →
    Composes first second r →
    Walks a c (i + j) r
walks_add {i = i} f g h = record { walks = λ x. steps_add i x x (f.walks x) g h }

-- no step
pub walks_none : (a c : ℕ) → Walks a c 0 (record { factor = 1; offset = 0 })
unfolding iterate
walks_none a c = record { walks = λ x. ap (λ (y : ℕ). y % 2 ^ 64) (omega arith) }

-- one step
pub walks_one : (a c : ℕ) → Walks a c 1 (record { factor = a; offset = c })
unfolding iterate
walks_one a c = record { walks = λ x. refl }

-- the same number of steps
pub walks_as : {a c i j : ℕ} {f : Affine} → i ≡ j → Walks a c i f → Walks a c j f
walks_as {a} {c} {f = f} e w = subst (λ (k : ℕ). Walks a c k f) e w
