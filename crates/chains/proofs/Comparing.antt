-- Two stretches of some bytes, compared as slices: the test of std is the definition's.
use Rattle.std.proofs.Common.{◌≡◌, ℕ, ◌+◌, ◌-◌, Bool, List, [], ◌∷◌, ◌&&◌, nat_eq, take, drop, refl, ap, ◌∙◌, arith}
use Rattle.std.specs.Cmp.Lexicographic.{pointwise}
use Rattle.fields.specs.Line.{same_bytes}

same_pointwise : (xs ys : List ℕ) → pointwise nat_eq xs ys ≡ same_bytes xs ys
same_pointwise [] [] = refl
same_pointwise [] (y ∷ ys) = refl
same_pointwise (x ∷ xs) [] = refl
same_pointwise (x ∷ xs) (y ∷ ys) = ap (λ (b : Bool). nat_eq x y && b) (same_pointwise xs ys)

pub compared : {same : Bool} (bytes : List ℕ) (start at n : ℕ) →
    same ≡ pointwise nat_eq (take (start + n - start) (drop start bytes)) (take (at + n - at) (drop at bytes)) →
    same ≡ same_bytes (take n (drop start bytes)) (take n (drop at bytes))
compared bytes start at n told =
    let e : start + n - start ≡ n = omega arith in
    let f : at + n - at ≡ n = omega arith in
    rw (e, f) at told ∙ same_pointwise (take n (drop start bytes)) (take n (drop at bytes))
