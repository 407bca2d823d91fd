-- Equal lines. Lines of which none is among those before it, one after the other, are those of which none, by its number,
-- equals an earlier one: by induction over the lines, since those before a line are those with lower numbers.
use mathlib.Core.Path.{◌≡◌, refl, sym, ap, ◌∙◌}
use mathlib.Core.Bool.{Bool, true, false, ◌||◌}
use mathlib.Core.List.{List, [], ◌∷◌}
use Prim.Native.Nat.{ℕ, zero, suc, ◌≤◌, ◌<◌}
use native.Mathlib.Omega.{arith}
use lib.ListN.{length}
use Rattle.fields.specs.Line.{same_bytes}
use Rattle.fields.proofs.Numbers.{same_test, test_same, no_test}
use Rattle.archive.specs.Archive.{numbered, Twin}
use Rattle.archive.specs.Check.{is_among}

-- Two lines compared.
pub contrary : {A : Type 0} {b : Bool} → b ≡ true → b ≡ false → A
contrary t f = absurd (let z : true ≡ false = sym t ∙ f in let n : ◌≡◌ {A = ℕ} 0 1 = cc in omega arith)

pub same_lines : {line other : List ℕ} → line ≡ other → same_bytes line other ≡ true
same_lines {line} e = ap (same_bytes line) (sym e) ∙ test_same line

pub other_lines : {line other : List ℕ} → (line ≡ other → ⊥) → same_bytes line other ≡ false
other_lines {line} {other} d = no_test (same_bytes line other) (λ t. d (same_test line other t))

-- a line is not among some lines if it is not the first and not among the others, and back
among_other : (line other : List ℕ) (others : List (List ℕ)) → same_bytes other line ≡ false → is_among line others ≡ false →
    is_among line (other ∷ others) ≡ false
unfolding is_among
among_other line other others d n = rw (d, n)

among_none : (line other : List ℕ) (others : List (List ℕ)) → is_among line (other ∷ others) ≡ false →
    (same_bytes other line ≡ false) × (is_among line others ≡ false)
unfolding is_among
among_none line other others n = go (same_bytes other line) (is_among line others) refl refl
  where
    go : (b c : Bool) → same_bytes other line ≡ b → is_among line others ≡ c →
        (same_bytes other line ≡ false) × (is_among line others ≡ false)
    go false false e f = (e, f)
    go true c e f = contrary {b = same_bytes other line || is_among line others} (rw e) n
    go false true e f = contrary {b = same_bytes other line || is_among line others} (rw (e, f)) n

-- None of the lines is among those before it.
abbrev pub Fresh : List (List ℕ) → List (List ℕ) → Type 0
Fresh before [] = Unit {0}
Fresh before (line ∷ lines) = (is_among line before ≡ false) × Fresh (line ∷ before) lines

-- each of them
record Apart (before lines : List (List ℕ)) : Type 0 where
  law : (j : ℕ) → j < length lines → is_among (numbered [] lines (suc j)) before ≡ false

fresh_apart : (before lines : List (List ℕ)) → Fresh before lines → Apart before lines
unfolding numbered
fresh_apart before [] f = record { law = λ j l. absurd (omega arith) }
fresh_apart before (line ∷ lines) f = record { law = law (fresh_apart (line ∷ before) lines f.1) }
  where
    law : Apart (line ∷ before) lines → (j : ℕ) → j < length (line ∷ lines) →
        is_among (numbered [] (line ∷ lines) (suc j)) before ≡ false
    law rest zero l = f.0
    law rest (suc j) l = (among_none (numbered [] lines (suc j)) line before (rest.law j (omega arith))).1

-- so none equals an earlier one
no_twin : (before lines : List (List ℕ)) → Fresh before lines → (j : ℕ) → Twin lines j → ⊥
unfolding numbered
no_twin before [] f j t = omega (arith, t.earlier)
no_twin before (line ∷ lines) f j t = go (no_twin (line ∷ before) lines f.1) t.early j t.earlier t.equal
  where
    go : ((j : ℕ) → Twin lines j → ⊥) → (i j : ℕ) → (0 < i) × (i < j) × (j ≤ length (line ∷ lines)) →
        numbered [] (line ∷ lines) i ≡ numbered [] (line ∷ lines) j → ⊥
    go rest zero j h e = omega (arith, h)
    go rest (suc i) zero h e = omega (arith, h)
    go rest (suc i) (suc zero) h e = omega (arith, h)
    go rest (suc zero) (suc (suc j)) h e =
        let apart = (fresh_apart (line ∷ before) lines f.1).law j (omega (arith, h)) in
        contrary (same_lines e) (among_none (numbered [] lines (suc j)) line before apart).0
    go rest (suc (suc i)) (suc (suc j)) h e =
        rest (suc j) (record { early = suc i; earlier = (omega arith, omega (arith, h), omega (arith, h)); equal = e })

pub fresh_distinct : {lines : List (List ℕ)} → Fresh [] lines → (j : ℕ) → Twin lines j → ⊥
fresh_distinct {lines} f = no_twin [] lines f

-- And back: a twin of the later lines is one of all lines.
later : (line : List ℕ) (lines : List (List ℕ)) (j : ℕ) → Twin lines j → Twin (line ∷ lines) (suc j)
unfolding numbered
later line lines j t = go t.early j t.earlier t.equal
  where
    go : (i j : ℕ) → (0 < i) × (i < j) × (j ≤ length lines) → numbered [] lines i ≡ numbered [] lines j → Twin (line ∷ lines) (suc j)
    go zero j h e = absurd (omega (arith, h))
    go (suc i) zero h e = absurd (omega (arith, h))
    go (suc i) (suc j) h e =
        record { early = suc (suc i); earlier = (omega arith, omega (arith, h), omega (arith, h)); equal = e }

fresh : (before lines : List (List ℕ)) → Apart before lines → ((j : ℕ) → Twin lines j → ⊥) → Fresh before lines
unfolding numbered
fresh before [] a d = tt
fresh before (line ∷ lines) a d = (
  a.law 0 (omega arith),
  fresh (line ∷ before) lines
      (record {
        law = λ j l.
            among_other (numbered [] lines (suc j)) line before
            (other_lines
            (λ e. d (suc (suc j)) (record { early = 1; earlier = (omega arith, omega arith, omega arith); equal = e })))
            (a.law (suc j) (omega arith));
      })
      (λ j t. d (suc j) (later line lines j t)),
)

pub distinct_fresh : {lines : List (List ℕ)} → ((j : ℕ) → Twin lines j → ⊥) → Fresh [] lines
distinct_fresh {lines} d = fresh [] lines (record { law = λ j l. unfold is_among in refl }) d
