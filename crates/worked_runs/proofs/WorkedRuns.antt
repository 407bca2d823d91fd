-- The worked runs hold: one test computed over the table, and the law that turns it into the facts of each row. The test steps
-- along the elements where the definitions ask for each by its index, so that a search takes one step for each index. A number
-- that no index below the modulus yields is never yielded, since the generator's orbit lies below it.
use mathlib.Core.Path.{◌≡◌, refl, sym, ap, ◌∙◌}
use mathlib.Core.Bool.{Bool, true, false, true≢false, ◌&&◌}
use mathlib.Core.List.{List, [], ◌∷◌}
use Prim.Native.Nat.{ℕ, zero, suc, ◌+◌}
use native.Mathlib.Nat.{add-zero, zero-add, add-suc, suc-add}
use lib.Dec.{T, eqb, ltb, eqb→eq}
use Rattle.sequences.specs.Least.{least}
use Rattle.sequences.specs.Orbit.{return_less_one, preperiod_of, period_of, exponent_of}
use Rattle.sequences.specs.Index.{index_of}
use Rattle.sequences.proofs.Least.{least_same}
use Rattle.sequences.proofs.IndexOf.{bound_none}
use Rattle.generator.specs.declared.Generator.{Generator}
use Rattle.generator.specs.Recurrence.{modulus, step, element}
use Rattle.generator.specs.Check.{refusal_of}
use Rattle.generator.proofs.Elements.{element_start, element_next}
use Rattle.sequences.proofs.Table.{and_true}
use Rattle.worked_runs.specs.WorkedRuns.{
  Fact,
  Element,
  Preperiod,
  Exponent,
  Index,
  Never,
  Row,
  Holds,
  Facts,
  Rows,
  worked_runs,
  WorkedRuns,
}
use Rattle.orbits.proofs.Orbits.{below_never}

-- a search along the elements from x on
unfoldable walk : Generator → (ℕ → Bool) → ℕ → ℕ → ℕ
walk g p zero x = zero
walk g p (suc bound) x = elim (p x) [ true ↦ zero | false ↦ suc (walk g p bound (step g x)) ]

-- it finds what the search by index does
walk_is : (g : Generator) (p : ℕ → Bool) (bound s : ℕ) →
    walk g p bound (element g s) ≡ least (λ i. p (element g (s + i))) bound
unfolding walk least
walk_is g p zero s = refl
walk_is g p (suc bound) s =
    same (p (element g s)) (p (element g (s + 0))) (ap (λ (i : ℕ). p (element g i)) (sym (add-zero s)))
    (ap (walk g p bound) (sym (element_next g s))
    ∙ walk_is g p bound (suc s)
    ∙ least_same bound (λ i. ap (λ (k : ℕ). p (element g k)) (suc-add s i ∙ sym (add-suc s i))))
  where
    same : (b c : Bool) {m n : ℕ} → b ≡ c → m ≡ n →
        ◌≡◌ {A = ℕ} (elim b [ true ↦ zero | false ↦ suc m ]) (elim c [ true ↦ zero | false ↦ suc n ])
    same true true e q = refl
    same false false e q = ap suc q
    same true false e q = absurd (true≢false e)
    same false true e q = absurd (true≢false (sym e))

-- the definitions by such searches
module _ (g : Generator) where
  abbrev fast_index : ℕ → ℕ
  fast_index y = walk g (λ v. eqb v y) (modulus g) g.seed

  index_is : (y : ℕ) → index_of (element g) (modulus g) y ≡ fast_index y
  unfolding index_of
  index_is y =
      least_same (modulus g) (λ i. ap (λ (k : ℕ). eqb (element g k) y) (sym (zero-add i)))
      ∙ sym (walk_is g (λ v. eqb v y) (modulus g) 0) ∙ ap (walk g (λ v. eqb v y) (modulus g)) (element_start g)

  abbrev fast_return : ℕ → ℕ
  fast_return t = walk g (λ v. eqb v (element g t)) (modulus g) (element g (t + 1))

  return_is : (t : ℕ) → return_less_one (element g) (modulus g) t ≡ fast_return t
  unfolding return_less_one
  return_is t = sym (walk_is g (λ v. eqb v (element g t)) (modulus g) (t + 1))

  abbrev fast_preperiod : ℕ
  fast_preperiod = least (λ t. ltb (fast_return t) (modulus g)) (modulus g)

  preperiod_is : preperiod_of (element g) (modulus g) ≡ fast_preperiod
  unfolding preperiod_of
  preperiod_is = least_same (modulus g) (λ t. ap (λ (r : ℕ). ltb r (modulus g)) (return_is t))

  abbrev fast_period : ℕ
  fast_period = suc (fast_return fast_preperiod)

  period_is : period_of (element g) (modulus g) ≡ fast_period
  unfolding period_of
  period_is = ap suc (return_is (preperiod_of (element g) (modulus g)) ∙ ap fast_return preperiod_is)

-- a fact as a test
abbrev fact_test : Generator → Fact → Bool
fact_test g (Element i v) = eqb (element g i) v
fact_test g (Preperiod t) = eqb (fast_preperiod g) t
fact_test g (Exponent e) = eqb (exponent_of (fast_period g)) e
fact_test g (Index y k) = eqb (fast_index g y) k
fact_test g (Never y) = eqb (fast_index g y) (modulus g)

abbrev facts_test : Generator → List Fact → Bool
facts_test g [] = true
facts_test g (f ∷ fs) = fact_test g f && facts_test g fs

abbrev rows_test : List Row → Bool
rows_test [] = true
rows_test (r ∷ rs) = (eqb (refusal_of r.generator) 0 && facts_test r.generator r.facts) && rows_test rs

module _ (g : Generator) (z : refusal_of g ≡ 0) where
  fact_holds : (f : Fact) → T (fact_test g f) → Holds g f
  fact_holds (Element i v) t = eqb→eq (element g i) v t
  fact_holds (Preperiod n) t = preperiod_is g ∙ eqb→eq (fast_preperiod g) n t
  fact_holds (Exponent e) t = ap exponent_of (period_is g) ∙ eqb→eq (exponent_of (fast_period g)) e t
  fact_holds (Index y k) t = index_is g y ∙ eqb→eq (fast_index g y) k t
  fact_holds (Never y) t =
      let e = index_is g y ∙ eqb→eq (fast_index g y) (modulus g) t in
      (e, below_never g z (bound_none (element g) y (modulus g) e))

  facts_hold : (fs : List Fact) → T (facts_test g fs) → Facts g fs
  facts_hold [] t = tt
  facts_hold (f ∷ fs) t =
      let h = and_true (fact_test g f) (facts_test g fs) t in (fact_holds f h.0, facts_hold fs h.1)

rows_hold : (rs : List Row) → T (rows_test rs) → Rows rs
rows_hold [] t = tt
rows_hold (r ∷ rs) t =
    let h = and_true (eqb (refusal_of r.generator) 0 && facts_test r.generator r.facts) (rows_test rs) t in
    let k = and_true (eqb (refusal_of r.generator) 0) (facts_test r.generator r.facts) h.0 in
    (facts_hold r.generator (eqb→eq (refusal_of r.generator) 0 k.0) r.facts k.1, rows_hold rs h.1)

pub worked_runs_lem : WorkedRuns
unfolding refusal_of modulus element step least exponent_of walk
worked_runs_lem = rows_hold worked_runs tt
