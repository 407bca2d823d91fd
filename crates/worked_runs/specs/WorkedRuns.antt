-- The ten proved rows of document 01's worked runs (SCOPE 8.1 to 8.10), and the theorem that covers them.
use Rattle.std.specs.Prelude.{◌≡◌, List, [], ◌∷◌, ℕ, suc}
use Rattle.sequences.specs.Orbit.{preperiod_of, period_of, exponent_of}
use Rattle.sequences.specs.Index.{index_of}
use Rattle.generator.specs.declared.Generator.{Generator}
use Rattle.generator.specs.Recurrence.{modulus, element}

pub data Fact : Type 0 where
  Element : ℕ → ℕ → Fact
  Preperiod : ℕ → Fact
  Exponent : ℕ → Fact
  Index : ℕ → ℕ → Fact
  Never : ℕ → Fact

pub record Row : Type 0 where
  pub generator : Generator
  pub facts : List Fact

-- What a fact says, by the definitions; of a number that never comes also that no index, however large, yields it.
abbrev pub Holds : Generator → Fact → Type 0
Holds g (Element i v) = element g i ≡ v
Holds g (Preperiod t) = preperiod_of (element g) (modulus g) ≡ t
Holds g (Exponent e) = exponent_of (period_of (element g) (modulus g)) ≡ e
Holds g (Index y k) = index_of (element g) (modulus g) y ≡ k
Holds g (Never y) = (index_of (element g) (modulus g) y ≡ modulus g) × ((i : ℕ) → element g i ≡ y → ⊥)

-- each fact of a list, and each row of a table
abbrev pub Facts : Generator → List Fact → Type 0
Facts g [] = Unit
Facts g (f ∷ fs) = Holds g f × Facts g fs

abbrev pub Rows : List Row → Type 0
Rows [] = Unit
Rows (r ∷ rs) = Facts r.generator r.facts × Rows rs

abbrev row : ℕ → ℕ → ℕ → ℕ → List Fact → Row
row n a c x facts =
    record { generator = record { width = n; multiplier = a; increment = c; seed = x }; facts = facts }

-- the elements from index i on
abbrev elements : ℕ → List ℕ → List Fact → List Fact
elements i [] facts = facts
elements i (v ∷ vs) facts = Element i v ∷ elements (suc i) vs facts

abbrev pub worked_runs : List Row
worked_runs =
    row 4 5 3 1 (elements 0 (1 ∷ 8 ∷ 11 ∷ 10 ∷ 5 ∷ 12 ∷ []) (Exponent 4 ∷ []))
    ∷ row 4 5 3 1 (Index 6 15 ∷ Never 16 ∷ [])
    ∷ row 10 371 995 73 (Element 100 49 ∷ Element 1000 985 ∷ [])
    ∷ row 10 371 995 73 (Exponent 9 ∷ Index 985 488 ∷ Never 75 ∷ [])
    ∷ row 5 3 0 1 (elements 0 (1 ∷ 3 ∷ 9 ∷ 27 ∷ 17 ∷ 19 ∷ 25 ∷ 11 ∷ 1 ∷ []) (Exponent 3 ∷ []))
    ∷ row 5 3 0 2 (elements 0 (2 ∷ 6 ∷ 18 ∷ 22 ∷ 2 ∷ []) (Exponent 2 ∷ []))
    ∷ row 4 15 0 1 (elements 0 (1 ∷ 15 ∷ 1 ∷ []) (Exponent 1 ∷ []))
    ∷ row 4 2 0 1 (elements 0 (1 ∷ 2 ∷ 4 ∷ 8 ∷ 0 ∷ 0 ∷ []) (Preperiod 4 ∷ []))
    ∷ row 4 6 1 1 (elements 0 (1 ∷ 7 ∷ 11 ∷ 3 ∷ 3 ∷ []) (Preperiod 3 ∷ Index 3 3 ∷ []))
    ∷ row 1 1 1 0 (elements 0 (0 ∷ 1 ∷ 0 ∷ []) (Exponent 1 ∷ []))
    ∷ []

-- The theorem: every fact of every row holds. `worked_runs_lem` in proofs/ is its proof.
abbrev pub WorkedRuns : Type 0
WorkedRuns = Rows worked_runs
