-- Which bytes are a line. The guess at the numbers of a line is right for every line, so the bytes are the line of n numbers
-- below 2 ^ 64 exactly if `is_line n` says so, and the numbers are then the ones guessed. Field by field: bytes that begin
-- with a field are a line if what follows is one with a field less, and bytes that begin with none are no line.
use mathlib.Core.Path.{◌≡◌, refl, sym, ap, ◌∙◌, subst}
use mathlib.Core.Bool.{Bool, true, false, ◌&&◌}
use mathlib.Core.List.{List, [], ◌∷◌, ◌++◌}
use Prim.Native.Nat.{ℕ, zero, suc, ◌*◌, ◌^◌, ◌≤◌, ◌<◌}
use native.Mathlib.Omega.{arith}
use lib.Dec.{eqb, ltb}
use lib.ListN.{length, length-append}
use borrow.Author.Tests.{eq-eqb, eqb-true, lt-ltb, ltb-true}
use Rattle.decimals.specs.Digits.{digits_of}
use Rattle.decimals.specs.Field.{NoField}
use Rattle.fields.specs.Line.{delimiter_before, fields_line, AllBelow, numbers_from, all_below, same_bytes, is_line}
use Rattle.decimals.proofs.Digits.{digits_nonempty, field_unique, Stops, is_digit, scan_digits, scan_stop, scan}
use mathlib.Core.Path.{◌≡◌, refl, sym, ap, ◌∙◌, subst}
use mathlib.Core.Bool.{Bool, true, false, cond, ◌&&◌}
use mathlib.Core.List.{List, [], ◌∷◌, ◌++◌}
use Prim.Native.Nat.{ℕ, zero, suc, ◌+◌, ◌*◌, ◌^◌, ◌-◌, ◌≤◌, ◌<◌}
use native.Mathlib.Omega.{arith}
use lib.ListN.{length, length-append}
use borrow.Author.Tests.{lt-ltb}

-- The guess at a line's numbers goes on behind the digits that are scanned, if any byte is left there.
after : ℕ × List ℕ → List ℕ
after (v, []) = []
after (v, b ∷ rest) = v ∷ numbers_from 0 rest

numbers_scan : (v : ℕ) (bytes : List ℕ) → numbers_from v bytes ≡ after (scan v bytes)
unfolding numbers_from scan after
numbers_scan v [] = refl
numbers_scan v (b ∷ rest) = go (is_digit b) (numbers_scan (v * 10 + (b - 48)) rest)
  where
    go : (t : Bool) → numbers_from (v * 10 + (b - 48)) rest ≡ after (scan (v * 10 + (b - 48)) rest) →
        elim t [ true ↦ numbers_from (v * 10 + (b - 48)) rest | false ↦ v ∷ numbers_from 0 rest ]
        ≡ after (cond t (scan (v * 10 + (b - 48)) rest) (v, b ∷ rest))
    go true e = e
    go false e = refl

-- so it begins with the number of a field
numbers_field : (v m : ℕ) (rest : List ℕ) → Stops (m ∷ rest) → numbers_from 0 (digits_of v ++ (m ∷ rest)) ≡ v ∷ numbers_from 0 rest
unfolding after
numbers_field v m rest stops =
    numbers_scan 0 (digits_of v ++ (m ∷ rest)) ∙ ap after (scan_digits v (m ∷ rest) ∙ scan_stop v (m ∷ rest) stops)

delimiter_small : (n : ℕ) → delimiter_before n < 48
delimiter_small zero = omega arith
delimiter_small (suc n) = omega arith

pub delimiter_under : {m : ℕ} (n : ℕ) → m ≡ delimiter_before n → m < 48
delimiter_under n e = omega (arith, delimiter_small n)

delimiter_stops : (n : ℕ) → 48 ≤ delimiter_before n → 57 < delimiter_before n
delimiter_stops n h = absurd (omega (arith, delimiter_small n))

-- The guess.

-- every line has the numbers guessed, and so those of no other
pub numbers_line : (vs : List ℕ) → numbers_from 0 (fields_line vs) ≡ vs
unfolding fields_line numbers_from
numbers_line [] = refl
numbers_line (v ∷ vs) =
    numbers_field v (delimiter_before (length vs)) (fields_line vs) (delimiter_stops (length vs)) ∙ ap (λ (ws : List ℕ). v ∷ ws) (numbers_line vs)

pub line_injective : (vs ws : List ℕ) → fields_line vs ≡ fields_line ws → vs ≡ ws
line_injective vs ws e = sym (numbers_line vs) ∙ ap (numbers_from 0) e ∙ numbers_line ws

-- Its tests.

both : (a b : Bool) → (a && b) ≡ true → (a ≡ true) × (b ≡ true)
both true b e = (refl, e)
both false b e = absurd (let z : ◌≡◌ {A = ℕ} 0 1 = cc in omega arith)

below_test : (m : ℕ) (vs : List ℕ) → all_below m vs ≡ true → AllBelow m vs
below_test m [] e = tt
below_test m (v ∷ vs) e = let p = both (ltb v m) (all_below m vs) e in (ltb-true v m p.0, below_test m vs p.1)

test_below : (m : ℕ) (vs : List ℕ) → AllBelow m vs → all_below m vs ≡ true
test_below m [] all = refl
test_below m (v ∷ vs) all = rw (lt-ltb v m all.0) (test_below m vs all.1)

pub same_test : (bs cs : List ℕ) → same_bytes bs cs ≡ true → bs ≡ cs
same_test [] [] e = refl
same_test [] (c ∷ cs) e = absurd (let z : ◌≡◌ {A = ℕ} 0 1 = cc in omega arith)
same_test (b ∷ bs) [] e = absurd (let z : ◌≡◌ {A = ℕ} 0 1 = cc in omega arith)
same_test (b ∷ bs) (c ∷ cs) e =
    let p = both (eqb b c) (same_bytes bs cs) e in
    rw (eqb-true b c p.0, same_test bs cs p.1)

pub test_same : (bs : List ℕ) → same_bytes bs bs ≡ true
test_same [] = refl
test_same (b ∷ bs) = rw (eq-eqb b b refl) (test_same bs)

-- A line has two bytes or more for each of its numbers.
pub fields_long : (vs : List ℕ) → 2 * length vs ≤ length (fields_line vs)
unfolding fields_line
fields_long [] = omega arith
fields_long (v ∷ vs) = simp length-append (omega (arith, digits_nonempty v, fields_long vs))

-- What the test says.
pub record Line (n : ℕ) (bytes : List ℕ) : Type 0 where
  pub count : length (numbers_from 0 bytes) ≡ n
  pub small : AllBelow (2 ^ 64) (numbers_from 0 bytes)
  pub line : bytes ≡ fields_line (numbers_from 0 bytes)

pub is_line_lem : {bytes : List ℕ} (n : ℕ) → is_line n bytes ≡ true → Line n bytes
unfolding is_line
is_line_lem {bytes} n e =
    let vs = numbers_from 0 bytes in
    let p = both _ _ e in
    let q = both _ _ p.1 in
    record {
      count = eqb-true (length vs) n p.0;
      small = below_test (2 ^ 64) vs q.0;
      line = sym (same_test (fields_line vs) bytes q.1);
    }

pub line_is : {bytes : List ℕ} (n : ℕ) (vs : List ℕ) → length vs ≡ n → AllBelow (2 ^ 64) vs → bytes ≡ fields_line vs → is_line n bytes ≡ true
unfolding is_line
line_is n vs count small e =
    rw (e, numbers_line vs, eq-eqb (length vs) n count, test_below (2 ^ 64) vs small) (test_same (fields_line vs))

-- two tests that follow from each other, and one from which nothing follows
same_tests : (a b : Bool) → (a ≡ true → b ≡ true) → (b ≡ true → a ≡ true) → a ≡ b
same_tests true b f g = sym (f refl)
same_tests false true f g = g refl
same_tests false false f g = refl

pub no_test : (a : Bool) → (a ≡ true → ⊥) → a ≡ false
no_test true f = absurd (f refl)
no_test false f = refl

-- Field by field.

pub line_field : {bytes : List ℕ} (n v : ℕ) (rest : List ℕ) → v < 2 ^ 64 → bytes ≡ digits_of v ++ (delimiter_before n ∷ rest) →
    (is_line (suc n) bytes ≡ is_line n rest) × (numbers_from 0 bytes ≡ v ∷ numbers_from 0 rest)
line_field {bytes} n v rest small e = (same_tests (is_line (suc n) bytes) (is_line n rest) shorter longer, guess)
  where
    guess : numbers_from 0 bytes ≡ v ∷ numbers_from 0 rest
    guess = ap (numbers_from 0) e ∙ numbers_field v (delimiter_before n) rest (delimiter_stops n)

    shorter : is_line (suc n) bytes ≡ true → is_line n rest ≡ true
    shorter h =
        let l = is_line_lem (suc n) h in
        let ws = numbers_from 0 rest in
        let line : digits_of v ++ (delimiter_before n ∷ rest) ≡ digits_of v ++ (delimiter_before (length ws) ∷ fields_line ws) =
        sym e ∙ l.line ∙ ap fields_line guess ∙ unfold fields_line in refl in
        line_is n ws (omega (arith, l.count, ap length guess)) (subst (AllBelow (2 ^ 64)) guess l.small).1
        (field_unique (delimiter_stops n) (delimiter_stops (length ws)) line).2

    longer : is_line n rest ≡ true → is_line (suc n) bytes ≡ true
    longer h =
        let l = is_line_lem n h in
        let ws = numbers_from 0 rest in
        let line : fields_line (v ∷ ws) ≡ digits_of v ++ (delimiter_before n ∷ rest) = unfold fields_line in rw (l.count, ← l.line) in
        line_is (suc n) (v ∷ ws) (ap suc l.count) (small, l.small) (e ∙ sym line)

-- no numbers whose line the bytes are, no line
pub no_line : {bytes : List ℕ} (n : ℕ) → ((vs : List ℕ) → length vs ≡ n → AllBelow (2 ^ 64) vs → bytes ≡ fields_line vs → ⊥) →
    is_line n bytes ≡ false
no_line {bytes} n none =
    no_test (is_line n bytes) (λ h. let l = is_line_lem n h in none (numbers_from 0 bytes) l.count l.small l.line)

pub line_no_field : {bytes : List ℕ} (n : ℕ) → NoField bytes (delimiter_before n) → is_line (suc n) bytes ≡ false
unfolding fields_line
line_no_field {bytes} n unreadable = no_line (suc n) none
  where
    none : (vs : List ℕ) → length vs ≡ suc n → AllBelow (2 ^ 64) vs → bytes ≡ fields_line vs → ⊥
    none [] count small e = omega arith
    none (v ∷ vs) count small e =
        let k : length vs ≡ n = omega arith in
        unreadable.none v (fields_line vs) small.0 (rw k at e)

-- no bytes are the line of no numbers, and no others are
pub line_none : is_line 0 [] ≡ true
line_none = line_is 0 [] refl tt (unfold fields_line in refl)

pub line_some : (bytes : List ℕ) → 0 < length bytes → is_line 0 bytes ≡ false
unfolding fields_line
line_some bytes some = no_line 0 none
  where
    none : (vs : List ℕ) → length vs ≡ 0 → AllBelow (2 ^ 64) vs → bytes ≡ fields_line vs → ⊥
    none [] count small e = omega (arith, ap length e)
    none (v ∷ vs) count small e = omega arith
