-- The line of some numbers: their fields, separated by commas and ended by the byte 10 (SCOPE 4.2). And which bytes are such
-- a line.
use Rattle.std.specs.Prelude.{Bool, true, false, ◌&&◌, List, [], ◌∷◌, ◌++◌, ℕ, zero, suc, ◌+◌, ◌*◌, ◌-◌, ◌<◌, ◌^◌, eqb, leb, ltb, length}
use Rattle.decimals.specs.Digits.{digits_of}

-- the delimiter of a field that n fields follow: 10 if it is the last one, else a comma
abbrev pub delimiter_before : ℕ → ℕ
delimiter_before zero = 10
delimiter_before (suc n) = 44

unfoldable pub fields_line : List ℕ → List ℕ
fields_line [] = []
fields_line (v ∷ vs) = digits_of v ++ (delimiter_before (length vs) ∷ fields_line vs)

abbrev pub AllBelow : ℕ → List ℕ → Type 0
AllBelow m [] = Unit {0}
AllBelow m (v ∷ vs) = (v < m) × AllBelow m vs

-- The numbers of a line, guessed from any bytes behind the digits of v: digits run together, any other byte ends a number.
unfoldable pub numbers_from : ℕ → List ℕ → List ℕ
numbers_from v [] = []
numbers_from v (b ∷ bytes) =
    elim (leb 48 b && leb b 57) [ true ↦ numbers_from (v * 10 + (b - 48)) bytes | false ↦ v ∷ numbers_from 0 bytes ]

abbrev pub all_below : ℕ → List ℕ → Bool
all_below m [] = true
all_below m (v ∷ vs) = ltb v m && all_below m vs

abbrev pub same_bytes : List ℕ → List ℕ → Bool
same_bytes [] [] = true
same_bytes [] (c ∷ cs) = false
same_bytes (b ∷ bs) [] = false
same_bytes (b ∷ bs) (c ∷ cs) = eqb b c && same_bytes bs cs

-- The bytes are the line of n numbers below 2 ^ 64: the guess has n, each is below, and their line is the bytes again.
unfoldable pub is_line : ℕ → List ℕ → Bool
is_line n bytes =
    let vs = numbers_from 0 bytes in
    eqb (length vs) n && (all_below (2 ^ 64) vs && same_bytes (fields_line vs) bytes)
