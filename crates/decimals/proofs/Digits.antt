-- Laws of `digits_of`. A number below 10 is one digit, and v * 10 + d, for v not 0, is the digits of v and then d: by these
-- two rules each law is an induction over the digits. The main tool is `scan`, which reads the digits at the front of any
-- bytes. In the digits of v, followed by no further digit, it finds v and what follows; so the two are determined.
use mathlib.Core.Path.{◌≡◌, refl, sym, ap, ◌∙◌, subst, subst₂}
use mathlib.Core.Bool.{Bool, true, false, cond, ◌&&◌}
use mathlib.Core.List.{List, [], ◌∷◌, ◌++◌, append_assoc}
use mathlib.Core.List.Memᴰ
use mathlib.Core.List.{Memᴰ}
use mathlib.Core.Logic.{⊎_elim, by_cases}
use Prim.Native.Nat.{ℕ, zero, suc, ◌+◌, ◌*◌, ◌/◌, ◌%◌, ◌^◌, ◌-◌, ◌≤◌, ◌<◌}
use native.Mathlib.Omega.{arith}
use native.Mathlib.Decide.{dec_lt}
use lib.Dec.{leb}
use lib.ListN.{length, get_or, drop, length-append}
use borrow.Author.Tests.{lt-ltb, le-ltb, le-leb, lt-leb}
use Rattle.decimals.specs.Digits.{last_digits, digits_of}

-- The two rules.

one_digit : (k n : ℕ) → n < 10 → last_digits (suc k) n ≡ (48 + n) ∷ []
unfolding last_digits
one_digit k n h = rw (lt-ltb n 10 h, last_digits)

more_digits : (k n : ℕ) → 10 ≤ n → last_digits (suc k) n ≡ last_digits k (n / 10) ++ ((48 + n % 10) ∷ [])
unfolding last_digits
more_digits k n h = rw (le-ltb n 10 h, last_digits)

-- n < k is enough for all digits
digits_enough : (k j n : ℕ) → n < k → n < j → last_digits k n ≡ last_digits j n
digits_enough zero j n h g = absurd (omega arith)
digits_enough (suc k) zero n h g = absurd (omega arith)
digits_enough (suc k) (suc j) n h g =
    by_cases (dec_lt n 10)
    (λ one. one_digit k n one ∙ sym (one_digit j n one))
    (λ more. more_digits k n (omega arith)
    ∙ ap (λ (ds : List ℕ). ds ++ ((48 + n % 10) ∷ [])) (digits_enough k j (n / 10) (omega arith) (omega arith))
    ∙ sym (more_digits j n (omega arith)))

pub digits_one : (d : ℕ) → d < 10 → digits_of d ≡ (48 + d) ∷ []
unfolding digits_of
digits_one d h = one_digit d d h

pub digits_last : (n : ℕ) → 9 < n → digits_of n ≡ digits_of (n / 10) ++ ((48 + n % 10) ∷ [])
unfolding digits_of
digits_last n h =
    more_digits n n h
    ∙ ap (λ (ds : List ℕ). ds ++ ((48 + n % 10) ∷ [])) (digits_enough n (suc (n / 10)) (n / 10) (omega arith) (omega arith))

-- what holds of each single digit, and with v of v * 10 + d, holds of every number and its digits
digits_induction :
    (P : ℕ → List ℕ → Type 0)
    → ((d : ℕ) → d < 10 → P d ((48 + d) ∷ []))
    → ((v d : ℕ) → 0 < v → d < 10 → P v (digits_of v) → P (v * 10 + d) (digits_of v ++ ((48 + d) ∷ [])))
    → (v : ℕ) → P v (digits_of v)
digits_induction P one more v = go (suc v) v (omega arith)
  where
    go : (k n : ℕ) → n < k → P n (digits_of n)
    go zero n h = absurd (omega arith)
    go (suc k) n h =
        by_cases (dec_lt n 10)
        (λ below. subst (P n) (sym (digits_one n below)) (one n below))
        (λ above. subst₂ P (omega arith) (sym (digits_last n (omega arith)))
        (more (n / 10) (n % 10) (omega arith) (omega arith) (go k (n / 10) (omega arith))))

-- a byte that is the digit d, at the front
pub digit_first : (d b : ℕ) (rest : List ℕ) → d < 10 → b ≡ 48 + d → b ∷ rest ≡ digits_of d ++ rest
digit_first d b rest h e = rw (digits_one d h, e)

-- and behind the digits of v
pub digit_next : (v d b : ℕ) (rest : List ℕ) → 0 < v → d < 10 → b ≡ 48 + d → digits_of v ++ (b ∷ rest) ≡ digits_of (v * 10 + d) ++ rest
digit_next v d b rest p h e =
    let q : (v * 10 + d) / 10 ≡ v = omega arith in
    let r : (v * 10 + d) % 10 ≡ d = omega arith in
    rw (digits_last (v * 10 + d) (omega arith), q, r, e) (sym (append_assoc (digits_of v) ((48 + d) ∷ []) rest))

-- The bytes.

-- each byte is one of 48 to 57
abbrev pub AllDigits : List ℕ → Type 0
AllDigits ds = (b : ℕ) → Memᴰ b ds → (48 ≤ b) × (b ≤ 57)

pub digits_bytes : (v : ℕ) → AllDigits (digits_of v)
digits_bytes =
    digits_induction (λ v ds. AllDigits ds)
    (λ d h b m. digit d b h m)
    (λ v d p h all b m. ⊎_elim (all b) (digit d b h) (Memᴰ.append_cases (digits_of v) m))
  where
    digit : (d b : ℕ) → d < 10 → Memᴰ b ((48 + d) ∷ []) → (48 ≤ b) × (b ≤ 57)
    digit d b h m = let e : b ≡ 48 + d = Memᴰ.eq_of_singleton m in omega arith

-- the first byte and the others: only the number 0 begins with the digit 0
pub record Leading (v : ℕ) (ds : List ℕ) : Type 0 where
  pub first : ℕ
  pub others : List ℕ
  pub split : ds ≡ first ∷ others
  leading_zero : first ≡ 48 → v ≡ 0

pub digits_leading : (v : ℕ) → Leading v (digits_of v)
digits_leading =
    digits_induction Leading
    (λ d h. record { first = 48 + d; others = []; split = refl; leading_zero = λ e. omega arith })
    (λ v d p h l. record {
      first = l.first;
      others = l.others ++ ((48 + d) ∷ []);
      split = ap (λ (ds : List ℕ). ds ++ ((48 + d) ∷ [])) l.split;
      leading_zero = λ e. let z : v ≡ 0 = l.leading_zero e in absurd (omega arith);
    })

-- nothing of a number stands behind a leading zero
pub digits_zero : (v : ℕ) (xs ys : List ℕ) → digits_of 0 ++ xs ≡ digits_of v ++ ys → xs ≡ ys
digits_zero v xs ys e = ap (λ (ds : List ℕ). drop 1 ds) (rw (zero_only, digits_one 0 (omega arith)) at e)
  where
    l : Leading v (digits_of v)
    l = digits_leading v

    zero_only : v ≡ 0
    zero_only = l.leading_zero (sym (ap (λ (ds : List ℕ). get_or ds 0 0) (rw (digits_one 0 (omega arith), l.split) at e)))

pub digits_nonempty : (v : ℕ) → 0 < length (digits_of v)
digits_nonempty v = let l = digits_leading v in omega (arith, ap length l.split)

-- a number below 10 ^ (k + 1) has at most k + 1 digits
pub digits_length : (v k : ℕ) → v < 10 ^ suc k → length (digits_of v) ≤ suc k
digits_length =
    digits_induction (λ v ds. (k : ℕ) → v < 10 ^ suc k → length ds ≤ suc k) (λ d h k b. omega arith) longer
  where
    longer : (v d : ℕ) → 0 < v → d < 10 → ((k : ℕ) → v < 10 ^ suc k → length (digits_of v) ≤ suc k)
        → (k : ℕ) → v * 10 + d < 10 ^ suc k → length (digits_of v ++ ((48 + d) ∷ [])) ≤ suc k
    longer v d p h most zero b = absurd (omega arith)
    longer v d p h most (suc k) b = simp length-append (omega (arith, most k (omega arith)))

-- with k digits a number is below 10 ^ k, so a smaller one has no more
digits_below : (v : ℕ) → v < 10 ^ length (digits_of v)
digits_below =
    digits_induction (λ v ds. v < 10 ^ length ds) (λ d h. omega arith)
    (λ v d p h b.
    let e : length (digits_of v ++ ((48 + d) ∷ [])) ≡ suc (length (digits_of v)) = simp length-append (omega arith) in
    rw e (omega arith))

pub digits_fewer : {v w : ℕ} → v ≤ w → length (digits_of v) ≤ length (digits_of w)
digits_fewer {v} {w} l = go (length (digits_of w)) (digits_nonempty w) (digits_below w)
  where
    go : (k : ℕ) → 0 < k → w < 10 ^ k → length (digits_of v) ≤ k
    go zero p h = absurd (omega arith)
    go (suc k) p h = digits_length v k (omega arith)

-- the number of digits
pub length_one : (v : ℕ) → v < 10 → length (digits_of v) ≡ 1
length_one v h = ap length (digits_one v h)

length_more : (v : ℕ) → 9 < v → length (digits_of v) ≡ suc (length (digits_of (v / 10)))
length_more v h = omega (arith, simp length-append at (ap length (digits_last v h)))

-- a number from 10 ^ k on and below 10 ^ (k + 1) has k + 1 digits
pub length_exact : (k v : ℕ) → 10 ^ k ≤ v → v < 10 ^ suc k → length (digits_of v) ≡ suc k
length_exact zero v low high = length_one v (omega arith)
length_exact (suc k) v low high =
    omega (arith, length_more v (omega arith), length_exact k (v / 10) (omega arith) (omega arith))

-- Reading digits.

abbrev pub is_digit : ℕ → Bool
is_digit b = leb 48 b && leb b 57

-- the number that the digits at the front of the bytes make behind those of v, and the bytes that follow them
unfoldable pub scan : ℕ → List ℕ → ℕ × List ℕ
scan v [] = (v, [])
scan v (b ∷ rest) = cond (is_digit b) (scan (v * 10 + (b - 48)) rest) (v, b ∷ rest)

scan_digit : (v d b : ℕ) (rest : List ℕ) → d < 10 → b ≡ 48 + d → scan v (b ∷ rest) ≡ scan (v * 10 + d) rest
unfolding scan
scan_digit v d b rest h e =
    let f : b - 48 ≡ d = omega arith in
    rw (le-leb 48 b (omega arith), le-leb b 57 (omega arith), scan) (rw f)

-- the bytes end, or go on with a byte that is no digit
abbrev pub Stops : List ℕ → Type 0
Stops [] = Unit {0}
Stops (b ∷ rest) = 48 ≤ b → 57 < b

pub scan_stop : (v : ℕ) (bytes : List ℕ) → Stops bytes → scan v bytes ≡ (v, bytes)
unfolding scan
scan_stop v [] stops = refl
scan_stop v (b ∷ rest) stops = rw (other, scan)
  where
    other : is_digit b ≡ false
    other =
        by_cases (dec_lt b 48)
        (λ low. rw (lt-leb 48 b low))
        (λ high. rw (le-leb 48 b (omega arith), lt-leb b 57 (stops (omega arith))))

scan_grows : (v : ℕ) (bytes : List ℕ) → v ≤ (scan v bytes).0
unfolding scan
scan_grows v [] = omega arith
scan_grows v (b ∷ rest) =
    go (is_digit b) (scan (v * 10 + (b - 48)) rest) (omega (arith, scan_grows (v * 10 + (b - 48)) rest))
  where
    go : (t : Bool) (s : ℕ × List ℕ) → v ≤ s.0 → v ≤ (cond t s (v, b ∷ rest)).0
    go true s h = h
    go false s h = omega arith

pub scan_digits : (v : ℕ) (bytes : List ℕ) → scan 0 (digits_of v ++ bytes) ≡ scan v bytes
scan_digits =
    digits_induction (λ v ds. (bytes : List ℕ) → scan 0 (ds ++ bytes) ≡ scan v bytes)
    (λ d h bytes. scan_digit 0 d (48 + d) bytes h refl ∙ ap (λ (n : ℕ). scan n bytes) (omega arith))
    (λ v d p h all bytes. ap (scan 0) (append_assoc (digits_of v) ((48 + d) ∷ []) bytes)
    ∙ all ((48 + d) ∷ bytes)
    ∙ scan_digit v d (48 + d) bytes h refl)

scan_field : (u v : ℕ) (xs ys : List ℕ) → Stops ys → digits_of u ++ xs ≡ digits_of v ++ ys → scan u xs ≡ (v, ys)
scan_field u v xs ys stops e = sym (scan_digits u xs) ∙ ap (scan 0) e ∙ scan_digits v ys ∙ scan_stop v ys stops

-- the number and what follows its digits are determined
pub digits_unique : {u v : ℕ} {xs ys : List ℕ} → Stops xs → Stops ys → digits_of u ++ xs ≡ digits_of v ++ ys → (u ≡ v) × (xs ≡ ys)
digits_unique {u} {v} {xs} {ys} stops stops' e = (ap (λ (p : ℕ × List ℕ). p.0) same, ap (λ (p : ℕ × List ℕ). p.1) same)
  where
    same : ◌≡◌ {A = ℕ × List ℕ} (u, xs) (v, ys)
    same = sym (scan_stop u xs stops) ∙ scan_field u v xs ys stops' e

-- so of a field are the number, the delimiter and what follows
pub field_unique :
    {v w m n : ℕ} {xs ys : List ℕ} → Stops (m ∷ xs) → Stops (n ∷ ys)
    → digits_of v ++ (m ∷ xs) ≡ digits_of w ++ (n ∷ ys) → (v ≡ w) × (m ≡ n) × (xs ≡ ys)
field_unique {m = m} {n = n} {xs} {ys} stops stops' e =
    let same = digits_unique {xs = m ∷ xs} {ys = n ∷ ys} stops stops' e in
    (same.0, ap (λ (l : List ℕ). get_or l 0 0) same.1, ap (λ (l : List ℕ). drop 1 l) same.1)

-- a number with whose digits those of v begin is at most v
pub digits_prefix : (u v : ℕ) (xs ys : List ℕ) → Stops ys → digits_of u ++ xs ≡ digits_of v ++ ys → u ≤ v
digits_prefix u v xs ys stops e =
    omega (arith, scan_grows u xs, ap (λ (p : ℕ × List ℕ). p.0) (scan_field u v xs ys stops e))
