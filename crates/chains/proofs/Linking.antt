-- The chains' laws. A chain ends, since each link is below the one before it; and a part that is added at the front changes
-- no chain but its own, since its entry of `next` lies behind those of all parts before it.
use Rattle.std.proofs.Common.{◌≡◌, ℕ, zero, suc, ◌+◌, ◌*◌, ◌/◌, ◌<◌, ◌≤◌, Bool, false, ◌||◌, List, length, get_or, set, replicate, sym, refl, ap, ◌∙◌, subst₂, add-one, arith, length-set, get_or-set_other, get_or-set_same}
use mathlib.Core.Logic.{by_cases}
use native.Mathlib.Decide.{ℕ_discrete, dec_lt}
use lib.ListN.{length-replicate, get_or-replicate, get_or-eq_default}
use Rattle.chains.specs.Chains.{stands, stands_within, stands_among, Falling, Tables, Seen}

-- One chain.
module _ (bytes : List ℕ) {next : List ℕ} (part : List ℕ) (f : Falling next) where
  -- as many links as the first one says are enough
  enough : (n k m : ℕ) → m ≤ n → m ≤ k → stands_within bytes next part n m ≡ stands_within bytes next part k m
  unfolding stands_within
  enough zero zero zero h g = refl
  enough zero (suc k) zero h g = refl
  enough (suc n) zero zero h g = refl
  enough (suc n) (suc k) zero h g = refl
  enough zero k (suc s) h g = absurd (omega arith)
  enough (suc n) zero (suc s) h g = absurd (omega arith)
  enough (suc n) (suc k) (suc s) h g =
      ap (λ (b : Bool). stands bytes part s || b)
      (enough n k (get_or next (s / 12) 0) (omega (arith, f.law (s / 12))) (omega (arith, f.law (s / 12))))

  -- the first link, and those behind it
  pub chain_step : (s : ℕ) →
      stands_among bytes next part (suc s) ≡ stands bytes part s || stands_among bytes next part (get_or next (s / 12) 0)
  unfolding stands_within
  chain_step s =
      let m = get_or next (s / 12) 0 in
      ap (λ (b : Bool). stands bytes part s || b) (enough s m m (omega (arith, f.law (s / 12))) (omega arith))

  -- an entry of parts at 12 * j or later does not matter to a chain of earlier ones
  unchanged : (j v n m : ℕ) → m ≤ 12 * j → stands_within bytes (set next j v) part n m ≡ stands_within bytes next part n m
  unfolding stands_within
  unchanged j v zero m h = refl
  unchanged j v (suc n) zero h = refl
  unchanged j v (suc n) (suc s) h =
      let entry : get_or (set next j v) (s / 12) 0 ≡ get_or next (s / 12) 0 =
      get_or-set_other next j (s / 12) v 0 (λ e. omega arith) in
      ap (λ (b : Bool). stands bytes part s || b)
      (ap (stands_within bytes (set next j v) part n) entry
      ∙ unchanged j v n (get_or next (s / 12) 0) (omega (arith, f.law (s / 12))))

pub chain_none : (bytes next part : List ℕ) → stands_among bytes next part 0 ≡ false
unfolding stands_within
chain_none bytes next part = refl

-- The tables, where an entry is set.
set_falling : {next : List ℕ} {j v : ℕ} → Falling next → j < length next → v ≤ 12 * j → Falling (set next j v)
set_falling {next} {j} {v} f l h =
    record {
      law = λ i.
          by_cases (ℕ_discrete i j)
          (λ e. omega (arith, ap (λ (k : ℕ). get_or (set next j v) k 0) e, get_or-set_same next j v 0 l))
          (λ d. omega (arith, get_or-set_other next j i v 0 d, f.law i));
    }

set_earlier : (head : List ℕ) (slot at end : ℕ) → ((i : ℕ) → get_or head i 0 ≤ 12 * (at / 12)) → slot < length head →
    at + 12 ≤ end → (i : ℕ) → get_or (set head slot (at + 1)) i 0 ≤ 12 * (end / 12)
set_earlier head slot at end earlier l h i =
    by_cases (ℕ_discrete i slot)
    (λ e. omega (arith, ap (λ (k : ℕ). get_or (set head slot (at + 1)) k 0) e, get_or-set_same head slot (at + 1) 0 l))
    (λ d. omega (arith, get_or-set_other head slot i (at + 1) 0 d, earlier i))

-- What is left behind a part that was told of.
module _ {bytes : List ℕ} {at end slot : ℕ} {head next head' next' : List ℕ} {seen : Bool} (t : Tables bytes at head next)
    (told : Seen bytes at end slot head next head' next' seen) (l : slot < length head) (room : at + 12 ≤ end)
    (within : end ≤ length bytes) where
  entry : at / 12 < length next
  entry = omega (arith, t.room)

  pub seen_tables : Tables bytes end head' next'
  seen_tables =
      subst₂ (Tables bytes end) (sym told.newest) (sym told.behind)
      (record {
        slots = simp length-set t.slots;
        room = simp length-set t.room;
        earlier = set_earlier head slot at end t.earlier l room;
        falling = set_falling t.falling entry (t.earlier slot);
      })

  -- its own chain has it at the front, and every other chain is as it was
  module _ (part : List ℕ) where
    kept : (m : ℕ) → m ≤ 12 * (at / 12) → stands_among bytes next' part m ≡ stands_among bytes next part m
    kept m h =
        ap (λ (l : List ℕ). stands_among bytes l part m) told.behind
        ∙ unchanged bytes part t.falling (at / 12) (get_or head slot 0) m m h

    pub seen_own : stands_among bytes next' part (get_or head' slot 0)
        ≡ stands bytes part at || stands_among bytes next part (get_or head slot 0)
    seen_own =
        let newest : get_or head' slot 0 ≡ suc at =
        ap (λ (l : List ℕ). get_or l slot 0) told.newest ∙ get_or-set_same head slot (at + 1) 0 l ∙ add-one at in
        let behind : get_or next' (at / 12) 0 ≡ get_or head slot 0 =
        ap (λ (l : List ℕ). get_or l (at / 12) 0) told.behind ∙ get_or-set_same next (at / 12) (get_or head slot 0) 0 entry in
        ap (stands_among bytes next' part) newest
        ∙ chain_step bytes part seen_tables.falling at
        ∙ ap (λ (b : Bool). stands bytes part at || b)
        (ap (stands_among bytes next' part) behind ∙ kept (get_or head slot 0) (t.earlier slot))

    pub seen_other : {other : ℕ} → (other ≡ slot → ⊥) →
        stands_among bytes next' part (get_or head' other 0) ≡ stands_among bytes next part (get_or head other 0)
    seen_other {other} d =
        ap (stands_among bytes next' part)
        (ap (λ (l : List ℕ). get_or l other 0) told.newest ∙ get_or-set_other head slot other (at + 1) 0 d)
        ∙ kept (get_or head other 0) (t.earlier other)

-- Empty chains: so many zeros.
zeros : (n i : ℕ) → ◌≡◌ {A = ℕ} (get_or (replicate n 0) i 0) 0
zeros n i =
    by_cases (dec_lt i n) (λ l. get_or-replicate n i 0 0 l)
    (λ d. get_or-eq_default {A = ℕ} (replicate n 0) 0 (simp length-replicate (omega arith)))

pub zeros_tables : {bytes : List ℕ} (slots entries : ℕ) → (0 < slots) × (slots ≤ 65536) → length bytes ≤ 12 * entries →
    Tables bytes 0 (replicate slots 0) (replicate entries 0)
zeros_tables slots entries s r =
    record {
      slots = simp length-replicate s;
      room = simp length-replicate r;
      earlier = λ slot. omega (arith, zeros slots slot);
      falling = record { law = λ i. omega (arith, zeros entries i) };
    }

pub zeros_none : (bytes next part : List ℕ) (slots slot : ℕ) → stands_among bytes next part (get_or (replicate slots 0) slot 0) ≡ false
zeros_none bytes next part slots slot = ap (stands_among bytes next part) (zeros slots slot) ∙ chain_none bytes next part
