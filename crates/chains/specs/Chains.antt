-- Chains of parts of some bytes. A link is a part's offset and 1 more, 0 for none. `head` has the newest link of each slot,
-- `next` the link behind the one at offset s, at s / 12: parts of 12 bytes or more don't share an entry.
use Rattle.std.specs.Prelude.{◌≡◌, ℕ, zero, suc, ◌+◌, ◌*◌, ◌/◌, ◌<◌, ◌≤◌, Bool, false, ◌||◌, List, length, take, drop, slice_index, slice_range, slice_set}
use Rattle.fields.specs.Line.{same_bytes}

-- the bytes at offset s start with the part
abbrev pub stands : List ℕ → List ℕ → ℕ → Bool
stands bytes part s = same_bytes (take (length part) (drop s bytes)) part

-- the part stands at one of the next n links, from link m on
unfoldable pub stands_within : List ℕ → List ℕ → List ℕ → ℕ → ℕ → Bool
stands_within bytes next part zero m = false
stands_within bytes next part (suc n) zero = false
stands_within bytes next part (suc n) (suc s) =
    stands bytes part s || stands_within bytes next part n (slice_index next (s / 12))

-- the same of all links from m on: since each is below the one before it, there are no more than m
abbrev pub stands_among : List ℕ → List ℕ → List ℕ → ℕ → Bool
stands_among bytes next part m = stands_within bytes next part m m

-- the link at entry i is at most 12 * i, so it is below every link whose entry that is
pub record Falling (next : List ℕ) : Type 0 where
  pub law : (i : ℕ) → slice_index next i ≤ 12 * i

-- The tables before the part at `at`: every link is of an earlier entry, and there is an entry for every 12 bytes.
pub record Tables (bytes : List ℕ) (at : ℕ) (head next : List ℕ) : Type 0 where
  pub slots : (0 < length head) × (length head ≤ 65536)
  pub room : length bytes ≤ 12 * length next
  pub earlier : (slot : ℕ) → slice_index head slot ≤ 12 * (at / 12)
  pub falling : Falling next

-- What is told of the part from `at` to `end`, which is then the newest of its slot.
pub record Seen (bytes : List ℕ) (at end slot : ℕ) (head next head' next' : List ℕ) (seen : Bool) : Type 0 where
  pub told : seen ≡ stands_among bytes next (slice_range bytes at end) (slice_index head slot)
  pub newest : head' ≡ slice_set head slot (at + 1)
  pub behind : next' ≡ slice_set next (at / 12) (slice_index head slot)
