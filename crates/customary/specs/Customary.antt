-- The customary multiplier of a width (SCOPE 3.5).
use Rattle.std.specs.Prelude.{◌≡◌, cond, ◌||◌, List, ℕ, suc, ◌+◌, ◌*◌, ◌^◌, ◌≤◌, ◌<◌, leb, ltb, get_or}
use Rattle.sequences.specs.Least.{least}
use Rattle.refusals.specs.declared.ValueReply.{ValueReply}
use Rattle.refusals.specs.Replies.{value_reply}

-- The odd powers of 5, counted from 0: 5, 125, 3125, ..
unfoldable pub odd_power : ℕ → ℕ
odd_power k = 5 ^ (2 * k + 1)

-- The odd power before the first one that is not below 2 ^ n.
unfoldable pub customary_of : ℕ → ℕ
customary_of n = odd_power (least (λ k. leb (2 ^ n) (odd_power (suc k))) n)

-- A table of 62 numbers by width, 3 to 64: what the program keeps.
pub record CustomaryTable (table : List ℕ) : Type 0 where
  pub rule : (k : ℕ) → k < 62 → get_or table k 0 ≡ customary_of (k + 3)

-- 3: the width is not 3 to 64.
unfoldable pub customary_refusal : ℕ → ℕ
customary_refusal n = cond (ltb n 3 || ltb 64 n) 3 0

-- v is the largest odd power of 5 below 2 ^ n.
pub record LargestOddPower (n v : ℕ) : Type 0 where
  pub exponent : ℕ
  pub power : v ≡ odd_power exponent
  pub below : v < 2 ^ n
  pub largest : (k : ℕ) → odd_power k < 2 ^ n → odd_power k ≤ v

-- The promise of the call.
pub record CustomaryPromise (n : ℕ) (reply : ValueReply) : Type 0 where
  pub equals : reply ≡ value_reply (customary_refusal n) (customary_of n)
  pub largest : reply.refusal ≡ 0 → LargestOddPower n reply.value
