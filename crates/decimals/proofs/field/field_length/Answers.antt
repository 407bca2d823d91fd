-- `field::field_length` meets its contract: the digits are one more than the logarithm, or one.
use Rattle.std.proofs.Common.{◌≡◌, ℕ, ◌+◌, ◌*◌, ◌^◌, ◌≤◌, ◌<◌, length, Option, Some, None, IfNone, IfSome, sym, arith}
use Rattle.std.specs.Option.{unwrap_or}
use Rattle.decimals.specs.Digits.{digits_of}
use Rattle.decimals.proofs.Digits.{length_one, length_exact}
use Rattle.decimals.proofs.field.field_length.Goals as goal

counted : (o : Option ℕ) (v : ℕ) → IfNone o (v ≡ 0) → IfSome o (λ k. 10 ^ k ≤ v) → IfSome o (λ k. v < 10 * 10 ^ k) →
    IfSome o (λ k. k < 20) → (unwrap_or o 0 + 1 ≡ length (digits_of v)) × (unwrap_or o 0 + 1 ≤ 20)
counted None v zero low high small = (sym (length_one v (omega arith)), omega arith)
counted (Some k) v zero low high small = (omega (arith, length_exact k v low (omega arith)), omega arith)

pub returns : goal.returns
returns c =
    let l = c.checked_ilog10.ensures in
    rw (c.unwrap_or.ensures) (counted c.checked_ilog10.result c.args.v l.none l.power_le l.next_power_gt l.bound)
