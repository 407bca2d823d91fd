-- `words::bits::exceeds` meets its contract: a number is below 2^n exactly when it is its own low n bits.
use Rattle.std.proofs.Common.{ℕ, not, eqb, ap, ◌∙◌}
use Rattle.words.proofs.Places.{exceeds_test}
use Rattle.words.proofs.bits.exceeds.Goals as goal

pub returns : goal.returns
returns c =
    ap (λ (m : ℕ). not (eqb m c.args.x)) c.low_bits.ensures
    ∙ exceeds_test c.args.n c.args.x
