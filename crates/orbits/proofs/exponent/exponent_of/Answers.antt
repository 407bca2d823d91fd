-- `orbits::exponent::exponent_of` meets its contract: α of a power of two is its exponent.
use Rattle.std.proofs.Common.{ℕ, ◌%◌, ◌^◌, sym, ap, ◌∙◌, add-one}
use Rattle.words.proofs.Places.{alpha_power}
use Rattle.sequences.specs.Orbit.{exponent_of}
use Rattle.sequences.proofs.Orbits.{exponent_is}
use Rattle.orbits.proofs.exponent.exponent_of.Goals as goal

pub returns : goal.returns
returns c =
    let p = c.requires in
    alpha_power p.exponent p.small
    (ap (λ (n : ℕ). n % 2 ^ 64) (add-one c.args.last ∙ p.power)) c.alpha.ensures
    ∙ sym (exponent_is p.exponent p.small) ∙ ap exponent_of (sym p.power)
