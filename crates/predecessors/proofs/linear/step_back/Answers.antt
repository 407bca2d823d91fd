-- `predecessors::linear::step_back` meets its contract.
use Rattle.std.proofs.Common.{lt_of_lt_of_le, pow_mono}
use Rattle.words.proofs.Congruence.{sub_wraps}
use Rattle.predecessors.proofs.StepBack.{steps_back}
use Rattle.predecessors.proofs.linear.step_back.Goals as goal

pub returns : goal.returns
returns c =
    let g = c.args.g in
    let v = c.requires.0 in
    let word = pow_mono v.width_high in
    steps_back c.inverse.result _ c.requires c.inverse.ensures
    (sub_wraps c.args.y g.increment (lt_of_lt_of_le c.requires.2 word) (lt_of_lt_of_le v.increment_below word))
    c.wrapping_mul.ensures
    c.low_bits.ensures
