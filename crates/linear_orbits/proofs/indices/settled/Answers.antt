-- `linear_orbits::indices::settled` meets its contract: the generator begins the search.
use Rattle.std.proofs.Common.{sym, ◌∙◌, lt_of_lt_of_le, mod-eq_of_lt, pow_mono}
use Rattle.words.proofs.Congruence.{sub_wraps}
use Rattle.linear_orbits.proofs.Begins.{generator_begins}
use Rattle.linear_orbits.proofs.indices.settled.Goals as goal

pub returns : goal.returns
returns c =
    let pre = c.requires in
    let small = lt_of_lt_of_le pre.0.seed_below (pow_mono pre.0.width_high) in
    c.settle.ensures.settles _ _ _
    (generator_begins _ _ _ c.drift_from.result pre
    (sub_wraps c.args.g.seed c.args.y small c.ranges.y.fits ∙ sym (mod-eq_of_lt small)) c.drift_from.ensures)
