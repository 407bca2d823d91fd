-- `archive_line::by_number::part_of_line` meets its contract: the iterator gives the place of the line sought, behind those of
-- the lines before it.
use mathlib.Core.Path.{sym, ap, ◌∙◌}
use native.Mathlib.Omega.{arith}
use Rattle.std.proofs.Common.{rules}
use Rattle.archive_line.proofs.PartOfLine.{part_of_place, part_found, part_zero, place_given}
use Rattle.archive_line.proofs.by_number.part_of_line.Goals as goal

pub returns-in_err-before-clause-part : goal.returns-in_err-before-clause-part
returns-in_err-before-clause-part c =
    let none = part_zero c.args.archive.now c.args.number c.requires (omega (arith, c.in_err-before.ensures)) in
    search (none, rules)

pub returns-in_err-start-clause-part : goal.returns-in_err-start-clause-part
returns-in_err-start-clause-part c =
    let all = c.places_of.ensures in
    let given = place_given all.bytes all.at c.args.number c.in_ok-before.ensures c.nth.result c.nth.new.self c.nth.ensures.ran in
    let none = part_found c.requires (sym (ap part_of_place c.in_err-start.was) ∙ given.0) in
    search (none, rules)

pub overflow_sub-result : goal.overflow_sub-result
overflow_sub-result c =
    let all = c.places_of.ensures in
    let given = place_given all.bytes all.at c.args.number c.in_ok-before.ensures c.nth.result c.nth.new.self c.nth.ensures.ran in
    omega (arith, given.1 _ c.in_ok-start.was)

pub returns-clause-part : goal.returns-clause-part
returns-clause-part c =
    let all = c.places_of.ensures in
    let given = place_given all.bytes all.at c.args.number c.in_ok-before.ensures c.nth.result c.nth.new.self c.nth.ensures.ran in
    part_found c.requires (sym (ap part_of_place c.in_ok-start.was) ∙ given.0)

pub returns-clause-some : goal.returns-clause-some
returns-clause-some c =
    let all = c.places_of.ensures in
    let given = place_given all.bytes all.at c.args.number c.in_ok-before.ensures c.nth.result c.nth.new.self c.nth.ensures.ran in
    omega (arith, given.1 _ c.in_ok-start.was)
