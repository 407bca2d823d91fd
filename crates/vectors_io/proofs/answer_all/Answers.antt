-- `answer_all` meets its contract. The loop's invariant: the places left are those of the input from some byte on, and at most 65,000
-- of the 65,536 bytes are filled.
use Rattle.std.proofs.Common.{ℕ, List, ◌≤◌, length, refl, sym, ◌∙◌, arith, rules}
use Rattle.archive.specs.declared.parts.Place.{Place}
use Rattle.archive.proofs.Splitting.{part_within}
use Rattle.archive.proofs.Walking.{NextPlace, place_next}
use Rattle.vectors_io.proofs.answer_all.Goals as goal

-- a place lies within the bytes
within : {bytes : List ℕ} {at : ℕ} {place : Place} {left : List Place} → NextPlace bytes at place left →
    (place.start ≤ place.end) × (place.end ≤ length bytes)
within {bytes} p = let w = part_within bytes p.some p.ends in (omega (arith, w.0, p.starts), w.1)

pub loop-start-init : goal.loop-start-init
loop-start-init g c =
    let all = c.places_of-start-items.ensures in
    ((0, rw (c.into_iter-start-iterator.ensures.into_iter_gives, all.bytes, all.at) refl), search rules, search rules)

pub slice_bounds-answer-count : goal.slice_bounds-answer-count
slice_bounds-answer-count g c =
    (within (place_next c.args.input.now (sym c.loop-start.invariant.0.1 ∙ c.in-Some.ensures.steps))).0

pub slice_bounds-answer-start : goal.slice_bounds-answer-start
slice_bounds-answer-start g c =
    (within (place_next c.args.input.now (sym c.loop-start.invariant.0.1 ∙ c.in-Some.ensures.steps))).0

pub slice_bounds-answer-end : goal.slice_bounds-answer-end
slice_bounds-answer-end g c =
    (within (place_next c.args.input.now (sym c.loop-start.invariant.0.1 ∙ c.in-Some.ensures.steps))).1

pub loop-start-preserved-then-filled-gt65000 : goal.loop-start-preserved-then-filled-gt65000
loop-start-preserved-then-filled-gt65000 g c =
    let p = place_next c.args.input.now (sym c.loop-start.invariant.0.1 ∙ c.in-Some.ensures.steps) in
    ((c.in-Some.field-0.end, p.left), search rules, search rules)

pub loop-start-preserved : goal.loop-start-preserved
loop-start-preserved g c =
    let p = place_next c.args.input.now (sym c.loop-start.invariant.0.1 ∙ c.in-Some.ensures.steps) in
    ((c.in-Some.field-0.end, p.left), search rules, search rules)
