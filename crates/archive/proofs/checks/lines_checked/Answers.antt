-- `archive::checks::lines_checked` meets its contract: the loop is a walk whose state is the lines before, which are those in
-- the chains.
use mathlib.Core.Path.{refl, ◌∙◌}
use Rattle.std.proofs.Common.{rules}
use Rattle.archive.proofs.LineByLine.{passed_start, reached, reached_within, passed_refused, passed_twin, passed_next, passed_end}
use Rattle.archive.proofs.checks.lines_checked.Goals as goal

pub loop-start-init : goal.loop-start-init
loop-start-init c =
    let zip = c.zip-start-items.ensures in
    let all = c.places_of.ensures in
    ((tt, tt), tt, passed_start c.requires.chained c.into_iter-start-iterator.ensures.into_iter_gives zip.first zip.second all.bytes all.at, refl, refl)

pub slice_bounds-read_numbered-count : goal.slice_bounds-read_numbered-count
slice_bounds-read_numbered-count c =
    let steps = c.in-Some.ensures.steps in
    (reached_within (reached c.loop-start.invariant.2 steps.0 steps.1.0)).0

pub slice_bounds-read_numbered-start : goal.slice_bounds-read_numbered-start
slice_bounds-read_numbered-start c =
    let steps = c.in-Some.ensures.steps in
    (reached_within (reached c.loop-start.invariant.2 steps.0 steps.1.0)).0

pub slice_bounds-read_numbered-end : goal.slice_bounds-read_numbered-end
slice_bounds-read_numbered-end c =
    let steps = c.in-Some.ensures.steps in
    (reached_within (reached c.loop-start.invariant.2 steps.0 steps.1.0)).1

pub returns-in_err-run-clause-promise : goal.returns-in_err-run-clause-promise
returns-in_err-run-clause-promise c =
    let steps = c.in-Some.ensures.steps in
    let refused = passed_refused (reached c.loop-start.invariant.2 steps.0 steps.1.0) in
    search (refused, rules)

pub line_seen-requires : goal.line_seen-requires
line_seen-requires c =
    let steps = c.in-Some.ensures.steps in
    let p = reached c.loop-start.invariant.2 steps.0 steps.1.0 in
    record {
      archive_len_bound = c.requires.archive_len_bound;
      at_le_end = (reached_within p).0;
      end_in_bounds = (reached_within p).1;
      archive_value = (c.in_ok-run.ensures.accepted refl).line;
      tables = p.chained.tables;
    }

pub returns-then-line_seen-clause-promise : goal.returns-then-line_seen-clause-promise
returns-then-line_seen-clause-promise c =
    let steps = c.in-Some.ensures.steps in
    passed_twin (reached c.loop-start.invariant.2 steps.0 steps.1.0) c.in_ok-run.ensures c.line_seen.ensures.seen c.if-line_seen.true
    c.requires.archive_len_bound

pub loop-start-preserved : goal.loop-start-preserved
loop-start-preserved c =
    let steps = c.in-Some.ensures.steps in
    let p = reached c.loop-start.invariant.2 steps.0 steps.1.0 in (
      (tt, tt),
      tt,
      passed_next p c.in_ok-run.ensures c.line_seen.ensures.seen steps.1.1 c.if-line_seen.false,
      c.line_seen.ensures.same_head ∙ c.loop-start.invariant.3,
      c.line_seen.ensures.same_next ∙ c.loop-start.invariant.4,
    )

pub returns-clause-promise : goal.returns-clause-promise
returns-clause-promise c = passed_end c.loop-start.start-iterator c.loop-start.invariant.2 c.in-None.ensures.steps c.requires.archive_len_bound
