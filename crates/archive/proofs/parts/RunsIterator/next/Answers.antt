-- The `next` of the runs meets its contract: the run of the first line left, and those behind it.
use mathlib.Core.Path.{sym, ap, subst, ◌∙◌}
use mathlib.Core.List.{List, ◌∷◌}
use native.Mathlib.Omega.{arith}
use Prim.Native.Nat.{ℕ, ◌<◌}
use lib.ListN.{length}
use borrow.Author.Tests.{eqb-true, eqb-false}
use Rattle.archive.specs.Archive.{lines_of, runs_in}
use Rattle.archive.specs.Parts.{AllRead}
use Rattle.archive.proofs.Splitting.{part_within}
use Rattle.archive.proofs.Walking.{runs_none, first_reads, runs_first, rest_reads}
use Rattle.archive.proofs.parts.RunsIterator.next.Goals as goal

pub returns-then-is_empty-clause-steps : goal.returns-then-is_empty-clause-steps
returns-then-is_empty-clause-steps c =
    let none = runs_none _ (eqb-true _ _ (sym c.if-is_empty.ensures)) in
    (none, none)

pub next_run-next-requires-clause-archive_value : goal.next_run-next-requires-clause-archive_value
next_run-next-requires-clause-archive_value c = first_reads _ (omega (arith, eqb-false _ _ (sym c.if-is_empty.ensures))) c.requires

pub split_at-requires : goal.split_at-requires
split_at-requires c = (part_within _ (omega (arith, eqb-false _ _ (sym c.if-is_empty.ensures))) c.next_run-next.ensures.ends).1

pub returns-clause-steps : goal.returns-clause-steps
returns-clause-steps c =
    runs_first _ (omega (arith, eqb-false _ _ (sym c.if-is_empty.ensures))) c.next_run-next.ensures
    ∙ ap (λ (bs : List ℕ). c.next_run-next.result.run ∷ runs_in bs) (sym c.split_at.ensures.back)

pub returns-clause-goes : goal.returns-clause-goes
returns-clause-goes c =
    let some : 0 < length c.args.self.now.rest.now = omega (arith, eqb-false _ _ (sym c.if-is_empty.ensures)) in
    let read = subst (λ (bs : List ℕ). AllRead (lines_of bs)) (sym c.split_at.ensures.back) (rest_reads _ some c.next_run-next.ensures c.requires) in
    let first = runs_first _ some c.next_run-next.ensures ∙ ap (λ (bs : List ℕ). c.next_run-next.result.run ∷ runs_in bs) (sym c.split_at.ensures.back) in
    record { on = λ f. (read, f, omega (arith, ap length first)); keeps = read; rests = λ f. tt }
