-- A line of an accepted archive is not refused, so where it is read it gives its run.
use mathlib.Core.Path.{◌≡◌, sym, ap, ◌∙◌}
use mathlib.Core.List.{List}
use Prim.Native.Nat.{ℕ, ◌+◌, ◌-◌, ◌<◌}
use lib.ListN.{length, take, drop}
use Rattle.runs.specs.declared.Run.{Run}
use Rattle.runs.specs.Run.{run_refusal}
use Rattle.lines.specs.ReadLine.{read_of, run_in}
use Rattle.lines.proofs.Reading.{accepted_line}
use Rattle.archive.specs.declared.parts.NextRun.{NextRun}
use Rattle.archive.specs.Parts.{first_part, LineRun}
use Rattle.archive.proofs.Splitting.{part_read}

-- The line that is read, as it stands in the bytes.
module _ (bytes : List ℕ) {at end : ℕ} (l : at < length bytes) (z : (read_of (first_part (drop at bytes))).refusal ≡ 0)
    (e : end ≡ at + length (first_part (drop at bytes))) where
  pub run_reads : (read_of (take (end - at) (drop at bytes))).refusal ≡ 0
  run_reads = ap (λ (bs : List ℕ). (read_of bs).refusal) (part_read bytes l e) ∙ z

  pub run_read : {run : Run} → run ≡ run_in (take (end - at) (drop at bytes)) → LineRun bytes at (record { run = run; end = end })
  run_read {run} r =
      let is : run_in (first_part (drop at bytes)) ≡ run = sym (r ∙ ap (λ (bs : List ℕ). run_in bs) (part_read bytes l e)) in
      record { ends = e; is = is; accepted = ap run_refusal (sym is) ∙ (accepted_line _ z).0 }

-- it is that of the bytes read
module _ {bytes : List ℕ} {at : ℕ} {next : NextRun} (l : at < length bytes) (r : LineRun bytes at next) where
  pub run_line : run_in (take (next.end - at) (drop at bytes)) ≡ next.run
  run_line = ap (λ (bs : List ℕ). run_in bs) (part_read bytes l r.ends) ∙ r.is
