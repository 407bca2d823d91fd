-- What each way out of the answer shows: the archive is refused; it has no such line, and the empty line reads as the run of
-- zeros, which has no position; or the line is accepted, and the part of its run is shown.
use mathlib.Core.Path.{◌≡◌, refl, sym, ap, ◌∙◌}
use mathlib.Core.List.{List, []}
use Prim.Native.Nat.{ℕ, suc, ◌≤◌, ◌<◌}
use native.Mathlib.Omega.{arith}
use lib.ListN.{length}
use borrow.Author.Tests.{eq-eqb, ne_eqb, lt-ltb, le-ltb}
use Rattle.refusals.specs.Refusals.{number_of}
use Rattle.refusals.proofs.Replies.{number_suc}
use Rattle.runs.specs.declared.Run.{Run}
use Rattle.lines.specs.Line.{no_run}
use Rattle.lines.specs.ReadLine.{read_of}
use Rattle.fields.specs.Line.{numbers_from, is_line}
use Rattle.archive_line.specs.declared.Part.{Part as LinePart}
use Rattle.archive_line.proofs.PartOfLine.{part_none}
use Rattle.archive.specs.declared.LineRefusal.{LineRefusal}
use Rattle.archive.specs.Check.{CheckReply, refused_at, plain_check, check_of, CheckPromise}
use Rattle.archive_line.specs.Line.{line_at, PartPromise}
use Rattle.archive.proofs.Checking.{check_accepted, long_check}
use Rattle.notices.specs.declared.notice.Notice.TheVariants.{NotFound, Refused}
use Rattle.std.proofs.Common.{Result, Ok, Err}
use Rattle.notices.specs.declared.notice.Notice.{Notice}
use Rattle.runshow_text.specs.declared.text.Part.{Part}
use Rattle.runshow_answer.specs.Decision.{part_of_run, outcome_of}

-- The part of a run.
module _ (run : Run) (first many : ℕ) where
  pub run_behind : run.count ≤ first → Err NotFound ≡ part_of_run run first many
  run_behind l = rw (le-ltb first run.count l)

  pub run_none_asked : first < run.count → many ≡ 0 → Err NotFound ≡ part_of_run run first many
  run_none_asked l e = rw (lt-ltb first run.count l, eq-eqb many 0 e)

  pub run_part : first < run.count → (many ≡ 0 → ⊥) → Ok (record { run = run; first = first; many = many }) ≡ part_of_run run first many
  run_part l d = rw (lt-ltb first run.count l, ne_eqb many 0 d)

-- The archive is refused.
outcome_declined : (bytes : List ℕ) {n at : ℕ} (line first many : ℕ) → check_of bytes ≡ refused_at (suc n) at →
    Err (Refused (suc n) at) ≡ outcome_of bytes line first many
unfolding outcome_of
outcome_declined bytes {n} line first many e =
    let number = ap (λ (c : CheckReply). c.refusal) e in
    rw (number, outcome_of) (ap (λ (k : ℕ). Err (Refused (suc n) k)) (sym (ap (λ (c : CheckReply). c.line) e)))

pub too_long : (line first many : ℕ) (bytes : List ℕ) → 65537 ≤ length bytes → outcome_of bytes line first many ≡ Err (Refused 1 0)
too_long line first many bytes l = sym (outcome_declined bytes line first many (long_check bytes l))

-- The empty line reads as the run of zeros.
empty_run : (read_of []).run ≡ no_run
unfolding read_of is_line numbers_from
empty_run = refl

module _ {bytes : List ℕ} {check : Result (Unit {0}) LineRefusal} (p : CheckPromise bytes (plain_check check)) (line first many : ℕ) where
  pub answer_refused : {r : LineRefusal} {n : ℕ} → check ≡ Err r → n ≡ number_of r.refusal →
      Err (Refused n r.line) ≡ outcome_of bytes line first many
  answer_refused {r} {n} e same =
      let k = number_suc r.refusal in
      ap (λ (m : ℕ). Err (Refused m r.line)) (same ∙ k.1)
      ∙ outcome_declined bytes line first many
      (sym p.equals ∙ ap (λ (c : Result (Unit {0}) LineRefusal). plain_check c) e ∙ ap (λ (m : ℕ). refused_at m r.line) k.1)

  module _ (e : check ≡ Ok tt) where
    accepted : part_of_run (read_of (line_at bytes line)).run first many ≡ outcome_of bytes line first many
    unfolding outcome_of
    accepted = let z = check_accepted e p in rw (z, outcome_of)

    -- the line is not there, or it has this run
    pub answer_none : {part : LinePart} → PartPromise bytes line part → part.length ≡ 0 → Err NotFound ≡ outcome_of bytes line first many
    answer_none {part} at z =
        run_behind no_run first many (omega arith)
        ∙ ap (λ (run : Run). part_of_run run first many) (sym (ap (λ (bs : List ℕ). (read_of bs).run) (part_none part at z) ∙ empty_run))
        ∙ accepted

    pub answer_part : {run : Run} {outcome : Result Part Notice} → run ≡ (read_of (line_at bytes line)).run → outcome ≡ part_of_run run first many →
        outcome ≡ outcome_of bytes line first many
    answer_part same is = is ∙ ap (λ (run : Run). part_of_run run first many) same ∙ accepted
