-- The check of an archive, by its definition: it goes by the first line that is refused, by `read_line` or as equal to an
-- earlier one. An accepted line is that of the run in it, so an archive is accepted exactly if its bytes are the lines of
-- accepted runs, none equal to an earlier one.
use mathlib.Core.Path.{◌≡◌, refl, sym, ap, ap₂, ◌∙◌, subst}
use mathlib.Core.Logic.{by_cases}
use mathlib.Core.Bool.{Bool, true, false, cond}
use mathlib.Core.List.{List, [], ◌∷◌, ◌++◌, map}
use Prim.Native.Nat.{ℕ, zero, suc, ◌≤◌, ◌<◌}
use native.Mathlib.Decide.{ℕ_discrete, dec_lt}
use native.Mathlib.Omega.{arith}
use lib.ListN.{length}
use borrow.Author.Tests.{lt-ltb, le-ltb}
use Rattle.runs.specs.declared.Run.{Run}
use Rattle.lines.specs.Line.{line_of}
use Rattle.lines.specs.ReadLine.{run_in, read_of}
use Rattle.lines.proofs.Reading.{accepted_line, own_run, own_accepted}
use Rattle.std.specs.Prelude.{Result, Ok}
use Rattle.archive.specs.declared.LineRefusal.{LineRefusal}
use Rattle.archive.specs.Archive.{lines_of, runs_in, archive_of, AllAccepted, IsArchive, numbered}
use Rattle.archive.specs.Check.{CheckReply, refused_at, plain_check, is_among, line_refusal, first_refused, check_of, Accepts, CheckPromise}
use Rattle.archive.proofs.Splitting.{joined, lines_joined, lines_archive}
use Rattle.archive.proofs.Twins.{Fresh, fresh_distinct, distinct_fresh}

-- The first line that `read_line` refuses.
unfoldable pub first_unread : ℕ → List (List ℕ) → CheckReply
first_unread k [] = refused_at 0 0
first_unread k (line ∷ lines) =
    elim (read_of line).refusal [ zero ↦ first_unread (suc k) lines | suc n ↦ refused_at (suc n) k ]

-- a line is accepted, or refused
pub unread_next : (k : ℕ) (line : List ℕ) (lines : List (List ℕ)) → (read_of line).refusal ≡ 0 →
    first_unread k (line ∷ lines) ≡ first_unread (suc k) lines
unfolding first_unread
unread_next k line lines e = rw (e, first_unread)

pub unread_here : (k : ℕ) (line : List ℕ) (lines : List (List ℕ)) → ((read_of line).refusal ≡ 0 → ⊥) →
    first_unread k (line ∷ lines) ≡ refused_at (read_of line).refusal k
unfolding first_unread
unread_here k line lines d = go (read_of line).refusal refl
  where
    go : (n : ℕ) → (read_of line).refusal ≡ n → first_unread k (line ∷ lines) ≡ refused_at (read_of line).refusal k
    go zero e = absurd (d e)
    go (suc n) e = rw (e, first_unread)

-- where none is refused, neither is the first, nor any behind it
pub first_read : (k : ℕ) (line : List ℕ) (lines : List (List ℕ)) → (first_unread k (line ∷ lines)).refusal ≡ 0 →
    ((read_of line).refusal ≡ 0) × ((first_unread (suc k) lines).refusal ≡ 0)
first_read k line lines e =
    by_cases (ℕ_discrete (read_of line).refusal 0)
    (λ z. (z, sym (ap (λ (c : CheckReply). c.refusal) (unread_next k line lines z)) ∙ e))
    (λ d. absurd (d (sym (ap (λ (c : CheckReply). c.refusal) (unread_here k line lines d)) ∙ e)))

-- so the lines are those of the runs in them
none_unread : (k : ℕ) (lines : List (List ℕ)) → (first_unread k lines).refusal ≡ 0 →
    AllAccepted (map run_in lines) × (lines ≡ map line_of (map run_in lines))
none_unread k [] e = (tt, refl)
none_unread k (line ∷ lines) e =
    let f = first_read k line lines e in
    let a = accepted_line line f.0 in
    let r = none_unread (suc k) lines f.1 in
    ((a.0, r.0), ap₂ (λ (l : List ℕ) (ls : List (List ℕ)). l ∷ ls) a.1.line r.1)

-- each that is there is accepted
numbered_read : (k : ℕ) (lines : List (List ℕ)) (n : ℕ) → (first_unread k lines).refusal ≡ 0 → 0 < length (numbered [] lines n) →
    (read_of (numbered [] lines n)).refusal ≡ 0
unfolding numbered
numbered_read k lines zero e l = absurd (omega arith)
numbered_read k [] (suc n) e l = absurd (omega arith)
numbered_read k (line ∷ lines) (suc zero) e l = (first_read k line lines e).0
numbered_read k (line ∷ lines) (suc (suc n)) e l = numbered_read (suc k) lines (suc n) (first_read k line lines e).1 l

-- and the lines of accepted runs are accepted
runs_accepted : (k : ℕ) (runs : List Run) → AllAccepted runs → (first_unread k (map line_of runs)).refusal ≡ 0
runs_accepted k [] a = unfold first_unread in refl
runs_accepted k (run ∷ runs) a =
    ap (λ (c : CheckReply). c.refusal) (unread_next k (line_of run) (map line_of runs) (own_accepted run a.0))
    ∙ runs_accepted (suc k) runs a.1

runs_back : (runs : List Run) → map run_in (map line_of runs) ≡ runs
runs_back [] = refl
runs_back (run ∷ runs) = ap₂ (λ (r : Run) (rs : List Run). r ∷ rs) (own_run run) (runs_back runs)

joined_runs : (runs : List Run) → joined (map line_of runs) ≡ archive_of runs
unfolding joined archive_of
joined_runs [] = refl
joined_runs (run ∷ runs) = ap (λ (bs : List ℕ). line_of run ++ bs) (joined_runs runs)

-- The first line that is refused: by `read_line`, or as equal to an earlier one.
pub line_unread : (before : List (List ℕ)) (line : List ℕ) {n : ℕ} → (read_of line).refusal ≡ suc n → line_refusal before line ≡ suc n
line_unread before line e = rw e

pub line_read : (before : List (List ℕ)) (line : List ℕ) {twin : Bool} → (read_of line).refusal ≡ 0 → is_among line before ≡ twin →
    line_refusal before line ≡ cond twin 11 0
line_read before line e t = rw (e, t)

-- an accepted line is read, and is none of those before
line_passes : (before : List (List ℕ)) (line : List ℕ) → line_refusal before line ≡ 0 →
    ((read_of line).refusal ≡ 0) × (is_among line before ≡ false)
line_passes before line z = go (read_of line).refusal (is_among line before) refl refl
  where
    go : (n : ℕ) (twin : Bool) → (read_of line).refusal ≡ n → is_among line before ≡ twin →
        ((read_of line).refusal ≡ 0) × (is_among line before ≡ false)
    go zero false e t = (e, t)
    go zero true e t = absurd (omega (arith, z, line_read before line e t))
    go (suc n) twin e t = absurd (omega (arith, z, line_unread before line e))

pub first_next : (k : ℕ) (before : List (List ℕ)) (line : List ℕ) (lines : List (List ℕ)) → line_refusal before line ≡ 0 →
    first_refused k before (line ∷ lines) ≡ first_refused (suc k) (line ∷ before) lines
unfolding first_refused
first_next k before line lines e = rw (e, first_refused)

pub first_here : (k : ℕ) (before : List (List ℕ)) (line : List ℕ) (lines : List (List ℕ)) → (line_refusal before line ≡ 0 → ⊥) →
    first_refused k before (line ∷ lines) ≡ refused_at (line_refusal before line) k
unfolding first_refused
first_here k before line lines d = go (line_refusal before line) refl
  where
    go : (n : ℕ) → line_refusal before line ≡ n → first_refused k before (line ∷ lines) ≡ refused_at (line_refusal before line) k
    go zero e = absurd (d e)
    go (suc n) e = rw (e, first_refused)

-- where none is refused, `read_line` refuses none, and none equals an earlier one; and back
none_refused : (k : ℕ) (before lines : List (List ℕ)) → (first_refused k before lines).refusal ≡ 0 →
    ((first_unread k lines).refusal ≡ 0) × Fresh before lines
none_refused k before [] e = (unfold first_unread in refl, tt)
none_refused k before (line ∷ lines) e =
    let rest = none_refused (suc k) (line ∷ before) lines in
    by_cases (ℕ_discrete (line_refusal before line) 0)
    (λ z.
    let p = line_passes before line z in
    let r = rest (sym (ap (λ (c : CheckReply). c.refusal) (first_next k before line lines z)) ∙ e) in
    (ap (λ (c : CheckReply). c.refusal) (unread_next k line lines p.0) ∙ r.0, (p.1, r.1)))
    (λ d. absurd (d (sym (ap (λ (c : CheckReply). c.refusal) (first_here k before line lines d)) ∙ e)))

all_pass : (k : ℕ) (before lines : List (List ℕ)) → (first_unread k lines).refusal ≡ 0 → Fresh before lines →
    (first_refused k before lines).refusal ≡ 0
all_pass k before [] e f = unfold first_refused in refl
all_pass k before (line ∷ lines) e f =
    let rest = all_pass (suc k) (line ∷ before) lines in
    by_cases (ℕ_discrete (read_of line).refusal 0)
    (λ z.
    ap (λ (c : CheckReply). c.refusal) (first_next k before line lines (line_read before line z f.0))
    ∙ rest (sym (ap (λ (c : CheckReply). c.refusal) (unread_next k line lines z)) ∙ e) f.1)
    (λ d. absurd (d (sym (ap (λ (c : CheckReply). c.refusal) (unread_here k line lines d)) ∙ e)))

-- The check, of too many bytes and of any others.
pub long_check : (bytes : List ℕ) → 65536 < length bytes → check_of bytes ≡ refused_at 1 0
unfolding check_of
long_check bytes l = rw (lt-ltb 65536 (length bytes) l, check_of)

pub short_check : (bytes : List ℕ) → length bytes ≤ 65536 → check_of bytes ≡ first_refused 1 [] (lines_of bytes)
unfolding check_of
short_check bytes l = rw (le-ltb 65536 (length bytes) l, check_of)

-- an accepted archive is not too long, and none of its lines is refused
pub check_lines : (bytes : List ℕ) → (check_of bytes).refusal ≡ 0 →
    (length bytes ≤ 65536) × ((first_unread 1 (lines_of bytes)).refusal ≡ 0) × Fresh [] (lines_of bytes)
check_lines bytes z =
    by_cases (dec_lt 65536 (length bytes)) (λ l. absurd (omega (arith, ap (λ (c : CheckReply). c.refusal) (long_check bytes l))))
    (λ d.
    let l : length bytes ≤ 65536 = omega arith in
    let n = none_refused 1 [] (lines_of bytes) (sym (ap (λ (c : CheckReply). c.refusal) (short_check bytes l)) ∙ z) in
    (l, n.0, n.1))

-- a line of an accepted archive
pub line_reads : (bytes : List ℕ) (n : ℕ) → (check_of bytes).refusal ≡ 0 → 0 < length (numbered [] (lines_of bytes) n) →
    (read_of (numbered [] (lines_of bytes) n)).refusal ≡ 0
line_reads bytes n z l = numbered_read 1 (lines_of bytes) n (check_lines bytes z).1 l

-- What the check means.
pub check_accepts : (bytes : List ℕ) → Accepts bytes (check_of bytes).refusal
check_accepts bytes = record { archive = archive; others = others }
  where
    archive : (check_of bytes).refusal ≡ 0 → IsArchive bytes (runs_in bytes)
    archive z =
        let h = check_lines bytes z in
        let a = none_unread 1 (lines_of bytes) h.1 in
        record {
          short = h.0;
          accepted = a.0;
          lines = sym (lines_joined bytes) ∙ ap joined a.1 ∙ joined_runs (runs_in bytes);
          distinct = fresh_distinct (subst (Fresh []) a.1 h.2);
        }

    others : (runs : List Run) → IsArchive bytes runs → ((check_of bytes).refusal ≡ 0) × (runs_in bytes ≡ runs)
    others runs is =
        let lines : lines_of bytes ≡ map line_of runs = ap lines_of is.lines ∙ lines_archive runs in (
          ap (λ (c : CheckReply). c.refusal) (short_check bytes is.short ∙ ap (first_refused 1 []) lines)
              ∙ all_pass 1 [] (map line_of runs) (runs_accepted 1 runs is.accepted) (distinct_fresh is.distinct),
          ap (map run_in) lines ∙ runs_back runs,
        )

-- the promise of an answer that is known
pub check_as : {bytes : List ℕ} {a : Result (Unit {0}) LineRefusal} (b : Result (Unit {0}) LineRefusal) → a ≡ b → CheckPromise bytes (plain_check a) →
    plain_check b ≡ check_of bytes
check_as b e p = ap plain_check (sym e) ∙ p.equals

pub check_accepted : {bytes : List ℕ} {a : Result (Unit {0}) LineRefusal} → a ≡ Ok tt → CheckPromise bytes (plain_check a) → (check_of bytes).refusal ≡ 0
check_accepted e p = ap (λ (r : CheckReply). r.refusal) (sym (check_as (Ok tt) e p))
