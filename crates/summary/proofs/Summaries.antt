-- The summary. Its loop is a walk over the runs whose state is the sum so far: the lines and the sum that the walk has come
-- to, with those of the runs left, are those of the archive. A sum above 2^64 − 1 stays so, whatever is added to it.
use mathlib.Core.Path.{◌≡◌, refl, sym, ap, ap₂, ◌∙◌, subst}
use mathlib.Core.Logic.{by_cases}
use mathlib.Core.List.{List, [], ◌∷◌}
use Prim.Native.Nat.{ℕ, zero, suc, ◌+◌, ◌^◌, ◌≤◌, ◌<◌}
use native.Mathlib.Decide.{dec_lt}
use native.Mathlib.Omega.{arith}
use lib.ListN.{length}
use borrow.Author.Tests.{lt-ltb, le-ltb}
use Rattle.std.specs.Prelude.{Result, Err}
use Rattle.archive.specs.declared.LineRefusal.{LineRefusal}
use Rattle.refusals.proofs.Replies.{number_suc}
use Rattle.runs.specs.declared.Run.{Run}
use Rattle.summary.specs.declared.SummaryReply.{SummaryReply}
use Rattle.archive.specs.Archive.{runs_in, IsArchive}
use Rattle.archive.specs.Check.{CheckReply, refused_at, plain_check, check_of, CheckPromise}
use Rattle.summary.specs.Summary.{total_of, summary_given, summary_refused, plain_summary, runs_summary, summary_of, SummaryPromise}
use Rattle.archive.proofs.Walking.{RunsLeft, runs_left, runs_next}
use Rattle.archive.proofs.Checking.{long_check, check_accepts, check_as}

-- The summary of some runs, by whether the sum fits a word.
sum_fits : (runs : List Run) → total_of runs < 2 ^ 64 → runs_summary runs ≡ summary_given (length runs) (total_of runs)
unfolding runs_summary
sum_fits runs l = rw (lt-ltb (total_of runs) (2 ^ 64) l)

sum_large : (runs : List Run) → 2 ^ 64 ≤ total_of runs → runs_summary runs ≡ summary_refused 10 0
unfolding runs_summary
sum_large runs l = rw (le-ltb (total_of runs) (2 ^ 64) l)

-- The loop.

-- the lines and the sum so far, with those of the lines left
abbrev pub summing : ℕ → ℕ → List Run → ℕ × ℕ
summing k total runs = (k + length runs, total + total_of runs)

module _ {bytes rest : List ℕ} {k total : ℕ} (w : RunsLeft summing 0 bytes rest k total) where
  module _ {run : Run} {runs : List Run} {line : ℕ} (e : runs_in rest ≡ run ∷ runs) (n : line ≡ k) where
    pub sum_next : {rest' : List ℕ} {k' sum : ℕ} → runs ≡ runs_in rest' → k' ≡ line + 1 → sum ≡ total + run.count →
        RunsLeft summing 0 bytes rest' k' sum
    unfolding total_of
    sum_next {sum = sum} r q t = runs_next w e n sum r q (ap₂ (λ (i j : ℕ). (i, j)) (omega arith) (omega (arith, t)))

    pub sum_over : 2 ^ 64 ≤ total + run.count → summary_refused 10 0 ≡ runs_summary (runs_in bytes)
    unfolding total_of
    sum_over h = sym (sum_large (runs_in bytes) (omega (arith, h, ap (λ (p : ℕ × ℕ). p.1) (runs_left w e n))))

pub sum_end : (bytes : List ℕ) (n total : ℕ) {k : ℕ} → k ≡ n + 1 → summing 1 0 (runs_in bytes) ≡ summing k total [] → total < 2 ^ 64 →
    summary_given n total ≡ runs_summary (runs_in bytes)
unfolding total_of
sum_end bytes n total q ends h =
    let lines : n ≡ length (runs_in bytes) = omega (arith, q, ap (λ (p : ℕ × ℕ). p.0) ends) in
    let sum : total ≡ total_of (runs_in bytes) = omega (arith, ap (λ (p : ℕ × ℕ). p.1) ends) in
    ap₂ summary_given lines sum ∙ sym (sum_fits (runs_in bytes) (omega arith))

-- The promise of the call.

-- by whether the check refuses
summary_accepted : (bytes : List ℕ) → (check_of bytes).refusal ≡ 0 → summary_of bytes ≡ runs_summary (runs_in bytes)
unfolding summary_of
summary_accepted bytes z = rw (z, summary_of)

summary_declined : (bytes : List ℕ) {n line : ℕ} → check_of bytes ≡ refused_at (suc n) line → summary_of bytes ≡ summary_refused (suc n) line
unfolding summary_of
summary_declined bytes {n} e =
    let number = ap (λ (c : CheckReply). c.refusal) e in
    rw (number, summary_of) (ap (summary_refused (suc n)) (ap (λ (c : CheckReply). c.line) e))

-- more than 65,536 bytes, whatever they are
pub summary_long : (bytes : List ℕ) → 65536 < length bytes → summary_of bytes ≡ summary_refused 1 0
summary_long bytes l = summary_declined bytes (long_check bytes l)

-- an archive is accepted, and its runs are those of the bytes
of_runs : {bytes : List ℕ} (runs : List Run) → IsArchive bytes runs → summary_of bytes ≡ runs_summary runs
of_runs {bytes} runs is =
    let o = (check_accepts bytes).others runs is in
    summary_accepted bytes o.0 ∙ ap runs_summary o.1

-- any other bytes are not
of_none : (bytes : List ℕ) → ((runs : List Run) → IsArchive bytes runs → ⊥) →
    (summary_of bytes ≡ summary_refused (check_of bytes).refusal (check_of bytes).line) × ((summary_of bytes).refusal ≡ 0 → ⊥)
unfolding summary_of
of_none bytes none = go (check_of bytes).refusal refl
  where
    go : (n : ℕ) → (check_of bytes).refusal ≡ n →
        (summary_of bytes ≡ summary_refused (check_of bytes).refusal (check_of bytes).line) × ((summary_of bytes).refusal ≡ 0 → ⊥)
    go zero e = absurd (none (runs_in bytes) ((check_accepts bytes).archive e))
    go (suc n) e = rw (e, summary_of) (refl, λ z. omega arith)

-- what it accepts: the check does too, and the sum fits a word
pub record Summed (bytes : List ℕ) : Type 0 where
  pub checked : (check_of bytes).refusal ≡ 0
  pub small : total_of (runs_in bytes) < 2 ^ 64
  pub given : summary_of bytes ≡ summary_given (length (runs_in bytes)) (total_of (runs_in bytes))

pub summary_sums : (bytes : List ℕ) → (summary_of bytes).refusal ≡ 0 → Summed bytes
summary_sums bytes none = go (check_of bytes).refusal refl
  where
    summed : (check_of bytes).refusal ≡ 0 → Summed bytes
    summed z =
        let runs = runs_in bytes in
        by_cases (dec_lt (total_of runs) (2 ^ 64))
        (λ l. record { checked = z; small = l; given = summary_accepted bytes z ∙ sum_fits runs l })
        (λ d.
        let large = summary_accepted bytes z ∙ sum_large runs (omega arith) in
        absurd (omega (arith, none, ap (λ (r : SummaryReply). r.refusal) large)))

    go : (n : ℕ) → (check_of bytes).refusal ≡ n → Summed bytes
    go zero z = summed z
    go (suc n) z =
        let declined = summary_declined bytes (ap (λ (m : ℕ). refused_at m (check_of bytes).line) z) in
        absurd (omega (arith, none, ap (λ (r : SummaryReply). r.refusal) declined))

summary_meaning : (bytes : List ℕ) → SummaryPromise bytes (summary_of bytes)
summary_meaning bytes =
    record {
      equals = refl;
      accepted = λ z. (check_accepts bytes).archive (summary_sums bytes z).checked;
      of_archive = λ runs is l. of_runs runs is ∙ sum_fits runs l;
      of_large = λ runs is l. of_runs runs is ∙ sum_large runs l;
      of_others = of_none bytes;
    }

summary_promise : {bytes : List ℕ} {reply : SummaryReply} → reply ≡ summary_of bytes → SummaryPromise bytes reply
summary_promise {bytes} e = subst (SummaryPromise bytes) (sym e) (summary_meaning bytes)

-- past the check, and where it refuses
pub summary_summed : {bytes : List ℕ} {reply : SummaryReply} → (check_of bytes).refusal ≡ 0 → reply ≡ runs_summary (runs_in bytes) →
    SummaryPromise bytes reply
summary_summed {bytes} z e = summary_promise (e ∙ sym (summary_accepted bytes z))

pub summary_refused_lem : {bytes : List ℕ} {a : Result (Unit {0}) LineRefusal} (x : LineRefusal) → a ≡ Err x →
    CheckPromise bytes (plain_check a) → SummaryPromise bytes (plain_summary (Err x))
summary_refused_lem {bytes} x e p =
    let k = (number_suc x.refusal).1 in
    summary_promise
    (ap (λ (n : ℕ). summary_refused n x.line) k
    ∙ sym (summary_declined bytes (sym (check_as (Err x) e p) ∙ ap (λ (n : ℕ). refused_at n x.line) k)))
