-- What refusal 11 says: the line with the number given equals an earlier one. On the way along the lines those before are the
-- lines with lower numbers; and no call of `read_line` is refused with 11. So the check keeps its promise.
use mathlib.Core.Path.{◌≡◌, refl, sym, ap, ◌∙◌, subst}
use mathlib.Core.Logic.{by_cases}
use mathlib.Core.Bool.{Bool, true, false, cond, ◌||◌}
use mathlib.Core.List.{List, [], ◌∷◌}
use Prim.Native.Nat.{ℕ, zero, suc, ◌+◌, ◌≤◌, ◌<◌}
use native.Mathlib.Decide.{ℕ_discrete, dec_lt}
use native.Mathlib.Omega.{arith}
use lib.ListN.{length}
use Rattle.generator.specs.declared.Generator.{Generator}
use Rattle.refusals.specs.Refusals.{or_else}
use Rattle.generator.specs.Recurrence.{kind_of}
use Rattle.generator.specs.Check.{width_refused, operand_refused, refusal_of}
use Rattle.fields.specs.Line.{same_bytes, is_line}
use Rattle.fields.proofs.Numbers.{same_test}
use Rattle.runs.specs.declared.Run.{Run}
use Rattle.runs.specs.Run.{run_out_of_range, run_refusal}
use Rattle.lines.specs.ReadLine.{run_reply, run_in, read_of}
use Rattle.archive.specs.Archive.{lines_of, numbered, Twin}
use Rattle.archive.specs.Check.{CheckReply, refused_at, is_among, line_refusal, first_refused, check_of, Accepts, CheckPromise}
use Rattle.archive.proofs.Twins.{contrary}
use Rattle.archive.proofs.Checking.{line_unread, line_read, first_next, first_here, long_check, short_check, check_accepts}

-- `read_line` refuses with 5 at most.
cond_small : (b : Bool) (m n : ℕ) → m ≤ 5 → n ≤ 5 → cond b m n ≤ 5
cond_small true m n h g = h
cond_small false m n h g = g

else_small : (m n : ℕ) → m ≤ 5 → n ≤ 5 → or_else m n ≤ 5
else_small zero n h g = g
else_small (suc m) n h g = h

generator_small : (g : Generator) → refusal_of g ≤ 5
unfolding refusal_of
generator_small g =
    cond_small (width_refused g.width) 3 (cond (operand_refused (kind_of g) g) 4 0) (omega arith)
    (cond_small (operand_refused (kind_of g) g) 4 0 (omega arith) (omega arith))

run_small : (run : Run) → run_refusal run ≤ 5
unfolding run_refusal
run_small run =
    else_small (refusal_of run.generator) (cond (run_out_of_range run) 5 0) (generator_small run.generator)
    (cond_small (run_out_of_range run) 5 0 (omega arith) (omega arith))

reply_small : (n : ℕ) (run : Run) → n ≤ 5 → (run_reply n run).refusal ≤ 5
reply_small zero run h = omega arith
reply_small (suc n) run h = h

read_small : (line : List ℕ) → (read_of line).refusal ≤ 5
unfolding read_of
read_small line = go (is_line 6 line) refl
  where
    go : (t : Bool) → is_line 6 line ≡ t → (read_of line).refusal ≤ 5
    go true e = rw (e, read_of) (reply_small (run_refusal (run_in line)) (run_in line) (run_small (run_in line)))
    go false e = rw (e, read_of) (omega arith)

-- so 11 is told of a line only if it is among those before
twin_told : (before : List (List ℕ)) (line : List ℕ) → line_refusal before line ≡ 11 → is_among line before ≡ true
twin_told before line e = go (read_of line).refusal (is_among line before) refl refl
  where
    go : (n : ℕ) (twin : Bool) → (read_of line).refusal ≡ n → is_among line before ≡ twin → is_among line before ≡ true
    go zero true r t = t
    go zero false r t = absurd (omega (arith, e, line_read before line r t))
    go (suc n) twin r t = absurd (omega (arith, e, line_unread before line r, read_small line))

-- The lines before are those with lower numbers.
record Lower (all : List (List ℕ)) (k : ℕ) (line : List ℕ) : Type 0 where
  early : ℕ
  lower : (0 < early) × (early ≤ k)
  equal : numbered [] all early ≡ line

record Reached (all : List (List ℕ)) (k : ℕ) (before lines : List (List ℕ)) : Type 0 where
  size : length all ≡ k + length lines
  left : (j : ℕ) → numbered [] all (k + suc j) ≡ numbered [] lines (suc j)
  earlier : (line : List ℕ) → is_among line before ≡ true → Lower all k line

reached_start : (all : List (List ℕ)) → Reached all 0 [] all
unfolding is_among
reached_start all =
    record {
      size = omega arith;
      left = λ j. let e : 0 + suc j ≡ suc j = omega arith in ap (numbered [] all) e;
      earlier = λ line t. contrary t refl;
    }

module _ {all : List (List ℕ)} {k : ℕ} {before lines : List (List ℕ)} {line : List ℕ} (r : Reached all k before (line ∷ lines)) where
  -- the line reached
  here : numbered [] all (suc k) ≡ line
  unfolding numbered
  here = let e : suc k ≡ k + 1 = omega arith in ap (numbered [] all) e ∙ r.left 0

  reached_next : Reached all (suc k) (line ∷ before) lines
  unfolding numbered is_among
  reached_next =
      record {
        size = omega (arith, r.size);
        left = λ j. let e : suc k + suc j ≡ k + suc (suc j) = omega arith in ap (numbered [] all) e ∙ r.left (suc j);
        earlier = earlier;
      }
    where
      earlier : (other : List ℕ) → is_among other (line ∷ before) ≡ true → Lower all (suc k) other
      earlier other t = go (same_bytes line other) refl
        where
          go : (b : Bool) → same_bytes line other ≡ b → Lower all (suc k) other
          go true e = record { early = suc k; lower = (omega arith, omega arith); equal = here ∙ same_test line other e }
          go false e =
              let l = r.earlier other (sym (ap (λ (b : Bool). b || is_among other before) e) ∙ t) in
              record { early = l.early; lower = omega (arith, l.lower); equal = l.equal }

twin_at : {all : List (List ℕ)} (k : ℕ) (before lines : List (List ℕ)) → Reached all k before lines →
    (first_refused (suc k) before lines).refusal ≡ 11 → Twin all (first_refused (suc k) before lines).line
twin_at k before [] r e = absurd (unfold first_refused in omega (arith, e))
twin_at {all} k before (line ∷ lines) r e =
    let rest = twin_at (suc k) (line ∷ before) lines (reached_next r) in
    by_cases (ℕ_discrete (line_refusal before line) 0)
    (λ z.
    let n = first_next (suc k) before line lines z in
    subst (λ (c : CheckReply). Twin all c.line) (sym n) (rest (sym (ap (λ (c : CheckReply). c.refusal) n) ∙ e)))
    (λ d.
    let h = first_here (suc k) before line lines d in
    let l = r.earlier line (twin_told before line (sym (ap (λ (c : CheckReply). c.refusal) h) ∙ e)) in
    subst (λ (c : CheckReply). Twin all c.line) (sym h)
    (record { early = l.early; earlier = omega (arith, l.lower, r.size); equal = l.equal ∙ sym (here r) }))

check_twin : (bytes : List ℕ) → (check_of bytes).refusal ≡ 11 → Twin (lines_of bytes) (check_of bytes).line
check_twin bytes e =
    by_cases (dec_lt 65536 (length bytes)) (λ l. absurd (omega (arith, e, ap (λ (c : CheckReply). c.refusal) (long_check bytes l))))
    (λ d.
    let s = short_check bytes (omega arith) in
    subst (λ (c : CheckReply). Twin (lines_of bytes) c.line) (sym s)
    (twin_at 0 [] (lines_of bytes) (reached_start (lines_of bytes)) (sym (ap (λ (c : CheckReply). c.refusal) s) ∙ e)))

-- The promise of the check.
pub check_promise : {bytes : List ℕ} {reply : CheckReply} → reply ≡ check_of bytes → CheckPromise bytes reply
check_promise {bytes} e =
    record {
      equals = e;
      meaning = subst (λ (r : CheckReply). Accepts bytes r.refusal) (sym e) (check_accepts bytes);
      twin = subst (λ (r : CheckReply). r.refusal ≡ 11 → Twin (lines_of bytes) r.line) (sym e) (check_twin bytes);
    }

pub check_long : {bytes : List ℕ} → 65536 < length bytes → CheckPromise bytes (refused_at 1 0)
check_long {bytes} l = check_promise (sym (long_check bytes l))
