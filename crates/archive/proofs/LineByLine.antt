-- The check's loop: a walk over the lines whose state is the lines before. The chains hold these lines, so each line that is
-- read is told as equal to one of them, or passes.
use mathlib.Core.Path.{◌≡◌, refl, sym, ap, ap₂, ◌∙◌, subst}
use mathlib.Core.Logic.{◌⊎◌, ⊎_elim}
use mathlib.Core.Bool.{Bool, true, false}
use mathlib.Core.List.{List, [], ◌∷◌}
use Prim.Native.Nat.{ℕ, ◌+◌, ◌-◌, ◌≤◌, ◌<◌}
use native.Mathlib.Omega.{arith}
use lib.ListN.{length, take, drop}
use Rattle.std.specs.Prelude.{Ok, Err}
use Rattle.refusals.specs.declared.Refusal.{Refusal}
use Rattle.refusals.specs.declared.Refusal.TheVariants.{DuplicateLine}
use Rattle.refusals.specs.Refusals.{number_of}
use Rattle.refusals.proofs.Replies.{number_suc}
use Rattle.runs.specs.declared.Run.{Run}
use Rattle.lines.specs.declared.RunReply.{RunReply}
use Rattle.lines.specs.ReadLine.{ReadPromise, accepted_run, refused_run, read_of}
use Rattle.archive.specs.declared.LineRefusal.{LineRefusal}
use Rattle.archive.specs.Check.{refused_at, plain_check, line_refusal, first_refused, CheckPromise}
use Rattle.std.specs.declared.iter.Zip.{Zip}
use Rattle.std.specs.declared.ops.RangeFrom.{RangeFrom}
use Rattle.archive.specs.declared.parts.Place.{Place}
use Rattle.archive.specs.declared.parts.Places.{Places}
use Rattle.archive.specs.Parts.{first_part, places_left}
use Rattle.archive.proofs.Splitting.{part_within}
use Rattle.archive.proofs.Walking.{place_next, places_end}
use Rattle.archive.specs.Chained.{Chained, SeenLine}
use Rattle.archive.proofs.Folding.{Fold, fold_start, fold_line, fold_next, fold_end}
use Rattle.archive.proofs.Checking.{line_unread, line_read, first_next, first_here, short_check}
use Rattle.archive.proofs.TwinRefusal.{check_promise}

-- the lines before, with which the walk goes on, are those in the chains
pub record Passed (bytes : List ℕ) (left : List Place) (k : ℕ) (head next : List ℕ) : Type 0 where
  pub at : ℕ
  pub within : at ≤ length bytes
  pub rest : left ≡ places_left bytes at
  pub before : List (List ℕ)
  pub walk : Fold first_refused [] bytes at k before
  pub chained : Chained bytes at head next before

pub passed_start : {bytes head next : List ℕ} {it zip : Zip Places (RangeFrom ℕ)} {places : Places} → Chained bytes 0 head next [] →
    it ≡ zip → zip.a ≡ places → zip.b ≡ record { start = 1 } → places.bytes.now ≡ bytes → places.at ≡ 0 →
    Passed bytes (places_left it.a.bytes.now it.a.at) it.b.start head next
passed_start {bytes} {head} {next} {it} c i a b p z =
    subst (λ (s : (List ℕ × ℕ) × ℕ). Passed bytes (places_left s.0.0 s.0.1) s.1 head next) (sym begins)
    (record { at = 0; within = omega arith; rest = refl; before = []; walk = fold_start; chained = c })
  where
    begins : ◌≡◌ {A = (List ℕ × ℕ) × ℕ} ((it.a.bytes.now, it.a.at), it.b.start) ((bytes, 0), 1)
    begins =
        ap {B = (List ℕ × ℕ) × ℕ} (λ (z : Zip Places (RangeFrom ℕ)). ((z.a.bytes.now, z.a.at), z.b.start)) i
        ∙ ap₂ {C = (List ℕ × ℕ) × ℕ} (λ (x : Places) (y : RangeFrom ℕ). ((x.bytes.now, x.at), y.start)) a b
        ∙ ap₂ {C = (List ℕ × ℕ) × ℕ} (λ (bs : List ℕ) (n : ℕ). ((bs, n), 1)) p z

-- the line at the next place
pub record Reached (bytes : List ℕ) (place : Place) (others : List Place) (k : ℕ) (head next : List ℕ) : Type 0 where
  pub some : place.start < length bytes
  pub ends : place.end ≡ place.start + length (first_part (drop place.start bytes))
  pub left : others ≡ places_left bytes place.end
  pub before : List (List ℕ)
  pub walk : Fold first_refused [] bytes place.start k before
  pub chained : Chained bytes place.start head next before

pub reached : {bytes head next : List ℕ} {left others : List Place} {place : Place} {k line : ℕ} →
    Passed bytes left k head next → left ≡ place ∷ others → line ≡ k → Reached bytes place others line head next
reached {bytes} {head} {next} {others = others} {place = place} {k = k} p e n =
    let q = place_next bytes (sym p.rest ∙ e) in
    record {
      some = subst (λ (i : ℕ). i < length bytes) (sym q.starts) q.some;
      ends = subst (λ (i : ℕ). place.end ≡ i + length (first_part (drop i bytes))) (sym q.starts) q.ends;
      left = q.left;
      before = p.before;
      walk = subst (λ (j : ℕ). Fold first_refused [] bytes place.start j p.before) (sym n)
          (subst (λ (i : ℕ). Fold first_refused [] bytes i k p.before) (sym q.starts) p.walk);
      chained = subst (λ (i : ℕ). Chained bytes i head next p.before) (sym q.starts) p.chained;
    }

module _ {bytes : List ℕ} {place : Place} {others : List Place} {k : ℕ} {head next : List ℕ} (p : Reached bytes place others k head next) where
  -- it is a part of the bytes
  pub reached_within : (place.start ≤ place.end) × (place.end ≤ length bytes)
  reached_within = part_within bytes p.some p.ends

  -- the line is refused with this number
  declined : (x : Refusal) → line_refusal p.before (take (place.end - place.start) (drop place.start bytes)) ≡ number_of x → length bytes ≤ 65536 →
      CheckPromise bytes (plain_check (Err (record { refusal = x; line = k })))
  declined x n short =
      check_promise
      (sym
      (short_check bytes short ∙ fold_line p.walk p.some p.ends
      ∙ first_here k p.before _ _ (λ z. omega (arith, (number_suc x).1, n, z))
      ∙ ap (λ (m : ℕ). refused_at m k) n))

  pub passed_refused : (x : LineRefusal) →
      ReadPromise (take (place.end - place.start) (drop place.start bytes)) (refused_run (number_of x.refusal)) × (x.line ≡ k) →
      length bytes ≤ 65536 → CheckPromise bytes (plain_check (Err x))
  passed_refused x r short =
      let j = number_suc x.refusal in
      subst (λ (n : ℕ). CheckPromise bytes (refused_at (number_of x.refusal) n)) (sym r.1)
      (declined x.refusal (line_unread p.before _ (sym (ap (λ (q : RunReply). q.refusal) r.0.equals) ∙ j.1) ∙ sym j.1) short)

  -- it is read, and told as one of those before or not
  module _ {head' next' : List ℕ} {run : Run} {seen : Bool}
      (r : ReadPromise (take (place.end - place.start) (drop place.start bytes)) (accepted_run run))
      (told : SeenLine bytes place.start place.end head next head' next' seen) where
    read : (read_of (take (place.end - place.start) (drop place.start bytes))).refusal ≡ 0
    read = sym (ap (λ (q : RunReply). q.refusal) r.equals)

    pub passed_twin : seen ≡ true → length bytes ≤ 65536 → CheckPromise bytes (plain_check (Err (record { refusal = DuplicateLine; line = k })))
    passed_twin t = declined DuplicateLine (line_read p.before _ read (sym (told.law p.before p.chained).0 ∙ t))

    pub passed_next : {k' : ℕ} → k' ≡ k + 1 → seen ≡ false → Passed bytes others k' head' next'
    passed_next {k'} q f =
        let s = told.law p.before p.chained in
        let line = take (place.end - place.start) (drop place.start bytes) in
        let walk =
        fold_next p.walk p.some p.ends (line ∷ p.before)
        (λ lines. first_next k p.before line lines (line_read p.before line read (sym s.0 ∙ f))) in
        record {
          at = place.end;
          within = reached_within.1;
          rest = p.left;
          before = line ∷ p.before;
          walk = subst (λ (j : ℕ). Fold first_refused [] bytes place.end j (line ∷ p.before)) (sym q) walk;
          chained = s.1;
        }

-- the iterator ends where no line is left: the numbers go on
pub passed_end : {bytes head next : List ℕ} (it : Zip Places (RangeFrom ℕ)) →
    Passed bytes (places_left it.a.bytes.now it.a.at) it.b.start head next →
    ((x : Places) × ((places_left it.a.bytes.now it.a.at ≡ []) × (places_left x.bytes.now x.at ≡ [])))
    ⊎ ((x : RangeFrom ℕ) × ((18446744073709551615 - it.b.start ≡ 0) × (x ≡ it.b))) →
    length bytes ≤ 65536 → CheckPromise bytes (plain_check (Ok tt))
passed_end {bytes} it p h short =
    ⊎_elim
    (λ q. check_promise (sym (short_check bytes short ∙ fold_end p.walk (places_end bytes (sym p.rest ∙ q.1.0)) ∙ unfold first_refused in refl)))
    (λ q. absurd (omega (arith, q.1.0, p.walk.few, p.within, short))) h
