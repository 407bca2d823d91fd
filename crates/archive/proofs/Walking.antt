-- What the iterators over places and over runs have left: the first of them, and those of the bytes behind its line. And a
-- walk over the runs.
use mathlib.Core.Path.{◌≡◌, refl, sym, ap, ap₂, subst, ◌∙◌}
use mathlib.Core.List.{List, [], ◌∷◌, map}
use Prim.Native.Nat.{ℕ, ◌+◌, ◌-◌, ◌≤◌, ◌<◌}
use mathlib.Core.Logic.{◌⊎◌, ⊎_elim, by_cases}
use native.Mathlib.Decide.{ℕ_discrete, dec_lt}
use native.Mathlib.Omega.{arith}
use lib.ListN.{length, get_or, take, drop, length-drop, drop_of_length-le}
use lib.Seq.{length-take-le}
use Rattle.std.specs.declared.iter.Zip.{Zip}
use Rattle.std.specs.declared.ops.RangeFrom.{RangeFrom}
use Rattle.runs.specs.declared.Run.{Run}
use Rattle.lines.specs.ReadLine.{read_of, run_in}
use Rattle.runs.specs.Run.{run_refusal}
use Rattle.lines.proofs.Reading.{accepted_line}
use Rattle.archive.specs.declared.parts.Place.{Place}
use Rattle.archive.specs.declared.parts.NextRun.{NextRun}
use Rattle.archive.specs.declared.parts.Runs.{Runs}
use Rattle.archive.specs.Archive.{prepend, lines_of, runs_in, AllAccepted}
use Rattle.archive.specs.Check.{check_of}
use Rattle.archive.specs.Parts.{first_part, places_from, places_left, AllRead, LineRun}
use Rattle.archive.proofs.Splitting.{line_ends, line_goes_on, lines_first, lines_read, part_within}
use Rattle.archive.proofs.Checking.{first_unread, first_read, check_lines}
use Rattle.archive.proofs.Runs.{run_line}

-- Places.
abbrev place : ℕ → ℕ → Place
place start end = record { start = start; end = end }

module _ (bytes : List ℕ) {at end : ℕ} (l : at < length bytes) (e : end ≡ at + length (first_part (drop at bytes))) where
  place_ends : at + length (take (end - at) (drop at bytes)) ≡ end
  place_ends =
      let size = length-take-le (end - at) (drop at bytes) (simp length-drop (omega (arith, part_within bytes l e))) in
      omega (arith, size, part_within bytes l e)

  pub place_first : places_left bytes at ≡ record { start = at; end = end } ∷ places_left bytes end
  place_first =
      ap (places_from at) (lines_read bytes l e)
      ∙ ap (λ (n : ℕ). place at n ∷ places_from n (lines_of (drop end bytes))) place_ends

pub place_none : (bytes : List ℕ) {at : ℕ} → length bytes ≤ at → places_left bytes at ≡ []
place_none bytes {at} l = ap (λ (bs : List ℕ). places_from at (lines_of bs)) (drop_of_length-le bytes l) ∙ unfold lines_of in refl

-- the next of the places, and those behind it
pub record NextPlace (bytes : List ℕ) (at : ℕ) (next : Place) (others : List Place) : Type 0 where
  pub some : at < length bytes
  pub starts : next.start ≡ at
  pub ends : next.end ≡ at + length (first_part (drop at bytes))
  pub left : others ≡ places_left bytes next.end

pub place_next : (bytes : List ℕ) {at : ℕ} {next : Place} {left : List Place} → places_left bytes at ≡ next ∷ left → NextPlace bytes at next left
place_next bytes {at} {next} {left} e =
    by_cases (dec_lt at (length bytes)) (λ l. found l (sym e ∙ place_first bytes l refl))
    (λ d. absurd (omega (arith, ap length (sym e ∙ place_none bytes (let l : length bytes ≤ at = omega arith in l)))))
  where
    end : ℕ
    end = at + length (first_part (drop at bytes))

    found : at < length bytes → next ∷ left ≡ place at end ∷ places_left bytes end → NextPlace bytes at next left
    found l q =
        let is : next ≡ place at end = ap (λ (ps : List Place). get_or ps 0 next) q in
        record {
          some = l;
          starts = ap (λ (p : Place). p.start) is;
          ends = ap (λ (p : Place). p.end) is;
          left = ap (drop 1) q ∙ ap (λ (p : Place). places_left bytes p.end) (sym is);
        }

pub places_end : (bytes : List ℕ) {at : ℕ} → places_left bytes at ≡ [] → length bytes ≤ at
places_end bytes {at} e =
    by_cases (dec_lt at (length bytes)) (λ l. absurd (omega (arith, ap length (sym e ∙ place_first bytes l refl)))) (λ d. omega arith)

-- Runs.
none_unread_all : (k : ℕ) (lines : List (List ℕ)) → (first_unread k lines).refusal ≡ 0 → AllRead lines
none_unread_all k [] e = tt
none_unread_all k (line ∷ lines) e = let f = first_read k line lines e in (f.0, none_unread_all _ lines f.1)

pub all_read : (bytes : List ℕ) → (check_of bytes).refusal ≡ 0 → AllRead (lines_of bytes)
all_read bytes z = none_unread_all 1 (lines_of bytes) (check_lines bytes z).1

pub runs_none : (bytes : List ℕ) → length bytes ≡ 0 → runs_in bytes ≡ []
runs_none [] e = unfold lines_of in refl
runs_none (b ∷ bytes) e = absurd (omega arith)

pub first_reads : (bytes : List ℕ) → 0 < length bytes → AllRead (lines_of bytes) → (read_of (first_part bytes)).refusal ≡ 0
first_reads bytes l a = (subst AllRead (lines_first bytes l) a).0

module _ (bytes : List ℕ) {next : NextRun} (l : 0 < length bytes) (r : LineRun bytes 0 next) where
  pub runs_first : runs_in bytes ≡ next.run ∷ runs_in (drop next.end bytes)
  runs_first =
      ap (map run_in) (lines_read bytes l r.ends) ∙ ap (λ (run : Run). run ∷ runs_in (drop next.end bytes)) (run_line l r)

  pub rest_reads : AllRead (lines_of bytes) → AllRead (lines_of (drop next.end bytes))
  rest_reads a = (subst AllRead (lines_read bytes l r.ends) a).1

prepend_one : (b : ℕ) (lines : List (List ℕ)) → length (prepend b lines) ≤ length lines + 1
prepend_one b [] = omega arith
prepend_one b (line ∷ lines) = omega arith

-- how many lines and runs there are
lines_few : (bytes : List ℕ) → length (lines_of bytes) ≤ length bytes
lines_few [] = unfold lines_of in omega arith
lines_few (b ∷ bytes) =
    by_cases (ℕ_discrete b 10) (λ e. omega (arith, lines_few bytes, ap length (line_ends bytes e)))
    (λ d. omega (arith, lines_few bytes, ap length (line_goes_on bytes d), prepend_one b (lines_of bytes)))

runs_many : (lines : List (List ℕ)) → length (map run_in lines) ≡ length lines
runs_many [] = refl
runs_many (line ∷ lines) = omega (arith, runs_many lines)

runs_few : (bytes : List ℕ) → (check_of bytes).refusal ≡ 0 → length (runs_in bytes) ≤ 65536
runs_few bytes z = omega (arith, runs_many (lines_of bytes), lines_few bytes, (check_lines bytes z).0)

-- the runs of lines that are read are accepted
all_accepted : (lines : List (List ℕ)) → AllRead lines → AllAccepted (map run_in lines)
all_accepted [] a = tt
all_accepted (line ∷ lines) a = ((accepted_line line a.0).0, all_accepted lines a.1)

-- A walk over the runs with their lines' numbers. What is computed of them, with a state, is the same of the runs left, from
-- the number and the state that the walk has come to: f over all runs, from line 1 and the first state on, is f over those of
-- the rest, from line k and state s on.
pub record RunsLeft {S R : Type 0} (f : ℕ → S → List Run → R) (first : S) (bytes rest : List ℕ) (k : ℕ) (s : S) : Type 0 where
  pub left : f 1 first (runs_in bytes) ≡ f k s (runs_in rest)
  pub few : k + length (runs_in rest) ≤ 65537

module _ {S R : Type 0} {f : ℕ → S → List Run → R} {first : S} {bytes : List ℕ} where
  pub runs_start : {it zip : Zip Runs (RangeFrom ℕ)} {runs : Runs} → (check_of bytes).refusal ≡ 0 → it ≡ zip → zip.a ≡ runs →
      zip.b ≡ record { start = 1 } → runs.rest.now ≡ bytes →
      AllRead (lines_of it.a.rest.now) × RunsLeft f first bytes it.a.rest.now it.b.start first × (it.b.start ≡ 1)
  runs_start {it} z i a b r =
      subst (λ (p : List ℕ × ℕ). AllRead (lines_of p.0) × RunsLeft f first bytes p.0 p.1 first × (p.1 ≡ 1)) (sym begins)
      (all_read bytes z, record { left = refl; few = omega (arith, runs_few bytes z) }, refl)
    where
      begins : ◌≡◌ {A = List ℕ × ℕ} (it.a.rest.now, it.b.start) (bytes, 1)
      begins =
          ap {B = List ℕ × ℕ} (λ (z : Zip Runs (RangeFrom ℕ)). (z.a.rest.now, z.b.start)) i
          ∙ ap₂ {C = List ℕ × ℕ} (λ (x : Runs) (y : RangeFrom ℕ). (x.rest.now, y.start)) a b
          ∙ ap {B = List ℕ × ℕ} (λ (bs : List ℕ). (bs, 1)) r

  module _ {rest : List ℕ} {k : ℕ} {s : S} (w : RunsLeft f first bytes rest k s) where
    -- the next run
    module _ {run : Run} {runs : List Run} {line : ℕ} (e : runs_in rest ≡ run ∷ runs) (n : line ≡ k) where
      pub runs_left : f 1 first (runs_in bytes) ≡ f line s (run ∷ runs)
      runs_left = w.left ∙ ap (f k s) e ∙ ap (λ (j : ℕ). f j s (run ∷ runs)) (sym n)

      pub runs_next : {rest' : List ℕ} {k' : ℕ} (t : S) → runs ≡ runs_in rest' → k' ≡ line + 1 → f line s (run ∷ runs) ≡ f (line + 1) t runs →
          RunsLeft f first bytes rest' k' t
      runs_next {rest'} t r q step =
          record {
            left = runs_left ∙ step ∙ ap (f (line + 1) t) r ∙ ap (λ (j : ℕ). f j t (runs_in rest')) (sym q);
            few = omega (arith, w.few, ap length e, ap length r, n, q);
          }

  -- the iterator ends where no run is left: the numbers go on
  pub runs_end : (it : Zip Runs (RangeFrom ℕ)) {s : S} → RunsLeft f first bytes it.a.rest.now it.b.start s →
      ((x : Runs) × ((runs_in it.a.rest.now ≡ []) × (runs_in x.rest.now ≡ [])))
      ⊎ ((x : RangeFrom ℕ) × ((18446744073709551615 - it.b.start ≡ 0) × (x ≡ it.b))) →
      f 1 first (runs_in bytes) ≡ f it.b.start s []
  runs_end it {s} w h = ⊎_elim (λ p. w.left ∙ ap (f it.b.start s) p.1.0) (λ q. absurd (omega (arith, w.few, q.1.0))) h

pub first_accepted : (rest : List ℕ) {run : Run} {runs : List Run} → AllRead (lines_of rest) → runs_in rest ≡ run ∷ runs → run_refusal run ≡ 0
first_accepted rest a e = (subst AllAccepted e (all_accepted (lines_of rest) a)).0
