-- The part of a line, by the place at its index among those of the lines. The bytes there are that line, since the lines
-- before it take up what comes before.
use mathlib.Core.Path.{◌≡◌, refl, sym, ap, ap₂, ◌∙◌, subst}
use mathlib.Core.List.{List, [], ◌∷◌, ◌++◌, map, append_assoc}
use Prim.Native.Nat.{ℕ, zero, suc, ◌+◌, ◌-◌, ◌≤◌, ◌<◌}
use mathlib.Core.Logic.{by_cases}
use native.Mathlib.Decide.{ℕ_discrete}
use native.Mathlib.Omega.{arith}
use lib.ListN.{length, take, drop, length-append, length-drop}
use lib.Seq.{take-append_seam, drop_at, length-take-le}
use borrow.Author.Tests.{eq-eqb, ne_eqb}
use mathlib.Core.Bool.{Bool, true, true≢false}
use Rattle.std.specs.Prelude.{Result, Ok, Err}
use Rattle.std.specs.Result.{is_err}
use Rattle.archive.specs.declared.LineRefusal.{LineRefusal}
use Rattle.refusals.proofs.Replies.{number_suc}
use Rattle.runs.specs.declared.Run.{Run}
use Rattle.lines.specs.Line.{line_of}
use Rattle.archive_line.specs.declared.Part.{Part}
use Rattle.archive.specs.Archive.{prepend, lines_of, archive_of, IsArchive, numbered}
use Rattle.archive.specs.Check.{CheckReply, plain_check, check_of, CheckPromise}
use Rattle.archive_line.specs.Line.{line_at, part_from, part_of, LinePromise, PartPromise}
use Rattle.std.specs.Prelude.{Option, Some, None}
use Rattle.std.specs.Option.{option_map}
use Rattle.std.specs.List.{slice_get}
use Rattle.std.specs.Iterator.{YieldsFirst, SkipsThenYields}
use Rattle.std.proofs.lemmas.Option.{none-some, same_Some}
use Rattle.std.proofs.lemmas.Iterator.Consumers.{nth_from_yields_List, YieldsList-from_first}
use Rattle.archive.specs.declared.parts.Place.{Place}
use Rattle.archive.specs.declared.parts.Places.{Places}
use Rattle.archive.specs.Parts.{places_from, places_left}
use Rattle.archive.proofs.Splitting.{joined, line_ends, line_goes_on, lines_joined, lines_archive}
use Rattle.archive.proofs.Checking.{check_accepts, line_reads}
use Rattle.lines.specs.ReadLine.{run_in, read_of}
use Rattle.lines.proofs.Reading.{accepted_run_lem}

abbrev pub part : ℕ → ℕ → Part
part start length = record { start = start; length = length }

abbrev place : ℕ → ℕ → Place
place start end = record { start = start; end = end }

abbrev left_of : Places → List Place
left_of s = places_left s.bytes.now s.at

-- The line sought is the next one, or not.
part_from_here : (n k start : ℕ) (line : List ℕ) (lines : List (List ℕ)) → k ≡ n →
    part_from n k start (line ∷ lines) ≡ record { start = start; length = length line }
unfolding part_from
part_from_here n k start line lines e = rw (eq-eqb k n e, part_from)

part_from_next : (n k start : ℕ) (line : List ℕ) (lines : List (List ℕ)) → (k ≡ n → ⊥) →
    part_from n k start (line ∷ lines) ≡ part_from n (suc k) (start + length line) lines
unfolding part_from
part_from_next n k start line lines d = rw (ne_eqb k n d, part_from)

-- The part of the place at index j of the lines' places: that of the line with this index.
abbrev pub part_of_place : Option Place → Part
part_of_place (Some p) = part p.start (p.end - p.start)
part_of_place None = part 0 0

part_at : (j k start : ℕ) (lines : List (List ℕ)) → part_of_place (slice_get (places_from start lines) j) ≡ part_from (k + j) k start lines
part_at j k start [] = unfold part_from in refl
part_at zero k start (line ∷ lines) =
    ap (part start) (omega arith) ∙ sym (part_from_here (k + 0) k start line lines (omega arith))
part_at (suc j) k start (line ∷ lines) =
    let same : suc k + j ≡ k + suc j = omega arith in
    part_at j (suc k) (start + length line) lines
    ∙ ap (λ (n : ℕ). part_from n (suc k) (start + length line) lines) same
    ∙ sym (part_from_next (k + suc j) k start line lines (λ q. omega arith))

-- no line is without bytes
AllSome : List (List ℕ) → Type 0
AllSome [] = Unit {0}
AllSome (line ∷ lines) = (0 < length line) × AllSome lines

prepend_some : (b : ℕ) (lines : List (List ℕ)) → AllSome lines → AllSome (prepend b lines)
unfolding AllSome
prepend_some b [] a = (omega arith, tt)
prepend_some b (line ∷ lines) a = (omega arith, a.1)

lines_some : (bytes : List ℕ) → AllSome (lines_of bytes)
unfolding AllSome lines_of
lines_some [] = tt
lines_some (b ∷ bytes) =
    let rest = lines_some bytes in
    by_cases (ℕ_discrete b 10) (λ e. subst AllSome (sym (line_ends bytes e)) (omega arith, rest))
    (λ d. subst AllSome (sym (line_goes_on bytes d)) (prepend_some b (lines_of bytes) rest))

place_some : (j start : ℕ) (lines : List (List ℕ)) (p : Place) → AllSome lines → slice_get (places_from start lines) j ≡ Some p → p.start < p.end
unfolding AllSome
place_some j start [] p a e = absurd (none-some p e)
place_some zero start (line ∷ lines) p a e = subst (λ (q : Place). q.start < q.end) (same_Some _ _ e) (omega (arith, a.0))
place_some (suc j) start (line ∷ lines) p a e = place_some j (start + length line) lines p a.1 e

-- What the iterator gives behind those that it passes over.
module _ {bytes : List ℕ} {s : Places} (e : s.bytes.now ≡ bytes) (z : s.at ≡ 0) (number : ℕ) {before : ℕ} (n : (1 ≤ number) × (before ≡ number - 1)) (r : Option Place)
    (u : Places) (ran : SkipsThenYields (YieldsFirst left_of) s before r u) where
  given : r ≡ slice_get (places_from 0 (lines_of bytes)) before
  given =
      same r
      ∙ nth_from_yields_List r u before ran (YieldsList-from_first (λ x. x) left_of (places_from 0 (lines_of bytes)) (ap₂ places_left e z))
    where
      same : (r : Option Place) → r ≡ option_map (λ x. x) r
      same (Some p) = refl
      same None = refl

  pub place_given : (part_of_place r ≡ part_from number 1 0 (lines_of bytes)) × ((p : Place) → r ≡ Some p → p.start < p.end)
  place_given =
      let count : 1 + before ≡ number = omega (arith, n) in (
        ap part_of_place given ∙ part_at before 1 0 (lines_of bytes) ∙ ap (λ (m : ℕ). part_from m 1 0 (lines_of bytes)) count,
        λ p q. place_some before 0 (lines_of bytes) p (lines_some bytes) (sym given ∙ q),
      )

-- What a part holds.
record Holds (bytes line : List ℕ) (part : Part) : Type 0 where
  inside : part.start + part.length ≤ length bytes
  is : take part.length (drop part.start bytes) ≡ line

part_empty : (bytes : List ℕ) → Holds bytes [] (record { start = 0; length = 0 })
part_empty bytes = record { inside = omega arith; is = refl }

-- a line before the next one is not found
part_from_past : (n k start : ℕ) (lines : List (List ℕ)) → n < k → part_from n k start lines ≡ record { start = 0; length = 0 }
part_from_past n k start [] l = unfold part_from in refl
part_from_past n k start (line ∷ lines) l =
    part_from_next n k start line lines (λ e. omega arith) ∙ part_from_past n (suc k) (start + length line) lines (omega arith)

part_from_holds : (j k start : ℕ) (lines : List (List ℕ)) (before : List ℕ) → start ≡ length before →
    Holds (before ++ joined lines) (numbered [] lines (suc j)) (part_from (k + j) k start lines)
unfolding joined numbered part_from
part_from_holds j k start [] before e = part_empty (before ++ [])
part_from_holds zero k start (line ∷ lines) before e =
    subst (Holds (before ++ (line ++ joined lines)) line) (sym (part_from_here (k + 0) k start line lines (omega arith)))
    (record {
      inside = simp length-append (omega arith);
      is = ap (take (length line)) (drop_at before (line ++ joined lines) start (sym e)) ∙ take-append_seam line (joined lines);
    })
part_from_holds (suc j) k start (line ∷ lines) before e =
    let same : k + suc j ≡ suc k + j = omega arith in
    let rest = part_from_holds j (suc k) (start + length line) lines (before ++ line) (simp length-append (omega arith)) in
    subst (Holds (before ++ (line ++ joined lines)) (numbered [] lines (suc j)))
    (sym (part_from_next (k + suc j) k start line lines (λ q. omega arith) ∙ ap (λ (n : ℕ). part_from n (suc k) (start + length line) lines) same))
    (subst (λ (bs : List ℕ). Holds bs (numbered [] lines (suc j)) (part_from (suc k + j) (suc k) (start + length line) lines))
    (append_assoc before line (joined lines)) rest)

-- The promises of the calls.
part_numbered : (bytes : List ℕ) (n : ℕ) → Holds bytes (numbered [] (lines_of bytes) n) (part_from n 1 0 (lines_of bytes))
part_numbered bytes zero =
    subst (Holds bytes (numbered [] (lines_of bytes) 0)) (sym (part_from_past 0 1 0 (lines_of bytes) (omega arith))) (unfold numbered in part_empty bytes)
part_numbered bytes (suc n) =
    let same : 1 + n ≡ suc n = omega arith in
    subst (λ (m : ℕ). Holds bytes (numbered [] (lines_of bytes) (suc n)) (part_from m 1 0 (lines_of bytes))) same
    (subst (λ (bs : List ℕ). Holds bs (numbered [] (lines_of bytes) (suc n)) (part_from (1 + n) 1 0 (lines_of bytes))) (lines_joined bytes)
    (part_from_holds n 1 0 (lines_of bytes) [] refl))

-- line n's own place, behind the lines before it
part_from_own : (k start : ℕ) (before : List Run) (run : Run) (after : List Run) →
    part_from (k + length before) k start (map line_of (before ++ (run ∷ after)))
    ≡ record { start = start + length (archive_of before); length = length (line_of run) }
unfolding archive_of
part_from_own k start [] run after =
    part_from_here (k + 0) k start (line_of run) (map line_of after) (omega arith)
    ∙ ap {B = Part} (λ (s : ℕ). record { start = s; length = length (line_of run) }) (omega arith)
part_from_own k start (first ∷ before) run after =
    let same : k + suc (length before) ≡ suc k + length before = omega arith in
    let next : start + length (line_of first) + length (archive_of before) ≡ start + length (line_of first ++ archive_of before) =
    simp length-append (omega arith) in
    part_from_next (k + suc (length before)) k start (line_of first) (map line_of (before ++ (run ∷ after))) (λ q. omega arith)
    ∙ ap (λ (n : ℕ). part_from n (suc k) (start + length (line_of first)) (map line_of (before ++ (run ∷ after)))) same
    ∙ part_from_own (suc k) (start + length (line_of first)) before run after
    ∙ ap {B = Part} (λ (s : ℕ). record { start = s; length = length (line_of run) }) next

part_own : (bytes : List ℕ) (n : ℕ) (before : List Run) (run : Run) (after : List Run) →
    IsArchive bytes (before ++ (run ∷ after)) → n ≡ suc (length before) →
    part_of bytes n ≡ record { start = length (archive_of before); length = length (line_of run) }
unfolding part_of
part_own bytes n before run after is e =
    let z = ((check_accepts bytes).others _ is).0 in
    let lines : lines_of bytes ≡ map line_of (before ++ (run ∷ after)) = ap lines_of is.lines ∙ lines_archive _ in
    let there : part_of bytes n ≡ part_from n 1 0 (lines_of bytes) = rw (z, part_of) in
    let number : n ≡ 1 + length before = omega (arith, e) in
    there ∙ ap (part_from n 1 0) lines
    ∙ ap (λ (m : ℕ). part_from m 1 0 (map line_of (before ++ (run ∷ after)))) number
    ∙ part_from_own 1 0 before run after
    ∙ ap {B = Part} (λ (s : ℕ). record { start = s; length = length (line_of run) }) (omega arith)

part_promise : (bytes : List ℕ) (n : ℕ) → PartPromise bytes n (part_of bytes n)
part_promise bytes n =
    record {
      equals = refl;
      inside = h.inside;
      meaning = h.is;
      own =
          λ before run after is e.
          let q = part_own bytes n before run after is e in
          (ap (λ (p : Part). p.start) q, ap (λ (p : Part). p.length) q);
    }
  where
    go : (r : ℕ) → (check_of bytes).refusal ≡ r → Holds bytes (line_at bytes n) (part_of bytes n)
    go zero e = unfold line_at part_of in rw (e, line_at, part_of) (part_numbered bytes n)
    go (suc r) e = unfold line_at part_of in rw (e, line_at, part_of) (part_empty bytes)

    h : Holds bytes (line_at bytes n) (part_of bytes n)
    h = go (check_of bytes).refusal refl

-- past the check, and where it refuses
pub part_found : {bytes : List ℕ} {n : ℕ} {part : Part} → (check_of bytes).refusal ≡ 0 → part ≡ part_from n 1 0 (lines_of bytes) →
    PartPromise bytes n part
part_found {bytes} {n} z e =
    let is : part_of bytes n ≡ part_from n 1 0 (lines_of bytes) = unfold part_of in rw (z, part_of) in
    subst (PartPromise bytes n) (is ∙ sym e) (part_promise bytes n)

-- there is no line 0
pub part_zero : (bytes : List ℕ) (n : ℕ) → (check_of bytes).refusal ≡ 0 → n < 1 → PartPromise bytes n (part 0 0)
part_zero bytes n z l = part_found z (sym (part_from_past n 1 0 (lines_of bytes) l))

pub part_refused : (bytes : List ℕ) (n : ℕ) (a : Result (Unit {0}) LineRefusal) {refused : Bool} → refused ≡ is_err a → refused ≡ true →
    CheckPromise bytes (plain_check a) → PartPromise bytes n (record { start = 0; length = 0 })
part_refused bytes n (Ok u) e t p = absurd (true≢false (sym t ∙ e))
part_refused bytes n (Err x) e t p = subst (PartPromise bytes n) is (part_promise bytes n)
  where
    check : (check_of bytes).refusal ≡ suc (number_suc x.refusal).0
    check = ap (λ (c : CheckReply). c.refusal) (sym p.equals) ∙ (number_suc x.refusal).1

    is : part_of bytes n ≡ record { start = 0; length = 0 }
    is = unfold part_of in rw (check, part_of)

-- the line itself, of an archive and of any other bytes
line_promise : {bytes part : List ℕ} (n : ℕ) → part ≡ line_at bytes n → LinePromise bytes n part
line_promise {bytes} {part} n e = record { equals = e; of_archive = of_archive; of_others = of_others }
  where
    of_archive : (runs : List Run) → IsArchive bytes runs → part ≡ numbered [] (map line_of runs) n
    of_archive runs is =
        let z = ((check_accepts bytes).others runs is).0 in
        let there : line_at bytes n ≡ numbered [] (lines_of bytes) n = unfold line_at in rw (z, line_at) in
        e ∙ there ∙ ap (λ (ls : List (List ℕ)). numbered [] ls n) (ap lines_of is.lines ∙ lines_archive runs)

    refused : ((runs : List Run) → IsArchive bytes runs → ⊥) → (r : ℕ) → (check_of bytes).refusal ≡ r → line_at bytes n ≡ []
    refused none zero q = absurd (none _ ((check_accepts bytes).archive q))
    refused none (suc r) q = unfold line_at in rw (q, line_at)

    of_others : ((runs : List Run) → IsArchive bytes runs → ⊥) → part ≡ []
    of_others none = e ∙ refused none (check_of bytes).refusal refl

-- The bytes of the part.
module _ {bytes : List ℕ} {n : ℕ} (part : Part) (p : PartPromise bytes n part) where
  part_is : take (part.start + part.length - part.start) (drop part.start bytes) ≡ line_at bytes n
  part_is =
      let size : part.start + part.length - part.start ≡ part.length = omega arith in
      ap (λ (k : ℕ). take k (drop part.start bytes)) size ∙ p.meaning

  pub line_of_part : LinePromise bytes n (take (part.start + part.length - part.start) (drop part.start bytes))
  line_of_part = line_promise n part_is

  -- the line is not there, or it is accepted and has this run
  pub part_none : part.length ≡ 0 → line_at bytes n ≡ []
  part_none e = sym p.meaning ∙ ap (λ (k : ℕ). take k (drop part.start bytes)) e

  module _ (z : (check_of bytes).refusal ≡ 0) (some : part.length ≡ 0 → ⊥) where
    at_accepted : (read_of (line_at bytes n)).refusal ≡ 0
    at_accepted =
        let there : line_at bytes n ≡ numbered [] (lines_of bytes) n = unfold line_at in rw (z, line_at) in
        let size : length (take part.length (drop part.start bytes)) ≡ part.length =
        length-take-le part.length (drop part.start bytes) (simp length-drop (omega (arith, p.inside))) in
        ap (λ (line : List ℕ). (read_of line).refusal) there
        ∙ line_reads bytes n z (omega (arith, some, size, ap length (p.meaning ∙ there)))

    pub part_accepted : (read_of (take (part.start + part.length - part.start) (drop part.start bytes))).refusal ≡ 0
    part_accepted = ap (λ (line : List ℕ). (read_of line).refusal) part_is ∙ at_accepted

    pub part_run : {run : Run} → run ≡ run_in (take (part.start + part.length - part.start) (drop part.start bytes)) →
        run ≡ (read_of (line_at bytes n)).run
    part_run e = e ∙ ap (λ (line : List ℕ). run_in line) part_is ∙ sym (accepted_run_lem (line_at bytes n) at_accepted)
