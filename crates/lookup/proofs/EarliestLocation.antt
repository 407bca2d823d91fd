-- The lookup's definition meets demand 3: by induction over the runs, the location it gives shows the number and every other
-- location that shows it comes later, or no location shows it. So an answer that equals the definition keeps the promise.
use mathlib.Core.Path.{◌≡◌, refl, sym, ap, ◌∙◌, subst}
use mathlib.Core.Logic.{◌⊎◌, inl, inr, ⊎_elim, by_cases}
use mathlib.Core.List.{List, [], ◌∷◌}
use Prim.Native.Nat.{ℕ, zero, suc, ◌+◌, ◌≤◌, ◌<◌}
use native.Mathlib.Decide.{dec_lt}
use native.Mathlib.Omega.{arith}
use lib.Dec.{eqb}
use lib.ListN.{length}
use borrow.Author.Tests.{eq-eqb, eqb-true}
use Rattle.std.specs.Prelude.{Result, Err}
use Rattle.archive.specs.declared.LineRefusal.{LineRefusal}
use Rattle.sequences.proofs.Least.{Least, least_least, least_below}
use Rattle.refusals.proofs.Replies.{number_suc}
use Rattle.runs.specs.declared.Run.{Run}
use Rattle.runs.specs.Run.{shows}
use Rattle.archive.specs.Archive.{runs_in, numbered}
use Rattle.archive.specs.Check.{CheckReply, refused_at, plain_check, check_of, Accepts, CheckPromise}
use Rattle.lookup.specs.declared.LookupReply.{LookupReply}
use Rattle.lookup.specs.Lookup.{
  position_of,
  found_at,
  found_none,
  lookup_refused,
  plain_lookup,
  first_showing,
  lookup_of,
  Shows,
  Later,
  EarliestLocation,
  LookupPromise,
}
use Rattle.archive.proofs.Checking.{long_check, check_accepts, check_as}
use Rattle.lookup.proofs.Walk.{lookup_next, lookup_here}

-- Locations.

no_line_zero : {runs : List Run} {p y : ℕ} → Shows runs 0 p y → ⊥
no_line_zero h = absurd (unfold numbered in omega (arith, h.position))

no_run_shows : (line : ℕ) {p y : ℕ} → Shows [] line p y → ⊥
no_run_shows zero h = no_line_zero h
no_run_shows (suc line) h = absurd (unfold numbered in omega (arith, h.position))

-- a location in the first run, and of the others
first_shows : {run : Run} {runs : List Run} {p y : ℕ} → Shows (run ∷ runs) 1 p y → (p < run.count) × (shows run p ≡ y)
unfolding numbered
first_shows h = (h.position, h.value)

shows_first : {run : Run} {runs : List Run} {p y : ℕ} → p < run.count → shows run p ≡ y → Shows (run ∷ runs) 1 p y
unfolding numbered
shows_first l e = record { position = l; value = e }

other_shows : {run : Run} {runs : List Run} (line : ℕ) {p y : ℕ} → Shows (run ∷ runs) (suc (suc line)) p y → Shows runs (suc line) p y
unfolding numbered
other_shows line h = record { position = h.position; value = h.value }

shows_other : {run : Run} {runs : List Run} (line : ℕ) {p y : ℕ} → Shows runs (suc line) p y → Shows (run ∷ runs) (suc (suc line)) p y
unfolding numbered
shows_other line h = record { position = h.position; value = h.value }

-- The position in one run.
position_least : (run : Run) (y : ℕ) → Least (λ p. eqb (shows run p) y) run.count (position_of run y)
unfolding position_of
position_least run y = least_least (λ p. eqb (shows run p) y) run.count

position_shows : (run : Run) (y : ℕ) → position_of run y < run.count → shows run (position_of run y) ≡ y
position_shows run y l = eqb-true _ _ ((position_least run y).holds l)

position_first : (run : Run) {y p : ℕ} → shows run p ≡ y → position_of run y ≤ p
position_first run {y} {p} e = least_below (position_least run y) p (eq-eqb (shows run p) y e)

-- The location found, its line counted from k, or none.
record Some (k : ℕ) (runs : List Run) (y : ℕ) : Type 0 where
  line : ℕ
  position : ℕ
  reply : first_showing (suc k) runs y ≡ found_at (k + suc line) position
  here : Shows runs (suc line) position y
  later : (l p : ℕ) → Shows runs l p y → ((l ≡ suc line) × (p ≡ position) → ⊥) → Later l p (suc line) position

record None (k : ℕ) (runs : List Run) (y : ℕ) : Type 0 where
  reply : first_showing (suc k) runs y ≡ found_none
  nowhere : (l p : ℕ) → Shows runs l p y → ⊥

-- the first run shows y
some_first : (k : ℕ) (run : Run) (runs : List Run) (y : ℕ) → position_of run y < run.count → Some k (run ∷ runs) y
some_first k run runs y l =
    record {
      line = 0;
      position = position_of run y;
      reply = lookup_here (suc k) run runs y l ∙ ap (λ (n : ℕ). found_at n (position_of run y)) (omega arith);
      here = shows_first l (position_shows run y l);
      later = later;
    }
  where
    later : (l p : ℕ) → Shows (run ∷ runs) l p y → ((l ≡ 1) × (p ≡ position_of run y) → ⊥) → Later l p 1 (position_of run y)
    later zero p h d = absurd (no_line_zero h)
    later (suc zero) p h d =
        let other : p ≡ position_of run y → ⊥ = λ e. d (refl, e) in
        inr (refl, omega (arith, position_first run (first_shows h).1))
    later (suc (suc l)) p h d = inl (omega arith)

-- it does not, and the others do or do not
not_first : {run : Run} {runs : List Run} {p y : ℕ} → run.count ≤ position_of run y → Shows (run ∷ runs) 1 p y → ⊥
not_first {run} l h = omega (arith, (first_shows h).0, position_first run (first_shows h).1)

some_other : (k : ℕ) (run : Run) (runs : List Run) (y : ℕ) → run.count ≤ position_of run y → Some (suc k) runs y → Some k (run ∷ runs) y
some_other k run runs y e o =
    record {
      line = suc o.line;
      position = o.position;
      reply =
          lookup_next (suc k) run runs y e ∙ o.reply
          ∙ ap (λ (n : ℕ). found_at n o.position) (let q : suc k + suc o.line ≡ k + suc (suc o.line) = omega arith in q);
      here = shows_other o.line o.here;
      later = later;
    }
  where
    later : (l p : ℕ) → Shows (run ∷ runs) l p y → ((l ≡ suc (suc o.line)) × (p ≡ o.position) → ⊥) →
        Later l p (suc (suc o.line)) o.position
    later zero p h d = absurd (no_line_zero h)
    later (suc zero) p h d = absurd (not_first e h)
    later (suc (suc l)) p h d =
        ⊎_elim (λ b. inl (omega arith)) (λ b. inr (ap suc b.0, b.1))
        (o.later (suc l) p (other_shows l h) (λ q. d (ap suc q.0, q.1)))

none_other : (k : ℕ) (run : Run) (runs : List Run) (y : ℕ) → run.count ≤ position_of run y → None (suc k) runs y → None k (run ∷ runs) y
none_other k run runs y e o =
    record { reply = lookup_next (suc k) run runs y e ∙ o.reply; nowhere = nowhere }
  where
    nowhere : (l p : ℕ) → Shows (run ∷ runs) l p y → ⊥
    nowhere zero p h = no_line_zero h
    nowhere (suc zero) p h = not_first e h
    nowhere (suc (suc l)) p h = o.nowhere (suc l) p (other_shows l h)

outcome : (k : ℕ) (runs : List Run) (y : ℕ) → Some k runs y ⊎ None k runs y
outcome k [] y = inr (record { reply = unfold first_showing in refl; nowhere = λ l p. no_run_shows l })
outcome k (run ∷ runs) y =
    let rest = outcome (suc k) runs y in
    by_cases (dec_lt (position_of run y) run.count) (λ l. inl (some_first k run runs y l))
    (λ d.
    let e : run.count ≤ position_of run y = omega arith in
    ⊎_elim (λ o. inl (some_other k run runs y e o)) (λ o. inr (none_other k run runs y e o)) rest)

-- Demand 3.
lookup_demand : (runs : List Run) (y : ℕ) → EarliestLocation runs y (first_showing 1 runs y)
lookup_demand runs y = ⊎_elim some none (outcome 0 runs y)
  where
    some : Some 0 runs y → EarliestLocation runs y (first_showing 1 runs y)
    some o =
        let e : 0 + suc o.line ≡ suc o.line = omega arith in
        rw (o.reply, e)
        (record {
          answer = inl refl;
          location_shows = λ f. o.here;
          others_later = λ f. o.later;
          none = (λ f. absurd (omega arith), λ nowhere. absurd (nowhere (suc o.line) o.position o.here));
        })

    none : None 0 runs y → EarliestLocation runs y (first_showing 1 runs y)
    none o =
        rw o.reply
        (record {
          answer = inr refl;
          location_shows = λ f. absurd (omega arith);
          others_later = λ f. absurd (omega arith);
          none = (λ f. o.nowhere, λ nowhere. refl);
        })

-- The promise of the call.

-- a lookup is refused as the check is, and only so
showing_accepted : (k : ℕ) (runs : List Run) (y : ℕ) → (first_showing k runs y).refusal ≡ 0
unfolding first_showing
showing_accepted k [] y = refl
showing_accepted k (run ∷ runs) y =
    let rest = showing_accepted (suc k) runs y in
    by_cases (dec_lt (position_of run y) run.count)
    (λ l. ap (λ (r : LookupReply). r.refusal) (lookup_here k run runs y l))
    (λ d.
    let e : run.count ≤ position_of run y = omega arith in
    ap (λ (r : LookupReply). r.refusal) (lookup_next k run runs y e) ∙ rest)

lookup_accepted : (bytes : List ℕ) (y : ℕ) → (check_of bytes).refusal ≡ 0 → lookup_of bytes y ≡ first_showing 1 (runs_in bytes) y
unfolding lookup_of
lookup_accepted bytes y z = rw (z, lookup_of)

lookup_declined : (bytes : List ℕ) (y : ℕ) {n line : ℕ} → check_of bytes ≡ refused_at (suc n) line → lookup_of bytes y ≡ lookup_refused (suc n) line
unfolding lookup_of
lookup_declined bytes y {n} e =
    let number = ap (λ (c : CheckReply). c.refusal) e in
    rw (number, lookup_of) (ap (lookup_refused (suc n)) (ap (λ (c : CheckReply). c.line) e))

-- more than 65,536 bytes, whatever they are
pub lookup_long : (bytes : List ℕ) (y : ℕ) → 65536 < length bytes → lookup_of bytes y ≡ lookup_refused 1 0
lookup_long bytes y l = lookup_declined bytes y (long_check bytes l)

same_refusal : (bytes : List ℕ) (y : ℕ) → (lookup_of bytes y).refusal ≡ (check_of bytes).refusal
unfolding lookup_of
same_refusal bytes y = go (check_of bytes).refusal refl
  where
    go : (n : ℕ) → (check_of bytes).refusal ≡ n → (lookup_of bytes y).refusal ≡ (check_of bytes).refusal
    go zero e = rw (e, lookup_of) (showing_accepted 1 (runs_in bytes) y)
    go (suc n) e = rw (e, lookup_of)

lookup_meaning : (bytes : List ℕ) (y : ℕ) → LookupPromise bytes y (lookup_of bytes y)
lookup_meaning bytes y =
    record {
      equals = refl;
      accepts = subst (Accepts bytes) (sym (same_refusal bytes y)) (check_accepts bytes);
      meaning = λ z.
          subst (EarliestLocation (runs_in bytes) y) (sym (lookup_accepted bytes y (sym (same_refusal bytes y) ∙ z))) (lookup_demand (runs_in bytes) y);
    }

lookup_promise : {bytes : List ℕ} {y : ℕ} {reply : LookupReply} → reply ≡ lookup_of bytes y → LookupPromise bytes y reply
lookup_promise {bytes} {y} e = subst (LookupPromise bytes y) (sym e) (lookup_meaning bytes y)

-- past the check, and where it refuses
pub lookup_found : {bytes : List ℕ} {y : ℕ} {reply : LookupReply} → (check_of bytes).refusal ≡ 0 →
    reply ≡ first_showing 1 (runs_in bytes) y → LookupPromise bytes y reply
lookup_found {bytes} {y} z e = lookup_promise (e ∙ sym (lookup_accepted bytes y z))

pub lookup_refused_lem : {bytes : List ℕ} (y : ℕ) {a : Result (Unit {0}) LineRefusal} (x : LineRefusal) → a ≡ Err x →
    CheckPromise bytes (plain_check a) → LookupPromise bytes y (plain_lookup (Err x))
lookup_refused_lem {bytes} y x e p =
    let k = (number_suc x.refusal).1 in
    lookup_promise
    (ap (λ (n : ℕ). lookup_refused n x.line) k
    ∙ sym (lookup_declined bytes y (sym (check_as (Err x) e p) ∙ ap (λ (n : ℕ). refused_at n x.line) k)))
