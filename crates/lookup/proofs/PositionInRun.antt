-- The search in one run is the index search from its first element on: the least position is the least index, if that is below the
-- count, and otherwise no position shows the number.
use mathlib.Core.Path.{◌≡◌, sym, ◌∙◌, subst}
use mathlib.Core.Bool.{Bool, true, false}
use mathlib.Core.Logic.{by_cases}
use Prim.Native.Nat.{ℕ, ◌<◌, min}
use native.Mathlib.Nat.{le_refl, le_of_lt}
use native.Mathlib.Decide.{dec_lt}
use native.Mathlib.Omega.{arith}
use lib.Dec.{ltb}
use borrow.Author.Tests.{eq-eqb, ne_eqb, ltb-true, ltb-false}
use Rattle.std.specs.Prelude.{Option, None, SomeIff, MatchOption}
use Rattle.std.specs.Bool.{then_some}
use Rattle.sequences.specs.declared.Indices.{Indices}
use Rattle.sequences.specs.declared.Indices.TheVariants.{Once, Every, Never}
use Rattle.sequences.specs.Occurrences.{IndicesAre, least_of}
use Rattle.sequences.specs.Index.{Located, Absent}
use Rattle.sequences.proofs.Least.{least_unique}
use Rattle.generator.specs.declared.Generator.{Generator}
use Rattle.generator.specs.Recurrence.{element}
use Rattle.runs.specs.declared.Run.{Run}
use Rattle.runs.specs.Run.{shows, FromFirst}
use Rattle.lookup.specs.Lookup.{position_of}

-- none of the positions shows y
unshown : (run : Run) {y : ℕ} → ((p : ℕ) → p < run.count → shows run p ≡ y → ⊥) → run.count ≡ position_of run y
unfolding position_of
unshown run {y} d =
    sym
    (least_unique
    (record {
      within = le_refl run.count;
      holds = λ h. absurd (omega arith);
      first = λ j h. ne_eqb (shows run j) y (d j h);
    }))

module _ (run : Run) {start : Generator} (is : FromFirst run start) {y : ℕ} where
  pub position_none : Absent (element start) y → run.count ≡ position_of run y
  position_none a = unshown run (λ p l q. a.none p (is.yields p ∙ q))

  pub position_least : {p bound : ℕ} → Located (element start) y bound p → min p run.count ≡ position_of run y
  unfolding position_of
  position_least {p} h = by_cases (dec_lt p run.count) found past
    where
      found : p < run.count → min p run.count ≡ position_of run y
      found l =
          (let e : min p run.count ≡ p = omega arith in e)
          ∙ sym
          (least_unique
          (record {
            within = le_of_lt l;
            holds = λ k. eq-eqb (shows run p) y (sym (is.yields p) ∙ h.yields);
            first = λ j k. ne_eqb (shows run j) y (λ q. omega (arith, h.first j (is.yields j ∙ q)));
          }))

      past : (p < run.count → ⊥) → min p run.count ≡ position_of run y
      past d =
          (let e : min p run.count ≡ run.count = omega (arith, d) in e)
          ∙ unshown run (λ j l q. omega (arith, d, h.first j (is.yields j ∙ q)))

-- the least index, kept where it is a position of the run
module _ (run : Run) {start : Generator} (is : FromFirst run start) (y bound : ℕ) (r : Option ℕ) where
  abbrev Kept : Option ℕ → Type 0
  Kept o = SomeIff o (position_of run y < run.count) (position_of run y)

  kept_at : (p : ℕ) → Located (element start) y bound p → (b : Bool) → b ≡ ltb p run.count → r ≡ then_some b p → Kept r
  kept_at p h true q k =
      let at = position_least run is h in
      let l = ltb-true _ _ (sym q) in
      subst Kept (sym k) (omega (arith, at, l), omega (arith, at, l))
  kept_at p h false q k =
      let at = position_least run is h in
      let l = ltb-false _ _ (sym q) in
      subst Kept (sym k) (λ h. omega (arith, at, l, h))

  pub position_kept : (found : Indices) → IndicesAre (element start) y bound found → {l : Option ℕ} → l ≡ least_of found →
      {Is : ℕ → Bool → Type 0} → ((x : ℕ) (b : Bool) → Is x b → b ≡ ltb x run.count) →
      MatchOption l (r ≡ None) (λ x. (b : Bool) × Is x b × (r ≡ then_some b x)) → Kept r
  position_kept found are {l} e {Is} tests f = go found are (subst (λ (m : Option ℕ). MatchOption m (r ≡ None) (λ x. (b : Bool) × Is x b × (r ≡ then_some b x))) e f)
    where
      go : (found : Indices) → IndicesAre (element start) y bound found →
          MatchOption (least_of found) (r ≡ None) (λ x. (b : Bool) × Is x b × (r ≡ then_some b x)) → Kept r
      go (Once p) a f = kept_at p a.located f.0 (tests p f.0 f.1) f.2
      go (Every p last) a f = kept_at p a.located f.0 (tests p f.0 f.1) f.2
      go Never a f = subst Kept (sym f) (λ h. omega (arith, position_none run is a, h))
