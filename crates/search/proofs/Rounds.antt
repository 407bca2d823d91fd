-- What the loops of this crate hold: for every sequence and number with which their locals can have begun, the search as
-- `sequences` has it. What is true of the locals whatever they began with stands beside it: `differs` is α of `away`, `period` is
-- a power of two modulo 2 ^ 64, and the counters stay below the limit. One law stands for each way through a body.
--   loop_start, loop_stays, loop_doubles, loop_stops, loop_done   the search for a number
--   turn_start, turn_stays, turn_doubles, turn_done               the search for the first element, where nothing is away
use Rattle.std.proofs.Common.{◌≡◌, ℕ, suc, ◌+◌, ◌*◌, ◌%◌, ◌^◌, ◌<◌, ◌≤◌, Bool, true, false, cond, eqb, refl, ◌∙◌, le_antisymm, add-one, arith, eqb-true}
use borrow.Author.Tests.{eqb-false}
use Rattle.words.specs.Alpha.{Alpha}
use Rattle.words.proofs.Places.{alpha_power}
use Rattle.words.proofs.Congruence.{same_regroup, same_result, same_add}
use Rattle.sequences.specs.Places.{Settles}
use Rattle.sequences.specs.Search.{Begins}
use Rattle.sequences.proofs.Searches.{
  Searching,
  search_start,
  search_stays,
  search_stops,
  search_doubles,
  search_ahead,
  search_done,
  search_index,
}
use Rattle.search.specs.Settling.{Settling, Doubling}

-- The search for a number.
pub record Loop (limit away₀ drift₀ factor₀ away drift factor differs k period m : ℕ) : Type 0 where
  pub exponent : ℕ
  pub within : m ≤ limit
  pub exponent_within : exponent ≤ m
  pub alpha : Alpha away differs
  pub power : period ≡ 2 ^ exponent % 2 ^ 64
  pub law : (n : ℕ) (x : ℕ → ℕ) (y : ℕ) → Begins n x y limit away₀ drift₀ factor₀ →
      Searching n x y limit away drift factor k exponent m

pub loop_start : {away differs : ℕ} (limit drift factor : ℕ) → Alpha away differs →
    Loop limit away drift factor away drift factor differs 0 1 0
loop_start limit drift factor β =
    record {
      exponent = 0;
      within = omega arith;
      exponent_within = omega arith;
      alpha = β;
      power = refl;
      law = λ n x y b. search_start b;
    }

-- twice a period, modulo 2 ^ 64
power_twice : (e : ℕ) {period twice : ℕ} → period ≡ 2 ^ e % 2 ^ 64 → twice ≡ (period + period) % 2 ^ 64 →
    twice ≡ 2 ^ suc e % 2 ^ 64
power_twice e h q = let s = same_result (2 ^ e) h in q ∙ (same_regroup (same_add s s) refl (omega arith)).same

module _ {limit away₀ drift₀ factor₀ away drift factor differs k period m : ℕ}
    (loop : Loop limit away₀ drift₀ factor₀ away drift factor differs k period m) where
  -- what was settled, with the exponent read off the period
  settling : {e : ℕ} → Alpha period e →
      ((n : ℕ) (x : ℕ → ℕ) (y : ℕ) → Begins n x y limit away₀ drift₀ factor₀ →
      Settles x y limit m k loop.exponent) →
      Settling away₀ drift₀ factor₀ limit (record { places = m; index = k; exponent = e })
  settling {e = e} α s =
      record {
        settles =
            λ n x y b.
            let read : e ≡ loop.exponent =
            alpha_power loop.exponent (omega (arith, loop.exponent_within, loop.within, b.within, b.word))
            loop.power α in
            rw read (s n x y b);
      }

  pub loop_done : {e : ℕ} → limit ≤ m → Alpha period e →
      Settling away₀ drift₀ factor₀ limit (record { places = limit; index = k; exponent = e })
  loop_done l α =
      let q : m ≡ limit = le_antisymm loop.within l in
      rw q at (settling α (λ n x y b. search_done b (loop.law n x y b) l))

  module _ {returning : ℕ} (l : m < limit) (α : Alpha drift returning) where
    -- the period stays, and the number differs
    pub loop_stops : {e : ℕ} → (returning ≡ m → ⊥) → differs ≡ m → Alpha period e →
        Settling away₀ drift₀ factor₀ limit (record { places = m; index = k; exponent = e })
    loop_stops r d β = settling β (λ n x y b. search_stops b (loop.law n x y b) l α loop.alpha r d)

    -- it stays, and the number agrees
    pub loop_stays : (returning ≡ m → ⊥) → (differs ≡ m → ⊥) →
        Loop limit away₀ drift₀ factor₀ away drift factor differs k period (m + 1)
    loop_stays r d =
        record {
          exponent = loop.exponent;
          within = omega (arith, loop.within);
          exponent_within = omega (arith, loop.within);
          alpha = loop.alpha;
          power = loop.power;
          law = λ n x y b. search_stays b (loop.law n x y b) l α loop.alpha r d;
        }

    -- it doubles, and what goes on is chosen by whether the number differs
    module _ {product beyond square wide twice : ℕ} (r : returning ≡ m)
        (ep : product ≡ factor * away % 2 ^ 64) (β : Alpha ((product + drift) % 2 ^ 64) beyond)
        (es : square ≡ factor * factor % 2 ^ 64) (ew : wide ≡ (factor + 1) % 2 ^ 64 * drift % 2 ^ 64)
        (et : twice ≡ (period + period) % 2 ^ 64) where
      abbrev moved : ℕ
      moved = (product + drift) % 2 ^ 64

      abbrev ahead : ℕ
      ahead = (k + period) % 2 ^ 64

      either : (test : Bool) → eqb differs m ≡ test →
          Loop limit away₀ drift₀ factor₀ (cond test moved away) wide square (cond test beyond differs) (cond test ahead k)
          twice (m + 1)
      either true q =
          record {
            exponent = loop.exponent + 1;
            within = omega (arith, loop.within);
            exponent_within = omega (arith, loop.exponent_within);
            alpha = β;
            power = rw add-one (power_twice loop.exponent loop.power et);
            law =
                λ n x y b.
                let s = loop.law n x y b in
                rw (search_index b s l (same_result (2 ^ loop.exponent) loop.power) refl)
                (search_ahead b s l α loop.alpha refl ew es r ep refl (eqb-true _ _ q));
          }
      either false q =
          record {
            exponent = loop.exponent + 1;
            within = omega (arith, loop.within);
            exponent_within = omega (arith, loop.exponent_within);
            alpha = loop.alpha;
            power = rw add-one (power_twice loop.exponent loop.power et);
            law =
                λ n x y b.
                search_doubles b (loop.law n x y b) l α loop.alpha refl ew es r (eqb-false _ _ q);
          }

      pub loop_doubles : {differs' k' away' : ℕ} → differs' ≡ cond (eqb differs m) beyond differs →
          k' ≡ cond (eqb differs m) ahead k → away' ≡ cond (eqb differs m) moved away →
          Loop limit away₀ drift₀ factor₀ away' wide square differs' k' twice (m + 1)
      loop_doubles ed ek ew' = rw (ed, ek, ew') (either (eqb differs m) refl)

-- The search for the first element.
pub record Turn (limit drift₀ factor₀ drift factor e m : ℕ) : Type 0 where
  pub within : m ≤ limit
  pub exponent_within : e ≤ m
  pub law : (n : ℕ) (x : ℕ → ℕ) → Begins n x (x 0) limit 0 drift₀ factor₀ →
      Searching n x (x 0) limit 0 drift factor 0 e m

pub turn_start : (limit drift factor : ℕ) → Turn limit drift factor drift factor 0 0
turn_start limit drift factor =
    record { within = omega arith; exponent_within = omega arith; law = λ n x b. search_start b }

-- α of nothing, at no place of the word
alpha_zero : Alpha 0 64
alpha_zero = record { multiple = refl; exact = λ f. absurd (f refl); at_zero = λ q. refl; small = omega arith }

module _ {limit drift₀ factor₀ drift factor e m : ℕ} (turn : Turn limit drift₀ factor₀ drift factor e m) where
  pub turn_done : limit ≤ m → Doubling drift₀ factor₀ limit e
  turn_done l =
      let q : m ≡ limit = le_antisymm turn.within l in
      record { settles = λ n x b. rw q at (search_done b (turn.law n x b) l) }

  module _ {returning : ℕ} (l : m < limit) (α : Alpha drift returning) where
    inside : {n : ℕ} {x : ℕ → ℕ} {y away₀ : ℕ} → Begins n x y limit away₀ drift₀ factor₀ → 64 ≡ m → ⊥
    inside b q = omega (arith, b.within, b.word)

    pub turn_stays : (returning ≡ m → ⊥) → Turn limit drift₀ factor₀ drift factor e (m + 1)
    turn_stays r =
        record {
          within = omega arith;
          exponent_within = omega arith;
          law = λ n x b. search_stays b (turn.law n x b) l α alpha_zero r (inside b);
        }

    pub turn_doubles : {square wide : ℕ} → square ≡ factor * factor % 2 ^ 64 →
        wide ≡ (factor + 1) % 2 ^ 64 * drift % 2 ^ 64 → returning ≡ m → Turn limit drift₀ factor₀ wide square (e + 1) (m + 1)
    turn_doubles es ew r =
        record {
          within = omega arith;
          exponent_within = omega arith;
          law = λ n x b. search_doubles b (turn.law n x b) l α alpha_zero refl ew es r (inside b);
        }
