-- The indices of a generator at which the lowest m places of the element are a given number, when no more of it is legible
-- (document 02, note 3; SCOPE 3.8). An index agrees if they are.
use Rattle.std.specs.Prelude.{◌≡◌, Result, Ok, Err, cond, ◌||◌, ◌↔◌, ℕ, zero, suc, ◌%◌, ◌^◌, ◌≤◌, eqb, ltb}
use Rattle.sequences.specs.Index.{index_of}
use Rattle.sequences.specs.Orbit.{return_less_one, IsOrbit, exponent_of}
use Rattle.sequences.specs.Occurrences.{low, AllIndices}
use Rattle.generator.specs.declared.Generator.{Generator}
use Rattle.generator.specs.Recurrence.{modulus, element}
use Rattle.refusals.specs.declared.Refusal.{Refusal}
use Rattle.refusals.specs.Refusals.{number_of, or_else}
use Rattle.generator.specs.Check.{refusal_of}
use Rattle.orbits.specs.declared.IndexReply.{IndexReply}
use Rattle.low_places.specs.declared.PlacesAnswer.{PlacesAnswer}
use Rattle.low_places.specs.declared.PlacesAnswer.TheVariants as answer
use Rattle.low_places.specs.declared.PlacesReply.{PlacesReply}
use Rattle.orbits.specs.Index.{IndexPromise}

-- 9: no places, or more than the width has; at width 0 every number of them.
unfoldable pub range_refusal : Generator → ℕ → ℕ
range_refusal g m = cond (eqb m 0 || ltb g.width m) 9 0

-- 3 and 4, and after them 9.
unfoldable pub places_refusal : Generator → ℕ → ℕ
places_refusal g m = or_else (refusal_of g) (range_refusal g m)

-- In plain numbers: the only index that agrees; the least index that agrees, where those every 2 ^ e further do too; never;
-- a refusal.
abbrev pub once_reply : ℕ → PlacesReply
once_reply k = record { refusal = 0; found = 1; index = k; recurs = 0; exponent = 0 }

abbrev pub every_reply : ℕ → ℕ → PlacesReply
every_reply k e = record { refusal = 0; found = 1; index = k; recurs = 1; exponent = e }

abbrev pub never_reply : PlacesReply
never_reply = record { refusal = 0; found = 0; index = 0; recurs = 0; exponent = 0 }

abbrev pub refused_reply : ℕ → PlacesReply
refused_reply n = record { refusal = n; found = 0; index = 0; recurs = 0; exponent = 0 }

-- The reply for a refusal's number, 0 for none; an index below the bound, or the bound itself, which stands for never; and the
-- number of indices between it and the least later one, below the bound, or the bound itself, which stands for no later one.
abbrev pub places_reply : ℕ → ℕ → ℕ → ℕ → PlacesReply
places_reply zero bound k between =
    cond (ltb k bound) (cond (ltb between bound) (every_reply k (exponent_of (suc between))) (once_reply k)) never_reply
places_reply (suc n) bound k between = refused_reply (suc n)

-- What an answer says.
abbrev pub plain_places : Result PlacesAnswer Refusal → PlacesReply
plain_places (Ok (answer.Once k)) = once_reply k
plain_places (Ok (answer.Every k e)) = every_reply k e
plain_places (Ok answer.Never) = never_reply
plain_places (Err r) = refused_reply (number_of r)

-- How an index that was found goes on, by the preperiod and the period of the low places: it recurs exactly from the preperiod
-- on, and then every period. With an odd multiplier it always recurs; with an even one, where it recurs, at every further
-- index. The exponent is at most m.
pub record GoesOn (g : Generator) (m : ℕ) (reply : PlacesReply) : Type 0 where
  pub preperiod : ℕ
  pub period : ℕ
  pub orbit : IsOrbit (low m (element g)) preperiod period
  pub recurring : (reply.recurs ≡ 1) ↔ (preperiod ≤ reply.index)
  pub every : reply.recurs ≡ 1 → 2 ^ reply.exponent ≡ period
  pub odd : g.multiplier % 2 ≡ 1 → reply.recurs ≡ 1
  pub even : g.multiplier % 2 ≡ 0 → reply.exponent ≡ 0
  pub within : reply.exponent ≤ m

-- The promise of the call. The reply is that of the definitions: the least index that agrees, and the least later one that
-- does, which is the first return of the low places there. An accepted reply gives all indices that agree, however large; and
-- where one was found, how it goes on.
pub record PlacesPromise (g : Generator) (m y : ℕ) (reply : PlacesReply) : Type 0 where
  pub equals :
      let x = low m (element g) in
      let k = index_of x (modulus g) y in
      reply ≡ places_reply (places_refusal g m) (modulus g) k (return_less_one x (modulus g) k)
  pub meaning :
      reply.refusal ≡ 0 →
      AllIndices (low m (element g)) y reply.found reply.index reply.recurs (2 ^ reply.exponent)
  pub goes_on : reply.found ≡ 1 → GoesOn g m reply

-- The index call is the case of all n places, at every width from 1 on: whatever the two calls reply, the refusal, found and the
-- index are the same. `index_is_places` in proofs/ is the proof.
abbrev pub index_part : PlacesReply → IndexReply
index_part reply = record { refusal = reply.refusal; found = reply.found; index = reply.index }

abbrev pub IndexIsPlaces : Type 0
IndexIsPlaces =
    (g : Generator) (y : ℕ) (reply : IndexReply) (all : PlacesReply) → 1 ≤ g.width → IndexPromise g y reply →
    PlacesPromise g g.width y all → reply ≡ index_part all
