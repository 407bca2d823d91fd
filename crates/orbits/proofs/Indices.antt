-- The promise of the index call: the definition finds the least index, which is below the modulus, or the bound, where there
-- is none.
use Rattle.std.specs.Prelude.{Some, None, Ok, Err}
use Rattle.std.proofs.Common.{◌≡◌, ℕ, refl, le_refl, arith, le-ltb, lt-ltb}
use Rattle.sequences.specs.Index.{Located, Absent}
use Rattle.sequences.proofs.IndexOf.{located_is, located_least, absent_is, absent_least}
use Rattle.generator.specs.declared.Generator.{Generator}
use Rattle.refusals.specs.declared.Refusal.{Refusal}
use Rattle.generator.specs.Recurrence.{modulus, element}
use Rattle.refusals.specs.Refusals.{number_of}
use Rattle.generator.specs.Check.{refusal_of}
use Rattle.refusals.proofs.Replies.{number_suc, number_nonzero}
use Rattle.sequences.specs.declared.Indices.{Indices}
use Rattle.sequences.specs.declared.Indices.TheVariants.{Once, Every, Never}
use Rattle.sequences.specs.Occurrences.{IndicesAre, least_of}
use Rattle.orbits.specs.Index.{plain_index, IndexPromise}
use Rattle.orbits.proofs.Primes.{prime_range, prime_occurs}
use Rattle.generator.proofs.Refusals.{accepted_kind}

-- The promise of the call.
pub index_refused : (g : Generator) (y : ℕ) (r : Refusal) → number_of r ≡ refusal_of g → IndexPromise g y (plain_index (Err r))
index_refused g y r e =
    record {
      equals = let k = number_suc r in rw (← e, k.1);
      meaning = λ z. absurd (number_nonzero r z);
      prime = λ z. absurd (number_nonzero r z);
    }

pub index_found : (g : Generator) (y : ℕ) {k : ℕ} → refusal_of g ≡ 0 → Located (element g) y (modulus g) k →
    IndexPromise g y (plain_index (Ok (Some k)))
index_found g y {k} z h =
    record {
      equals = rw (z, located_is h, lt-ltb k (modulus g) h.below);
      meaning = λ q. located_least h;
      prime = λ q w. (λ f. prime_range (accepted_kind g w z) k h.yields, λ r. refl);
    }

pub index_never : (g : Generator) (y : ℕ) → refusal_of g ≡ 0 → Absent (element g) y → IndexPromise g y (plain_index (Ok None))
index_never g y z h =
    record {
      equals = rw (z, absent_is h (modulus g), le-ltb (modulus g) (modulus g) (le_refl _));
      meaning = λ q. absent_least h;
      prime =
          λ q w. (λ f. absurd (omega arith), λ r. let o = prime_occurs (accepted_kind g w z) y r in absurd (h.none o.0 o.1));
    }

-- the least of all indices is the answer, whichever they are
pub index_given : (g : Generator) (y : ℕ) (r : Indices) → refusal_of g ≡ 0 → IndicesAre (element g) y (modulus g) r →
    IndexPromise g y (plain_index (Ok (least_of r)))
index_given g y (Once k) z h = index_found g y z h.located
index_given g y (Every k last) z h = index_found g y z h.located
index_given g y Never z h = index_never g y z h
