-- The question is the one field of standard input, and an archive that is too long is refused whatever is asked.
use mathlib.Core.Path.{◌≡◌, ap}
use mathlib.Core.List.{List}
use Prim.Native.Nat.{ℕ, ◌≤◌}
use native.Mathlib.Omega.{arith}
use lib.ListN.{length}
use Rattle.std.proofs.Common.{None, Some, Err, ◌≢◌}
use Rattle.lookup.specs.declared.LookupReply.{LookupReply}
use Rattle.lookup.proofs.EarliestLocation.{lookup_long}
use Rattle.notices.specs.declared.notice.Notice.TheVariants.{Refused}
use Rattle.archive_io.specs.Source.{holds}
use Rattle.runfind_answer.specs.Decision.{outcome_of, outcome_for}

pub number_some : {v : ℕ} → Some v ≢ None
number_some e = let z : ◌≡◌ {A = ℕ} 0 1 = cc in omega arith

pub too_long : (v : ℕ) (bytes : List ℕ) → 65537 ≤ length bytes → outcome_for (Some v) (holds bytes) ≡ Err (Refused 1 0)
too_long v bytes l = ap (λ (p : LookupReply). outcome_of p) (lookup_long bytes v l)
