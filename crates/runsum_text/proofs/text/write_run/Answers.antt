-- `text::write_run` has room for its line: `variety_of` gives an accepted run's variety.
use mathlib.Core.Path.{ap}
use Prim.Native.Nat.{ℕ}
use native.Mathlib.Omega.{arith}
use lib.ListN.{length, length-append}
use Rattle.decimals.specs.Digits.{digits_of}
use Rattle.fields.specs.Line.{fields_line}
use Rattle.runsum_text.proofs.text.write_run.Goals as goal

pub write-requires : goal.write-requires
unfolding fields_line
write-requires c =
    let variety = ap (λ (v : ℕ). length (digits_of v)) c.variety_of-variety.ensures in
    let room = c.requires.run_in_bounds in
    simp length-append (omega (arith, simp length-append at room, variety))
