-- There is a question, if it is one.
use mathlib.Core.Path.{◌≡◌}
use Prim.Native.Nat.{ℕ}
use native.Mathlib.Omega.{arith}
use Rattle.std.proofs.Common.{None, Some, ◌≢◌}
use Rattle.runshow_answer.specs.declared.decision.Question.{Question}

pub question_some : {q : Question} → Some q ≢ None
question_some e = let z : ◌≡◌ {A = ℕ} 0 1 = cc in omega arith
