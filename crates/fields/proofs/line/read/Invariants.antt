-- `line::read` meets its contract: the loop's invariant is `ReadSoFar`, and each way out is one law.
use Rattle.fields.proofs.Codec.{ReadSoFar}
use Rattle.fields.proofs.line.read.Given as goal

abbrev pub invariant-loop-k : goal.invariant-loop-k
invariant-loop-k l = ReadSoFar l.bytes l.initial.numbers l.numbers l.at l.k
