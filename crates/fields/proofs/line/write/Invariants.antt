-- `line::write` meets its contract: the loop's invariant is `FrontSoFar`.
use Rattle.std.proofs.Common.{drop}
use Rattle.fields.specs.Line.{fields_line}
use Rattle.fields.proofs.Codec.{FrontSoFar}
use Rattle.fields.proofs.line.write.Given as goal

abbrev pub invariant-loop-k : goal.invariant-loop-k
invariant-loop-k l = FrontSoFar (fields_line l.numbers) (fields_line (drop l.k l.numbers)) l.initial.buf l.buf l.written
