-- `vectors_io::calls::fix_at` is proved: no float of a reply is a NaN, so that both have bits of their own.
use Rattle.fixes.proofs.Promises.{numbers}
use Rattle.vectors_io.proofs.calls.fix_at.Goals as goal

pub float_to_bits-result : goal.float_to_bits-result
float_to_bits-result c = rw c.from-r.ensures (numbers c.fix_at.ensures).0

pub float_to_bits-result-2 : goal.float_to_bits-result-2
float_to_bits-result-2 c = rw c.from-r.ensures (numbers c.fix_at.ensures).1
