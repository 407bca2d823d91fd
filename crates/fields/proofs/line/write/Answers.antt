-- `line::write` meets its contract: the loop's invariant is `FrontSoFar`.
use Rattle.fields.proofs.Codec.{front_start, front_room, front_next, front_end, next_field, no_field_left}
use Rattle.fields.proofs.line.write.Goals as goal

pub loop-k-init : goal.loop-k-init
loop-k-init c = front_start _ _

pub write_field-written-requires : goal.write_field-written-requires
write_field-written-requires c =
    front_room c.loop-k.invariant (next_field _ _ c.loop-k-test.true c.delimiter_before-delimiter.ensures)
    c.requires

pub loop-k-preserved : goal.loop-k-preserved
loop-k-preserved c =
    front_next c.loop-k.invariant (next_field _ _ c.loop-k-test.true c.delimiter_before-delimiter.ensures)
    c.write_field-written.ensures c.write_field-written.auto.buf

pub returns : goal.returns
returns c = front_end c.loop-k.invariant (no_field_left _ c.loop-k-test.false)
