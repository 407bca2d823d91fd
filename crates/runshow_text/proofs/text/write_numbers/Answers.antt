-- `text::write_numbers` meets its contract, by what each turn of the loop adds.
use Rattle.fields.proofs.Codec.{front_start, front_room, front_next, front_end}
use Rattle.runshow_text.proofs.Writing.{next_number, no_number_left}
use Rattle.runshow_text.proofs.text.write_numbers.Goals as goal

pub loop-number-init : goal.loop-number-init
loop-number-init c = front_start _ _

pub write_field-at-requires : goal.write_field-at-requires
write_field-at-requires c = front_room c.loop-number.invariant (next_number _ _ c.loop-number-test.true) c.requires

pub loop-number-preserved : goal.loop-number-preserved
loop-number-preserved c =
    front_next c.loop-number.invariant (next_number _ _ c.loop-number-test.true) c.write_field-at.ensures c.write_field-at.auto.buf

pub returns : goal.returns
returns c = front_end c.loop-number.invariant (no_number_left _ c.loop-number-test.false)
