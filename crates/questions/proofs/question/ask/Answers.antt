-- `question::ask` meets its contract: the bytes are all, or too many for a question.
use Rattle.questions.proofs.Asking.{ask_read}
use Rattle.questions.proofs.question.ask.Goals as goal

pub returns : goal.returns
returns g c =
    ask_read _ _ c.read_array.result c.read_array.ensures c.in_ok-bytes.ensures c.args.input.full c.requires.numbers_in_bounds
