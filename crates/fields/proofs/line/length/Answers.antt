-- `line::length` meets its contract: the sum over the fields is the length of their line.
use Rattle.std.proofs.Common.{rules, ◌≡◌, ◌+◌, length, ◌∙◌}
use Rattle.std.specs.List.{sum_by}
use Rattle.decimals.specs.Digits.{digits_of}
use Rattle.fields.proofs.Codec.{line_sum}
use Rattle.fields.proofs.line.length.Goals as goal

pub returns : goal.returns
returns c =
    let e : c.sum.result ≡ sum_by (λ v. length (digits_of v) + 1) c.args.numbers.now = search rules in
    e ∙ line_sum c.args.numbers.now
