-- What is printed, by the summary's reply: the text, for which the buffer has room, or the refusal. So is it for all that the
-- file may hold, since an archive of more than 65,536 bytes is refused whatever follows.
use mathlib.Core.Path.{◌≡◌, refl, sym, ap, ◌∙◌, subst}
use mathlib.Core.List.{List}
use Prim.Native.Nat.{ℕ, suc, ◌≤◌}
use native.Mathlib.Omega.{arith}
use lib.ListN.{length}
use Rattle.fields.specs.Codec.{FrontWritten}
use Rattle.refusals.specs.Refusals.{number_of}
use Rattle.refusals.proofs.Replies.{number_suc}
use Rattle.std.proofs.Common.{Result, Ok, Err}
use Rattle.archive.specs.declared.LineRefusal.{LineRefusal}
use Rattle.summary.specs.declared.totals.Totals.{Totals}
use Rattle.summary.specs.declared.SummaryReply.{SummaryReply}
use Rattle.archive.specs.Archive.{runs_in}
use Rattle.archive.specs.Check.{check_of}
use Rattle.summary.specs.Summary.{total_of, summary_given, summary_refused, plain_summary, summary_of, SummaryPromise}
use Rattle.archive.proofs.Checking.{check_lines}
use Rattle.summary.proofs.Summaries.{summary_long, summary_sums}
use Rattle.archive_io.specs.declared.input.Rest.{Rest}
use Rattle.archive_io.specs.declared.input.Rest.TheVariants.{Failed}
use Rattle.std.proofs.Common.{◌≢◌}
use Rattle.notices.specs.declared.notice.Notice.TheVariants.{Refused, Unread}
use Rattle.notices.specs.Notice.{notice_line}
use Rattle.archive_io.specs.Input.{Enough}
use Rattle.archive_io.specs.Decision.{Decided}
use Rattle.archive_io.proofs.Deciding.{source_some, decided_read, decided_unread}
use Rattle.fields.proofs.FrontWriting.{front_within}
use Rattle.runsum_text.specs.Text.{summary_text}
use Rattle.runsum_io.specs.Output.{output_of, output_for, OutputPromise}
use Rattle.runsum_text.proofs.Lengths.{text_short}

-- By the reply.
output_text : (bytes : List ℕ) → (summary_of bytes).refusal ≡ 0 → output_of bytes ≡ summary_text bytes
unfolding output_of
output_text bytes z = rw (z, output_of)

output_declined : (bytes : List ℕ) {n line : ℕ} → summary_of bytes ≡ summary_refused (suc n) line →
    output_of bytes ≡ notice_line (Refused (suc n) line)
unfolding output_of
output_declined bytes {n} e =
    let number = ap (λ (r : SummaryReply). r.refusal) e in
    rw (number, output_of) (ap (λ (line : ℕ). notice_line (Refused (suc n) line)) (ap (λ (r : SummaryReply). r.line) e))

-- The answer of the call.
module _ {bytes : List ℕ} (answer : Result Totals LineRefusal) (p : SummaryPromise bytes (plain_summary answer)) where
  module _ {totals : Totals} (e : answer ≡ Ok totals) where
    given : summary_given totals.line_count totals.total ≡ summary_of bytes
    given = ap (λ (a : Result Totals LineRefusal). plain_summary a) (sym e) ∙ p.equals

    none : (summary_of bytes).refusal ≡ 0
    none = sym (ap (λ (r : SummaryReply). r.refusal) given)

    pub text_asked : {size : ℕ} → 131099 ≤ size →
        ((check_of bytes).refusal ≡ 0) × ((totals.total ≡ total_of (runs_in bytes)) × (length (summary_text bytes) ≤ size))
    text_asked {size} h =
        let sums = summary_sums bytes none in
        let room : length (summary_text bytes) ≤ size =
        omega (arith, (check_lines bytes sums.checked).0, text_short bytes none) in
        (sums.checked, (ap (λ (r : SummaryReply). r.total) (given ∙ sums.given), room))

    pub text_told : {before after : List ℕ} {n : ℕ} → FrontWritten (summary_text bytes) before after n →
        FrontWritten (output_of bytes) before after n
    text_told {before} {after} {n} w =
        subst (λ (text : List ℕ). FrontWritten text before after n)
        (sym (output_text bytes none)) w

  pub refusal_told : {r : LineRefusal} {number : ℕ} {before after : List ℕ} {n : ℕ} → answer ≡ Err r →
      number ≡ number_of r.refusal → FrontWritten (notice_line (Refused number r.line)) before after n →
      FrontWritten (output_of bytes) before after n
  refusal_told {r} {number} {before} {after} {n} e same w =
      let k = number_suc r.refusal in
      let declined = sym p.equals ∙ ap (λ (a : Result Totals LineRefusal). plain_summary a) e ∙ ap (λ (m : ℕ). summary_refused m r.line) k.1 in
      subst (λ (text : List ℕ). FrontWritten text before after n)
      (ap (λ (m : ℕ). notice_line (Refused m r.line)) (same ∙ k.1) ∙ sym (output_declined bytes declined))
      w

-- For all that the file may hold.
output_long : (bytes : List ℕ) → 65537 ≤ length bytes → output_of bytes ≡ notice_line (Refused 1 0)
output_long bytes l = output_declined bytes (summary_long bytes l)

module _ {archive before after : List ℕ} {rest : Rest} {n : ℕ} where
  output_decided : {text : List ℕ} → FrontWritten text before after n → Decided output_for archive rest text →
      OutputPromise archive rest before after n
  output_decided w d =
      record { written = λ file r. subst (λ (text : List ℕ). FrontWritten text before after n) (d.is file r) w }

  pub output_read : {bytes : List ℕ} {room : ℕ} → (bytes ≡ archive) × (rest ≢ Failed) → Enough room (length archive) rest →
      65537 ≤ room → FrontWritten (output_of bytes) before after n → OutputPromise archive rest before after n
  output_read readable full enough w = output_decided w (decided_read output_for output_long readable full enough refl)

  pub output_unread : rest ≡ Failed → FrontWritten (notice_line Unread) before after n → OutputPromise archive rest before after n
  output_unread t w = output_decided w (decided_unread output_for t refl)

-- what is to be printed is within the buffer
pub output_within : {archive before after : List ℕ} {rest : Rest} {n : ℕ} → OutputPromise archive rest before after n →
    n ≤ length after
output_within {archive} {rest = rest} p =
    let file = source_some archive rest in
    front_within (p.written file.0 file.1)
