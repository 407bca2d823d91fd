-- The ways out of the two calls.
use Rattle.std.specs.Prelude.{Ok, Err}
use mathlib.Core.Path.{◌≡◌, ap, ap₂, subst, ◌∙◌}
use mathlib.Core.List.{List}
use Prim.Native.Nat.{ℕ}
use lib.ListN.{length}
use Rattle.refusals.specs.declared.Refusal.{Refusal}
use Rattle.refusals.specs.declared.ValueReply.{ValueReply}
use Rattle.refusals.specs.Refusals.{number_of}
use Rattle.refusals.specs.Replies.{plain_value, value_reply}
use Rattle.refusals.proofs.Replies.{number_nonzero, number_suc}
use Rattle.runs.specs.declared.Run.{Run}
use Rattle.runs.specs.Run.{run_refusal}
use Rattle.lines.specs.Line.{line_of}
use Rattle.lines.specs.ReadLine.{plain_run, accepted_run, read_of}
use Rattle.lines.specs.WriteLine.{write_refusal, buffer_after, WritePromise}
use Rattle.lines.proofs.Reading.{accepted_run_lem, own_run, own_accepted}
use Rattle.lines.proofs.RoundTrip.{written_line}
use Rattle.lanes.specs.Lane.{lane_refusal, lane_of, LanePromise}
use Rattle.lanes.specs.WriteLane.{write_lane_refusal, WriteLanePromise}
use Rattle.lanes.proofs.Conditions.{ValidLane, valid_lane}
use Rattle.lanes.proofs.Lanes.{lane_accepted, is_lane, uses_up}

-- the line of an accepted run reads as that run
reads_back : (run : Run) → run_refusal run ≡ 0 → read_of (line_of run) ≡ accepted_run run
reads_back run z =
    let accepted = own_accepted run z in
    ap₂ (λ (n : ℕ) (r : Run). record { refusal = n; run = r }) accepted (accepted_run_lem (line_of run) accepted ∙ own_run run)

-- The lane as a record.
pub lane_refused : (run : Run) (k j : ℕ) (x : Refusal) → number_of x ≡ lane_refusal run k j → LanePromise run k j (plain_run (Err x))
lane_refused run k j x e =
    record {
      equals = let n = number_suc x in rw (← e, n.1);
      is_lane = λ z. absurd (number_nonzero x z);
      uses_up = λ z. absurd (number_nonzero x z);
      reads_back = λ z. absurd (number_nonzero x z);
    }

pub lane_given :
    (run : Run) (k j : ℕ) {lane : Run} → lane_refusal run k j ≡ 0 → lane ≡ lane_of run k j → LanePromise run k j (plain_run (Ok lane))
lane_given run k j z e =
    let v = valid_lane run k j z in
    rw e
    (record {
      equals = rw z;
      is_lane = λ _. is_lane v;
      uses_up = λ _. uses_up v;
      reads_back = λ _. reads_back (lane_of run k j) (lane_accepted v);
    })

-- The lane as a line.
pub write_lane_refused :
    (run : Run) (k j : ℕ) (before : List ℕ) (x : Refusal) → number_of x ≡ lane_refusal run k j →
    WriteLanePromise run k j before before (plain_value (Err x))
unfolding write_lane_refusal
write_lane_refused run k j before x e =
    let n = number_suc x in
    record {
      equals = rw (← e, n.1);
      buffer = rw (← e, n.1);
      is_lane = λ z. absurd (number_nonzero x z);
      reads_back = λ z. absurd (number_nonzero x z);
    }

pub write_lane_written :
    (run : Run) (k j : ℕ) {lane : Run} {before after : List ℕ} {reply : ValueReply} → lane_refusal run k j ≡ 0 → lane ≡ lane_of run k j →
    WritePromise lane before after reply → WriteLanePromise run k j before after reply
unfolding write_refusal write_lane_refusal
write_lane_written run k j {lane} {before} {after} {reply} z e written =
    record {
      equals = w.equals ∙ ap (λ (n : ℕ). value_reply n (length (line_of (lane_of run k j)))) refusal;
      buffer = w.buffer ∙ ap (λ (n : ℕ). buffer_after n (lane_of run k j) before) refusal;
      is_lane = λ _. is_lane v;
      reads_back = λ y. ap read_of (written_line w y) ∙ reads_back (lane_of run k j) (lane_accepted v);
    }
  where
    v : ValidLane run k j
    v = valid_lane run k j z

    w : WritePromise (lane_of run k j) before after reply
    w = subst (λ (r : Run). WritePromise r before after reply) e written

    refusal : write_refusal (lane_of run k j) before ≡ write_lane_refusal run k j before
    refusal = rw (z, lane_accepted v)
