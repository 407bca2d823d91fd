-- Writing a lane's line into a buffer (document 02, note 10; SCOPE 4.10).
use Rattle.std.specs.Prelude.{◌≡◌, cond, List, ℕ, ltb, length, take}
use Rattle.refusals.specs.Refusals.{or_else}
use Rattle.refusals.specs.declared.ValueReply.{ValueReply}
use Rattle.refusals.specs.Replies.{value_reply}
use Rattle.runs.specs.declared.Run.{Run}
use Rattle.lines.specs.Line.{line_of}
use Rattle.lines.specs.ReadLine.{accepted_run, read_of}
use Rattle.lines.specs.WriteLine.{buffer_after}
use Rattle.lanes.specs.Lane.{lane_of, lane_refusal, IsLane}

-- After 3 to 5 and 15, 8: the buffer is shorter than the lane's line.
unfoldable pub write_lane_refusal : Run → ℕ → ℕ → List ℕ → ℕ
write_lane_refusal run k j buffer =
    or_else (lane_refusal run k j) (cond (ltb (length buffer) (length (line_of (lane_of run k j)))) 8 0)

-- The promise of the call: the reply with the number of bytes, and the whole buffer; where it is accepted, what was written reads
-- as the lane.
pub record WriteLanePromise (run : Run) (k j : ℕ) (before after : List ℕ) (reply : ValueReply) : Type 0 where
  pub equals : reply ≡ value_reply (write_lane_refusal run k j before) (length (line_of (lane_of run k j)))
  pub buffer : after ≡ buffer_after (write_lane_refusal run k j before) (lane_of run k j) before
  pub is_lane : reply.refusal ≡ 0 → IsLane run k j (lane_of run k j)
  pub reads_back : reply.refusal ≡ 0 → read_of (take reply.value after) ≡ accepted_run (lane_of run k j)
