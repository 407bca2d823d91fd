-- For the functions that check the lines: the chains of the lines before, by their runs' numbers, and what they tell of a line.
use Rattle.std.specs.Prelude.{◌≡◌, Bool, List, ◌∷◌, ℕ, ◌-◌, length, get_or, take, drop}
use Rattle.chains.specs.Hash.{slot_of}
use Rattle.chains.specs.Chains.{stands_among, Tables}
use Rattle.runs.specs.declared.Run.{Run}
use Rattle.lines.specs.Line.{numbers_of, line_of}
use Rattle.archive.specs.Check.{is_among}

-- the line of a run is one of those before exactly if it stands in the chain of its slot
pub record Chained (bytes : List ℕ) (at : ℕ) (head next : List ℕ) (before : List (List ℕ)) : Type 0 where
  pub tables : Tables bytes at head next
  pub law : (run : Run) →
      is_among (line_of run) before ≡ stands_among bytes next (line_of run) (get_or head (slot_of (numbers_of run) (length head)) 0)

-- whatever the lines before: the line from `at` to `end` is one of them or not, and is then added to them
pub record SeenLine (bytes : List ℕ) (at end : ℕ) (head next head' next' : List ℕ) (seen : Bool) : Type 0 where
  pub law : (before : List (List ℕ)) → Chained bytes at head next before →
      (seen ≡ is_among (take (end - at) (drop at bytes)) before)
      × Chained bytes end head' next' (take (end - at) (drop at bytes) ∷ before)
