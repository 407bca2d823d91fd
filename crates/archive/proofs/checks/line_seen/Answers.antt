-- `archive::checks::line_seen` meets its contract: the line's slot is that of its run, and what its chain tells is told of all
-- lines before.
use mathlib.Core.Path.{◌≡◌, sym, ap, ◌∙◌, subst}
use mathlib.Core.List.{List}
use Prim.Native.Nat.{ℕ, ◌<◌}
use native.Mathlib.Omega.{arith}
use Rattle.chains.specs.Hash.{slot_of}
use Rattle.chains.proofs.Hashing.{slot_within}
use Rattle.runs.specs.declared.Run.{Run}
use Rattle.lines.specs.Line.{numbers_of}
use Rattle.archive.proofs.Chaining.{line_long, line_size, chained_next}
use Rattle.archive.proofs.checks.line_seen.Goals as goal

-- the slot is that of the run's numbers, and below the number of slots
own_slot :
    (run : Run) (slots slot : ℕ) (numbers : List ℕ) →
    slot ≡ slot_of numbers slots →
    numbers ≡ numbers_of run →
    slot ≡ slot_of (numbers_of run) slots
own_slot run slots slot numbers e f = e ∙ ap (λ (vs : List ℕ). slot_of vs slots) f

slot_below : (run : Run) (slots slot : ℕ) → slot ≡ slot_of (numbers_of run) slots → 0 < slots → slot < slots
slot_below run slots slot e some = subst (λ (s : ℕ). s < slots) (sym e) (slot_within (numbers_of run) some)

pub seen_before-requires : goal.seen_before-requires
seen_before-requires c =
    let pre = c.requires in
    let size = line_size _ c.args.run pre.at_le_end pre.end_in_bounds pre.archive_value in
    record {
      at_bound = omega (arith, size, line_long c.args.run);
      end_in_bounds = pre.end_in_bounds;
      bytes_len_bound = pre.archive_len_bound;
      slot_in_bounds =
          slot_below c.args.run _ _ (own_slot c.args.run _ _ _ c.slot-slot.ensures c.numbers_of-numbers.ensures)
          pre.tables.slots.0;
      tables = pre.tables;
    }

pub returns-clause-seen : goal.returns-clause-seen
returns-clause-seen c =
    let pre = c.requires in
    let slot = own_slot c.args.run _ _ _ c.slot-slot.ensures c.numbers_of-numbers.ensures in
    chained_next c.args.run slot (slot_below c.args.run _ _ slot pre.tables.slots.0) pre.at_le_end pre.end_in_bounds pre.archive_value
    c.seen_before.ensures.seen
