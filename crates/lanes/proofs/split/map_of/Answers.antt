-- `lanes::split::map_of` meets its contract: 8 steps and 8 more are 16.
use mathlib.Core.Path.{sym}
use Rattle.affine.proofs.Walking.{walks_as, walks_add}
use Rattle.lanes.proofs.split.map_of.Goals as goal

pub returns-then-k-eq16 : goal.returns-then-k-eq16
returns-then-k-eq16 c =
    let at = c.if-k-eq16.true in
    let half = walks_as (c.jumped.ensures.0 at) c.jump-map.ensures.walks in
    walks_as (sym at) (walks_add half half c.compose.ensures)
