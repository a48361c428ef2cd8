use Rattle.std.proofs.Common.{◌≡◌, ◌+◌, ◌*◌, ◌≤◌, length}
use Rattle.selection.specs.Selected.{window_bit}
use Rattle.settle.specs.Bounds.{boundary, kept_between_places}
use Rattle.settle.specs.Tallies.{Tallied}
use Rattle.settle.proofs.Settled.{at}
use Rattle.settle.proofs.settle.price_bitmap.Given as goal

-- the places before the chunk are counted, and on the tally
abbrev pub invariant-loop-chunk : goal.invariant-loop-chunk
invariant-loop-chunk l =
    Tallied l.terms l.tally (at l.offset (kept_between_places (window_bit l.window) 0 (boundary l.offset l.window.len l.chunk)))
    × (l.tally.chunk ≤ l.chunk)
    × (l.tally.fee + 1024 * l.tally.count ≤ 1024 * l.count)
    × (l.count ≡ length (kept_between_places (window_bit l.window) 0 (boundary l.offset l.window.len l.chunk)))
