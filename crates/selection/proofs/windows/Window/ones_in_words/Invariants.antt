use Rattle.std.proofs.Common.{◌≡◌, ◌*◌, min}
use Rattle.selection.specs.Selected.{window_from}
use Rattle.selection.proofs.Bits.{tally}
use Rattle.selection.proofs.windows.Window.ones_in_words.Given as goal

abbrev pub invariant-loop-k : goal.invariant-loop-k
invariant-loop-k l = l.ones ≡ tally (window_from l.self l.first) (min l.n (64 * l.k))
