use Rattle.std.proofs.Common.{◌≡◌, ℕ, ◌+◌, ◌-◌, ◌*◌, ◌<◌, min, get_or}
use Rattle.selection.specs.Selected.{window_bits, window_from}
use Rattle.selection.proofs.Bits.{tally}
use Rattle.chunked.proofs.serve.load_words.Given as goal

-- the words so far are loaded, and their bits counted
abbrev pub invariant-loop-k : goal.invariant-loop-k
invariant-loop-k l =
    ((j : ℕ) → j < l.k → get_or l.words j 0 ≡ window_bits l.window (l.«from» + 64 * j) (l.n - 64 * j))
    × (l.ones ≡ tally (window_from l.window l.«from») (min l.n (64 * l.k)))
