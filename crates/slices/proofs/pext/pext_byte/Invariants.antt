use Rattle.std.proofs.Common.{◌≡◌}
use Rattle.slices.proofs.Extracts.{entries}
use Rattle.slices.proofs.pext.pext_byte.Given as goal

abbrev pub invariant-loop-j : goal.invariant-loop-j
invariant-loop-j l = l.all ≡ entries 8 l.src l.mask l.j
