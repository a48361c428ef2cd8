use Rattle.std.proofs.Common.{◌≡◌, ◌*◌, map, length}
use Rattle.selection.specs.Selected.{bit_of}
use Rattle.kernels.specs.Masks.{set_bits}
use Rattle.slices.specs.Bits.{packed}
use Rattle.slices.proofs.pext.pext_fallback.Given as goal

abbrev pub invariant-loop-b : goal.invariant-loop-b
invariant-loop-b l = (l.all ≡ packed (map (bit_of l.src) (set_bits (8 * l.b) l.mask 0))) × (l.done ≡ length (set_bits (8 * l.b) l.mask 0))
