use Rattle.std.proofs.Common.{◌-◌, ◌^◌, ◌<◌, ◌∷◌, length, ap, ◌∙◌, arith, rules, zero-add}
use lib.Bits.{bit_and}
use lib.Count.{count_trailing_zeros}
use Rattle.kernels.specs.Masks.{set_bits}
use Rattle.kernels.proofs.SetBits.{bits_lowest, no_bits}
use Rattle.kernels.proofs.ones.OnesIterator.next.Goals as goal

pub returns-then-self-eq0-clause-steps : goal.returns-then-self-eq0-clause-steps
returns-then-self-eq0-clause-steps c = let none = ap (λ v. set_bits 64 v 0) c.if-self-eq0.true ∙ no_bits 64 0 in (none, none)

pub returns-clause-steps : goal.returns-clause-steps
returns-clause-steps c =
    let w = c.args.self.now.0 in
    let p : 0 < w = omega arith in
    let h : w < 2 ^ 64 = search rules in
    bits_lowest 64 w 0 p h ∙ ap (λ z. z ∷ set_bits 64 (bit_and w (w - 1)) 0) (zero-add (count_trailing_zeros 64 w))

pub returns-clause-goes : goal.returns-clause-goes
returns-clause-goes c =
    let w = c.args.self.now.0 in
    let p : 0 < w = omega arith in
    let h : w < 2 ^ 64 = search rules in
    let n = ap length (bits_lowest 64 w 0 p h) in
    record { on = λ _. (tt, tt, omega arith); keeps = tt; rests = λ _. tt }
