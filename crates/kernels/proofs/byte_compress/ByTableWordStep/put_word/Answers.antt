use Rattle.std.proofs.Common.{◌≡◌, ◌+◌, ◌-◌, ◌*◌, ◌/◌, ◌^◌, [], get_or, ap, ◌∙◌, arith}
use Rattle.kernels.specs.Masks.{set_bits}
use Rattle.kernels.proofs.Putting.{left_done, left_first, left_same, left_turn}
use Rattle.kernels.proofs.SetBits.{bits_bytes, bits_none}
use Rattle.kernels.proofs.byte_compress.ByTableWordStep.put_word.Goals as goal

pub put_byte-requires-clause-able : goal.put_byte-requires-clause-able
put_byte-requires-clause-able g c =
    let b = c.loop-b.b in
    let w = c.args.word in
    let at = c.args.base in
    left_first c.requires.laws (set_bits 8 (get_or c.to_le_bytes.result b 0) (at + 8 * b)) (set_bits (64 - 8 * (b + 1)) (w / 2 ^ (8 * (b + 1))) (at + 8 * (b + 1))) (left_same _ (bits_bytes w at b c.to_le_bytes.result (omega arith) c.to_le_bytes.ensures) c.loop-b.invariant)

pub loop-b-preserved : goal.loop-b-preserved
loop-b-preserved g c =
    let b = c.loop-b.b in
    let w = c.args.word in
    let at = c.args.base in
    left_turn c.requires.laws (set_bits 8 (get_or c.to_le_bytes.result b 0) (at + 8 * b)) (set_bits (64 - 8 * (b + 1)) (w / 2 ^ (8 * (b + 1))) (at + 8 * (b + 1))) c.put_byte.new.target c.requires.able (left_same _ (bits_bytes w at b c.to_le_bytes.result (omega arith) c.to_le_bytes.ensures) c.loop-b.invariant) c.put_byte.ensures

pub returns : goal.returns
returns g c =
    let b = c.loop-b.b in
    let v = c.args.word / 2 ^ (8 * b) in
    let at = c.args.base + 8 * b in
    let none : 64 - 8 * b ≡ 0 = omega arith in
    left_done (left_same [] (ap (λ n. set_bits n v at) none ∙ bits_none v at) c.loop-b.invariant)
