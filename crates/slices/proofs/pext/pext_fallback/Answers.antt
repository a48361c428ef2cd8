use Rattle.std.proofs.Common.{◌≡◌, ◌+◌, ◌*◌, ◌/◌, ◌%◌, ◌^◌, ◌<◌, map, length, get_or, sym, ap, ◌∙◌, arith, rules}
use Rattle.selection.specs.Selected.{bit_of}
use Rattle.kernels.specs.Masks.{row_of, set_bits}
use Rattle.kernels.proofs.SetBits.{bits_none, byte_of}
use Rattle.slices.specs.Bits.{packed}
use Rattle.slices.proofs.Extracts.{byte_count, byte_more, pext_bits, pext_is, set_short}
use Rattle.slices.proofs.pext.pext_fallback.Goals as goal

pub loop-b-init : goal.loop-b-init
loop-b-init c =
    let e = bits_none c.args.mask 0 in
    (sym (ap (λ ps. packed (map (bit_of c.args.src) ps)) e), sym (ap length e))

pub overflow_shl-all : goal.overflow_shl-all
overflow_shl-all c =
    let h = set_short (8 * c.loop-b.b) c.args.mask 0 in
    let e = c.loop-b.invariant.1 in
    omega arith

pub overflow_add-done : goal.overflow_add-done
overflow_add-done c =
    let h = set_short (8 * c.loop-b.b) c.args.mask 0 in
    let e = c.loop-b.invariant.1 in
    let fits : c.loop-b.done + c.from-done.result < 2 ^ 32 = omega arith in
    search rules

pub loop-b-preserved : goal.loop-b-preserved
loop-b-preserved c =
    let b = c.loop-b.b in
    let byte : get_or c.to_le_bytes.result b 0 ≡ c.args.mask / 2 ^ (8 * b) % 256 = ap (λ bs. get_or bs b 0) c.to_le_bytes.ensures ∙ byte_of c.args.mask b (omega arith) in
    let x = c.pext_byte.ensures ∙ ap (λ v. packed (map (bit_of (c.args.src / 2 ^ (8 * b))) (set_bits 8 v 0))) byte in
    let n = c.from-done.ensures ∙ c.table_entry.ensures ∙ ap (λ v. get_or (row_of v) 8 0) byte in (
      byte_more c.args.src c.args.mask c.loop-b.b c.loop-b.all c.loop-b.done c.pext_byte.result c.from-done.result (omega arith) c.loop-b.invariant.0 c.loop-b.invariant.1 x n,
      byte_count c.args.src c.args.mask c.loop-b.b c.loop-b.all c.loop-b.done c.pext_byte.result c.from-done.result (omega arith) c.loop-b.invariant.0 c.loop-b.invariant.1 x n,
    )

pub returns : goal.returns
returns c =
    let all : 8 * c.loop-b.b ≡ 64 = omega arith in
    let is : c.loop-b.all ≡ packed (map (bit_of c.args.src) (set_bits 64 c.args.mask 0)) = c.loop-b.invariant.0 ∙ ap (λ n. packed (map (bit_of c.args.src) (set_bits n c.args.mask 0))) all in
    record { value = pext_is c.args.src c.args.mask c.loop-b.all is; bits = pext_bits c.args.src c.args.mask c.loop-b.all is }
