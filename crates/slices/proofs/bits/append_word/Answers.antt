use Rattle.std.proofs.Common.{◌≡◌, ◌^◌, ◌<◌, map, sym, ap, ◌∙◌, subst, arith, rules}
use Rattle.std.proofs.lemmas.List.{length-map}
use Rattle.selection.specs.Selected.{bit_of}
use Rattle.kernels.specs.Masks.{set_bits}
use Rattle.kernels.proofs.SetBits.{no_bits}
use Rattle.kernels.proofs.Walked.{full_length}
use Rattle.slices.specs.Accumulated.{Adds, Room}
use Rattle.slices.proofs.Extracts.{set_short}
use Rattle.slices.proofs.Stored.{adds_none}
use Rattle.slices.proofs.Taken.{word_count, word_full, word_taken}
use Rattle.slices.proofs.bits.append_word.Goals as goal

pub append-requires : goal.append-requires
append-requires c =
    let acc = c.args.acc.now in
    record { size = omega arith; room = subst (λ n. Room acc n) (full_length 64 c.args.mask 0 c.if-mask-eq18446744073709551615.true) c.requires }

pub append-requires-then-mask-ne0 : goal.append-requires-then-mask-ne0
append-requires-then-mask-ne0 c =
    let acc = c.args.acc.now in
    let fits : c.args.mask < 2 ^ 64 = search rules in
    let e = word_count 64 c.args.mask fits in
    let few = set_short 64 c.args.mask 0 in
    record { size = omega arith; room = subst (λ n. Room acc n) e c.requires }

pub returns-then-mask-eq18446744073709551615 : goal.returns-then-mask-eq18446744073709551615
returns-then-mask-eq18446744073709551615 c =
    let ps = set_bits 64 c.args.mask 0 in
    let full = c.if-mask-eq18446744073709551615.true in
    let fits : c.args.word < 2 ^ 64 = search rules in
    c.append.ensures (map (bit_of c.args.word) ps) (length-map ps (bit_of c.args.word) ∙ full_length 64 c.args.mask 0 full) (word_full 64 c.args.word c.args.mask fits full)

pub returns-then-mask-ne0 : goal.returns-then-mask-ne0
returns-then-mask-ne0 c =
    let ps = set_bits 64 c.args.mask 0 in
    let fits : c.args.mask < 2 ^ 64 = search rules in
    c.append-then-mask-ne0.ensures (map (bit_of c.args.word) ps) (length-map ps (bit_of c.args.word) ∙ word_count 64 c.args.mask fits) (word_taken c.args.word c.args.mask c.pext_fallback.result c.pext_fallback.ensures.value)

pub returns-else-mask-ne0 : goal.returns-else-mask-ne0
returns-else-mask-ne0 c =
    let acc = c.args.acc.now in
    let none : c.args.mask ≡ 0 = c.if-mask-ne0.false in
    subst (λ ys. Adds ys acc acc) (ap (map (bit_of c.args.word)) (sym (ap (λ m. set_bits 64 m 0) none ∙ no_bits 64 0))) (adds_none acc c.requires.fill)
