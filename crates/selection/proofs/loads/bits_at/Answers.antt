use Rattle.std.proofs.Common.{◌+◌, ◌*◌, ◌≤◌, ◌⊎◌, ◌%◌, ◌^◌, length, take, sym, ap, ◌∙◌, inl, inr, arith}
use Rattle.std.proofs.lemmas.Bool.{cases_lt}
use Rattle.selection.specs.Selected.{bits_from}
use Rattle.selection.proofs.Fields.{bits_lt, bits_part, bits_rest, nine_num}
use Rattle.selection.proofs.loads.bits_at.Goals as goal

pub returns-then-n-eq0 : goal.returns-then-n-eq0
unfolding bits_from
returns-then-n-eq0 c = sym (ap (bits_from c.args.bytes.now (8 * c.args.at + c.args.shift)) c.if-n-eq0.true)

pub joined_from-requires : goal.joined_from-requires
joined_from-requires c = let few = bits_lt (take c.min-size.result c.bytes_from-rest.result.now) 64 8 in let is = c.ninth_byte.ensures in omega arith

pub returns : goal.returns
returns c =
    let rest = c.bytes_from-rest.result.now in
    let s = c.args.shift in
    let n = c.args.n in
    let size = c.min-size.ensures in
    let up = c.div_ceil.ensures in
    let enough : (s + n ≤ 8 * c.min-size.result) ⊎ (length rest ≤ c.min-size.result) = elim (cases_lt c.div_ceil.result (length rest)) [ inl h ↦ inl (omega arith) | inr h ↦ inr (omega arith) ] in
    c.low_bits.ensures
    ∙ ap (λ x. x % 2 ^ n) c.joined_from.ensures
    ∙ nine_num (take c.min-size.result rest) c.low_word.result c.ninth_byte.result s n c.low_word.ensures c.ninth_byte.ensures c.requires.0 c.requires.1
    ∙ bits_part rest c.min-size.result s n enough
    ∙ ap (λ xs. bits_from xs s n) c.bytes_from-rest.ensures
    ∙ bits_rest c.args.bytes.now c.args.at s n
