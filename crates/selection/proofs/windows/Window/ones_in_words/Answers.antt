use Rattle.std.proofs.Common.{◌≡◌, ◌+◌, ◌*◌, ◌^◌, ◌<◌, min, ap, ◌∙◌, ap₂, arith, rules}
use lib.Count.{ones}
use Rattle.selection.specs.Selected.{window_from}
use Rattle.selection.proofs.Bits.{tally, tally_le}
use Rattle.selection.proofs.Fields.{ones_bits}
use Rattle.selection.proofs.windows.Window.ones_in_words.Goals as goal

-- the bits of one word more
more : (c : goal.After-from-ones) → c.loop-k.ones + c.from-ones.result ≡ tally (window_from c.args.self c.args.first) (min c.args.n (64 * (c.loop-k.k + 1)))
more c =
    let w = c.args.self in
    let first = c.args.first in
    let n = c.args.n in
    let up = c.div_ceil-k-end.ensures in
    let taken = c.loop-k-test.true in
    let within : 64 * c.loop-k.k < n = omega arith in
    let so_far : min n (64 * c.loop-k.k) ≡ 64 * c.loop-k.k = omega arith in
    let inv : c.loop-k.ones ≡ tally (window_from w first) (64 * c.loop-k.k) = c.loop-k.invariant ∙ ap (tally (window_from w first)) so_far in
    ap₂ (λ x y. x + y) inv (c.from-ones.ensures ∙ ap ones c.bits.ensures) ∙ ones_bits w first n c.loop-k.k c.requires within

pub overflow_add-ones : goal.overflow_add-ones
overflow_add-ones c =
    let all = more c in
    let most = tally_le (window_from c.args.self c.args.first) (min c.args.n (64 * (c.loop-k.k + 1))) in
    let fits : c.loop-k.ones + c.from-ones.result < 2 ^ 64 = let l : c.args.n < 2 ^ 64 = search rules in omega arith in
    search rules

pub loop-k-preserved : goal.loop-k-preserved
loop-k-preserved c = more c
