use Rattle.std.proofs.Common.{◌≡◌, ◌+◌, ◌*◌, ◌^◌, ◌<◌, min, ◌≢◌, length, sym, ap, ◌∙◌, ap₂, arith, rules, below_more}
use lib.Count.{ones}
use Rattle.std.proofs.lemmas.List.{get_or-set_same, get_or-set_other}
use Rattle.selection.specs.Selected.{window_from}
use Rattle.selection.proofs.Bits.{tally, tally_le}
use Rattle.selection.proofs.Fields.{ones_bits}
use Rattle.chunked.proofs.Windows.{loaded_covers, loaded_picks}
use Rattle.chunked.proofs.serve.load_words.Goals as goal

pub overflow_add-ones : goal.overflow_add-ones
overflow_add-ones c =
    let w = c.args.window in
    let from = c.args.«from» in
    let n = c.args.n in
    let k = c.loop-k.k in
    let taken = c.loop-k-test.true in
    let close = c.requires.close in
    let within : 64 * k < n = omega arith in
    let so_far : min n (64 * k) ≡ 64 * k = omega arith in
    let inv : c.loop-k.ones ≡ tally (window_from w from) (64 * k) = c.loop-k.invariant.1 ∙ ap (tally (window_from w from)) so_far in
    let all : c.loop-k.ones + c.from-ones.result ≡ tally (window_from w from) (min n (64 * (k + 1))) = ap₂ (λ x y. x + y) inv (c.from-ones.ensures ∙ ap ones c.bits-word.ensures) ∙ ones_bits w from n k c.requires.inside within in
    let most = tally_le (window_from w from) (min n (64 * (k + 1))) in
    let fits : c.loop-k.ones + c.from-ones.result < 2 ^ 64 = let l : n < 2 ^ 64 = search rules in omega arith in
    search rules

pub loop-k-preserved : goal.loop-k-preserved
loop-k-preserved c =
    let w = c.args.window in
    let from = c.args.«from» in
    let n = c.args.n in
    let k = c.loop-k.k in
    let taken = c.loop-k-test.true in
    let close = c.requires.close in
    let within : 64 * k < n = omega arith in
    let so_far : min n (64 * k) ≡ 64 * k = omega arith in
    let inv : c.loop-k.ones ≡ tally (window_from w from) (64 * k) = c.loop-k.invariant.1 ∙ ap (tally (window_from w from)) so_far in (
      below_more _ _
          (λ j h. let ne : j ≢ k = omega arith in get_or-set_other c.loop-k.words k j c.bits-word.result 0 ne ∙ c.loop-k.invariant.0 j h)
          (get_or-set_same c.loop-k.words k c.bits-word.result 0 (let long = c.loop-k.auto.words in omega arith) ∙ c.bits-word.ensures),
      ap₂ (λ x y. x + y) inv (c.from-ones.ensures ∙ ap ones c.bits-word.ensures) ∙ ones_bits w from n k c.requires.inside within,
    )

pub returns : goal.returns
returns c =
    let w = c.args.window in
    let from = c.args.«from» in
    let n = c.args.n in
    let long = c.loop-k.auto.words in
    let left = c.loop-k-test.false in
    let enough = c.requires.enough in
    let close = c.requires.close in
    let end : min n (64 * c.loop-k.k) ≡ n = omega arith in
    let picks = loaded_picks w from n c.loop-k.words (omega arith) (omega arith) c.requires.inside (λ j h. c.loop-k.invariant.0 j (omega arith)) in
    record {
      covers = loaded_covers w from n c.loop-k.words (omega arith) (omega arith) c.requires.inside (λ j h. c.loop-k.invariant.0 j (omega arith));
      picks = picks;
      count = c.loop-k.invariant.1 ∙ ap (tally (window_from w from)) end ∙ sym (ap length picks);
    }
