use Rattle.std.proofs.Common.{◌+◌, ◌^◌, ◌<◌, length, refl, ap, sym, ◌∙◌, arith, rules}
use Rattle.std.proofs.lemmas.List.FromFn.{length-range_with_len}
use Rattle.kernels.specs.Moved.{splice}
use Rattle.kernels.proofs.Gathered.{gather_counting}
use Rattle.kernels.proofs.Rises.{counting_down}
use Rattle.kernels.proofs.targets.MovingTarget.put_run.Goals as goal

pub move_block-requires-clause-inside : goal.move_block-requires-clause-inside
move_block-requires-clause-inside g c = let s = c.args.self.now in (counting_down s.at (length s.values.now) c.args.from c.args.n c.requires.some c.requires.able.rises).1

pub overflow_add-self : goal.overflow_add-self
overflow_add-self g c =
    let s = c.args.self.now in
    let h = counting_down s.at (length s.values.now) c.args.from c.args.n c.requires.some c.requires.able.rises in
    let low = h.0 in
    let high = h.1 in
    let fits : s.at + c.args.n < 2 ^ 64 = omega arith in
    search rules

pub returns : goal.returns
returns g c =
    let s = c.args.self.now in
    let n = length-range_with_len c.args.from c.args.n in
    record { same = refl; at = ap (λ m. s.at + m) (sym n); values = c.move_block.ensures ∙ ap (splice s.values.now s.at) (sym (gather_counting s.values.now c.args.n c.args.from)) }
