use Rattle.std.proofs.Common.{◌+◌, ◌^◌, ◌<◌, map, get_or, set, ap, ◌∙◌, arith, rules}
use Rattle.std.proofs.lemmas.List.{take_all}
use Rattle.std.proofs.ByRecursion.{All-get_or}
use Rattle.kernels.specs.Moved.{Within, shifted, splice}
use Rattle.kernels.proofs.Gathered.{write_more}
use Rattle.chunked.proofs.pieces.shift_all.Goals as goal

pub overflow_add-out : goal.overflow_add-out
overflow_add-out c =
    let h = All-get_or (Within c.args.up c.args.down 1024) c.args.indices.now c.loop-k.k 0 c.loop-k-test.true c.requires.inside in
    let fits : get_or c.args.indices.now c.loop-k.k 0 + c.args.up < 2 ^ 64 = h.fits in
    search rules

pub overflow_sub-out : goal.overflow_sub-out
overflow_sub-out c = (All-get_or (Within c.args.up c.args.down 1024) c.args.indices.now c.loop-k.k 0 c.loop-k-test.true c.requires.inside).above

pub loop-k-preserved : goal.loop-k-preserved
loop-k-preserved c =
    let f = shifted c.args.up c.args.down in
    let is = c.args.indices.now in
    let k = c.loop-k.k in
    ap (λ xs. set xs k (f (get_or is k 0))) c.loop-k.invariant ∙ write_more f is c.args.out.now k c.loop-k-test.true (let room = c.requires.room in let taken = c.loop-k-test.true in omega arith)

pub returns : goal.returns
returns c = c.loop-k.invariant ∙ ap (λ js. splice c.args.out.now 0 (map (shifted c.args.up c.args.down) js)) (take_all c.loop-k.k c.args.indices.now c.loop-k-test.false)
