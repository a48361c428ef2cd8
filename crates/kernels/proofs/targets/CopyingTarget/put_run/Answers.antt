use Rattle.std.proofs.Common.{◌+◌, ◌^◌, ◌<◌, length, refl, ap, sym, ◌∙◌, arith, rules}
use Rattle.std.proofs.lemmas.List.FromFn.{length-range_with_len}
use Rattle.kernels.specs.Moved.{splice}
use Rattle.kernels.proofs.Gathered.{gather_counting}
use Rattle.kernels.proofs.SetBits.{counting_inside}
use Rattle.kernels.proofs.targets.CopyingTarget.put_run.Goals as goal

pub copy_to-requires : goal.copy_to-requires
copy_to-requires g c =
    let s = c.args.self.now in
    let room = c.requires.able.room in
    let n = length-range_with_len c.args.from c.args.n in
    record { room = omega arith; inside = counting_inside (length s.src.now) c.args.from c.args.n c.requires.able.inside c.requires.some }

pub overflow_add-self : goal.overflow_add-self
overflow_add-self g c =
    let room = c.requires.able.room in
    let n = length-range_with_len c.args.from c.args.n in
    let fits : c.args.self.now.at + c.args.n < 2 ^ 64 = omega arith in
    search rules

pub returns : goal.returns
returns g c =
    let s = c.args.self.now in
    let n = length-range_with_len c.args.from c.args.n in
    record { src = refl; same = refl; at = ap (λ m. s.at + m) (sym n); places = c.copy_to.ensures ∙ ap (splice s.places.now s.at) (sym (gather_counting s.src.now c.args.n c.args.from)) }
