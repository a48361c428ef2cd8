use Rattle.std.proofs.Common.{◌≡◌, ap, ◌∙◌, arith}
use Rattle.kernels.specs.Moved.{splice}
use Rattle.slices.specs.Bits.{bytes_for, low_bytes}
use Rattle.slices.proofs.Stored.{ends_all}
use Rattle.slices.proofs.accumulator.Accumulator.finish.Goals as goal

pub returns : goal.returns
returns c bs before h =
    let up = c.div_ceil.ensures in
    let all : c.div_ceil.result ≡ bytes_for c.args.self.fill = omega arith in
    ends_all bs before c.store.new.out c.args.self h (c.store.ensures ∙ ap (λ n. splice c.args.self.out.now c.args.self.at (low_bytes n c.args.self.low)) all)
