use Rattle.std.proofs.Common.{◌≡◌, ◌+◌, ◌*◌, ◌/◌, ◌%◌, ◌≤◌, ◌∙◌, ap₂, arith}
use Rattle.selection.specs.Selected.{bits_from}
use Rattle.selection.proofs.Fields.{word_bits, word_none}
use Rattle.selection.proofs.windows.Window.word.Goals as goal

pub returns-then-k-self : goal.returns-then-k-self
returns-then-k-self c = let past : c.args.self.len ≤ 64 * c.args.k = omega arith in word_none c.args.self c.args.k past

pub returns : goal.returns
returns c =
    let start = c.args.self.start in
    let at : 8 * (start / 8 + 8 * c.args.k) + start % 8 ≡ start + 64 * c.args.k = omega arith in
    c.bits_at.ensures ∙ ap₂ (bits_from c.args.self.bytes.now) at c.min-n.ensures ∙ word_bits c.args.self c.args.k
