use Rattle.std.proofs.Common.{◌∙◌, arith}
use Rattle.selection.proofs.Fields.{few_word, word_num}
use Rattle.selection.proofs.loads.low_word.Goals as goal

pub returns-in-Some : goal.returns-in-Some
returns-in-Some c = c.from_le_bytes.ensures ∙ word_num c.args.bytes.now c.in-Some.word.now c.in-Some.ensures.cases.same (λ k. (c.type_inv.bytes k).fits)

pub returns-in-None : goal.returns-in-None
returns-in-None c = let short = c.in-None.ensures.cases in c.gather.ensures ∙ few_word c.args.bytes.now (omega arith) (λ k. (c.type_inv.bytes k).fits)
