use Rattle.std.proofs.Common.{refl, ◌∙◌}
use Rattle.selection.specs.declared.selections.Selection.TheVariants.{Indices}
use Rattle.selection.proofs.AsRuns.{indices_listed_fault, indices_listed_positions}
use Rattle.settle.proofs.Settled.{answer_by}
use Rattle.settle.proofs.settle.settle_indices.Goals as goal

pub returns : goal.returns
returns c = c.settle_items.ensures ∙ answer_by c.args.terms.now (record { offset = c.args.offset; selection = Indices c.args.indices c.args.len }) _ _ _ refl (indices_listed_fault c.args.indices c.args.len) (indices_listed_positions c.args.indices c.args.len)
