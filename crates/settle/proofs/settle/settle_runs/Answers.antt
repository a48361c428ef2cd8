use Rattle.std.proofs.Common.{refl, ◌∙◌}
use Rattle.selection.specs.declared.selections.Selection.TheVariants.{Runs}
use Rattle.selection.proofs.AsRuns.{runs_listed_fault, runs_listed_positions}
use Rattle.settle.proofs.Settled.{answer_by}
use Rattle.settle.proofs.settle.settle_runs.Goals as goal

pub returns : goal.returns
returns c = c.settle_items.ensures ∙ answer_by c.args.terms.now (record { offset = c.args.offset; selection = Runs c.args.runs c.args.len }) _ _ _ refl (runs_listed_fault c.args.runs c.args.len) (runs_listed_positions c.args.runs c.args.len)
