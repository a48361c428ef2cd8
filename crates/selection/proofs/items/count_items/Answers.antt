use Rattle.std.proofs.Common.{◌≤◌, length, map, None, Ok, sum_by, sym, ap, ◌∙◌, arith}
use Rattle.std.proofs.lemmas.Result.{err_from_is_err_and}
use Rattle.std.proofs.lemmas.List.{length-map, take_all}
use Rattle.selection.specs.Items.{listed_positions}
use Rattle.selection.specs.Selected.{runs_fault}
use Rattle.selection.proofs.Listed.{count_runs}
use Rattle.selection.proofs.AsRuns.{checked_all, checked_bounds, checked_more, checked_next, checked_refused, size}
use Rattle.selection.proofs.Objections.{answered_ok, not_long}
use Rattle.selection.proofs.items.count_items.Goals as goal

pub returns-in_err-least : goal.returns-in_err-least
returns-in_err-least g c =
    let rs = map g.I.Item.as_run c.args.items.now in
    let n = c.args.len in
    let i = c.index-items-place in
    let short = answered_ok _ _ _ (sym c.in_ok-check_len.ensures) in
    let e = err_from_is_err_and c.from_residual-in_err-least.result c.from_residual-in_err-least.ensures.1 in
    let fault = checked_refused g.I.Item.as_run n c.args.items.now c.loop-place.place c.loop-place.least c.loop-place.invariant.0 c.loop-place-test.true i.result i.is _ _ (sym c.in_err-least.ensures) in
    rw (e.1, e.2) (not_long n (runs_fault n rs) _ (length (listed_positions n rs)) short fault)

pub loop-place-preserved : goal.loop-place-preserved
loop-place-preserved g c =
    let f = g.I.Item.as_run in
    let n = c.args.len in
    let xs = c.args.items.now in
    let k = c.loop-place.place in
    let i = c.index-items-place in
    let inv = c.loop-place.invariant in
    let said = sym c.in_ok-least.ensures in
    let bounds = checked_bounds f n xs k c.loop-place.least inv.0 c.loop-place-test.true i.result i.is _ said in
    let more = checked_more f n xs k c.loop-place.least inv.0 c.loop-place-test.true i.result i.is _ said in
    let start = c.first.ensures in
    let sum = inv.1 in
    let most = inv.2 in
    (checked_next f n xs k c.loop-place.least inv.0 c.loop-place-test.true i.result i.is _ said, omega arith, omega arith)

pub returns : goal.returns
returns g c =
    let rs = map g.I.Item.as_run c.args.items.now in
    let n = c.args.len in
    let past : length rs ≤ c.loop-place.place = omega (arith, length-map c.args.items.now g.I.Item.as_run) in
    let fine = checked_all n rs c.loop-place.place c.loop-place.least c.loop-place.invariant.0 past in
    let all = c.loop-place.invariant.1 ∙ ap (sum_by size) (take_all c.loop-place.place rs past) ∙ count_runs n rs fine in
    ap Ok all ∙ not_long n (runs_fault n rs) None (length (listed_positions n rs)) (answered_ok _ _ _ (sym c.in_ok-check_len.ensures)) fine
