use Rattle.std.proofs.Common.{◌<◌, ◌^◌, map, sym, arith, rules}
use Rattle.selection.specs.Selected.{covered}
use Rattle.selection.specs.Items.{listed_fault}
use Rattle.selection.proofs.Objections.{answered_ok}
use Rattle.selection.proofs.Ranged.{items_ended, ranged, ranged_none}
use Rattle.selection.proofs.ranges.items_range.Goals as goal

pub returns-in_default : goal.returns-in_default
returns-in_default g c =
    ranged_none g.I.Item.as_run (listed_fault c.args.len (map g.I.Item.as_run c.args.items.now)) c.args.len c.args.items.now (answered_ok _ _ _ (sym c.in_ok-count.ensures)) c.in_default.ensures.value

pub past-requires : goal.past-requires
past-requires g c =
    let i = c.index-items-0 in
    let within = (items_ended g.I.Item.as_run c.args.len c.in_ok-count.count c.args.items.now c.in-Some.last.now c.in-Some.ensures.value (sym c.in_ok-count.ensures) i.result i.is).1 in
    let fits : c.args.len < 2 ^ 64 = search rules in
    omega arith

pub run-requires : goal.run-requires
run-requires g c =
    let i = c.index-items-0 in
    let ends = (items_ended g.I.Item.as_run c.args.len c.in_ok-count.count c.args.items.now c.in-Some.last.now c.in-Some.ensures.value (sym c.in_ok-count.ensures) i.result i.is).0 in
    let order = ends.order in
    omega arith

pub returns : goal.returns
returns g c =
    let rs = map g.I.Item.as_run c.args.items.now in
    let i = c.index-items-0 in
    let said = sym c.in_ok-count.ensures in
    let ends = (items_ended g.I.Item.as_run c.args.len c.in_ok-count.count c.args.items.now c.in-Some.last.now c.in-Some.ensures.value said i.result i.is).0 in
    ranged (listed_fault c.args.len rs) (λ k. covered k rs) c.args.len _ _ _ c.run.result (answered_ok _ _ _ said) ends (cc)
