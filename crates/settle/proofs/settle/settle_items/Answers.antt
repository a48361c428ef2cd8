use Rattle.std.proofs.Common.{◌≡◌, ◌+◌, ◌-◌, ◌≤◌, [], ◌++◌, length, map, get_or, take, sym, refl, ap, ◌∙◌, subst, ap₂, arith}
use Rattle.std.specs.List.{range_with_len}
use Rattle.std.proofs.lemmas.List.FromFn.{length-range_with_len}
use Rattle.std.proofs.lemmas.List.{get_or-map, length-append, length-map, take_all}
use Rattle.std.proofs.lemmas.Result.{err_from_is_err_and}
use Rattle.selection.specs.Refusals.{first}
use Rattle.selection.specs.Selected.{no_run}
use Rattle.selection.specs.Items.{listed_fault, listed_positions}
use Rattle.selection.proofs.AsRuns.{checked_all, checked_bounds, checked_next, checked_none, checked_refused}
use Rattle.selection.proofs.Objections.{answered_ok, answered_err, answered_value}
use Rattle.settle.specs.Pushes.{fee, past_source}
use Rattle.settle.specs.Tallies.{Tallied}
use Rattle.settle.proofs.Settled.{at, by_grant, by_past, by_room, by_selection, listed_fault_is, listed_long, listed_places, roomy, run_places, run_places_more}
use Rattle.settle.proofs.Tallying.{tallied_none}
use Rattle.settle.proofs.settle.settle_items.Goals as goal

pub returns-in_err-check_len : goal.returns-in_err-check_len
returns-in_err-check_len g c =
    let t = c.args.terms.now in
    let offset = c.args.offset in
    let n = c.args.len in
    let xs = c.args.items.now in
    let rs = map g.I.Item.as_run xs in
    let e = err_from_is_err_and c.from_residual.result c.from_residual.ensures.1 in
    rw (e.1, e.2) (by_selection t offset (listed_fault n rs) (listed_positions n rs) _ (listed_long n rs _ (answered_err _ _ _ (sym c.in_err-check_len.ensures))))

pub loop-place-init : goal.loop-place-init
loop-place-init g c =
    let t = c.args.terms.now in
    let new = c.new-tally.ensures in
    record {
      checked = checked_none c.args.len (map g.I.Item.as_run c.args.items.now);
      tallied = subst (λ y. Tallied t y []) (sym new) (tallied_none t);
      current = let a = ap (λ y. y.chunk) new in omega arith;
      weight = let a = ap (λ y. y.fee) new in let b = ap (λ y. y.count) new in omega arith;
      count = refl;
      few = omega arith;
      within = omega arith;
    }

pub returns-in_err-least : goal.returns-in_err-least
returns-in_err-least g c =
    let t = c.args.terms.now in
    let offset = c.args.offset in
    let n = c.args.len in
    let xs = c.args.items.now in
    let rs = map g.I.Item.as_run xs in
    let i = c.index-items-place in
    let short = answered_ok _ _ _ (sym c.in_ok-check_len.ensures) in
    let e = err_from_is_err_and c.from_residual-in_err-least.result c.from_residual-in_err-least.ensures.1 in
    let fault = checked_refused g.I.Item.as_run n xs c.loop-place.place c.loop-place.least c.loop-place.invariant.checked c.loop-place-test.true i.result i.is _ _ (sym c.in_err-least.ensures) in
    rw (e.1, e.2) (by_selection t offset (listed_fault n rs) (listed_positions n rs) _ (listed_fault_is n rs short ∙ fault))

pub loop-place-preserved : goal.loop-place-preserved
loop-place-preserved g c =
    let t = c.args.terms.now in
    let offset = c.args.offset in
    let n = c.args.len in
    let xs = c.args.items.now in
    let rs = map g.I.Item.as_run xs in
    let f = g.I.Item.as_run in
    let k = c.loop-place.place in
    let i = c.index-items-place in
    let inv = c.loop-place.invariant in
    let said = sym c.in_ok-least.ensures in
    let bounds = checked_bounds f n xs k c.loop-place.least inv.checked c.loop-place-test.true i.result i.is _ said in
    let low = bounds.0 in
    let some = bounds.1 in
    let high = bounds.2 in
    let a = c.first-start.ensures in
    let up = c.min-up.result in
    let next = answered_value _ _ _ said in
    let here : get_or rs k no_run ≡ f i.result = get_or-map f xs k i.result no_run c.loop-place-test.true ∙ ap f (sym i.is) in
    let ps = run_places up (take k rs) in
    let more = run_places_more up rs k (omega (arith, length-map xs f)) in
    let same : run_places up (take (k + 1) rs) ≡ ps ++ range_with_len (c.first-start.result + up) (c.in_ok-least.least + up - (c.first-start.result + up)) = more ∙ ap (λ r. ps ++ range_with_len (r.start + up) (r.«end» + up - (r.start + up))) here ∙ ap₂ (λ x y. ps ++ range_with_len (x + up) (y + up - (x + up))) (sym a) next in
    let current = c.take_run.ensures.current in
    let weight = c.take_run.ensures.weight in
    let before = inv.weight in
    let total = inv.count in
    let few = inv.few in
    let sizes = ap length same ∙ length-append ps (range_with_len (c.first-start.result + up) (c.in_ok-least.least + up - (c.first-start.result + up))) in
    let size = length-range_with_len (c.first-start.result + up) (c.in_ok-least.least + up - (c.first-start.result + up)) in
    record {
      checked = checked_next f n xs k c.loop-place.least inv.checked c.loop-place-test.true i.result i.is _ said;
      tallied = subst (Tallied t c.take_run.new.self) (sym same) (c.take_run.ensures.tallied ps inv.tallied);
      current = omega arith;
      weight = omega arith;
      count = omega arith;
      few = omega arith;
      within = high;
    }

pub returns-in_err-check_room : goal.returns-in_err-check_room
returns-in_err-check_room g c =
    let t = c.args.terms.now in
    let offset = c.args.offset in
    let n = c.args.len in
    let xs = c.args.items.now in
    let rs = map g.I.Item.as_run xs in
    let past : length rs ≤ c.loop-place.place = omega (arith, length-map xs g.I.Item.as_run) in
    let fine = checked_all n rs c.loop-place.place c.loop-place.least c.loop-place.invariant.checked past in
    let formed = listed_fault_is n rs (answered_ok _ _ _ (sym c.in_ok-check_len.ensures)) ∙ fine in
    let e = err_from_is_err_and c.from_residual-in_err-check_room.result c.from_residual-in_err-check_room.ensures.1 in
    rw (e.1, e.2) (by_room t offset (listed_fault n rs) (listed_positions n rs) formed _ (answered_err _ _ _ (sym c.in_err-check_room.ensures)))

pub returns-in_err-fee : goal.returns-in_err-fee
returns-in_err-fee g c =
    let t = c.args.terms.now in
    let offset = c.args.offset in
    let n = c.args.len in
    let xs = c.args.items.now in
    let rs = map g.I.Item.as_run xs in
    let past : length rs ≤ c.loop-place.place = omega (arith, length-map xs g.I.Item.as_run) in
    let fine = checked_all n rs c.loop-place.place c.loop-place.least c.loop-place.invariant.checked past in
    let formed = listed_fault_is n rs (answered_ok _ _ _ (sym c.in_ok-check_len.ensures)) ∙ fine in
    let room = answered_ok _ _ _ (sym c.in_ok-check_room.ensures) in
    let small = (roomy t.scratch offset room).0 in
    let up : c.min-up.result ≡ offset = let m = c.min-up.ensures in omega arith in
    let whole : run_places c.min-up.result (take c.loop-place.place rs) ≡ at offset (listed_positions n rs) = ap₂ run_places up (take_all c.loop-place.place rs past) ∙ sym (listed_places offset n rs fine) in
    let gave = c.in_err-fee.ensures (run_places c.min-up.result (take c.loop-place.place rs)) c.loop-place.invariant.tallied in
    let e = err_from_is_err_and c.from_residual-in_err-fee.result c.from_residual-in_err-fee.ensures.1 in
    rw (e.1, e.2) (by_past t offset (listed_fault n rs) (listed_positions n rs) formed room _ (ap (first (past_source t.chunks)) (sym whole) ∙ answered_err _ _ _ (sym gave)))

pub returns : goal.returns
returns g c =
    let t = c.args.terms.now in
    let offset = c.args.offset in
    let n = c.args.len in
    let xs = c.args.items.now in
    let rs = map g.I.Item.as_run xs in
    let past : length rs ≤ c.loop-place.place = omega (arith, length-map xs g.I.Item.as_run) in
    let fine = checked_all n rs c.loop-place.place c.loop-place.least c.loop-place.invariant.checked past in
    let formed = listed_fault_is n rs (answered_ok _ _ _ (sym c.in_ok-check_len.ensures)) ∙ fine in
    let room = answered_ok _ _ _ (sym c.in_ok-check_room.ensures) in
    let small = (roomy t.scratch offset room).0 in
    let up : c.min-up.result ≡ offset = let m = c.min-up.ensures in omega arith in
    let whole : run_places c.min-up.result (take c.loop-place.place rs) ≡ at offset (listed_positions n rs) = ap₂ run_places up (take_all c.loop-place.place rs past) ∙ sym (listed_places offset n rs fine) in
    let gave = c.in_ok-fee.ensures (run_places c.min-up.result (take c.loop-place.place rs)) c.loop-place.invariant.tallied in
    let inside = answered_ok _ _ _ (sym gave) in
    let cost = answered_value _ _ _ (sym gave) in
    c.grant.ensures
    ∙ by_grant t offset (listed_fault n rs) (listed_positions n rs) formed room c.loop-place.total c.in_ok-fee.fee (ap (first (past_source t.chunks)) (sym whole) ∙ inside) (c.loop-place.invariant.count ∙ ap length whole) (sym (ap (fee t) (sym whole) ∙ cost))
