use Rattle.std.proofs.Common.{length, Some, None, sym, ap, ◌∙◌}
use Rattle.std.proofs.lemmas.Result.{err_from_is_err_and}
use Rattle.selection.specs.declared.selections.Selection.TheVariants.{Bitmap}
use Rattle.selection.specs.Refusals.{first}
use Rattle.selection.specs.Selected.{positions, selection_fault}
use Rattle.selection.proofs.Faults.{window_within}
use Rattle.selection.proofs.Objections.{answered_ok, answered_err, answered_value}
use Rattle.settle.specs.declared.settle.Push.{Push}
use Rattle.settle.specs.Pushes.{fee, past_source, places}
use Rattle.settle.proofs.Settled.{answer_is, by_grant, by_past, by_room, by_selection, places_window, roomy, window_formed}
use Rattle.settle.proofs.settle.settle_bitmap.Goals as goal

pub returns-in_err-check : goal.returns-in_err-check
returns-in_err-check c =
    let t = c.args.terms.now in
    let p : Push = record { offset = c.args.offset; selection = Bitmap c.args.window } in
    let e = err_from_is_err_and c.from_residual.result c.from_residual.ensures.1 in
    rw (e.1, e.2) (by_selection t p.offset (selection_fault p.selection) (positions p.selection) _ (window_formed c.args.window (Some _) (answered_err _ _ _ (sym c.in_err-check.ensures))) ∙ sym (answer_is t p))

pub returns-in_err-check_room : goal.returns-in_err-check_room
returns-in_err-check_room c =
    let t = c.args.terms.now in
    let p : Push = record { offset = c.args.offset; selection = Bitmap c.args.window } in
    let e = err_from_is_err_and c.from_residual-in_err-check_room.result c.from_residual-in_err-check_room.ensures.1 in
    let formed = window_formed c.args.window None (answered_ok _ _ _ (sym c.in_ok-check.ensures)) in
    rw (e.1, e.2) (by_room t p.offset (selection_fault p.selection) (positions p.selection) formed _ (answered_err _ _ _ (sym c.in_err-check_room.ensures)) ∙ sym (answer_is t p))

pub price_bitmap-requires : goal.price_bitmap-requires
price_bitmap-requires c =
    let fine = answered_ok _ _ _ (sym c.in_ok-check.ensures) in
    let room = answered_ok _ _ _ (sym c.in_ok-check_room.ensures) in
    record { small = (roomy c.args.terms.now.scratch c.args.offset room).0; short = (window_within c.args.window fine).0 }

pub returns-in_err-receipt : goal.returns-in_err-receipt
unfolding places
returns-in_err-receipt c =
    let t = c.args.terms.now in
    let p : Push = record { offset = c.args.offset; selection = Bitmap c.args.window } in
    let fine = answered_ok _ _ _ (sym c.in_ok-check.ensures) in
    let formed = window_formed c.args.window None fine in
    let room = answered_ok _ _ _ (sym c.in_ok-check_room.ensures) in
    let same = places_window c.args.offset c.args.window in
    let e = err_from_is_err_and c.from_residual-in_err-receipt.result c.from_residual-in_err-receipt.ensures.1 in
    let past = answered_err _ _ _ (sym c.in_err-receipt.ensures) in
    rw (e.1, e.2) (by_past t p.offset (selection_fault p.selection) (positions p.selection) formed room _ (ap (first (past_source t.chunks)) same ∙ past) ∙ sym (answer_is t p))

pub returns : goal.returns
unfolding places positions
returns c =
    let t = c.args.terms.now in
    let p : Push = record { offset = c.args.offset; selection = Bitmap c.args.window } in
    let fine = answered_ok _ _ _ (sym c.in_ok-check.ensures) in
    let formed = window_formed c.args.window None fine in
    let room = answered_ok _ _ _ (sym c.in_ok-check_room.ensures) in
    let same = places_window c.args.offset c.args.window in
    let inside = answered_ok _ _ _ (sym c.in_ok-receipt.ensures) in
    let gave = answered_value _ _ _ (sym c.in_ok-receipt.ensures) in
    let r = c.in_ok-receipt.receipt in
    c.grant.ensures
    ∙ by_grant t p.offset (selection_fault p.selection) (positions p.selection) formed room r.count r.fee (ap (first (past_source t.chunks)) same ∙ inside) (sym (ap length same ∙ ap (λ x. x.count) gave)) (sym (ap (fee t) same ∙ ap (λ x. x.fee) gave))
    ∙ sym (answer_is t p)
