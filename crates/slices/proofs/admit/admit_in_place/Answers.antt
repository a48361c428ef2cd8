use Rattle.std.proofs.Common.{sym, ap, ◌∙◌, arith}
use Rattle.std.proofs.lemmas.Result.{err_from_is_err_and}
use Rattle.selection.specs.Refusals.{answered}
use Rattle.selection.specs.Selected.{count_of, extent, selection_fault}
use Rattle.slices.specs.Slices.{unequal}
use Rattle.slices.proofs.Admitted.{lengths_agree, lengths_differ, passed_both, place_tests, refused_first, refused_then}
use Rattle.slices.proofs.admit.admit_in_place.Goals as goal

pub returns-in_err-count : goal.returns-in_err-count
returns-in_err-count c =
    let s = c.args.selection in
    let p = err_from_is_err_and c.from_residual.result c.from_residual.ensures.1 in
    rw (p.1, p.2) (refused_first (selection_fault s) (unequal (extent s) c.args.n) (count_of s) _ c.in_err-count.ensures ∙ ap (λ o. answered o (count_of s)) (sym (place_tests s c.args.n)))

pub returns-then-len-n : goal.returns-then-len-n
returns-then-len-n c =
    let s = c.args.selection in
    let n = c.args.n in
    let said = c.len.ensures in
    let test = c.if-len-n.true in
    let apart = lengths_differ (extent s) n (λ e. omega arith) in
    refused_then (selection_fault s) (unequal (extent s) n) (count_of s) c.in_ok-count.count _ c.in_ok-count.ensures apart ∙ ap (λ o. answered o (count_of s)) (sym (place_tests s n))

pub returns : goal.returns
returns c =
    let s = c.args.selection in
    let n = c.args.n in
    let said = c.len.ensures in
    let test = c.if-len-n.false in
    let agree = lengths_agree (extent s) n (omega arith) in
    passed_both (selection_fault s) (unequal (extent s) n) (count_of s) c.in_ok-count.count c.in_ok-count.ensures agree ∙ ap (λ o. answered o (count_of s)) (sym (place_tests s n))
