use Rattle.std.proofs.Common.{◌≡◌, ◌<◌, ◌≤◌, sym, ap, ◌∙◌, arith}
use Rattle.std.proofs.lemmas.Result.{err_from_is_err_and}
use Rattle.selection.specs.Refusals.{answered}
use Rattle.selection.specs.Selected.{count_of}
use Rattle.slices.specs.Slices.{place_fault, too_few}
use Rattle.slices.proofs.Admitted.{copy_tests, counted, passed_both, places_enough, places_lack, refused_first, refused_then}
use Rattle.slices.proofs.admit.admit_copy.Goals as goal

pub returns-in_err-count : goal.returns-in_err-count
returns-in_err-count c =
    let s = c.args.selection in
    let p = err_from_is_err_and c.from_residual.result c.from_residual.ensures.1 in
    rw (p.1, p.2) (refused_first (place_fault s c.args.n) (too_few c.args.places (count_of s)) (count_of s) _ c.in_err-count.ensures ∙ ap (λ o. answered o (count_of s)) (sym (copy_tests s c.args.n c.args.places)))

pub returns-then-places-count : goal.returns-then-places-count
returns-then-places-count c =
    let s = c.args.selection in
    let n = c.args.n in
    let places = c.args.places in
    let is : count_of s ≡ c.in_ok-count.count = counted (place_fault s n) (count_of s) c.in_ok-count.count c.in_ok-count.ensures in
    let lack : places < count_of s = omega arith in
    refused_then (place_fault s n) (too_few places (count_of s)) (count_of s) c.in_ok-count.count _ c.in_ok-count.ensures (places_lack places (count_of s) lack) ∙ ap (λ o. answered o (count_of s)) (sym (copy_tests s n places))

pub returns : goal.returns
returns c =
    let s = c.args.selection in
    let n = c.args.n in
    let places = c.args.places in
    let is : count_of s ≡ c.in_ok-count.count = counted (place_fault s n) (count_of s) c.in_ok-count.count c.in_ok-count.ensures in
    let enough : count_of s ≤ places = omega arith in
    passed_both (place_fault s n) (too_few places (count_of s)) (count_of s) c.in_ok-count.count c.in_ok-count.ensures (places_enough places (count_of s) enough) ∙ ap (λ o. answered o (count_of s)) (sym (copy_tests s n places))
