use Rattle.std.proofs.Common.{◌≡◌, true, false, eqb, ltb, length, Ok, sym, ap, ◌∙◌, arith}
use Rattle.std.proofs.lemmas.Bool.{eq-eqb, le-ltb, lt-ltb, ne_eqb}
use Rattle.selection.specs.Selected.{count_of, extent}
use Rattle.selection.proofs.Objections.{answered_err, answered_ok, answered_value, ok_answered}
use Rattle.slices.specs.Bits.{bits_fault, bytes_for}
use Rattle.slices.proofs.Picked.{bits_look, mismatch_stands, nothing_stands, output_stands, refused_after, refused_never, refused_value, selection_stands, settled_after, window_stands}
use Rattle.slices.proofs.bits.filter_bitbuffer_by_mask.Goals as goal
use Rattle.std.proofs.lemmas.Result.{err_from_is_err_and}

pub write_selected-requires : goal.write_selected-requires
write_selected-requires c =
    let n = answered_value _ _ _ (sym c.in_ok-count.ensures) in
    let up = c.div_ceil.ensures in
    let left = c.if-out-div_ceil.false in
    record { formed = answered_ok _ _ _ (sym c.in_ok-count.ensures); same = sym c.len.ensures ∙ c.if-len-source.false; room = omega arith }

pub returns-in_err-count : goal.returns-in_err-count
returns-in_err-count c =
    let w = c.args.source in
    let s = c.args.selection in
    let places = length c.args.out.now in
    let e = err_from_is_err_and c.from_residual.result c.from_residual.ensures.1 in
    let stands = selection_stands w s places _ (answered_err _ _ _ (sym c.in_err-count.ensures)) in
    record { value = rw (e.1, e.2) (refused_value (bits_fault w s places) _ (count_of s) stands); after = refused_after (bits_fault w s places) _ _ _ stands; bits = refused_never (bits_fault w s places) _ stands }

pub returns-in_err-check : goal.returns-in_err-check
returns-in_err-check c =
    let w = c.args.source in
    let s = c.args.selection in
    let places = length c.args.out.now in
    let formed = answered_ok _ _ _ (sym c.in_ok-count.ensures) in
    let e = err_from_is_err_and c.from_residual-in_err-check.result c.from_residual-in_err-check.ensures.1 in
    let stands = window_stands w s places _ formed (answered_err _ _ _ (sym c.in_err-check.ensures)) in
    record { value = rw (e.1, e.2) (refused_value (bits_fault w s places) _ (count_of s) stands); after = refused_after (bits_fault w s places) _ _ _ stands; bits = refused_never (bits_fault w s places) _ stands }

pub returns-then-len-source : goal.returns-then-len-source
returns-then-len-source c =
    let w = c.args.source in
    let s = c.args.selection in
    let places = length c.args.out.now in
    let formed = answered_ok _ _ _ (sym c.in_ok-count.ensures) in
    let inside = answered_ok _ _ _ (sym c.in_ok-check.ensures) in
    let differ : eqb (extent s) w.len ≡ false = ne_eqb (extent s) w.len (λ q. c.if-len-source.true (c.len.ensures ∙ q)) in
    let stands = mismatch_stands w s places formed inside differ in
    record { value = refused_value (bits_fault w s places) _ (count_of s) stands; after = refused_after (bits_fault w s places) _ _ _ stands; bits = refused_never (bits_fault w s places) _ stands }

pub returns-then-out-div_ceil : goal.returns-then-out-div_ceil
returns-then-out-div_ceil c =
    let w = c.args.source in
    let s = c.args.selection in
    let places = length c.args.out.now in
    let formed = answered_ok _ _ _ (sym c.in_ok-count.ensures) in
    let n = answered_value _ _ _ (sym c.in_ok-count.ensures) in
    let inside = answered_ok _ _ _ (sym c.in_ok-check.ensures) in
    let same : eqb (extent s) w.len ≡ true = eq-eqb (extent s) w.len (sym c.len.ensures ∙ c.if-len-source.false) in
    let up = c.div_ceil.ensures in
    let taken = c.if-out-div_ceil.true in
    let few : ltb places (bytes_for (count_of s)) ≡ true = lt-ltb places (bytes_for (count_of s)) (omega arith) in
    let stands = output_stands w s places formed inside same few in
    record { value = refused_value (bits_fault w s places) _ (count_of s) stands; after = refused_after (bits_fault w s places) _ _ _ stands; bits = refused_never (bits_fault w s places) _ stands }

pub returns : goal.returns
returns c =
    let w = c.args.source in
    let s = c.args.selection in
    let places = length c.args.out.now in
    let formed = answered_ok _ _ _ (sym c.in_ok-count.ensures) in
    let n = answered_value _ _ _ (sym c.in_ok-count.ensures) in
    let inside = answered_ok _ _ _ (sym c.in_ok-check.ensures) in
    let same : eqb (extent s) w.len ≡ true = eq-eqb (extent s) w.len (sym c.len.ensures ∙ c.if-len-source.false) in
    let up = c.div_ceil.ensures in
    let left = c.if-out-div_ceil.false in
    let enough : ltb places (bytes_for (count_of s)) ≡ false = le-ltb places (bytes_for (count_of s)) (omega arith) in
    let none = nothing_stands w s places formed inside same enough in
    record { value = ap Ok (sym n) ∙ ok_answered (bits_fault w s places) (count_of s) none; after = settled_after (bits_fault w s places) _ _ c.write_selected.new.out none c.write_selected.ensures; bits = λ _. bits_look w s c.args.out.now c.write_selected.new.out c.write_selected.ensures }
