use Rattle.std.proofs.Common.{◌≡◌, ◌+◌, ◌<◌, ◌≤◌, [], ◌++◌, map, length, sym, ap, ◌∙◌, subst, ap₂, arith}
use Rattle.std.proofs.lemmas.List.{length-map}
use Rattle.selection.specs.Selected.{bit_of, window_bit, window_positions, word_of}
use Rattle.kernels.specs.Masks.{mask_bit, set_bits, count_of_words}
use Rattle.kernels.specs.declared.slice.MaskBits.TheVariants.{Window as Framed}
use Rattle.kernels.proofs.Masked.{left_none, left_of, mask_left, window_mask, window_selected}
use Rattle.slices.specs.Accumulated.{Adds, Room}
use Rattle.slices.proofs.Stored.{going_done, going_room, going_same, going_start, going_turn}
use Rattle.slices.proofs.Taken.{left_taken}
use Rattle.slices.proofs.bits.append_window.Goals as goal

pub loop-k-init : goal.loop-k-init
loop-k-init c =
    let w = c.args.window in
    going_start _ _ c.args.acc.now c.requires.room.fill (ap (map (window_bit c.args.source)) (mask_left (Framed w) w.len (window_mask w) ∙ window_selected w))

pub append_word-requires : goal.append_word-requires
append_word-requires c =
    let s = c.args.source in
    let w = c.args.window in
    let k = c.loop-k.k in
    let n = count_of_words (Framed w) in
    let up = c.div_ceil-k-end.ensures in
    let within : k < n = omega arith in
    let xs = map (bit_of (word_of s k)) (set_bits 64 (word_of w k) 0) in
    let rest = map (window_bit s) (left_of (mask_bit (Framed w)) (k + 1) n) in
    let inv = going_same (xs ++ rest) (left_taken s w c.requires.same k n within) c.loop-k.invariant in
    let room = subst (λ m. Room c.args.acc.now m) (sym (length-map (window_positions w) (window_bit s))) c.requires.room in
    subst (λ m. Room c.loop-k.acc m) (length-map (set_bits 64 (word_of w k) 0) (bit_of (word_of s k)) ∙ ap (λ m. length (set_bits 64 m 0)) (sym c.word-in-loop-k.ensures)) (going_room xs rest inv room)

pub loop-k-preserved : goal.loop-k-preserved
loop-k-preserved c =
    let s = c.args.source in
    let w = c.args.window in
    let k = c.loop-k.k in
    let n = count_of_words (Framed w) in
    let up = c.div_ceil-k-end.ensures in
    let within : k < n = omega arith in
    let xs = map (bit_of (word_of s k)) (set_bits 64 (word_of w k) 0) in
    let rest = map (window_bit s) (left_of (mask_bit (Framed w)) (k + 1) n) in
    let inv = going_same (xs ++ rest) (left_taken s w c.requires.same k n within) c.loop-k.invariant in
    let same : map (bit_of c.word.result) (set_bits 64 c.word-in-loop-k.result 0) ≡ xs = ap₂ (λ a b. map (bit_of a) (set_bits 64 b 0)) c.word.ensures c.word-in-loop-k.ensures in
    going_turn xs rest c.append_word.new.acc inv (subst (λ ys. Adds ys c.loop-k.acc c.append_word.new.acc) same c.append_word.ensures)

pub returns : goal.returns
returns c =
    let w = c.args.window in
    let up = c.div_ceil-k-end.ensures in
    let past : count_of_words (Framed w) ≤ c.loop-k.k = omega arith in
    going_done (going_same [] (ap (map (window_bit c.args.source)) (left_none (mask_bit (Framed w)) c.loop-k.k (count_of_words (Framed w)) past)) c.loop-k.invariant)
