-- The positions of a mask, word by word, and what is left of a compaction.
use Rattle.std.proofs.Common.{◌≡◌, ℕ, zero, suc, ◌+◌, ◌-◌, ◌*◌, ◌/◌, ◌%◌, ◌^◌, ◌<◌, ◌≤◌, Bool, true, false, ◌&&◌, ltb, List, [], ◌∷◌, ◌++◌, length, get_or, filter, Some, None, sym, refl, ap, ◌∙◌, subst, suc-add, arith, Bor}
use Rattle.std.specs.List.{range_with_len, AllByRecursion}
use Rattle.std.proofs.lemmas.List.FromFn.{length-range_with_len}
use Rattle.std.proofs.lemmas.List.Elements.{filter-append}
use Rattle.std.proofs.ByRecursion.{all_kept_by, All-weaker}
use Rattle.std.proofs.lemmas.List.{append-nil}
use Rattle.std.proofs.lemmas.Bool.{and_right, lt-ltb, le-ltb}
use Rattle.selection.specs.declared.windows.Window.{Window}
use Rattle.selection.specs.Selected.{bit_of, window_bit, word_bit, word_of}
use Rattle.selection.proofs.Bits.{bit_from}
use Rattle.selection.proofs.Filtered.{kept_fewer_all, kept_same}
use Rattle.selection.proofs.Rising.{rising_all, rising_counting}
use Rattle.kernels.specs.declared.slice.MaskBits.{MaskBits}
use Rattle.kernels.specs.declared.slice.MaskBits.TheVariants.{Words, Window as Framed}
use Rattle.kernels.specs.declared.slice.MaskWords.{MaskWords}
use Rattle.kernels.specs.Words.{TakesWord}
use Rattle.kernels.specs.Masks.{WordAt, Covers, Inside, Masks, mask_bit, mask_len, mask_positions, selected_by, set_bits, count_of_words, words_bit}
use Rattle.kernels.proofs.SetBits.{bits_by_test}

pub counting_split : (m n a : ℕ) → range_with_len a (m + n) ≡ range_with_len a m ++ range_with_len (a + m) n
counting_split zero n a =
    let e : 0 + n ≡ n = omega arith in
    let f : a + 0 ≡ a = omega arith in
    rw (e, f) refl
counting_split (suc m) n a =
    let f : a + 1 + m ≡ a + suc m = omega arith in
    ap (range_with_len a) (suc-add m n) ∙ ap (λ xs. a ∷ xs) (counting_split m n (a + 1) ∙ ap (λ b. range_with_len (a + 1) m ++ range_with_len b n) f)

pub kept_none : (q : ℕ → Bool) (n a : ℕ) → ((i : ℕ) → a ≤ i → q i ≡ false) → filter q (range_with_len a n) ≡ []
kept_none q zero a h = refl
kept_none q (suc n) a h = rw (h a (omega arith)) (kept_none q n (a + 1) (λ i l. h i (omega arith)))

-- nothing is kept past n
pub kept_clear : (q : ℕ → Bool) (n m : ℕ) → n ≤ m → ((i : ℕ) → n ≤ i → q i ≡ false) → filter q (range_with_len 0 m) ≡ filter q (range_with_len 0 n)
kept_clear q n m l h =
    let k : ℕ = m - n in
    let on : n + k ≡ m = omega arith in
    ap (λ x. filter q (range_with_len 0 x)) (sym on)
    ∙ ap (filter q) (counting_split n k 0)
    ∙ filter-append q (range_with_len 0 n) (range_with_len (0 + n) k)
    ∙ ap (λ ys. filter q (range_with_len 0 n) ++ ys) (kept_none q k (0 + n) (λ i g. h i (omega arith)))
    ∙ append-nil (filter q (range_with_len 0 n))

pub kept_inside : (q : ℕ → Bool) (n : ℕ) → Inside n (filter q (range_with_len 0 n))
kept_inside q n = all_kept_by q (λ p. p < n) (range_with_len 0 n) (All-weaker (λ k. (0 ≤ k) × (k < n)) (λ k. k < n) (λ k h. h.1) (range_with_len 0 n) (rising_all 0 n (range_with_len 0 n) (rising_counting 0 n n (omega arith))))

-- the positions from word k on, of n words
unfoldable pub left_of : (ℕ → Bool) → ℕ → ℕ → List ℕ
left_of q k n = filter q (range_with_len (64 * k) (64 * n - 64 * k))

pub left_all : (q : ℕ → Bool) (n m : ℕ) → n ≤ 64 * m → ((i : ℕ) → n ≤ i → q i ≡ false) → left_of q 0 m ≡ filter q (range_with_len 0 n)
unfolding left_of
left_all q n m l h = let e : 64 * m - 64 * 0 ≡ 64 * m = omega arith in ap (λ x. filter q (range_with_len 0 x)) e ∙ kept_clear q n (64 * m) l h

pub left_none : (q : ℕ → Bool) (k n : ℕ) → n ≤ k → left_of q k n ≡ []
unfolding left_of
left_none q k n l = let e : 64 * n - 64 * k ≡ 0 = omega arith in ap (λ x. filter q (range_with_len (64 * k) x)) e

-- the positions of one word, and the rest
pub left_word : (q : ℕ → Bool) (k n w : ℕ) → k < n → ((j : ℕ) → j < 64 → bit_of w j ≡ q (64 * k + j)) → left_of q k n ≡ set_bits 64 w (64 * k) ++ left_of q (k + 1) n
unfolding left_of
left_word q k n w l h =
    let m : ℕ = 64 * n - 64 * (k + 1) in
    let on : 64 * n - 64 * k ≡ 64 + m = omega arith in
    let next : 64 * k + 64 ≡ 64 * (k + 1) = omega arith in
    let one : w / 2 ^ 0 ≡ w = omega arith in
    let here : filter q (range_with_len (64 * k) 64) ≡ set_bits 64 w (64 * k) = bits_by_test q 64 w 0 (64 * k) (λ j g. sym (h j g) ∙ ap (bit_of w) (let e : j ≡ 0 + j = omega arith in e)) ∙ ap (λ v. set_bits 64 v (64 * k)) one in
    ap (λ x. filter q (range_with_len (64 * k) x)) on
    ∙ ap (filter q) (counting_split 64 m (64 * k))
    ∙ filter-append q (range_with_len (64 * k) 64) (range_with_len (64 * k + 64) m)
    ∙ ap (λ xs. xs ++ filter q (range_with_len (64 * k + 64) m)) here
    ∙ ap (λ b. set_bits 64 w (64 * k) ++ filter q (range_with_len b m)) next

pub mask_left : (bits : MaskBits) (n : ℕ) → Masks bits n → left_of (mask_bit bits) 0 (count_of_words bits) ≡ selected_by bits
unfolding selected_by
mask_left bits n h = left_all (mask_bit bits) n (count_of_words bits) h.enough h.clear ∙ ap (λ x. filter (mask_bit bits) (range_with_len 0 x)) (sym h.long)

pub selected_inside : (bits : MaskBits) (n : ℕ) → Masks bits n → Inside n (selected_by bits)
unfolding selected_by
selected_inside bits n h = subst (λ x. Inside x (filter (mask_bit bits) (range_with_len 0 (mask_len bits)))) h.long (kept_inside (mask_bit bits) (mask_len bits))

pub all_parts : (P : ℕ → Type 0) (xs ys : List ℕ) → AllByRecursion P (xs ++ ys) → AllByRecursion P xs × AllByRecursion P ys
all_parts P [] ys h = (tt, h)
all_parts P (x ∷ xs) ys h = let r = all_parts P xs ys h.1 in ((h.0, r.0), r.1)

pub positions_inside : (ws : List ℕ) (n : ℕ) → Inside n (mask_positions ws n)
unfolding mask_positions
positions_inside ws n = kept_inside (words_bit ws) n

-- the bits of the word at a place
pub word_bits : (ws : List ℕ) (k j : ℕ) → j < 64 → bit_of (get_or ws k 0) j ≡ words_bit ws (64 * k + j)
word_bits ws k j l =
    let a : k ≡ (64 * k + j) / 64 = omega arith in
    let b : j ≡ (64 * k + j) % 64 = omega arith in
    ap (λ x. bit_of (get_or ws x 0) j) a ∙ ap (bit_of (get_or ws ((64 * k + j) / 64) 0)) b

-- words as a mask
pub words_mask : (ws : Bor (List ℕ)) (n : ℕ) → Covers ws.now n → Masks (Words ws n) n
words_mask ws n h = record { long = refl; enough = h.enough; close = h.close; clear = h.clear }

pub words_selected : (ws : Bor (List ℕ)) (n : ℕ) → selected_by (Words ws n) ≡ mask_positions ws.now n
unfolding selected_by mask_positions
words_selected ws n = refl

pub positions_fewer : (ws : List ℕ) (n : ℕ) → length (mask_positions ws n) ≤ n
unfolding mask_positions
positions_fewer ws n = let h = kept_fewer_all (words_bit ws) (range_with_len 0 n) in let e = length-range_with_len 0 n in omega arith

-- words with the bits of a test
pub positions_same : (ws : List ℕ) (q : ℕ → Bool) (n : ℕ) → ((i : ℕ) → i < n → words_bit ws i ≡ q i) → mask_positions ws n ≡ filter q (range_with_len 0 n)
unfolding mask_positions
positions_same ws q n h = kept_same (words_bit ws) q (range_with_len 0 n) (All-weaker (λ i. (0 ≤ i) × (i < n)) (λ i. words_bit ws i ≡ q i) (λ i l. h i l.1) (range_with_len 0 n) (rising_all 0 n (range_with_len 0 n) (rising_counting 0 n n (omega arith))))

-- the positions of all words
pub word_first : (bits : MaskBits) (it : MaskWords) (n : ℕ) → it.next ≡ 0 → Masks bits n → left_of (mask_bit bits) it.next (count_of_words bits) ≡ selected_by bits
word_first bits it n e h = ap (λ m. left_of (mask_bit bits) m (count_of_words bits)) e ∙ mask_left bits n h

-- those of the word that comes next, and the rest
pub word_next : (bits : MaskBits) (it it' : MaskWords) (k w : ℕ) → it.bits ≡ bits → TakesWord it (Some (k, w)) it' → (left_of (mask_bit bits) it.next (count_of_words bits) ≡ set_bits 64 w (64 * k) ++ left_of (mask_bit bits) it'.next (count_of_words bits)) × (it'.bits ≡ bits) × (k < count_of_words bits)
word_next bits it it' k w e h =
    let q = mask_bit bits in
    let n = count_of_words bits in
    let at : WordAt bits k w = subst (λ m. WordAt bits m w) (sym h.0) (subst (λ b. WordAt b it.next w) e h.2) in
    let below : k < n = subst (λ m. m < n) (sym h.0) (subst (λ b. it.next < count_of_words b) e h.1) in
    let next : k + 1 ≡ it'.next = ap (λ m. m + 1) h.0 ∙ sym (ap (λ t. t.next) h.3) in
    (ap (λ m. left_of q m n) (sym h.0) ∙ left_word q k n w below at ∙ ap (λ m. set_bits 64 w (64 * k) ++ left_of q m n) next, ap (λ t. t.bits) h.3 ∙ e, below)

pub word_over : (bits : MaskBits) (it it' : MaskWords) → it.bits ≡ bits → TakesWord it None it' → left_of (mask_bit bits) it.next (count_of_words bits) ≡ []
word_over bits it it' e h = left_none (mask_bit bits) it.next (count_of_words bits) (subst (λ b. count_of_words b ≤ it.next) e h.0)

-- the bits of a window's word
pub bits_of_window : (w : Window) (k j : ℕ) → j < 64 → bit_of (word_of w k) j ≡ mask_bit (Framed w) (64 * k + j)
unfolding word_of
bits_of_window w k j l = bit_from (word_bit w k) 64 j l

-- a window as a mask
pub window_mask : (w : Window) → Masks (Framed w) w.len
window_mask w = record { long = refl; enough = omega arith; close = omega arith; clear = λ i l. and_right (window_bit w i) (ltb i w.len) (le-ltb i w.len l) }

pub window_selected : (w : Window) → selected_by (Framed w) ≡ filter (window_bit w) (range_with_len 0 w.len)
unfolding selected_by
window_selected w = kept_same (mask_bit (Framed w)) (window_bit w) (range_with_len 0 w.len) (All-weaker (λ i. (0 ≤ i) × (i < w.len)) (λ i. mask_bit (Framed w) i ≡ window_bit w i) (λ i l. within i l.1) (range_with_len 0 w.len) (rising_all 0 w.len (range_with_len 0 w.len) (rising_counting 0 w.len w.len (omega arith))))
  where
    and_true : (b : Bool) → (b && true) ≡ b
    and_true true = refl
    and_true false = refl

    within : (i : ℕ) → i < w.len → (window_bit w i && ltb i w.len) ≡ window_bit w i
    within i l = ap (λ b. window_bit w i && b) (lt-ltb i w.len l) ∙ and_true (window_bit w i)
