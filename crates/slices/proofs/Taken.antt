-- The bits of a window at some positions.
use Rattle.std.proofs.Common.{◌≡◌, ℕ, zero, suc, ◌+◌, ◌-◌, ◌*◌, ◌/◌, ◌^◌, ◌<◌, ◌≤◌, min, Bool, true, false, cond, ◌&&◌, List, [], ◌∷◌, ◌++◌, map, length, get_or, drop, filter, sym, refl, ap, ◌∙◌, subst, ap₂, ⊎_elim, arith}
use lib.Count.{ones}
use Rattle.std.specs.List.{range_with_len, flat_map, AllByRecursion}
use Rattle.std.proofs.lemmas.List.FromFn.{get_or-map-range_with_len, length-map-range_with_len}
use Rattle.std.proofs.lemmas.List.{map-append}
use Rattle.std.proofs.lemmas.Bool.{cases_lt, lt-ltb}
use Rattle.selection.specs.declared.windows.Window.{Window}
use Rattle.selection.specs.declared.selections.Run.{Run}
use Rattle.selection.specs.Selected.{bit_of, number_of_bits, no_run, range, window_bit, window_bits, window_from, word_of}
use Rattle.selection.proofs.Bits.{from_by_bits, from_own, ones_from}
use Rattle.selection.proofs.Filtered.{all_of_map, map_map}
use Rattle.kernels.specs.Masks.{mask_bit, set_bits}
use Rattle.kernels.specs.declared.slice.MaskBits.TheVariants.{Window as Framed}
use Rattle.kernels.proofs.Masked.{counting_split, kept_inside, left_word, left_of, bits_of_window, window_mask}
use Rattle.kernels.proofs.SetBits.{all_bits, bits_by_test, bits_moved}
use Rattle.slices.specs.Bits.{packed, pext}
use Rattle.kernels.proofs.InRuns.{run_parts}
use Rattle.slices.proofs.Extracts.{bits_own, pext_is}
use Rattle.slices.proofs.Packed.{packed_bit, packed_lt}

pub same_on : {X Y : Type 0} (P Q : X → Type 0) (f g : X → Y) → ((x : X) → P x → Q x → f x ≡ g x) → (xs : List X) → AllByRecursion P xs → AllByRecursion Q xs → map f xs ≡ map g xs
same_on P Q f g h [] p q = refl
same_on P Q f g h (x ∷ xs) p q = ap₂ (λ y ys. y ∷ ys) (h x p.0 q.0) (same_on P Q f g h xs p.1 q.1)

-- the number that the first n bits make
pub packed_from : (f : ℕ → Bool) (n : ℕ) → packed (map f (range_with_len 0 n)) ≡ number_of_bits f n
packed_from f n =
    let bs = map f (range_with_len 0 n) in
    let size = length-map-range_with_len f 0 n in
    from_by_bits (packed bs) n f (subst (λ t. packed bs < 2 ^ t) size (packed_lt bs)) (λ j l. packed_bit bs j ∙ get_or-map-range_with_len f 0 n j j false l (omega arith))

map_shift : (f : ℕ → Bool) (n a b : ℕ) → map (λ j. f (a + j)) (range_with_len b n) ≡ map f (range_with_len (a + b) n)
map_shift f zero a b = refl
map_shift f (suc n) a b = let e : a + (b + 1) ≡ a + b + 1 = omega arith in ap (λ ys. f (a + b) ∷ ys) (map_shift f n a (b + 1) ∙ ap (λ t. map f (range_with_len t n)) e)

-- bits of a window from a position on, as it reads them
pub packed_window : (w : Window) (from n r : ℕ) → n ≤ 64 → from + n ≤ w.len → r ≡ window_bits w from n → packed (map (window_bit w) (range_with_len from n)) ≡ r
unfolding window_bits
packed_window w from n r h l e =
    let size : n ≡ min (min n 64) (w.len - from) = omega arith in
    let here : from ≡ from + 0 = omega arith in
    ap (λ t. packed (map (window_bit w) (range_with_len t n))) here ∙ ap packed (sym (map_shift (window_bit w) n from 0)) ∙ packed_from (window_from w from) n ∙ ap (number_of_bits (window_from w from)) size ∙ sym e

-- a whole word
packed_own : (x n : ℕ) → x < 2 ^ n → packed (map (bit_of x) (range_with_len 0 n)) ≡ x
packed_own x n h = packed_from (bit_of x) n ∙ sym (from_own x n h)

pub word_full : (n word mask : ℕ) → word < 2 ^ n → mask ≡ 2 ^ n - 1 → packed (map (bit_of word) (set_bits n mask 0)) ≡ word
word_full n word mask h e = ap (λ m. packed (map (bit_of word) (set_bits n m 0))) e ∙ ap (λ ps. packed (map (bit_of word) ps)) (all_bits n 0) ∙ packed_own word n h

pub word_taken : (word mask r : ℕ) → r ≡ pext word mask → packed (map (bit_of word) (set_bits 64 mask 0)) ≡ r
word_taken word mask r e = pext_is word mask (packed (map (bit_of word) (set_bits 64 mask 0))) refl ∙ sym e

pub word_count : (n mask : ℕ) → mask < 2 ^ n → length (set_bits n mask 0) ≡ ones mask
word_count n mask h = sym (ap ones (from_own mask n h) ∙ ones_from (bit_of mask) n ∙ ap length (bits_own n mask))

-- no position past the length
kept_below : (q : ℕ → Bool) (len n a : ℕ) → ((i : ℕ) → len ≤ i → q i ≡ false) → AllByRecursion (λ p. p < len) (filter q (range_with_len a n))
kept_below q len zero a h = tt
kept_below q len (suc n) a h = ⊎_elim (within (kept_below q len n (a + 1) h)) (past (kept_below q len n (a + 1) h)) (cases_lt a len)
  where
    either : (b : Bool) → AllByRecursion (λ p. p < len) (filter q (range_with_len (a + 1) n)) → a < len → AllByRecursion (λ p. p < len) (cond b (a ∷ filter q (range_with_len (a + 1) n)) (filter q (range_with_len (a + 1) n)))
    either true r l = (l, r)
    either false r l = r

    within : AllByRecursion (λ p. p < len) (filter q (range_with_len (a + 1) n)) → a < len → AllByRecursion (λ p. p < len) (filter q (range_with_len a (suc n)))
    within r l = either (q a) r l

    past : AllByRecursion (λ p. p < len) (filter q (range_with_len (a + 1) n)) → len ≤ a → AllByRecursion (λ p. p < len) (filter q (range_with_len a (suc n)))
    past r l = rw (h a l) r

-- a word of the source by a word of the mask, of n bits
module _ (source window : Window) (same : window.len ≡ source.len) (k : ℕ) where
  here : (n : ℕ) → n ≤ 64 → filter (mask_bit (Framed window)) (range_with_len (64 * k) n) ≡ set_bits n (word_of window k) (64 * k)
  here n h =
      let one : word_of window k / 2 ^ 0 ≡ word_of window k = omega arith in
      bits_by_test (mask_bit (Framed window)) n (word_of window k) 0 (64 * k) (λ j l. sym (bits_of_window window k j (omega arith)) ∙ ap (bit_of (word_of window k)) (let e : j ≡ 0 + j = omega arith in e)) ∙ ap (λ v. set_bits n v (64 * k)) one

  moved : (n : ℕ) → set_bits n (word_of window k) (64 * k) ≡ map (λ j. 64 * k + j) (set_bits n (word_of window k) 0)
  moved n = let e : 64 * k ≡ 64 * k + 0 = omega arith in ap (set_bits n (word_of window k)) e ∙ bits_moved n (word_of window k) (64 * k) 0

  below : (n : ℕ) → n ≤ 64 → AllByRecursion (λ j. 64 * k + j < window.len) (set_bits n (word_of window k) 0)
  below n h = all_of_map (λ p. p < window.len) (λ j. 64 * k + j) (set_bits n (word_of window k) 0) (subst (AllByRecursion (λ p. p < window.len)) (here n h ∙ moved n) (kept_below (mask_bit (Framed window)) window.len n (64 * k) (window_mask window).clear))

  small : (n : ℕ) → n ≤ 64 → AllByRecursion (λ j. j < n) (set_bits n (word_of window k) 0)
  small n h = subst (AllByRecursion (λ j. j < n)) (bits_own n (word_of window k)) (kept_inside (bit_of (word_of window k)) n)

  and_true : (b : Bool) → (b && true) ≡ b
  and_true true = refl
  and_true false = refl

  one_of : (j : ℕ) → j < 64 → 64 * k + j < window.len → bit_of (word_of source k) j ≡ window_bit source (64 * k + j)
  one_of j l i = bits_of_window source k j l ∙ ap (λ b. window_bit source (64 * k + j) && b) (lt-ltb (64 * k + j) source.len (omega arith)) ∙ and_true (window_bit source (64 * k + j))

  pub taken_of : (n : ℕ) → n ≤ 64 → map (window_bit source) (set_bits n (word_of window k) (64 * k)) ≡ map (bit_of (word_of source k)) (set_bits n (word_of window k) 0)
  taken_of n h =
      ap (map (window_bit source)) (moved n)
      ∙ map_map (window_bit source) (λ j. 64 * k + j) (set_bits n (word_of window k) 0)
      ∙ sym (same_on (λ j. j < n) (λ j. 64 * k + j < window.len) (bit_of (word_of source k)) (λ j. window_bit source (64 * k + j)) (λ j l i. one_of j (omega arith) i) (set_bits n (word_of window k) 0) (small n h) (below n h))

  -- the bits of one word, and the rest
  pub left_taken : (m : ℕ) → k < m → map (window_bit source) (left_of (mask_bit (Framed window)) k m) ≡ map (bit_of (word_of source k)) (set_bits 64 (word_of window k) 0) ++ map (window_bit source) (left_of (mask_bit (Framed window)) (k + 1) m)
  left_taken m l =
      ap (map (window_bit source)) (left_word (mask_bit (Framed window)) k m (word_of window k) l (bits_of_window window k))
      ∙ map-append (window_bit source) (set_bits 64 (word_of window k) (64 * k)) (left_of (mask_bit (Framed window)) (k + 1) m)
      ∙ ap (λ ys. ys ++ map (window_bit source) (left_of (mask_bit (Framed window)) (k + 1) m)) (taken_of 64 (omega arith))

-- the bits of one run and the rest
pub runs_taken : (f : ℕ → Bool) (rs : List Run) (k : ℕ) → k < length rs → map f (flat_map range (drop k rs)) ≡ map f (range (get_or rs k no_run)) ++ map f (flat_map range (drop (k + 1) rs))
runs_taken f rs k l = ap (map f) (run_parts rs k l) ∙ map-append f (range (get_or rs k no_run)) (flat_map range (drop (k + 1) rs))

-- up to 64 of what is left of a run, and the rest
pub run_taken : (f : ℕ → Bool) (start len k n : ℕ) → 64 * k < len → n ≡ min (len - 64 * k) 64 → map f (range_with_len (start + 64 * k) (len - 64 * k)) ≡ map f (range_with_len (start + 64 * k) n) ++ map f (range_with_len (start + 64 * (k + 1)) (len - 64 * (k + 1)))
run_taken f start len k n l e =
    let on : len - 64 * k ≡ n + (len - 64 * (k + 1)) = omega arith in
    ap (λ t. map f (range_with_len (start + 64 * k) t)) on ∙ ap (map f) (counting_split n (len - 64 * (k + 1)) (start + 64 * k)) ∙ map-append f (range_with_len (start + 64 * k) n) (range_with_len (start + 64 * k + n) (len - 64 * (k + 1))) ∙ ap (λ ys. map f (range_with_len (start + 64 * k) n) ++ map f ys) (⊎_elim last more (cases_lt (len - 64 * k) 64))
  where
    last : len - 64 * k < 64 → range_with_len (start + 64 * k + n) (len - 64 * (k + 1)) ≡ range_with_len (start + 64 * (k + 1)) (len - 64 * (k + 1))
    last h = let none : len - 64 * (k + 1) ≡ 0 = omega arith in ap (range_with_len (start + 64 * k + n)) none ∙ sym (ap (range_with_len (start + 64 * (k + 1))) none)

    more : 64 ≤ len - 64 * k → range_with_len (start + 64 * k + n) (len - 64 * (k + 1)) ≡ range_with_len (start + 64 * (k + 1)) (len - 64 * (k + 1))
    more h = let next : start + 64 * k + n ≡ start + 64 * (k + 1) = omega arith in ap (λ a. range_with_len a (len - 64 * (k + 1))) next
