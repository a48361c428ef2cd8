-- The places of a bitmap, cut where a chunk ends, and the words that were loaded from it.
use Rattle.std.proofs.Common.{◌≡◌, ℕ, ◌+◌, ◌-◌, ◌*◌, ◌/◌, ◌%◌, ◌<◌, ◌≤◌, min, Bool, false, List, ◌++◌, map, length, get_or, filter, sym, ap, ◌∙◌, subst, ap₂, ⊎_elim, arith, Bor}
use Rattle.std.specs.List.{range_with_len, between, AllByRecursion}
use Rattle.std.proofs.ByRecursion.{all_kept_by, All-map, All-weaker}
use Rattle.std.proofs.lemmas.List.{get_or_past, length-map, map-append}
use Rattle.std.proofs.lemmas.List.FromFn.{fill_by_all, get_or-range_with_len, length-range_with_len}
use Rattle.std.proofs.lemmas.Bool.{cases_lt}
use Rattle.selection.specs.declared.windows.Window.{Window}
use Rattle.selection.specs.Selected.{Rising, bit_of, window_bit, window_bits, window_from}
use Rattle.selection.proofs.Bits.{bit_above, bit_from, bit_from_past}
use Rattle.selection.proofs.Filtered.{kept_map, map_map, map_same}
use Rattle.selection.proofs.Rising.{rising_all, rising_counting, rising_kept}
use Rattle.kernels.specs.Moved.{shifted}
use Rattle.kernels.specs.declared.slice.MaskBits.TheVariants.{Words}
use Rattle.kernels.specs.Masks.{Covers, mask_positions, selected_by, words_bit}
use Rattle.kernels.proofs.Masked.{positions_inside, positions_same, words_selected}
use Rattle.source.specs.Fetched.{place_in}
use Rattle.settle.specs.Pushes.{moved}
use Rattle.settle.specs.Bounds.{boundary, kept_between_places}
use Rattle.settle.proofs.Settled.{at}
use Rattle.settle.proofs.Bitmaps.{chunk_here, kept_split, kept_within}
use Rattle.chunked.proofs.Cuts.{Cut, cut_of, part_of}

-- the places of the positions that a test keeps, of a selection of length n at an offset, in three parts by chunk c
module _ (q : ℕ → Bool) (offset n c : ℕ) (small : offset ≤ 1024) where
  three : at offset (kept_between_places q 0 n) ≡ at offset (kept_between_places q 0 (boundary offset n c)) ++ (at offset (kept_between_places q (boundary offset n c) (boundary offset n (c + 1))) ++ at offset (kept_between_places q (boundary offset n (c + 1)) n))
  three =
      let a = boundary offset n c in
      let b = boundary offset n (c + 1) in
      ap (at offset) (kept_split q 0 (boundary offset n c) n (omega arith) (omega arith) ∙ ap (λ xs. kept_between_places q 0 (boundary offset n c) ++ xs) (kept_split q (boundary offset n c) (boundary offset n (c + 1)) n (omega arith) (omega arith)))
      ∙ map-append (moved offset) (kept_between_places q 0 (boundary offset n c)) (kept_between_places q (boundary offset n c) (boundary offset n (c + 1)) ++ kept_between_places q (boundary offset n (c + 1)) n)
      ∙ ap (λ xs. at offset (kept_between_places q 0 (boundary offset n c)) ++ xs) (map-append (moved offset) (kept_between_places q (boundary offset n c) (boundary offset n (c + 1))) (kept_between_places q (boundary offset n (c + 1)) n))

  before : AllByRecursion (λ p. p / 1024 < c) (at offset (kept_between_places q 0 (boundary offset n c)))
  before = All-map (λ p. p / 1024 < c) (moved offset) (kept_between_places q 0 (boundary offset n c)) (All-weaker (λ x. (0 ≤ x) × (x < boundary offset n c)) (λ x. moved offset x / 1024 < c) (λ x h. omega arith) (kept_between_places q 0 (boundary offset n c)) (kept_within q 0 (boundary offset n c)))

  past : AllByRecursion (λ p. c < p / 1024) (at offset (kept_between_places q (boundary offset n (c + 1)) n))
  past = All-map (λ p. c < p / 1024) (moved offset) (kept_between_places q (boundary offset n (c + 1)) n) (All-weaker (λ x. (boundary offset n (c + 1) ≤ x) × (x < n)) (λ x. c < moved offset x / 1024) (λ x h. omega arith) (kept_between_places q (boundary offset n (c + 1)) n) (kept_within q (boundary offset n (c + 1)) n))

  module _ (k m : ℕ) (done : k ≡ length (kept_between_places q 0 (boundary offset n c))) (count : m ≡ length (kept_between_places q (boundary offset n c) (boundary offset n (c + 1)))) (some : 0 < m) where
    shape : (xs ys zs : List ℕ) → at offset (kept_between_places q 0 n) ≡ xs ++ (ys ++ zs) → length xs ≡ k → length ys ≡ m → Cut (xs ++ (ys ++ zs)) (length xs) (length xs + length ys) c → Cut (at offset (kept_between_places q 0 n)) k (k + m) c
    shape xs ys zs e a b h = subst (λ ps. Cut ps k (k + m) c) (sym e) (subst (λ i. Cut (xs ++ (ys ++ zs)) i (i + m) c) a (subst (λ j. Cut (xs ++ (ys ++ zs)) (length xs) (length xs + j) c) b h))

    pub bitmap_cut : Cut (at offset (kept_between_places q 0 n)) k (k + m) c
    bitmap_cut =
        let front = length-map (kept_between_places q 0 (boundary offset n c)) (moved offset) in
        let part = length-map (kept_between_places q (boundary offset n c) (boundary offset n (c + 1))) (moved offset) in
        shape _ _ _ three (front ∙ sym done) (part ∙ sym count) (cut_of (at offset (kept_between_places q 0 (boundary offset n c))) (at offset (kept_between_places q (boundary offset n c) (boundary offset n (c + 1)))) (at offset (kept_between_places q (boundary offset n (c + 1)) n)) c before (chunk_here q offset n c small) past (omega arith))

    pub bitmap_part : between k (k + m) (at offset (kept_between_places q 0 n)) ≡ at offset (kept_between_places q (boundary offset n c) (boundary offset n (c + 1)))
    bitmap_part =
        let xs = at offset (kept_between_places q 0 (boundary offset n c)) in
        let ys = at offset (kept_between_places q (boundary offset n c) (boundary offset n (c + 1))) in
        let front : length xs ≡ k = length-map (kept_between_places q 0 (boundary offset n c)) (moved offset) ∙ sym done in
        let part : length ys ≡ m = length-map (kept_between_places q (boundary offset n c) (boundary offset n (c + 1))) (moved offset) ∙ sym count in
        ap (between k (k + m)) three ∙ ap₂ (λ i j. between i (i + j) (xs ++ (ys ++ at offset (kept_between_places q (boundary offset n (c + 1)) n)))) (sym front) (sym part) ∙ part_of xs ys (at offset (kept_between_places q (boundary offset n (c + 1)) n)) c before (chunk_here q offset n c small) past (omega arith)

pub kept_rises : (q : ℕ → Bool) (n : ℕ) → Rising 0 n (kept_between_places q 0 n)
kept_rises q n = rising_kept q 0 n (range_with_len 0 (n - 0)) (rising_counting 0 (n - 0) n (omega arith))

-- words that were loaded from a window
module _ (w : Window) (from n : ℕ) (ws : List ℕ) (enough : n ≤ 64 * length ws) (close : 64 * length ws < n + 64) (inside : from + n ≤ w.len) (loaded : (j : ℕ) → j < length ws → get_or ws j 0 ≡ window_bits w (from + 64 * j) (n - 64 * j)) where
  word_bit_is : (i : ℕ) → i < n → words_bit ws i ≡ window_from w from i
  unfolding window_bits
  word_bit_is i h =
      let m : ℕ = i / 64 in
      let size : i % 64 < min (min (n - 64 * m) 64) (w.len - (from + 64 * m)) = omega arith in
      let same : from + 64 * m + i % 64 ≡ from + i = omega arith in
      ap (λ x. bit_of x (i % 64)) (loaded m (omega arith)) ∙ bit_from (window_from w (from + 64 * m)) (min (min (n - 64 * m) 64) (w.len - (from + 64 * m))) (i % 64) size ∙ ap (window_bit w) same

  word_past : (i : ℕ) → n ≤ i → words_bit ws i ≡ false
  unfolding window_bits
  word_past i h = ⊎_elim there gone (cases_lt (i / 64) (length ws))
    where
      there : i / 64 < length ws → words_bit ws i ≡ false
      there l =
          let m : ℕ = i / 64 in
          ap (λ x. bit_of x (i % 64)) (loaded m l) ∙ bit_from_past (window_from w (from + 64 * m)) (min (min (n - 64 * m) 64) (w.len - (from + 64 * m))) (i % 64) (omega arith)

      gone : length ws ≤ i / 64 → words_bit ws i ≡ false
      gone l = ap (λ x. bit_of x (i % 64)) (get_or_past ws (i / 64) 0 l) ∙ bit_above 0 0 (i % 64) (omega arith) (omega arith)

  pub loaded_covers : Covers ws n
  loaded_covers = record { enough = enough; close = close; clear = word_past }

  pub loaded_picks : mask_positions ws n ≡ filter (window_from w from) (range_with_len 0 n)
  loaded_picks = positions_same ws (window_from w from) n word_bit_is

-- positions from one on, counted from there
pub kept_from : (q : ℕ → Bool) (offset a b base : ℕ) → base ≡ offset + a → map (moved base) (filter (λ j. q (a + j)) (range_with_len 0 (b - a))) ≡ at offset (kept_between_places q a b)
kept_from q offset a b base e =
    let xs = filter (λ j. q (a + j)) (range_with_len 0 (b - a)) in
    let same : map (moved base) (filter (λ j. q (a + j)) (range_with_len 0 (b - a))) ≡ map (λ j. moved offset (a + j)) (filter (λ j. q (a + j)) (range_with_len 0 (b - a))) = map_same (moved base) (λ j. moved offset (a + j)) (filter (λ j. q (a + j)) (range_with_len 0 (b - a))) (all_kept_by (λ j. q (a + j)) (λ j. moved base j ≡ moved offset (a + j)) (range_with_len 0 (b - a)) (All-weaker (λ j. (0 ≤ j) × (j < b - a)) (λ j. moved base j ≡ moved offset (a + j)) (λ j _. omega arith) (range_with_len 0 (b - a)) (rising_all 0 (b - a) (range_with_len 0 (b - a)) (rising_counting 0 (b - a) (b - a) (omega arith))))) in
    same ∙ sym (map_map (moved offset) (λ j. a + j) (filter (λ j. q (a + j)) (range_with_len 0 (b - a)))) ∙ ap (at offset) (sym (kept_map q (λ j. a + j) (range_with_len 0 (b - a))) ∙ ap (filter q) (sym (fill_by_all (λ j. a + j) (range_with_len a (b - a)) (b - a) 0 (length-range_with_len a (b - a)) (λ k h. get_or-range_with_len a (b - a) k 0 h))))

-- the places of words in a chunk, from their indices there
pub words_back : (ws : List ℕ) (n chunk up : ℕ) → map (place_in chunk) (map (shifted up 0) (mask_positions ws n)) ≡ map (moved (chunk * 1024 + up)) (mask_positions ws n)
words_back ws n chunk up = map_map (place_in chunk) (shifted up 0) (mask_positions ws n) ∙ map_same (λ i. place_in chunk (shifted up 0 i)) (moved (chunk * 1024 + up)) (mask_positions ws n) (All-weaker (λ i. i < n) (λ i. place_in chunk (shifted up 0 i) ≡ moved (chunk * 1024 + up) i) (λ i _. omega arith) (mask_positions ws n) (positions_inside ws n))

-- and their indices from the places
pub words_down : (ws : List ℕ) (n chunk up : ℕ) → map (shifted up 0) (mask_positions ws n) ≡ map (shifted 0 (chunk * 1024)) (map (moved (chunk * 1024 + up)) (mask_positions ws n))
words_down ws n chunk up = map_same (shifted up 0) (λ i. shifted 0 (chunk * 1024) (moved (chunk * 1024 + up) i)) (mask_positions ws n) (All-weaker (λ i. i < n) (λ i. shifted up 0 i ≡ shifted 0 (chunk * 1024) (moved (chunk * 1024 + up) i)) (λ i _. omega arith) (mask_positions ws n) (positions_inside ws n)) ∙ sym (map_map (shifted 0 (chunk * 1024)) (moved (chunk * 1024 + up)) (mask_positions ws n))

-- words that were loaded from a window, as places
pub loaded_places : (w : Window) (ws : Bor (List ℕ)) (offset a b chunk up : ℕ) → up ≡ a + offset - chunk * 1024 → chunk * 1024 ≤ a + offset → mask_positions ws.now (b - a) ≡ filter (window_from w a) (range_with_len 0 (b - a)) → map (place_in chunk) (map (shifted up 0) (selected_by (Words ws (b - a)))) ≡ at offset (kept_between_places (window_bit w) a b)
loaded_places w ws offset a b chunk up e low picks =
    ap (λ ps. map (place_in chunk) (map (shifted up 0) ps)) (words_selected ws (b - a))
    ∙ words_back ws.now (b - a) chunk up
    ∙ ap (map (moved (chunk * 1024 + up))) picks
    ∙ kept_from (window_bit w) offset a b (chunk * 1024 + up) (omega arith)

pub loaded_count : (w : Window) (ws : List ℕ) (a b n : ℕ) → mask_positions ws (b - a) ≡ filter (window_from w a) (range_with_len 0 (b - a)) → n ≡ length (mask_positions ws (b - a)) → n ≡ length (kept_between_places (window_bit w) a b)
loaded_count w ws a b n picks count =
    let same = ap length (kept_from (window_bit w) 0 a b a (omega arith)) in
    let left = length-map (filter (window_from w a) (range_with_len 0 (b - a))) (moved a) in
    let right = length-map (kept_between_places (window_bit w) a b) (moved 0) in
    count ∙ ap length picks ∙ omega arith
