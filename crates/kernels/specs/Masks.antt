-- Which positions a mask of words selects, and what a compaction leaves.
use Rattle.std.specs.Prelude.{◌≡◌, ℕ, zero, suc, ◌+◌, ◌-◌, ◌*◌, ◌/◌, ◌%◌, ◌<◌, ◌≤◌, Bool, false, cond, ◌&&◌, List, [], ◌∷◌, ◌++◌, length, replicate, filter, ◌==◌, nat_lt, slice_index}
use Rattle.std.specs.List.{range_with_len, AllByRecursion}
use Rattle.selection.specs.Selected.{bit_of, window_bit}
use Rattle.kernels.specs.declared.slice.MaskBits.{MaskBits}
use Rattle.kernels.specs.declared.slice.MaskBits.TheVariants.{Words, Window}
use Rattle.kernels.specs.Moved.{gather, splice}

-- the set bits among the first n of a number, ascending
abbrev pub bits_of : ℕ → ℕ → List ℕ
bits_of n w = filter (bit_of w) (range_with_len 0 n)

-- set bits with 0 up to the eighth place, and their number
abbrev pub padded : List ℕ → List ℕ
padded js = js ++ (replicate (8 - length js) 0 ++ (length js ∷ []))

-- the row of a byte in the table
unfoldable pub row_of : ℕ → List ℕ
row_of b = padded (bits_of 8 b)

-- bit i of words
abbrev pub words_bit : List ℕ → ℕ → Bool
words_bit ws i = bit_of (slice_index ws (i / 64)) (i % 64)

-- the positions below n that words select, ascending
unfoldable pub mask_positions : List ℕ → ℕ → List ℕ
mask_positions ws n = filter (words_bit ws) (range_with_len 0 n)

-- words for n positions: no word more than it takes, and no bit past the last
pub record Covers (ws : List ℕ) (n : ℕ) : Type 0 where
  pub enough : n ≤ 64 * length ws
  pub close : 64 * length ws < n + 64
  pub clear : (i : ℕ) → n ≤ i → words_bit ws i ≡ false

-- all numbers lie below n
abbrev pub Inside : ℕ → List ℕ → Type 0
Inside n ps = AllByRecursion (λ p. p < n) ps

-- the set bits among the low k of a number, ascending, where the lowest bit has a place
unfoldable pub set_bits : ℕ → ℕ → ℕ → List ℕ
set_bits zero w at = []
set_bits (suc k) w at = cond (w % 2 == 1) (at ∷ set_bits k (w / 2) (at + 1)) (set_bits k (w / 2) (at + 1))

-- bit i of a mask: a window has none past its length
abbrev pub mask_bit : MaskBits → ℕ → Bool
mask_bit (Words ws n) i = words_bit ws.now i
mask_bit (Window w) i = window_bit w i && nat_lt i w.len

-- the length of a mask
abbrev pub mask_len : MaskBits → ℕ
mask_len (Words ws n) = n
mask_len (Window w) = w.len

-- the number of its words
abbrev pub count_of_words : MaskBits → ℕ
count_of_words (Words ws n) = length ws.now
count_of_words (Window w) = (w.len + 63) / 64

-- w has bits 64 * k and on of a mask
abbrev pub WordAt : MaskBits → ℕ → ℕ → Type 0
WordAt bits k w = (j : ℕ) → j < 64 → bit_of w j ≡ mask_bit bits (64 * k + j)

-- the positions that a mask selects, ascending
unfoldable pub selected_by : MaskBits → List ℕ
selected_by bits = filter (mask_bit bits) (range_with_len 0 (mask_len bits))

-- a mask for n positions: no word more than it takes, and no bit past the last
pub record Masks (bits : MaskBits) (n : ℕ) : Type 0 where
  pub long : mask_len bits ≡ n
  pub enough : n ≤ 64 * count_of_words bits
  pub close : 64 * count_of_words bits < n + 64
  pub clear : (i : ℕ) → n ≤ i → mask_bit bits i ≡ false

-- what a compaction leaves: the elements at some places, in the first places of dst
unfoldable pub compacted : {T : Type 0} → List T → List ℕ → List T → List T
compacted src ps dst = splice dst 0 (gather src ps)
