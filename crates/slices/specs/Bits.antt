-- Bits taken out of others, and packed into bytes.
use Rattle.std.specs.Prelude.{◌≡◌, ℕ, zero, suc, ◌+◌, ◌*◌, ◌/◌, ◌%◌, ◌^◌, ◌<◌, ◌≤◌, Bool, false, cond, List, [], ◌∷◌, map, length, drop, Option, slice_index}
use Rattle.selection.specs.declared.windows.Window.{Window}
use Rattle.selection.specs.declared.selections.Selection.{Selection}
use Rattle.selection.specs.declared.refusals.Refusal.{Refusal}
use Rattle.selection.specs.Refusals.{first_of}
use Rattle.selection.specs.Selected.{bit, bit_of, count_of, extent, positions, selection_fault, window_bit, window_fault}
use Rattle.kernels.specs.Masks.{bits_of}
use Rattle.slices.specs.Slices.{too_few, unequal}

-- PEXT as Intel's manual states the operation. m runs over the bits of the mask, the lowest first, n of them;
-- k counts the set ones. For each set bit m of the mask, bit k of the destination, 0 at first, gets bit m of the source.
abbrev pub pext_from : ℕ → ℕ → ℕ → ℕ → ℕ → ℕ → ℕ
pext_from zero m k src mask dest = dest
pext_from (suc n) m k src mask dest =
    cond (bit_of mask m)
    (pext_from n (m + 1) (k + 1) src mask (dest + cond (bit_of src m) (2 ^ k) 0))
    (pext_from n (m + 1) k src mask dest)

-- PEXT of 64 bits
unfoldable pub pext : ℕ → ℕ → ℕ
pext src mask = pext_from 64 0 0 src mask 0

-- and in the manual's words: the bits of the source at the set bits of the mask stand in the low bits of the
-- destination, in their order, and the bits above them are 0
pub record Extracted (src mask dest : ℕ) : Type 0 where
  pub low : (k : ℕ) → k < length (bits_of 64 mask) → bit_of dest k ≡ bit_of src (slice_index (bits_of 64 mask) k)
  pub high : (k : ℕ) → length (bits_of 64 mask) ≤ k → bit_of dest k ≡ false

-- bits as a number, the lowest first
abbrev pub packed : List Bool → ℕ
packed [] = 0
packed (b ∷ bs) = cond b 1 0 + 2 * packed bs

-- the n lowest bytes of a number, the lowest first
abbrev pub low_bytes : ℕ → ℕ → List ℕ
low_bytes zero x = []
low_bytes (suc n) x = x % 256 ∷ low_bytes n (x / 256)

-- how many bytes so many bits take
abbrev pub bytes_for : ℕ → ℕ
bytes_for n = (n + 7) / 8

-- bits in bytes, with 0 up to the end of the last one
unfoldable pub bit_bytes : List Bool → List ℕ
bit_bytes bs = low_bytes (bytes_for (length bs)) (packed bs)

-- the bits of a window at the selected positions
abbrev pub picked_bits : Window → Selection → List Bool
picked_bits w s = map (window_bit w) (positions s)

-- why the bits of a window cannot be filtered into some bytes
unfoldable pub bits_fault : Window → Selection → ℕ → Option Refusal
bits_fault w s places = first_of (selection_fault s ∷ window_fault w ∷ unequal (extent s) w.len ∷ too_few places (bytes_for (count_of s)) ∷ [])

-- what filtered bits look like, bit by bit: the picked ones, then 0 up to the end of the byte, and all other bytes as before
pub record BitsPicked (w : Window) (s : Selection) (before after : List ℕ) : Type 0 where
  pub taken : (j : ℕ) → j < count_of s → bit after j ≡ window_bit w (slice_index (positions s) j)
  pub clear : (j : ℕ) → count_of s ≤ j → j < 8 * bytes_for (count_of s) → bit after j ≡ false
  pub rest : drop (bytes_for (count_of s)) after ≡ drop (bytes_for (count_of s)) before
