-- Bits at the set bits of a mask.
use Rattle.std.proofs.Common.{◌≡◌, ℕ, zero, suc, ◌+◌, ◌-◌, ◌*◌, ◌/◌, ◌%◌, ◌^◌, ◌<◌, ◌≤◌, Bool, true, false, cond, List, [], ◌∷◌, ◌++◌, map, length, get_or, replicate, filter, sym, refl, ap, ◌∙◌, ap₂, ⊎_elim, lt_of_lt_of_le, mul_assoc, mul_comm, add-mul, add_comm, arith, pow_mono, pow-add}
use lib.Bits.{bit_and, bit_or}
use Rattle.std.specs.List.{range_with_len, AllByRecursion}
use Rattle.std.proofs.lemmas.Nat.{or_comm, or_shifted, shl_whole}
use Rattle.std.proofs.lemmas.List.FromFn.{fill_by_all, length-map-range_with_len, take-map-range_with_len}
use Rattle.std.proofs.ByRecursion.{All-append, All-get_or, All-weaker}
use Rattle.std.proofs.lemmas.List.{get_or-map, get_or_past, length-append, length-map, map-append}
use Rattle.std.proofs.lemmas.Bool.{cases_lt}
use Rattle.selection.specs.Selected.{bit_of}
use Rattle.selection.proofs.Bits.{bit_shift}
use Rattle.selection.proofs.Fields.{mask_num}
use Rattle.selection.proofs.Filtered.{map_map}
use Rattle.kernels.specs.Masks.{bits_of, row_of, set_bits}
use Rattle.kernels.proofs.Masked.{kept_inside}
use Rattle.kernels.proofs.Rows.{length_bits_of, row_count, row_place, row_short}
use Rattle.kernels.proofs.SetBits.{bits_by_test, bits_from_place, bits_low, bits_moved, bits_split}
use Rattle.slices.specs.Bits.{Extracted, packed, pext, pext_from}
use Rattle.slices.proofs.Packed.{one_bit, packed_append, packed_bit, packed_lt, packed_take}

-- a bit at a place, and the bits above it
put_bit : (b : Bool) (dest rest k : ℕ) → dest + cond b (2 ^ k) 0 + rest * 2 ^ (k + 1) ≡ dest + (cond b 1 0 + 2 * rest) * 2 ^ k
put_bit b dest rest k =
    let twice : rest * 2 ^ (k + 1) ≡ 2 * rest * 2 ^ k = ap (λ t. rest * t) (pow-add 2 k 1 ∙ mul_comm (2 ^ k) 2) ∙ sym (mul_assoc rest 2 (2 ^ k)) ∙ ap (λ t. t * 2 ^ k) (mul_comm rest 2) in
    go b twice
  where
    go : (b : Bool) → rest * 2 ^ (k + 1) ≡ 2 * rest * 2 ^ k → dest + cond b (2 ^ k) 0 + rest * 2 ^ (k + 1) ≡ dest + (cond b 1 0 + 2 * rest) * 2 ^ k
    go true e = let d = add-mul 1 (2 * rest) (2 ^ k) in omega arith
    go false e = let d = add-mul 0 (2 * rest) (2 ^ k) in omega arith

-- the operation, as the bits that it takes
pext_from_bits : (n m k src mask dest : ℕ) → pext_from n m k src mask dest ≡ dest + packed (map (bit_of src) (filter (bit_of mask) (range_with_len m n))) * 2 ^ k
pext_from_bits zero m k src mask dest = omega arith
pext_from_bits (suc n) m k src mask dest = go (bit_of mask m) (pext_from_bits n (m + 1) (k + 1) src mask (dest + cond (bit_of src m) (2 ^ k) 0)) (pext_from_bits n (m + 1) k src mask dest)
  where
    go : (b : Bool) → pext_from n (m + 1) (k + 1) src mask (dest + cond (bit_of src m) (2 ^ k) 0) ≡ dest + cond (bit_of src m) (2 ^ k) 0 + packed (map (bit_of src) (filter (bit_of mask) (range_with_len (m + 1) n))) * 2 ^ (k + 1) → pext_from n (m + 1) k src mask dest ≡ dest + packed (map (bit_of src) (filter (bit_of mask) (range_with_len (m + 1) n))) * 2 ^ k → cond b (pext_from n (m + 1) (k + 1) src mask (dest + cond (bit_of src m) (2 ^ k) 0)) (pext_from n (m + 1) k src mask dest) ≡ dest + packed (map (bit_of src) (cond b (m ∷ filter (bit_of mask) (range_with_len (m + 1) n)) (filter (bit_of mask) (range_with_len (m + 1) n)))) * 2 ^ k
    go true h g = h ∙ put_bit (bit_of src m) dest (packed (map (bit_of src) (filter (bit_of mask) (range_with_len (m + 1) n)))) k
    go false h g = g

pub bits_own : (n w : ℕ) → filter (bit_of w) (range_with_len 0 n) ≡ set_bits n w 0
bits_own n w = let one : w / 2 ^ 0 ≡ w = omega arith in bits_by_test (bit_of w) n w 0 0 (λ j l. ap (bit_of w) refl) ∙ ap (λ v. set_bits n v 0) one

pext_all : (n src mask r : ℕ) → r ≡ packed (map (bit_of src) (set_bits n mask 0)) → r ≡ pext_from n 0 0 src mask 0
pext_all n src mask r e = e ∙ ap (λ ps. packed (map (bit_of src) ps)) (sym (bits_own n mask)) ∙ one (packed (map (bit_of src) (filter (bit_of mask) (range_with_len 0 n)))) ∙ sym (pext_from_bits n 0 0 src mask 0)
  where
    one : (p : ℕ) → p ≡ 0 + p * 1
    one p = omega arith

pub pext_is : (src mask r : ℕ) → r ≡ packed (map (bit_of src) (set_bits 64 mask 0)) → r ≡ pext src mask
unfolding pext
pext_is src mask r e = pext_all 64 src mask r e

taken_bit : (n src mask r k : ℕ) → r ≡ packed (map (bit_of src) (set_bits n mask 0)) → k < length (bits_of n mask) → bit_of r k ≡ bit_of src (get_or (bits_of n mask) k 0)
taken_bit n src mask r k e h =
    ap (λ t. bit_of t k) (e ∙ ap (λ ps. packed (map (bit_of src) ps)) (sym (bits_own n mask)))
    ∙ packed_bit (map (bit_of src) (bits_of n mask)) k
    ∙ get_or-map (bit_of src) (bits_of n mask) k 0 false h

past_bit : (n src mask r k : ℕ) → r ≡ packed (map (bit_of src) (set_bits n mask 0)) → length (bits_of n mask) ≤ k → bit_of r k ≡ false
past_bit n src mask r k e h =
    let size = length-map (bits_of n mask) (bit_of src) in
    ap (λ t. bit_of t k) (e ∙ ap (λ ps. packed (map (bit_of src) ps)) (sym (bits_own n mask)))
    ∙ packed_bit (map (bit_of src) (bits_of n mask)) k
    ∙ get_or_past (map (bit_of src) (bits_of n mask)) k false (omega arith)

pub pext_bits : (src mask r : ℕ) → r ≡ packed (map (bit_of src) (set_bits 64 mask 0)) → Extracted src mask r
pext_bits src mask r e = record { low = λ k h. taken_bit 64 src mask r k e h; high = λ k h. past_bit 64 src mask r k e h }

-- an entry of a row is a bit of a byte, or their number
row_small : (b : ℕ) → AllByRecursion (λ x. x ≤ 8) (row_of b)
unfolding row_of
row_small b =
    let js = bits_of 8 b in
    All-append (λ x. x ≤ 8) js _ (All-weaker (λ x. x < 8) (λ x. x ≤ 8) (λ x h. omega arith) js (kept_inside (bit_of b) 8)) (All-append (λ x. x ≤ 8) (replicate (8 - length js) 0) _ (zeros (8 - length js)) (length_bits_of 8 b, tt))
  where
    zeros : (n : ℕ) → AllByRecursion (λ x. x ≤ 8) (replicate n 0)
    zeros zero = tt
    zeros (suc n) = (omega arith, zeros n)

pub entry_small : (b j r : ℕ) → r ≡ get_or (row_of b) j 0 → r ≤ 8
entry_small b j r e = ⊎_elim within past (cases_lt j (length (row_of b)))
  where
    within : j < length (row_of b) → r ≤ 8
    within h = let s = All-get_or (λ x. x ≤ 8) (row_of b) j 0 h (row_small b) in omega arith

    past : length (row_of b) ≤ j → r ≤ 8
    past h = let s = get_or_past (row_of b) j 0 h in omega arith

-- the bit at an entry of a row
abbrev entry_bit : ℕ → ℕ → ℕ → Bool
entry_bit src b i = bit_of src (get_or (row_of b) i 0)

-- the bits at the entries from place j on, of w
unfoldable pub entries : ℕ → ℕ → ℕ → ℕ → ℕ
entries w src b j = packed (map (entry_bit src b) (range_with_len j (w - j)))

pub entries_none : (w src b : ℕ) → 0 ≡ entries w src b w
unfolding entries
entries_none w src b = let e : w - w ≡ 0 = omega arith in rw e refl

entries_lt : (w src b j : ℕ) → entries w src b j < 2 ^ (w - j)
unfolding entries
entries_lt w src b j = let e = length-map-range_with_len (entry_bit src b) j (w - j) in let h = packed_lt (map (entry_bit src b) (range_with_len j (w - j))) in rw e at h

pub entries_room : (src b j all : ℕ) → all ≡ entries 8 src b j → all < 256
entries_room src b j all e = rw e (lt_of_lt_of_le (entries_lt 8 src b j) (pow_mono {j = 8} (omega arith)))

pub entries_more : (w src b j r all : ℕ) → 0 < j → j ≤ w → all ≡ entries w src b j → r ≡ get_or (row_of b) (j - 1) 0 → 2 * all + src / 2 ^ r % 2 ≡ entries w src b (j - 1)
unfolding entries
entries_more w src b j r all h l e f =
    let more : w - (j - 1) ≡ suc (w - j) = omega arith in
    let back : j - 1 + 1 ≡ j = omega arith in
    let here : src / 2 ^ r % 2 ≡ cond (entry_bit src b (j - 1)) 1 0 = one_bit src r ∙ ap (λ t. cond (bit_of src t) 1 0) f in
    let step : packed (map (entry_bit src b) (range_with_len (j - 1) (w - (j - 1)))) ≡ cond (entry_bit src b (j - 1)) 1 0 + 2 * packed (map (entry_bit src b) (range_with_len j (w - j))) = rw (more, back) refl in
    ap₂ (λ x y. 2 * x + y) e here ∙ add_comm (2 * packed (map (entry_bit src b) (range_with_len j (w - j)))) (cond (entry_bit src b (j - 1)) 1 0) ∙ sym step

entries_cut : (w src b n : ℕ) → n ≤ w → entries w src b 0 % 2 ^ n ≡ packed (map (entry_bit src b) (range_with_len 0 n))
unfolding entries
entries_cut w src b n h =
    let size = length-map-range_with_len (entry_bit src b) 0 (w - 0) in
    packed_take n (map (entry_bit src b) (range_with_len 0 (w - 0))) (omega arith) ∙ ap packed (take-map-range_with_len (entry_bit src b) 0 (w - 0) n (omega arith))

-- as many as the row has are the bits at the set bits
pub entries_all : (src b all n : ℕ) → all ≡ entries 8 src b 0 → n ≡ get_or (row_of b) 8 0 → bit_and all ((1 * 2 ^ n) % 2 ^ 64 - 1) ≡ packed (map (bit_of src) (set_bits 8 b 0))
entries_all src b all n e f =
    let short = row_short b 0 in
    let count : n ≡ length (set_bits 8 b 0) = f ∙ row_count b 0 in
    mask_num all n (omega arith) ∙ ap (λ t. t % 2 ^ n) e ∙ entries_cut 8 src b n (omega arith) ∙ ap packed (sym (same count))
  where
    plain : (x : ℕ) → 0 + x ≡ x
    plain x = omega arith

    same : n ≡ length (set_bits 8 b 0) → map (bit_of src) (set_bits 8 b 0) ≡ map (entry_bit src b) (range_with_len 0 n)
    same count = fill_by_all (entry_bit src b) (map (bit_of src) (set_bits 8 b 0)) n false (length-map (set_bits 8 b 0) (bit_of src) ∙ sym count) (λ k l. let h : k < length (set_bits 8 b 0) = omega arith in get_or-map (bit_of src) (set_bits 8 b 0) k 0 false h ∙ ap (bit_of src) (row_place b 0 k h ∙ plain (get_or (row_of b) k 0)))

pub set_short : (k w at : ℕ) → length (set_bits k w at) ≤ k
set_short k w at = let e = ap length (bits_from_place k w at) ∙ length-map (bits_of k w) (λ j. at + j) in let h = length_bits_of k w in omega arith

map_each : {X Y : Type 0} (f g : X → Y) → ((x : X) → f x ≡ g x) → (xs : List X) → map f xs ≡ map g xs
map_each f g h [] = refl
map_each f g h (x ∷ xs) = ap₂ (λ y ys. y ∷ ys) (h x) (map_each f g h xs)

-- bits from bit a on, by a number without the bits below
pub bits_down : (src k w a : ℕ) → map (bit_of src) (set_bits k w a) ≡ map (bit_of (src / 2 ^ a)) (set_bits k w 0)
bits_down src k w a =
    let e : a ≡ a + 0 = omega arith in
    ap (λ p. map (bit_of src) (set_bits k w p)) e
    ∙ ap (map (bit_of src)) (bits_moved k w a 0)
    ∙ map_map (bit_of src) (λ j. a + j) (set_bits k w 0)
    ∙ map_each (λ j. bit_of src (a + j)) (bit_of (src / 2 ^ a)) (λ j. sym (bit_shift src a j)) (set_bits k w 0)

-- one byte more of a word
module _ (src mask b all done x n : ℕ) (l : b < 8) (is : all ≡ packed (map (bit_of src) (set_bits (8 * b) mask 0))) (size : done ≡ length (set_bits (8 * b) mask 0)) (x-is : x ≡ packed (map (bit_of (src / 2 ^ (8 * b))) (set_bits 8 (mask / 2 ^ (8 * b) % 256) 0))) (n-is : n ≡ get_or (row_of (mask / 2 ^ (8 * b) % 256)) 8 0) where
  split : set_bits (8 * (b + 1)) mask 0 ≡ set_bits (8 * b) mask 0 ++ set_bits 8 (mask / 2 ^ (8 * b) % 256) (8 * b)
  split =
      let on : 8 * (b + 1) ≡ 8 * b + 8 = omega arith in
      let at : 0 + 8 * b ≡ 8 * b = omega arith in
      ap (λ n. set_bits n mask 0) on ∙ bits_split (8 * b) 8 mask 0 ∙ ap (λ p. set_bits (8 * b) mask 0 ++ set_bits 8 (mask / 2 ^ (8 * b)) p) at ∙ ap (λ ys. set_bits (8 * b) mask 0 ++ ys) (sym (bits_low 8 (mask / 2 ^ (8 * b)) (8 * b)))

  pub byte_done : done ≤ 56
  byte_done = let h = set_short (8 * b) mask 0 in omega arith

  pub byte_count : done + n ≡ length (set_bits (8 * (b + 1)) mask 0)
  byte_count =
      let e = n-is ∙ row_count (mask / 2 ^ (8 * b) % 256) (8 * b) in
      sym (ap length split ∙ length-append (set_bits (8 * b) mask 0) (set_bits 8 (mask / 2 ^ (8 * b) % 256) (8 * b)) ∙ ap₂ (λ s t. s + t) (sym size) (sym e))

  pub byte_more : bit_or all ((x * 2 ^ done) % 2 ^ 64) ≡ packed (map (bit_of src) (set_bits (8 * (b + 1)) mask 0))
  byte_more =
      let ps = set_bits (8 * b) mask 0 in
      let qs = set_bits 8 (mask / 2 ^ (8 * b) % 256) (8 * b) in
      let xs = map (bit_of src) ps in
      let ys = map (bit_of src) qs in
      let few : length ys ≤ 8 = let e = length-map qs (bit_of src) in let h = row_short (mask / 2 ^ (8 * b) % 256) (8 * b) in omega arith in
      let x-ys : x ≡ packed ys = x-is ∙ ap packed (sym (bits_down src 8 (mask / 2 ^ (8 * b) % 256) (8 * b))) in
      let small : x < 2 ^ 8 = rw x-ys (lt_of_lt_of_le (packed_lt ys) (pow_mono few)) in
      let len : done ≡ length xs = size ∙ sym (length-map ps (bit_of src)) in
      let below : all < 2 ^ done = rw (is, len) (packed_lt xs) in
      let most = byte_done in
      ap (bit_or all) (shl_whole x 8 done 64 small (omega arith))
      ∙ or_comm all (x * 2 ^ done)
      ∙ or_shifted x done all below
      ∙ ap₂ (λ s t. s + t) (ap₂ (λ s t. s * 2 ^ t) x-ys len) is
      ∙ sym (ap (λ rs. packed (map (bit_of src) rs)) split ∙ ap packed (map-append (bit_of src) ps qs) ∙ packed_append xs ys)
