-- Parts of the number that bytes make.
use Rattle.std.proofs.Common.{◌≡◌, ℕ, suc, ◌+◌, ◌-◌, ◌*◌, ◌/◌, ◌%◌, ◌^◌, ◌<◌, ◌≤◌, min, Bool, ◌&&◌, ltb, ◌⊎◌, List, map, [], ◌∷◌, length, get_or, take, drop, fold, reverse, filter, sym, refl, ap, ◌∙◌, subst, ap₂, inl, inr, lt_of_lt_of_le, add-zero, mod-eq_of_lt, mul_assoc, arith, pow_pos, pow_mono, pow-add, shr-shr, shr_lt}
use native.Mathlib.Nat.{mul-add-div_right, pow-succ'}
use lib.Bits.{bit_and, bit_or, or_shifted_r}
use lib.Count.{ones}
use lib.Pow.{shl-shr, field, mod-mod-pow, mod-pow-add, high, low}
use Rattle.std.proofs.lemmas.Nat.{and_mask, one_shl, or_shifted}
use Rattle.std.specs.List.{range_with_len}
use Rattle.std.proofs.lemmas.List.FromFn.{fill_by_all, get_or-range_with_len, length-range_with_len}
use Rattle.std.proofs.lemmas.List.{get_or-take, length-map, take_all}
use Rattle.std.proofs.lemmas.List.Sums.{fold-append}
use Rattle.std.proofs.lemmas.Grind.{reverse_onto}
use Rattle.selection.proofs.Filtered.{kept_map}
use Rattle.std.proofs.lemmas.Bool.Decides.{nat_tests}
use Rattle.selection.specs.declared.windows.Window.{Window}
use Rattle.selection.specs.Selected.{bit, bit_of, bit_past, bits_from, number_of_bits, window_bit, window_bits, window_from, word_bit, word_of}
use Rattle.selection.proofs.Bits.{num_of, tally, bits_num, from_cut, from_lt, from_same, num_drop, num_lt, num_step, ones_from, tally_same, tally_split}

-- the lowest bits
bits_low : (bytes : List ℕ) (n : ℕ) → bits_from bytes 0 n ≡ num_of bytes % 2 ^ n
bits_low bytes n = bits_num bytes 0 n ∙ ap (λ x. x % 2 ^ n) (num_drop bytes 0)

-- a byte in front of m bytes
pub part_step : (bytes : List ℕ) (i m : ℕ) → get_or bytes i 0 < 256 → num_of (drop i bytes) % 2 ^ (8 * (m + 1)) ≡ num_of (drop (i + 1) bytes) % 2 ^ (8 * m) * 256 + get_or bytes i 0
part_step bytes i m h =
    let e : 8 * (m + 1) ≡ 8 * m + 8 = omega arith in
    let s = num_step bytes i in
    let q : num_of (drop i bytes) / 256 ≡ num_of (drop (i + 1) bytes) = omega arith in
    let r : num_of (drop i bytes) % 256 ≡ get_or bytes i 0 = omega arith in
    ap (λ t. num_of (drop i bytes) % 2 ^ t) e ∙ mod-pow-add (num_of (drop i bytes)) (8 * m) 8 ∙ ap₂ (λ a b. a % 2 ^ (8 * m) * 256 + b) q r

-- the first eight bytes
pub word_num : (bytes ws : List ℕ) → ws ≡ take 8 bytes → ((k : ℕ) → get_or bytes k 0 < 256) → get_or ws 0 0 + get_or ws 1 0 * 256 + get_or ws 2 0 * 65536 + get_or ws 3 0 * 16777216 + get_or ws 4 0 * 4294967296 + get_or ws 5 0 * 1099511627776 + get_or ws 6 0 * 281474976710656 + get_or ws 7 0 * 72057594037927936 ≡ bits_from bytes 0 64
word_num bytes ws is small =
    let x0 = byte 0 1 refl (omega arith) in
    let x1 = byte 1 2 refl (omega arith) in
    let x2 = byte 2 3 refl (omega arith) in
    let x3 = byte 3 4 refl (omega arith) in
    let x4 = byte 4 5 refl (omega arith) in
    let x5 = byte 5 6 refl (omega arith) in
    let x6 = byte 6 7 refl (omega arith) in
    let x7 = byte 7 8 refl (omega arith) in
    sym (bits_low bytes 64 ∙ omega arith)
  where
    byte : (a b : ℕ) → a + 1 ≡ b → a < 8 → (num_of (drop a bytes) ≡ num_of (drop b bytes) * 256 + get_or ws a 0) × (get_or ws a 0 < 256)
    byte a b e l =
        let h = small a in
        let r : get_or bytes a 0 % 256 ≡ get_or bytes a 0 = omega arith in
        let same : get_or ws a 0 ≡ get_or bytes a 0 = ap (λ xs. get_or xs a 0) is ∙ get_or-take 8 bytes a 0 l in
        (num_step bytes a ∙ ap₂ (λ k x. num_of (drop k bytes) * 256 + x) e (r ∙ sym same), omega arith)

-- a few bytes, put together from the last on
pub few_num : (bytes : List ℕ) → length bytes ≤ 8 → ((k : ℕ) → get_or bytes k 0 < 256) → fold (λ all byte. bit_or (all * 2 ^ 8 % 2 ^ 64) byte) 0 (reverse bytes) ≡ num_of bytes
few_num [] few small = refl
few_num (b ∷ bs) few small =
    let h = small 0 in
    let rest = few_num bs (omega arith) (λ k. small (suc k)) in
    let less : num_of bs < 2 ^ 56 = lt_of_lt_of_le (num_lt bs) (pow_mono {j = 56} (omega arith)) in
    let room : num_of bs * 2 ^ 8 % 2 ^ 64 ≡ num_of bs * 2 ^ 8 = omega arith in
    let low : b % 256 ≡ b = omega arith in
    ap (fold (λ all byte. bit_or (all * 2 ^ 8 % 2 ^ 64) byte) 0) (reverse_onto bs b [])
    ∙ fold-append (λ all byte. bit_or (all * 2 ^ 8 % 2 ^ 64) byte) 0 (reverse bs) (b ∷ [])
    ∙ ap (λ x. bit_or (x * 2 ^ 8 % 2 ^ 64) b) rest
    ∙ ap (λ x. bit_or x b) room
    ∙ or_shifted (num_of bs) 8 b h
    ∙ ap (λ x. num_of bs * 256 + x) (sym low)

pub few_word : (bytes : List ℕ) → length bytes ≤ 8 → ((k : ℕ) → get_or bytes k 0 < 256) → fold (λ all byte. bit_or (all * 2 ^ 8 % 2 ^ 64) byte) 0 (reverse bytes) ≡ bits_from bytes 0 64
few_word bytes few small =
    let less : num_of bytes < 2 ^ 64 = lt_of_lt_of_le (num_lt bytes) (pow_mono {j = 64} (omega arith)) in
    few_num bytes few small ∙ sym (bits_low bytes 64 ∙ mod-eq_of_lt less)

-- the byte at i
pub byte_num : (bytes : List ℕ) (i : ℕ) → get_or bytes i 0 < 256 → get_or bytes i 0 ≡ bits_from bytes (8 * i) 8
byte_num bytes i h = let s = num_step bytes i in let b = bits_num bytes (8 * i) 8 ∙ ap (λ x. x % 2 ^ 8) (num_drop bytes i) in sym (b ∙ omega arith)

-- the high part of a number is put behind its low part
pub join_num : (lo hi s t : ℕ) → lo < 2 ^ (s + t) → bit_or (lo / 2 ^ s) ((hi * 2 ^ t) % 2 ^ (s + t)) ≡ (hi * 2 ^ (s + t) + lo) / 2 ^ s % 2 ^ (s + t)
join_num lo hi s t h =
    let turn : t + s ≡ s + t = omega arith in
    let below : lo / 2 ^ s < 2 ^ t = shr_lt t s (rw turn h) in
    let up : (hi * 2 ^ t) % 2 ^ (s + t) ≡ hi % 2 ^ s * 2 ^ t = mod-pow-add (hi * 2 ^ t) s t ∙ ap₂ (λ a b. a % 2 ^ s * 2 ^ t + b) (shl-shr hi t) (ap (λ x. x % 2 ^ t) (sym (add-zero (hi * 2 ^ t))) ∙ low hi t (pow_pos t)) ∙ add-zero _ in
    let whole : hi * 2 ^ (s + t) ≡ hi * 2 ^ t * 2 ^ s = ap (λ x. hi * x) (ap (λ x. 2 ^ x) (sym turn) ∙ pow-add 2 t s) ∙ sym (mul_assoc hi (2 ^ t) (2 ^ s)) in
    let down : (hi * 2 ^ (s + t) + lo) / 2 ^ s ≡ hi * 2 ^ t + lo / 2 ^ s = ap (λ x. (x + lo) / 2 ^ s) whole ∙ mul-add-div_right (pow_pos s) (hi * 2 ^ t) lo in
    let right : (hi * 2 ^ t + lo / 2 ^ s) % 2 ^ (s + t) ≡ hi % 2 ^ s * 2 ^ t + lo / 2 ^ s = mod-pow-add (hi * 2 ^ t + lo / 2 ^ s) s t ∙ ap₂ (λ a b. a % 2 ^ s * 2 ^ t + b) (high hi t below) (low hi t below) in
    ap (bit_or (lo / 2 ^ s)) up ∙ or_shifted_r (hi % 2 ^ s) t (lo / 2 ^ s) below ∙ sym (ap (λ x. x % 2 ^ (s + t)) down ∙ right)

pub join_word : (lo hi s : ℕ) → lo < 2 ^ 64 → hi < 256 → s < 8 → bit_or (lo / 2 ^ s) ((hi * 2 % 2 ^ 64 * 2 ^ (63 - s)) % 2 ^ 64) ≡ (hi * 2 ^ 64 + lo) / 2 ^ s % 2 ^ 64
join_word lo hi s h l k =
    let e : s + (64 - s) ≡ 64 = omega arith in
    let twice : hi * 2 % 2 ^ 64 ≡ hi * 2 = omega arith in
    let next : 64 - s ≡ suc (63 - s) = omega arith in
    let half : 2 * 2 ^ (63 - s) ≡ 2 ^ (64 - s) = sym (ap (λ x. 2 ^ x) next ∙ pow-succ' 2 (63 - s)) in
    let up : hi * 2 % 2 ^ 64 * 2 ^ (63 - s) ≡ hi * 2 ^ (64 - s) = ap (λ x. x * 2 ^ (63 - s)) twice ∙ mul_assoc hi 2 (2 ^ (63 - s)) ∙ ap (λ x. hi * x) half in
    ap (λ x. bit_or (lo / 2 ^ s) (x % 2 ^ 64)) up ∙ subst (λ w. bit_or (lo / 2 ^ s) ((hi * 2 ^ (64 - s)) % 2 ^ w) ≡ (hi * 2 ^ w + lo) / 2 ^ s % 2 ^ w) e (join_num lo hi s (64 - s) (rw e h))

-- the lowest n bits by a mask
pub mask_num : (x n : ℕ) → n < 64 → bit_and x ((1 * 2 ^ n) % 2 ^ 64 - 1) ≡ x % 2 ^ n
mask_num x n h = ap (λ t. bit_and x (t - 1)) (one_shl n 64 h) ∙ and_mask x n

pub bits_lt : (bytes : List ℕ) (s n : ℕ) → bits_from bytes s n < 2 ^ n
unfolding bits_from
bits_lt bytes s n = from_lt (bit_past bytes s) n

-- n bits lie within the first m
pub cut_num : (x s n m : ℕ) → s + n ≤ m → x % 2 ^ m / 2 ^ s % 2 ^ n ≡ x / 2 ^ s % 2 ^ n
cut_num x s n m h =
    let a : m - s + s ≡ m = omega arith in
    let b : m - s - n + n ≡ m - s = omega arith in
    ap (λ t. x % 2 ^ t / 2 ^ s % 2 ^ n) (sym a) ∙ ap (λ t. t % 2 ^ n) (field x (m - s) s) ∙ ap (λ t. x / 2 ^ s % 2 ^ t % 2 ^ n) (sym b) ∙ mod-mod-pow (x / 2 ^ s) (m - s - n) n

-- bits of the first eight bytes, and of the first nine
pub eight_num : (bytes : List ℕ) (lo s n : ℕ) → lo ≡ bits_from bytes 0 64 → s + n ≤ 64 → lo / 2 ^ s % 2 ^ n ≡ bits_from bytes s n
eight_num bytes lo s n is h =
    ap (λ x. x / 2 ^ s % 2 ^ n) (is ∙ bits_low bytes 64) ∙ cut_num (num_of bytes) s n 64 h ∙ sym (bits_num bytes s n)

pub nine_num : (bytes : List ℕ) (lo hi s n : ℕ) → lo ≡ bits_from bytes 0 64 → hi ≡ bits_from bytes 64 8 → s < 8 → n ≤ 64 → (hi * 2 ^ 64 + lo) / 2 ^ s % 2 ^ 64 % 2 ^ n ≡ bits_from bytes s n
nine_num bytes lo hi s n is-lo is-hi h l =
    let x = num_of bytes in
    let first : lo ≡ x % 2 ^ 64 = is-lo ∙ bits_low bytes 64 in
    let ninth : hi ≡ x / 2 ^ 64 % 2 ^ 8 = is-hi ∙ bits_num bytes 64 8 in
    let both : hi * 2 ^ 64 + lo ≡ x % 2 ^ 72 = ap₂ (λ y z. y * 2 ^ 64 + z) ninth first ∙ sym (mod-pow-add x 8 64) in
    let room : 64 ≡ 64 - n + n = omega arith in
    let y = (hi * 2 ^ 64 + lo) / 2 ^ s in
    let narrow : y % 2 ^ 64 % 2 ^ n ≡ y % 2 ^ n = ap (λ t. y % 2 ^ t % 2 ^ n) room ∙ mod-mod-pow y (64 - n) n in
    narrow ∙ ap (λ z. z / 2 ^ s % 2 ^ n) both ∙ cut_num x s n 72 (omega arith) ∙ sym (bits_num bytes s n)

-- bits from a byte on, and of as many bytes as have them
pub bits_rest : (bytes : List ℕ) (at s n : ℕ) → bits_from (drop at bytes) s n ≡ bits_from bytes (8 * at + s) n
bits_rest bytes at s n = bits_num (drop at bytes) s n ∙ ap (λ x. x / 2 ^ s % 2 ^ n) (sym (num_drop bytes at)) ∙ ap (λ x. x % 2 ^ n) (shr-shr (num_of bytes) (8 * at) s) ∙ sym (bits_num bytes (8 * at + s) n)

pub bits_part : (bytes : List ℕ) (size s n : ℕ) → (s + n ≤ 8 * size) ⊎ (length bytes ≤ size) → bits_from (take size bytes) s n ≡ bits_from bytes s n
unfolding bits_from
bits_part bytes size s n enough = from_same (bit_past (take size bytes) s) (bit_past bytes s) n (λ j l. ap (λ b. bit_of b ((s + j) % 8)) (same j l enough))
  where
    same : (j : ℕ) → j < n → (s + n ≤ 8 * size) ⊎ (length bytes ≤ size) → get_or (take size bytes) ((s + j) / 8) 0 ≡ get_or bytes ((s + j) / 8) 0
    same j l (inl h) = get_or-take size bytes ((s + j) / 8) 0 (omega arith)
    same j l (inr h) = ap (λ xs. get_or xs ((s + j) / 8) 0) (take_all size bytes h)

-- the bits of word k of a window, as bits of its bytes
pub word_bits : (w : Window) (k : ℕ) → bits_from w.bytes.now (w.start + 64 * k) (min (w.len - 64 * k) 64) ≡ word_of w k
unfolding bits_from word_of
word_bits w k =
    sym (from_cut (bit_past w.bytes.now (w.start + 64 * k)) (w.len - 64 * k) 64)
    ∙ from_same (λ j. bit_past w.bytes.now (w.start + 64 * k) j && ltb j (w.len - 64 * k)) (word_bit w k) 64 (λ j _. same j)
  where
    same : (j : ℕ) → (bit_past w.bytes.now (w.start + 64 * k) j && ltb j (w.len - 64 * k)) ≡ word_bit w k j
    same j =
        let at : w.start + 64 * k + j ≡ w.start + (64 * k + j) = omega arith in
        let test : ltb j (w.len - 64 * k) ≡ ltb (64 * k + j) w.len = grind (arith, nat_tests) in
        ap₂ (λ b t. bit w.bytes.now b && t) at test

-- a word past the window has no bit
pub word_none : (w : Window) (k : ℕ) → w.len ≤ 64 * k → 0 ≡ word_of w k
unfolding bits_from
word_none w k h = let none : min (w.len - 64 * k) 64 ≡ 0 = omega arith in ap (number_of_bits (bit_past w.bytes.now (w.start + 64 * k))) (sym none) ∙ word_bits w k

-- bits of a window from a position on
pub bits_window : (w : Window) (from s n : ℕ) → s ≡ w.start + from → bits_from w.bytes.now s n ≡ number_of_bits (window_from w from) n
unfolding bits_from
bits_window w from s n e = from_same (bit_past w.bytes.now s) (window_from w from) n (λ j _. ap (bit w.bytes.now) (let same : s + j ≡ w.start + (from + j) = omega arith in same))

-- how many of them are set
pub ones_bits : (w : Window) (from n k : ℕ) → from + n ≤ w.len → 64 * k < n → tally (window_from w from) (64 * k) + ones (window_bits w (from + 64 * k) (n - 64 * k)) ≡ tally (window_from w from) (min n (64 * (k + 1)))
unfolding window_bits
ones_bits w from n k inside l =
    let m : ℕ = min (min (n - 64 * k) 64) (w.len - (from + 64 * k)) in
    let all : 64 * k + m ≡ min n (64 * (k + 1)) = omega arith in
    let one : ones (number_of_bits (window_from w (from + 64 * k)) m) ≡ tally (λ j. window_from w from (64 * k + j)) m = ones_from (window_from w (from + 64 * k)) m ∙ tally_same (window_from w (from + 64 * k)) (λ j. window_from w from (64 * k + j)) m (λ j _. ap (window_bit w) (let same : from + 64 * k + j ≡ from + (64 * k + j) = omega arith in same)) in
    ap (λ t. tally (window_from w from) (64 * k) + t) one ∙ sym (tally_split (window_from w from) (64 * k) m) ∙ ap (tally (window_from w from)) all

-- a count from a position on
pub tally_from : (f : ℕ → Bool) (a n : ℕ) → length (filter f (range_with_len a n)) ≡ tally (λ j. f (a + j)) n
tally_from f a n = ap (λ xs. length (filter f xs)) (counted n a) ∙ ap length (kept_map f (λ j. a + j) (range_with_len 0 n)) ∙ length-map (filter (λ j. f (a + j)) (range_with_len 0 n)) (λ j. a + j)
  where
    counted : (n a : ℕ) → range_with_len a n ≡ map (λ j. a + j) (range_with_len 0 n)
    counted n a = fill_by_all (λ j. a + j) (range_with_len a n) n 0 (length-range_with_len a n) (λ k h. get_or-range_with_len a n k 0 h)

-- a count in two parts, the first of them from a word
pub ones_parts : (w : Window) (from head m : ℕ) → head ≤ 64 → from + head ≤ w.len → ones (window_bits w from head) + tally (window_from w (from + head)) m ≡ length (filter (window_bit w) (range_with_len from (head + m)))
unfolding window_bits
ones_parts w from head m few inside =
    let size : min (min head 64) (w.len - from) ≡ head = omega arith in
    let low_part : ones (number_of_bits (window_from w from) (min (min head 64) (w.len - from))) ≡ tally (window_from w from) head = ap (λ n. ones (number_of_bits (window_from w from) n)) size ∙ ones_from (window_from w from) head in
    let high_part : tally (window_from w (from + head)) m ≡ tally (λ j. window_from w from (head + j)) m = tally_same (window_from w (from + head)) (λ j. window_from w from (head + j)) m (λ j _. ap (window_bit w) (let same : from + head + j ≡ from + (head + j) = omega arith in same)) in
    ap₂ (λ x y. x + y) low_part high_part ∙ sym (tally_split (window_from w from) head m) ∙ sym (tally_from (window_bit w) from (head + m))
