-- The set bits of a number, taken apart.
use Rattle.std.proofs.Common.{◌≡◌, ℕ, zero, suc, ◌+◌, ◌-◌, ◌*◌, ◌/◌, ◌%◌, ◌^◌, ◌<◌, ◌≤◌, Bool, true, false, cond, eqb, ◌⊎◌, List, [], ◌∷◌, ◌++◌, get_or, map, filter, sym, refl, ap, ◌∙◌, ap₂, inl, inr, suc-add, pow-suc, add-one, one-add, arith, pow_pos, shr-shr}
use native.Mathlib.Nat.{div-eq_of_lt}
use lib.Arith.{lt-one}
use lib.Bits.{bit_and, and_step, and_self}
use lib.Count.{count_trailing_zeros}
use lib.Pow.{shr_le}
use Rattle.std.specs.Int.{to_le_bytes, w64}
use Rattle.std.specs.List.{range_with_len, AllByRecursion}
use Rattle.std.proofs.lemmas.Nat.{field_of, mod-pow-add}
use Rattle.std.proofs.lemmas.List.{append-nil}
use Rattle.selection.specs.Selected.{bit_of}
use Rattle.kernels.specs.Masks.{set_bits}

pub parity : (n : ℕ) → (n % 2 ≡ 0) ⊎ (n % 2 ≡ 1)
parity n = go (n % 2) (omega arith)
  where
    go : (m : ℕ) → m < 2 → (m ≡ 0) ⊎ (m ≡ 1)
    go zero h = inl refl
    go (suc zero) h = inr refl
    go (suc (suc m)) h = absurd (omega arith)

pub even_bits : (k w at : ℕ) → w % 2 ≡ 0 → set_bits (suc k) w at ≡ set_bits k (w / 2) (at + 1)
unfolding set_bits
even_bits k w at e = rw e refl

pub odd_bits : (k w at : ℕ) → w % 2 ≡ 1 → set_bits (suc k) w at ≡ at ∷ set_bits k (w / 2) (at + 1)
unfolding set_bits
odd_bits k w at e = rw e refl

pub no_bits : (k at : ℕ) → set_bits k 0 at ≡ []
unfolding set_bits
no_bits zero at = refl
no_bits (suc k) at = no_bits k (at + 1)

pub bits_none : (w at : ℕ) → set_bits 0 w at ≡ []
unfolding set_bits
bits_none w at = refl

-- the bits that a test says of places are those of a number from bit a on
pub bits_by_test : (q : ℕ → Bool) (k w a p : ℕ) → ((j : ℕ) → j < k → q (p + j) ≡ bit_of w (a + j)) → filter q (range_with_len p k) ≡ set_bits k (w / 2 ^ a) p
unfolding set_bits
bits_by_test q zero w a p h = refl
bits_by_test q (suc k) w a p h =
    let same : q p ≡ bit_of w a = let e : p + 0 ≡ p = omega arith in let f : a + 0 ≡ a = omega arith in ap q (sym e) ∙ h 0 (omega arith) ∙ ap (bit_of w) f in
    let half : w / 2 ^ a / 2 ≡ w / 2 ^ (a + 1) = shr-shr w a 1 in
    let rest = bits_by_test q k w (a + 1) (p + 1) (λ j l. let e : p + 1 + j ≡ p + (j + 1) = omega arith in let f : a + (j + 1) ≡ a + 1 + j = omega arith in ap q e ∙ h (j + 1) (omega arith) ∙ ap (bit_of w) f) in
    rw (same, half, rest) refl

pub half_shr : (w j : ℕ) → w / 2 / 2 ^ j ≡ w / 2 ^ suc j
half_shr w j = shr-shr w 1 j ∙ ap (λ n. w / 2 ^ n) (one-add j)

-- the low j bits, and those above
pub bits_split : (j k w at : ℕ) → set_bits (j + k) w at ≡ set_bits j w at ++ set_bits k (w / 2 ^ j) (at + j)
unfolding set_bits
bits_split zero k w at =
    let a : 0 + k ≡ k = omega arith in
    let b : w / 1 ≡ w = omega arith in
    let c : at + 0 ≡ at = omega arith in
    rw (a, b, c) refl
bits_split (suc j) k w at = ap (λ n. set_bits n w at) (suc-add j k) ∙ go (bits_split j k (w / 2) (at + 1)) (parity w)
  where
    above : set_bits k (w / 2 / 2 ^ j) (at + 1 + j) ≡ set_bits k (w / 2 ^ suc j) (at + suc j)
    above = let e : at + 1 + j ≡ at + suc j = omega arith in ap₂ (set_bits k) (half_shr w j) e

    go : set_bits (j + k) (w / 2) (at + 1) ≡ set_bits j (w / 2) (at + 1) ++ set_bits k (w / 2 / 2 ^ j) (at + 1 + j) → (w % 2 ≡ 0) ⊎ (w % 2 ≡ 1) → set_bits (suc (j + k)) w at ≡ set_bits (suc j) w at ++ set_bits k (w / 2 ^ suc j) (at + suc j)
    go h (inl e) = even_bits (j + k) w at e ∙ h ∙ ap₂ (λ xs ys. xs ++ ys) (sym (even_bits j w at e)) above
    go h (inr e) = odd_bits (j + k) w at e ∙ ap (λ xs. at ∷ xs) h ∙ ap₂ (λ xs ys. xs ++ ys) (sym (odd_bits j w at e)) above

-- no bits above those of the number
pub bits_high : (j n w at : ℕ) → w < 2 ^ j → j ≤ n → set_bits n w at ≡ set_bits j w at
bits_high j n w at h l =
    let m : ℕ = n - j in
    let on : j + m ≡ n = omega arith in
    let none : w / 2 ^ j ≡ 0 = div-eq_of_lt h in
    ap (λ k. set_bits k w at) (sym on) ∙ bits_split j m w at ∙ ap (λ v. set_bits j w at ++ set_bits m v (at + j)) none ∙ ap (λ ys. set_bits j w at ++ ys) (no_bits m (at + j)) ∙ append-nil (set_bits j w at)

-- the low j bits alone
pub bits_low : (j w at : ℕ) → set_bits j (w % 2 ^ j) at ≡ set_bits j w at
unfolding set_bits
bits_low zero w at = refl
bits_low (suc j) w at = go (parity w) (ap (λ v. set_bits j v (at + 1)) rest ∙ bits_low j (w / 2) (at + 1))
  where
    rest : w % 2 ^ suc j / 2 ≡ w / 2 % 2 ^ j
    rest = ap (λ n. w % 2 ^ n / 2 ^ 1) (sym (add-one j)) ∙ field_of w j 1

    same : w % 2 ^ suc j % 2 ≡ w % 2
    same = let e : w % 2 ^ suc j ≡ (w / 2 % 2 ^ j) * 2 + w % 2 = ap (λ n. w % 2 ^ n) (sym (add-one j)) ∙ mod-pow-add w j 1 in omega arith

    go : (w % 2 ≡ 0) ⊎ (w % 2 ≡ 1) → set_bits j (w % 2 ^ suc j / 2) (at + 1) ≡ set_bits j (w / 2) (at + 1) → set_bits (suc j) (w % 2 ^ suc j) at ≡ set_bits (suc j) w at
    go (inl e) tail = even_bits j (w % 2 ^ suc j) at (same ∙ e) ∙ tail ∙ sym (even_bits j w at e)
    go (inr e) tail = odd_bits j (w % 2 ^ suc j) at (same ∙ e) ∙ ap (λ ys. at ∷ ys) tail ∙ sym (odd_bits j w at e)

pub zeros_even : (k w : ℕ) → w % 2 ≡ 0 → count_trailing_zeros (suc k) w ≡ suc (count_trailing_zeros k (w / 2))
unfolding count_trailing_zeros
zeros_even k w e = rw e refl

pub zeros_odd : (k w : ℕ) → w % 2 ≡ 1 → count_trailing_zeros (suc k) w ≡ 0
unfolding count_trailing_zeros
zeros_odd k w e = rw e refl

twice_even : (k x at : ℕ) → set_bits (suc k) (x * 2) at ≡ set_bits k x (at + 1)
twice_even k x at = let e : (x * 2) / 2 ≡ x = omega arith in even_bits k (x * 2) at (omega arith) ∙ ap (λ v. set_bits k v (at + 1)) e

-- the lowest set bit, and the number without it
pub bits_lowest : (k w at : ℕ) → 0 < w → w < 2 ^ k → set_bits k w at ≡ (at + count_trailing_zeros k w) ∷ set_bits k (bit_and w (w - 1)) at
bits_lowest zero w at p h = let z : w ≡ 0 = lt-one h in absurd (omega arith)
bits_lowest (suc k) w at p h = go (bits_lowest k (w / 2) (at + 1)) (parity w)
  where
    go : (0 < w / 2 → w / 2 < 2 ^ k → set_bits k (w / 2) (at + 1) ≡ (at + 1 + count_trailing_zeros k (w / 2)) ∷ set_bits k (bit_and (w / 2) (w / 2 - 1)) (at + 1)) → (w % 2 ≡ 0) ⊎ (w % 2 ≡ 1) → set_bits (suc k) w at ≡ (at + count_trailing_zeros (suc k) w) ∷ set_bits (suc k) (bit_and w (w - 1)) at
    go rest (inl e) =
        let a : (w - 1) / 2 ≡ w / 2 - 1 = omega arith in
        let b : (w - 1) % 2 ≡ 1 = omega arith in
        let cleared : bit_and w (w - 1) ≡ bit_and (w / 2) (w / 2 - 1) * 2 = and_step w (w - 1) ∙ rw (a, b, e) (omega arith) in
        let first : at + 1 + count_trailing_zeros k (w / 2) ≡ at + count_trailing_zeros (suc k) w = let z = zeros_even k w e in omega arith in
        let tail : set_bits k (bit_and (w / 2) (w / 2 - 1)) (at + 1) ≡ set_bits (suc k) (bit_and w (w - 1)) at = sym (ap (λ v. set_bits (suc k) v at) cleared ∙ twice_even k (bit_and (w / 2) (w / 2 - 1)) at) in
        even_bits k w at e ∙ rest (omega arith) (omega (arith, pow-suc 2 k)) ∙ ap₂ (λ x ys. x ∷ ys) first tail
    go rest (inr e) =
        let a : (w - 1) / 2 ≡ w / 2 = omega arith in
        let b : (w - 1) % 2 ≡ 0 = omega arith in
        let cleared : bit_and w (w - 1) ≡ (w / 2) * 2 = and_step w (w - 1) ∙ rw (a, b, e, and_self) (omega arith) in
        let first : at ≡ at + count_trailing_zeros (suc k) w = let z = zeros_odd k w e in omega arith in
        let tail : set_bits k (w / 2) (at + 1) ≡ set_bits (suc k) (bit_and w (w - 1)) at = sym (ap (λ v. set_bits (suc k) v at) cleared ∙ twice_even k (w / 2) at) in
        odd_bits k w at e ∙ ap₂ (λ x ys. x ∷ ys) first tail

-- past the zeros at the low end
pub bits_past_zeros : (k w at : ℕ) → 0 < w → w < 2 ^ k → set_bits k w at ≡ set_bits k (w / 2 ^ count_trailing_zeros k w) (at + count_trailing_zeros k w)
bits_past_zeros zero w at p h = let z : w ≡ 0 = lt-one h in absurd (omega arith)
bits_past_zeros (suc k) w at p h = go (bits_past_zeros k (w / 2) (at + 1)) (parity w)
  where
    go : (0 < w / 2 → w / 2 < 2 ^ k → set_bits k (w / 2) (at + 1) ≡ set_bits k (w / 2 / 2 ^ count_trailing_zeros k (w / 2)) (at + 1 + count_trailing_zeros k (w / 2))) → (w % 2 ≡ 0) ⊎ (w % 2 ≡ 1) → set_bits (suc k) w at ≡ set_bits (suc k) (w / 2 ^ count_trailing_zeros (suc k) w) (at + count_trailing_zeros (suc k) w)
    go rest (inl e) =
        let t = count_trailing_zeros k (w / 2) in
        let below : w / 2 < 2 ^ k = omega (arith, pow-suc 2 k) in
        let le = shr_le (w / 2) t in
        let on : at + 1 + t ≡ at + suc t = omega arith in
        even_bits k w at e
        ∙ rest (omega arith) below
        ∙ sym (bits_high k (suc k) (w / 2 / 2 ^ t) (at + 1 + t) (omega arith) (omega arith))
        ∙ ap₂ (set_bits (suc k)) (half_shr w t) on
        ∙ ap (λ z. set_bits (suc k) (w / 2 ^ z) (at + z)) (sym (zeros_even k w e))
    go rest (inr e) =
        let one : w ≡ w / 2 ^ 0 = omega arith in
        let on : at ≡ at + 0 = omega arith in
        ap₂ (set_bits (suc k)) one on ∙ ap (λ z. set_bits (suc k) (w / 2 ^ z) (at + z)) (sym (zeros_odd k w e))

-- the ones at the low end, and what is above
pub bits_ones : (k v at : ℕ) → v < 2 ^ k → set_bits k v at ≡ range_with_len at (count_trailing_zeros k (2 ^ k - 1 - v)) ++ set_bits k (v / 2 ^ count_trailing_zeros k (2 ^ k - 1 - v)) (at + count_trailing_zeros k (2 ^ k - 1 - v))
unfolding set_bits count_trailing_zeros
bits_ones zero v at h = refl
bits_ones (suc k) v at h = go (bits_ones k (v / 2) (at + 1)) (parity v)
  where
    go : (v / 2 < 2 ^ k → set_bits k (v / 2) (at + 1) ≡ range_with_len (at + 1) (count_trailing_zeros k (2 ^ k - 1 - v / 2)) ++ set_bits k (v / 2 / 2 ^ count_trailing_zeros k (2 ^ k - 1 - v / 2)) (at + 1 + count_trailing_zeros k (2 ^ k - 1 - v / 2))) → (v % 2 ≡ 0) ⊎ (v % 2 ≡ 1) → set_bits (suc k) v at ≡ range_with_len at (count_trailing_zeros (suc k) (2 ^ suc k - 1 - v)) ++ set_bits (suc k) (v / 2 ^ count_trailing_zeros (suc k) (2 ^ suc k - 1 - v)) (at + count_trailing_zeros (suc k) (2 ^ suc k - 1 - v))
    go rest (inl e) =
        let u : ℕ = 2 ^ suc k - 1 - v in
        let odd : u % 2 ≡ 1 = omega (arith, pow-suc 2 k, pow_pos k) in
        let one : v ≡ v / 2 ^ 0 = omega arith in
        let on : at ≡ at + 0 = omega arith in
        ap₂ (set_bits (suc k)) one on ∙ ap (λ z. range_with_len at z ++ set_bits (suc k) (v / 2 ^ z) (at + z)) (sym (zeros_odd k u odd))
    go rest (inr e) =
        let u : ℕ = 2 ^ suc k - 1 - v in
        let t = count_trailing_zeros k (2 ^ k - 1 - v / 2) in
        let even : u % 2 ≡ 0 = omega (arith, pow-suc 2 k, pow_pos k) in
        let half : u / 2 ≡ 2 ^ k - 1 - v / 2 = omega (arith, pow-suc 2 k, pow_pos k) in
        let zs : suc t ≡ count_trailing_zeros (suc k) u = sym (zeros_even k u even ∙ ap (λ x. suc (count_trailing_zeros k x)) half) in
        let below : v / 2 < 2 ^ k = omega (arith, pow-suc 2 k) in
        let le = shr_le (v / 2) t in
        let on : at + 1 + t ≡ at + suc t = omega arith in
        let above : set_bits k (v / 2 / 2 ^ t) (at + 1 + t) ≡ set_bits (suc k) (v / 2 ^ suc t) (at + suc t) = sym (bits_high k (suc k) (v / 2 / 2 ^ t) (at + 1 + t) (omega arith) (omega arith)) ∙ ap₂ (set_bits (suc k)) (half_shr v t) on in
        odd_bits k v at e ∙ ap (λ ys. at ∷ ys) (rest below ∙ ap (λ ys. range_with_len (at + 1) t ++ ys) above) ∙ ap (λ z. range_with_len at z ++ set_bits (suc k) (v / 2 ^ z) (at + z)) zs

-- all bits set
pub all_bits : (k at : ℕ) → set_bits k (2 ^ k - 1) at ≡ range_with_len at k
unfolding set_bits
all_bits zero at = refl
all_bits (suc k) at =
    let odd : (2 ^ suc k - 1) % 2 ≡ 1 = omega (arith, pow-suc 2 k, pow_pos k) in
    let half : (2 ^ suc k - 1) / 2 ≡ 2 ^ k - 1 = omega (arith, pow-suc 2 k, pow_pos k) in
    odd_bits k (2 ^ suc k - 1) at odd ∙ ap (λ v. at ∷ set_bits k v (at + 1)) half ∙ ap (λ ys. at ∷ ys) (all_bits k (at + 1))

-- numbers one after another that all lie below n
pub counting_inside : (n a k : ℕ) → AllByRecursion (λ p. p < n) (range_with_len a k) → 0 < k → a + k ≤ n
counting_inside n a zero h l = absurd (omega arith)
counting_inside n a (suc zero) h l = omega arith
counting_inside n a (suc (suc k)) h l = let r = counting_inside n (a + 1) (suc k) h.1 (omega arith) in omega arith

-- the lowest bit at another place
pub bits_moved : (k w a p : ℕ) → set_bits k w (a + p) ≡ map (λ j. a + j) (set_bits k w p)
unfolding set_bits
bits_moved zero w a p = refl
bits_moved (suc k) w a p = go (eqb (w % 2) 1) (let e : a + p + 1 ≡ a + (p + 1) = omega arith in ap (set_bits k (w / 2)) e ∙ bits_moved k (w / 2) a (p + 1))
  where
    go : (b : Bool) → set_bits k (w / 2) (a + p + 1) ≡ map (λ j. a + j) (set_bits k (w / 2) (p + 1)) → cond b ((a + p) ∷ set_bits k (w / 2) (a + p + 1)) (set_bits k (w / 2) (a + p + 1)) ≡ map (λ j. a + j) (cond b (p ∷ set_bits k (w / 2) (p + 1)) (set_bits k (w / 2) (p + 1)))
    go true h = ap (λ ys. (a + p) ∷ ys) h
    go false h = h

-- the set bits of a number by its tests, from a place on
pub bits_from_place : (k w at : ℕ) → set_bits k w at ≡ map (λ j. at + j) (filter (bit_of w) (range_with_len 0 k))
bits_from_place k w at =
    let a : at ≡ at + 0 = omega arith in
    let one : w / 2 ^ 0 ≡ w = omega arith in
    ap (set_bits k w) a ∙ bits_moved k w at 0 ∙ ap (map (λ j. at + j)) (sym (bits_by_test (bit_of w) k w 0 0 (λ j l. refl) ∙ ap (λ v. set_bits k v 0) one))

-- a byte of a word, and the bytes above
pub bits_byte : (w at b : ℕ) → b < 8 → set_bits (64 - 8 * b) (w / 2 ^ (8 * b)) (at + 8 * b) ≡ set_bits 8 (w / 2 ^ (8 * b) % 256) (at + 8 * b) ++ set_bits (64 - 8 * (b + 1)) (w / 2 ^ (8 * (b + 1))) (at + 8 * (b + 1))
bits_byte w at b h =
    let v = w / 2 ^ (8 * b) in
    let p = at + 8 * b in
    let m : ℕ = 64 - 8 * (b + 1) in
    let on : 64 - 8 * b ≡ 8 + m = omega arith in
    let next : 8 * b + 8 ≡ 8 * (b + 1) = omega arith in
    let place : p + 8 ≡ at + 8 * (b + 1) = omega arith in
    let above : v / 2 ^ 8 ≡ w / 2 ^ (8 * (b + 1)) = shr-shr w (8 * b) 8 ∙ ap (λ n. w / 2 ^ n) next in
    ap (λ k. set_bits k v p) on ∙ bits_split 8 m v p ∙ ap₂ (λ xs ys. xs ++ ys) (sym (bits_low 8 v p)) (ap₂ (set_bits m) above place)

-- what an iterator over the set bits says of them, from a place on
pub bits_next : (w v j at : ℕ) → set_bits 64 w 0 ≡ j ∷ set_bits 64 v 0 → set_bits 64 w at ≡ (at + j) ∷ set_bits 64 v at
bits_next w v j at e =
    let a : at + 0 ≡ at = omega arith in
    ap (set_bits 64 w) (sym a) ∙ bits_moved 64 w at 0 ∙ ap (map (λ i. at + i)) e ∙ ap (λ ys. (at + j) ∷ ys) (sym (bits_moved 64 v at 0) ∙ ap (set_bits 64 v) a)

pub bits_over : (w at : ℕ) → set_bits 64 w 0 ≡ [] → set_bits 64 w at ≡ []
bits_over w at e =
    let a : at + 0 ≡ at = omega arith in
    ap (set_bits 64 w) (sym a) ∙ bits_moved 64 w at 0 ∙ ap (map (λ i. at + i)) e

pub byte_of : (w b : ℕ) → b < 8 → get_or (to_le_bytes w64 w) b 0 ≡ w / 2 ^ (8 * b) % 256
byte_of w zero h = let e : w / 2 ^ (8 * 0) ≡ w = omega arith in ap (λ v. v % 256) (sym e)
byte_of w (suc zero) h = refl
byte_of w (suc (suc zero)) h = refl
byte_of w (suc (suc (suc zero))) h = refl
byte_of w (suc (suc (suc (suc zero)))) h = refl
byte_of w (suc (suc (suc (suc (suc zero))))) h = refl
byte_of w (suc (suc (suc (suc (suc (suc zero)))))) h = refl
byte_of w (suc (suc (suc (suc (suc (suc (suc zero))))))) h = refl
byte_of w (suc (suc (suc (suc (suc (suc (suc (suc b)))))))) h = absurd (omega arith)

-- the same, of its bytes
pub bits_bytes : (w at b : ℕ) (bytes : List ℕ) → b < 8 → bytes ≡ to_le_bytes w64 w → set_bits (64 - 8 * b) (w / 2 ^ (8 * b)) (at + 8 * b) ≡ set_bits 8 (get_or bytes b 0) (at + 8 * b) ++ set_bits (64 - 8 * (b + 1)) (w / 2 ^ (8 * (b + 1))) (at + 8 * (b + 1))
bits_bytes w at b bytes h e = bits_byte w at b h ∙ ap (λ v. set_bits 8 v (at + 8 * b) ++ set_bits (64 - 8 * (b + 1)) (w / 2 ^ (8 * (b + 1))) (at + 8 * (b + 1))) (sym (ap (λ bs. get_or bs b 0) e ∙ byte_of w b h))
