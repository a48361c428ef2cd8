-- Bits as a number.
use Rattle.std.proofs.Common.{◌≡◌, ℕ, zero, suc, ◌+◌, ◌*◌, ◌/◌, ◌%◌, ◌^◌, ◌<◌, ◌≤◌, Bool, true, false, cond, eqb, List, [], ◌∷◌, ◌++◌, length, get_or, take, drop, sym, refl, ap, ◌∙◌, ap₂, mul_assoc, mul_comm, pow-suc, arith}
use native.Mathlib.Nat.{zero-div}
use lib.Pow.{low, high}
use Rattle.std.proofs.lemmas.List.{length-take-le, take-append-drop}
use Rattle.selection.specs.Selected.{bit_of}
use Rattle.kernels.proofs.SetBits.{half_shr}
use Rattle.slices.specs.Bits.{packed}

pub packed_lt : (bs : List Bool) → packed bs < 2 ^ length bs
packed_lt [] = omega arith
packed_lt (b ∷ bs) = go b (packed_lt bs)
  where
    go : (b : Bool) → packed bs < 2 ^ length bs → cond b 1 0 + 2 * packed bs < 2 ^ suc (length bs)
    go true h = omega (arith, pow-suc 2 (length bs))
    go false h = omega (arith, pow-suc 2 (length bs))

pub packed_append : (xs ys : List Bool) → packed (xs ++ ys) ≡ packed ys * 2 ^ length xs + packed xs
packed_append [] ys = omega arith
packed_append (x ∷ xs) ys =
    let rest = packed_append xs ys in
    let p : packed ys * 2 ^ suc (length xs) ≡ 2 * (packed ys * 2 ^ length xs) = ap (λ t. packed ys * t) (pow-suc 2 (length xs)) ∙ sym (mul_assoc (packed ys) (2 ^ length xs) 2) ∙ mul_comm (packed ys * 2 ^ length xs) 2 in
    omega arith

-- the low bits, and those above
pub packed_low : (xs ys : List Bool) → packed (xs ++ ys) % 2 ^ length xs ≡ packed xs
packed_low xs ys = ap (λ t. t % 2 ^ length xs) (packed_append xs ys) ∙ low (packed ys) (length xs) (packed_lt xs)

pub packed_high : (xs ys : List Bool) → packed (xs ++ ys) / 2 ^ length xs ≡ packed ys
packed_high xs ys = ap (λ t. t / 2 ^ length xs) (packed_append xs ys) ∙ high (packed ys) (length xs) (packed_lt xs)

pub packed_take : (n : ℕ) (bs : List Bool) → n ≤ length bs → packed bs % 2 ^ n ≡ packed (take n bs)
packed_take n bs h =
    let size = length-take-le n bs h in
    ap₂ (λ t m. packed t % 2 ^ m) (sym (take-append-drop n bs)) (sym size) ∙ packed_low (take n bs) (drop n bs)

bit_first : (b : Bool) (p : ℕ) → bit_of (cond b 1 0 + 2 * p) 0 ≡ b
bit_first true p = let e : (1 + 2 * p) / 1 % 2 ≡ 1 = omega arith in ap (λ t. eqb t 1) e
bit_first false p = let e : (0 + 2 * p) / 1 % 2 ≡ 0 = omega arith in ap (λ t. eqb t 1) e

half_packed : (b : Bool) (p : ℕ) → (cond b 1 0 + 2 * p) / 2 ≡ p
half_packed true p = omega arith
half_packed false p = omega arith

pub packed_bit : (bs : List Bool) (j : ℕ) → bit_of (packed bs) j ≡ get_or bs j false
packed_bit [] j = ap (λ t. eqb (t % 2) 1) (zero-div (2 ^ j))
packed_bit (b ∷ bs) zero = bit_first b (packed bs)
packed_bit (b ∷ bs) (suc j) = ap (λ t. eqb (t % 2) 1) (sym (half_shr (packed (b ∷ bs)) j) ∙ ap (λ t. t / 2 ^ j) (half_packed b (packed bs))) ∙ packed_bit bs j

-- one bit of a number
pub one_bit : (x j : ℕ) → x / 2 ^ j % 2 ≡ cond (bit_of x j) 1 0
one_bit x j = go (x / 2 ^ j % 2) (omega arith)
  where
    go : (d : ℕ) → d < 2 → d ≡ cond (eqb d 1) 1 0
    go zero h = refl
    go (suc zero) h = refl
    go (suc (suc d)) h = absurd (omega arith)
