-- One turn of a walk over the runs of set bits of a word.
use Rattle.std.proofs.Common.{◌≡◌, ℕ, zero, suc, ◌+◌, ◌-◌, ◌/◌, ◌%◌, ◌^◌, ◌<◌, ◌≤◌, ◌⊎◌, ◌++◌, sym, ap, ◌∙◌, subst, inl, inr, pow-suc, arith, shr-shr}
use lib.Arith.{lt-one}
use lib.Bits.{bit_and, and_le_l}
use lib.Count.{ones, ones-le, count_trailing_zeros}
use lib.Pow.{shr_le}
use Rattle.std.specs.List.{range_with_len}
use Rattle.std.proofs.lemmas.Nat.{trailing_le}
use Rattle.kernels.specs.Masks.{set_bits}
use Rattle.kernels.proofs.SetBits.{bits_ones, bits_past_zeros, half_shr, parity, zeros_even, zeros_odd}

-- the lowest set bit of a number below 2 ^ k is below bit k
pub trailing_lt : (k n : ℕ) → 0 < n → n < 2 ^ k → count_trailing_zeros k n < k
trailing_lt zero n p h = let z : n ≡ 0 = lt-one h in absurd (omega arith)
trailing_lt (suc k) n p h = go (trailing_lt k (n / 2)) (parity n)
  where
    go : (0 < n / 2 → n / 2 < 2 ^ k → count_trailing_zeros k (n / 2) < k) → (n % 2 ≡ 0) ⊎ (n % 2 ≡ 1) → count_trailing_zeros (suc k) n < suc k
    go rest (inl e) = let z = zeros_even k n e in let r = rest (omega arith) (omega (arith, pow-suc 2 k)) in omega arith
    go rest (inr e) = let z = zeros_odd k n e in omega arith

-- it is set
pub lowest_odd : (k n : ℕ) → 0 < n → n < 2 ^ k → (n / 2 ^ count_trailing_zeros k n) % 2 ≡ 1
lowest_odd zero n p h = let z : n ≡ 0 = lt-one h in absurd (omega arith)
lowest_odd (suc k) n p h = go (lowest_odd k (n / 2)) (parity n)
  where
    go : (0 < n / 2 → n / 2 < 2 ^ k → (n / 2 / 2 ^ count_trailing_zeros k (n / 2)) % 2 ≡ 1) → (n % 2 ≡ 0) ⊎ (n % 2 ≡ 1) → (n / 2 ^ count_trailing_zeros (suc k) n) % 2 ≡ 1
    go rest (inl e) = ap (λ z. (n / 2 ^ z) % 2) (zeros_even k n e) ∙ ap (λ v. v % 2) (sym (half_shr n (count_trailing_zeros k (n / 2)))) ∙ rest (omega arith) (omega (arith, pow-suc 2 k))
    go rest (inr e) = let one : n / 2 ^ 0 ≡ n = omega arith in ap (λ z. (n / 2 ^ z) % 2) (zeros_odd k n e) ∙ ap (λ v. v % 2) one ∙ e

-- an odd number has ones at its low end
pub ones_pos : (k v : ℕ) → v % 2 ≡ 1 → v < 2 ^ suc k → 0 < count_trailing_zeros (suc k) (2 ^ suc k - 1 - v)
ones_pos k v e h =
    let u : ℕ = 2 ^ suc k - 1 - v in
    let even : u % 2 ≡ 0 = omega (arith, pow-suc 2 k) in
    let z = zeros_even k u even in
    omega arith

-- the first run of a word: z zeros, then n ones, and what is left
pub record FirstRun (w from n : ℕ) : Type 0 where
  pub zeros : count_trailing_zeros 64 w < 64
  pub some : 0 < n
  pub most : n ≤ 64
  pub shrinks : w / 2 ^ count_trailing_zeros 64 w / 2 ^ 1 / 2 ^ (n - 1) < w
  pub parts : set_bits 64 w from ≡ range_with_len (from + count_trailing_zeros 64 w) n ++ set_bits 64 (w / 2 ^ count_trailing_zeros 64 w / 2 ^ 1 / 2 ^ (n - 1)) (from + count_trailing_zeros 64 w + n)

pub first_run : (w from n : ℕ) → 0 < w → w < 2 ^ 64 → n ≡ count_trailing_zeros 64 (2 ^ 64 - 1 - w / 2 ^ count_trailing_zeros 64 w) → FirstRun w from n
first_run w from n p h e =
    let z = count_trailing_zeros 64 w in
    let v = w / 2 ^ z in
    let le : v ≤ w = shr_le w z in
    let odd : v % 2 ≡ 1 = lowest_odd 64 w p h in
    let some : 0 < n = subst (λ m. 0 < m) (sym e) (ones_pos 63 v odd (omega arith)) in
    let most : n ≤ 64 = subst (λ m. m ≤ 64) (sym e) (trailing_le 64 (2 ^ 64 - 1 - v)) in
    let less = shr_le (v / 2 ^ 1) (n - 1) in
    let nn : 1 + (n - 1) ≡ n = omega arith in
    let rest : v / 2 ^ n ≡ v / 2 ^ 1 / 2 ^ (n - 1) = sym (shr-shr v 1 (n - 1) ∙ ap (λ m. v / 2 ^ m) nn) in
    record {
      zeros = trailing_lt 64 w p h;
      some = some;
      most = most;
      shrinks = omega arith;
      parts = bits_past_zeros 64 w from p h ∙ bits_ones 64 v (from + z) (omega arith) ∙ ap (λ m. range_with_len (from + z) m ++ set_bits 64 (v / 2 ^ m) (from + z + m)) (sym e) ∙ ap (λ x. range_with_len (from + z) n ++ set_bits 64 x (from + z + n)) rest;
    }

-- some of the bits of a word are at most 64
pub part_ones : (w x : ℕ) → w < 2 ^ 64 → ones (bit_and w x) ≤ 64
part_ones w x h = let l = and_le_l w x in ones-le 64 (bit_and w x) (omega arith)
