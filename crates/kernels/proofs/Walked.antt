-- Walks over the set bits of a word, and full words.
use Rattle.std.proofs.Common.{◌≡◌, ℕ, ◌+◌, ◌-◌, ◌^◌, ◌<◌, length, ap, ◌∙◌, subst}
use lib.Bits.{bit_and}
use lib.Count.{count_trailing_zeros}
use Rattle.std.specs.List.{range_with_len}
use Rattle.std.proofs.lemmas.List.FromFn.{length-range_with_len}
use Rattle.kernels.specs.Masks.{Inside, set_bits}
use Rattle.kernels.proofs.SetBits.{all_bits, bits_lowest}

pub walk_inside : (n base m : ℕ) → 0 < m → m < 2 ^ 64 → Inside n (set_bits 64 m base) → (base + count_trailing_zeros 64 m < n) × Inside n (set_bits 64 (bit_and m (m - 1)) base)
walk_inside n base m p h i = subst (Inside n) (bits_lowest 64 m base p h) i

-- a word with all bits set
pub full_bits : (k w at : ℕ) → w ≡ 2 ^ k - 1 → set_bits k w at ≡ range_with_len at k
full_bits k w at e = ap (λ v. set_bits k v at) e ∙ all_bits k at

pub full_length : (k w at : ℕ) → w ≡ 2 ^ k - 1 → length (set_bits k w at) ≡ k
full_length k w at e = ap length (full_bits k w at e) ∙ length-range_with_len at k
