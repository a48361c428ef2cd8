-- What places of a source cost.
use Rattle.std.specs.Prelude.{ℕ, zero, suc, ◌+◌, ◌/◌, Bool, cond, List, length, filter, ◌==◌, nat_le}

-- the sum of f over the numbers below n
abbrev pub sum_below : (ℕ → ℕ) → ℕ → ℕ
sum_below f zero = 0
sum_below f (suc n) = sum_below f n + f n

abbrev pub in_chunk : ℕ → ℕ → Bool
in_chunk c p = p / 1024 == c

-- those of some places that lie in chunk c
abbrev pub chunk_places : List ℕ → ℕ → List ℕ
chunk_places ps c = filter (in_chunk c) ps

-- what n readings of one chunk cost under the sparse limit L
abbrev pub price : ℕ → ℕ → ℕ
price L n = cond (nat_le n L) n 1024

abbrev pub price_of_chunk : ℕ → List ℕ → ℕ → ℕ
price_of_chunk L ps c = price L (length (chunk_places ps c))

-- what places cost in a source of some chunks
unfoldable pub fee_of : ℕ → ℕ → List ℕ → ℕ
fee_of L chunks ps = sum_below (price_of_chunk L ps) chunks
