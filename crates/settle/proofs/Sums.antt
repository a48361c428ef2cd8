-- Sums over chunks.
use Rattle.std.proofs.Common.{◌≡◌, ℕ, zero, suc, ◌+◌, ◌*◌, ◌<◌, ◌≤◌, Bool, true, false, cond, eqb, ltb, leb, refl, mul-le-mul_right, mul-add, arith}
use Rattle.std.proofs.lemmas.Bool.{leb-false}
use Rattle.std.proofs.lemmas.Bool.Decides.{nat_tests}
use Rattle.settle.specs.Prices.{price, sum_below}

pub sum_add : (f h : ℕ → ℕ) (n : ℕ) → sum_below (λ c. f c + h c) n ≡ sum_below f n + sum_below h n
sum_add f h zero = refl
sum_add f h (suc n) = let before = sum_add f h n in omega arith

pub sum_same : (f h : ℕ → ℕ) (n : ℕ) → ((c : ℕ) → c < n → f c ≡ h c) → sum_below f n ≡ sum_below h n
sum_same f h zero each = refl
sum_same f h (suc n) each =
    let before = sum_same f h n (λ c l. each c (omega arith)) in
    let here = each n (omega arith) in
    omega arith

pub sum_none : (n : ℕ) → sum_below (λ _. 0) n ≡ 0
sum_none zero = refl
sum_none (suc n) = let before = sum_none n in omega arith

-- a sum with one number in it
pub sum_one : (c v n : ℕ) → sum_below (λ d. cond (eqb c d) v 0) n ≡ cond (ltb c n) v 0
sum_one c v zero = grind (arith, nat_tests)
sum_one c v (suc n) = let before = sum_one c v n in grind (arith, nat_tests)

pub sum_le : (f h : ℕ → ℕ) (n : ℕ) → ((c : ℕ) → c < n → f c ≤ h c) → sum_below f n ≤ sum_below h n
sum_le f h zero each = omega arith
sum_le f h (suc n) each =
    let before = sum_le f h n (λ c l. each c (omega arith)) in
    let here = each n (omega arith) in
    omega arith

-- so many times one sum, against so many times another
pub sum_scaled : (a b : ℕ) (f h : ℕ → ℕ) (n : ℕ) → ((c : ℕ) → c < n → a * f c ≤ b * h c) → a * sum_below f n ≤ b * sum_below h n
sum_scaled a b f h zero each = omega arith
sum_scaled a b f h (suc n) each =
    let before = sum_scaled a b f h n (λ c l. each c (omega arith)) in
    let here = each n (omega arith) in
    omega (arith, mul-add a (sum_below f n) (f n), mul-add b (sum_below h n) (h n))

-- the price of n readings lies between n and 1024 * n / (L + 1)
pub price_low : (L n : ℕ) → n ≤ 1024 → n ≤ price L n
price_low L n h = grind (arith, nat_tests)

pub price_high : (L n : ℕ) → L + 1 ≤ 1024 → (L + 1) * price L n ≤ 1024 * n
price_high L n small = go (leb n L) refl
  where
    go : (b : Bool) → leb n L ≡ b → (L + 1) * cond b n 1024 ≤ 1024 * n
    go true e = mul-le-mul_right n small
    go false e = let below = leb-false n L e in omega arith

pub price_mono : (L m n : ℕ) → m ≤ n → n ≤ 1024 → price L m ≤ price L n
price_mono L m n h k = grind (arith, nat_tests)
