-- Numbers and their bits.
use Rattle.std.proofs.Common.{◌≡◌, ℕ, zero, suc, ◌+◌, ◌-◌, ◌*◌, ◌/◌, ◌%◌, ◌^◌, ◌<◌, ◌≤◌, min, Bool, true, false, cond, ◌&&◌, ◌||◌, eqb, ltb, List, [], ◌∷◌, length, get_or, drop, filter, sym, refl, ap, ◌∙◌, ap₂, ⊎_elim, lt_of_lt_of_le, add-zero, add_assoc, mod-eq_of_lt, add_comm, pow-suc, arith, pow_pos, pow_mono, pow-add, shr-shr}
use lib.Bits.{bit_or}
use native.Mathlib.Nat.{div-eq_of_lt, zero-div}
use lib.Count.{ones, ones_cat}
use lib.Pow.{field, mod-mod-pow, mod-pow-add, high, low}
use Rattle.std.specs.List.{range_with_len}
use Rattle.std.proofs.lemmas.List.FromFn.{length-range_with_len}
use Rattle.std.proofs.lemmas.Bool.{cases_lt, lt-ltb, le-ltb}
use Rattle.std.proofs.lemmas.Nat.{or_shr, or_mod, mod_below}
use Rattle.selection.specs.Selected.{bit, bit_of, bit_past, bits_from, number_of_bits}
use Rattle.selection.proofs.Filtered.{count_kept_more, kept_fewer_all}

-- bits of x / 2 ^ s, and of x % 2 ^ n
pub bit_shift : (x s j : ℕ) → bit_of (x / 2 ^ s) j ≡ bit_of x (s + j)
bit_shift x s j = ap (λ t. eqb (t % 2) 1) (shr-shr x s j)

pub bit_mod : (x n j : ℕ) → j < n → bit_of (x % 2 ^ n) j ≡ bit_of x j
bit_mod x n j h =
    let e : n - j + j ≡ n = omega arith in
    let m : n - j - 1 + 1 ≡ n - j = omega arith in
    let f : x % 2 ^ n / 2 ^ j ≡ x / 2 ^ j % 2 ^ (n - j) = ap (λ t. x % 2 ^ t / 2 ^ j) (sym e) ∙ field x (n - j) j in
    let g : x / 2 ^ j % 2 ^ (n - j) % 2 ≡ x / 2 ^ j % 2 = ap (λ t. x / 2 ^ j % 2 ^ t % 2) (sym m) ∙ mod-mod-pow (x / 2 ^ j) (n - j - 1) 1 in
    ap (λ t. eqb t 1) (ap (λ t. t % 2) f ∙ g)

-- a number below 2 ^ n has no bit from n on
pub bit_above : (x n j : ℕ) → x < 2 ^ n → n ≤ j → bit_of x j ≡ false
bit_above x n j l h = ap (λ t. eqb (t % 2) 1) (div-eq_of_lt (lt_of_lt_of_le l (pow_mono h)))

pub bit_mod_past : (x n j : ℕ) → n ≤ j → bit_of (x % 2 ^ n) j ≡ false
bit_mod_past x n j h = bit_above (x % 2 ^ n) n j (mod_below x (2 ^ n) (pow_pos n)) h

-- bits of a number that is put together from two
pub bit_low : (hi lo n j : ℕ) → lo < 2 ^ n → j < n → bit_of (hi * 2 ^ n + lo) j ≡ bit_of lo j
bit_low hi lo n j l h = sym (bit_mod (hi * 2 ^ n + lo) n j h) ∙ ap (λ t. bit_of t j) (low hi n l)

pub bit_high : (hi lo n j : ℕ) → lo < 2 ^ n → bit_of (hi * 2 ^ n + lo) (n + j) ≡ bit_of hi j
bit_high hi lo n j l = sym (bit_shift (hi * 2 ^ n + lo) n j) ∙ ap (λ t. bit_of t j) (high hi n l)

parity : (d P : ℕ) → d < 2 → cond (eqb d 1) P 0 ≡ d * P
parity zero P h = omega arith
parity (suc zero) P h = omega arith
parity (suc (suc d)) P h = absurd (omega arith)

-- the lowest n bits of a number make its rest
pub from_bits : (x n : ℕ) → number_of_bits (bit_of x) n ≡ x % 2 ^ n
from_bits x zero = omega arith
from_bits x (suc n) =
    let e : suc n ≡ 1 + n = omega arith in
    let top : cond (bit_of x n) (2 ^ n) 0 ≡ x / 2 ^ n % 2 * 2 ^ n = parity (x / 2 ^ n % 2) (2 ^ n) (omega arith) in
    let rest = from_bits x n in
    let whole : x % 2 ^ (1 + n) ≡ x / 2 ^ n % 2 * 2 ^ n + x % 2 ^ n = mod-pow-add x 1 n in
    rw e (omega arith)

pub from_same : (f g : ℕ → Bool) (n : ℕ) → ((j : ℕ) → j < n → f j ≡ g j) → number_of_bits f n ≡ number_of_bits g n
from_same f g zero h = refl
from_same f g (suc n) h = ap₂ (λ a b. a + cond b (2 ^ n) 0) (from_same f g n (λ j l. h j (omega arith))) (h n (omega arith))

abbrev front : (ℕ → Bool) → ℕ → ℕ
front f n = cond (f n) 1 0 * 2 ^ n + number_of_bits f n

from_more : (f : ℕ → Bool) (n : ℕ) → number_of_bits f (suc n) ≡ front f n
from_more f n = go (f n)
  where
    go : (b : Bool) → number_of_bits f n + cond b (2 ^ n) 0 ≡ cond b 1 0 * 2 ^ n + number_of_bits f n
    go true = omega arith
    go false = omega arith

pub from_lt : (f : ℕ → Bool) (n : ℕ) → number_of_bits f n < 2 ^ n
from_lt f zero = omega arith
from_lt f (suc n) = go (f n) (from_lt f n)
  where
    go : (b : Bool) → number_of_bits f n < 2 ^ n → number_of_bits f n + cond b (2 ^ n) 0 < 2 ^ suc n
    go true h = omega (arith, pow-suc 2 n)
    go false h = omega (arith, pow-suc 2 n)

pub bit_from : (f : ℕ → Bool) (n j : ℕ) → j < n → bit_of (number_of_bits f n) j ≡ f j
bit_from f zero j h = absurd (omega arith)
bit_from f (suc n) j h = ap (λ t. bit_of t j) (from_more f n) ∙ ⊎_elim (below (bit_from f n j)) top (cases_lt j n)
  where
    below : (j < n → bit_of (number_of_bits f n) j ≡ f j) → j < n → bit_of (front f n) j ≡ f j
    below rest l = bit_low (cond (f n) 1 0) (number_of_bits f n) n j (from_lt f n) l ∙ rest l

    unit : (b : Bool) → bit_of (cond b 1 0) 0 ≡ b
    unit true = refl
    unit false = refl

    top : n ≤ j → bit_of (front f n) j ≡ f j
    top l =
        let past : j ≡ n + 0 = omega arith in
        let here : n ≡ j = omega arith in
        ap (bit_of (front f n)) past ∙ bit_high (cond (f n) 1 0) (number_of_bits f n) n 0 (from_lt f n) ∙ unit (f n) ∙ ap f here

pub bit_from_past : (f : ℕ → Bool) (n j : ℕ) → n ≤ j → bit_of (number_of_bits f n) j ≡ false
bit_from_past f n j h = bit_above (number_of_bits f n) n j (from_lt f n) h

-- a number below 2 ^ n is what its bits make
pub from_own : (x n : ℕ) → x < 2 ^ n → x ≡ number_of_bits (bit_of x) n
from_own x n h = sym (from_bits x n ∙ mod-eq_of_lt h)

pub from_by_bits : (x n : ℕ) (f : ℕ → Bool) → x < 2 ^ n → ((j : ℕ) → j < n → bit_of x j ≡ f j) → x ≡ number_of_bits f n
from_by_bits x n f h e = from_own x n h ∙ from_same (bit_of x) f n e

-- the bits of two numbers, joined
pub bit_of_or : (a b j : ℕ) → bit_of (bit_or a b) j ≡ (bit_of a j || bit_of b j)
bit_of_or a b j = ap (λ t. eqb (t % 2) 1) (or_shr a b j) ∙ ap (λ t. eqb t 1) (or_mod (a / 2 ^ j) (b / 2 ^ j) 1) ∙ go (a / 2 ^ j % 2) (b / 2 ^ j % 2) (omega arith) (omega arith)
  where
    go : (x y : ℕ) → x < 2 → y < 2 → eqb (bit_or x y) 1 ≡ (eqb x 1 || eqb y 1)
    go zero zero h k = refl
    go zero (suc zero) h k = refl
    go (suc zero) zero h k = refl
    go (suc zero) (suc zero) h k = refl
    go zero (suc (suc y)) h k = absurd (omega arith)
    go (suc zero) (suc (suc y)) h k = absurd (omega arith)
    go (suc (suc x)) y h k = absurd (omega arith)

-- bits that end at m make no more than the first m
pub from_cut : (f : ℕ → Bool) (m n : ℕ) → number_of_bits (λ j. f j && ltb j m) n ≡ number_of_bits f (min m n)
from_cut f m zero = let none : 0 ≡ min m 0 = omega arith in ap (number_of_bits f) none
from_cut f m (suc n) = ⊎_elim (within (from_cut f m n)) (past (from_cut f m n)) (cases_lt n m)
  where
    and_true : (b : Bool) → (b && true) ≡ b
    and_true true = refl
    and_true false = refl

    and_false : (b : Bool) → (b && false) ≡ false
    and_false true = refl
    and_false false = refl

    within : number_of_bits (λ j. f j && ltb j m) n ≡ number_of_bits f (min m n) → n < m → number_of_bits (λ j. f j && ltb j m) (suc n) ≡ number_of_bits f (min m (suc n))
    within rest l =
        let less : min m n ≡ n = omega arith in
        let more : min m (suc n) ≡ suc n = omega arith in
        let test : (f n && ltb n m) ≡ f n = ap (λ b. f n && b) (lt-ltb n m l) ∙ and_true (f n) in
        ap₂ (λ a b. a + cond b (2 ^ n) 0) (rest ∙ ap (number_of_bits f) less) test ∙ ap (number_of_bits f) (sym more)

    past : number_of_bits (λ j. f j && ltb j m) n ≡ number_of_bits f (min m n) → m ≤ n → number_of_bits (λ j. f j && ltb j m) (suc n) ≡ number_of_bits f (min m (suc n))
    past rest l =
        let less : min m n ≡ min m (suc n) = omega arith in
        let test : (f n && ltb n m) ≡ false = ap (λ b. f n && b) (le-ltb n m l) ∙ and_false (f n) in
        ap₂ (λ a b. a + cond b (2 ^ n) 0) (rest ∙ ap (number_of_bits f) less) test ∙ add-zero _

-- how many of the first n bits are set
abbrev pub tally : (ℕ → Bool) → ℕ → ℕ
tally f n = length (filter f (range_with_len 0 n))

pub tally_more : (f : ℕ → Bool) (n : ℕ) → tally f (suc n) ≡ tally f n + cond (f n) 1 0
tally_more f n = let e : suc n ≡ n + 1 = omega arith in ap (tally f) e ∙ count_kept_more f n

pub ones_from : (f : ℕ → Bool) (n : ℕ) → ones (number_of_bits f n) ≡ tally f n
unfolding ones
ones_from f zero = refl
ones_from f (suc n) = ap ones (from_more f n) ∙ ones_cat n (cond (f n) 1 0) (number_of_bits f n) (from_lt f n) ∙ ap₂ (λ a b. a + b) (unit (f n)) (ones_from f n) ∙ add_comm (cond (f n) 1 0) (tally f n) ∙ sym (tally_more f n)
  where
    unit : (b : Bool) → ones (cond b 1 0) ≡ cond b 1 0
    unit true = refl
    unit false = refl

-- a count goes on where it stopped
pub tally_split : (f : ℕ → Bool) (a n : ℕ) → tally f (a + n) ≡ tally f a + tally (λ j. f (a + j)) n
tally_split f a zero = ap (tally f) (add-zero a) ∙ sym (add-zero _)
tally_split f a (suc n) =
    let e : a + suc n ≡ suc (a + n) = omega arith in
    ap (tally f) e ∙ tally_more f (a + n) ∙ ap (λ t. t + cond (f (a + n)) 1 0) (tally_split f a n) ∙ add_assoc (tally f a) _ _ ∙ ap (λ t. tally f a + t) (sym (tally_more (λ j. f (a + j)) n))

pub tally_same : (f g : ℕ → Bool) (n : ℕ) → ((j : ℕ) → j < n → f j ≡ g j) → tally f n ≡ tally g n
tally_same f g zero h = refl
tally_same f g (suc n) h = tally_more f n ∙ ap₂ (λ a b. a + cond b 1 0) (tally_same f g n (λ j l. h j (omega arith))) (h n (omega arith)) ∙ sym (tally_more g n)

pub tally_le : (f : ℕ → Bool) (n : ℕ) → tally f n ≤ n
tally_le f n = let size = length-range_with_len 0 n in let less = kept_fewer_all f (range_with_len 0 n) in omega arith

pub tally_none : (f : ℕ → Bool) (n : ℕ) → ((j : ℕ) → j < n → f j ≡ false) → tally f n ≡ 0
tally_none f zero h = refl
tally_none f (suc n) h = tally_more f n ∙ ap₂ (λ a b. a + cond b 1 0) (tally_none f n (λ j l. h j (omega arith))) (h n (omega arith))

-- the number that bytes make, the lowest first
abbrev pub num_of : List ℕ → ℕ
num_of [] = 0
num_of (b ∷ bs) = num_of bs * 256 + b % 256

pub bit_none : (k : ℕ) → bit_of 0 k ≡ false
bit_none k = ap (λ t. eqb (t % 2) 1) (zero-div (2 ^ k))

pub bit_num : (bytes : List ℕ) (k : ℕ) → bit bytes k ≡ bit_of (num_of bytes) k
bit_num [] k = bit_none (k % 8) ∙ sym (bit_none k)
bit_num (b ∷ bs) k = ⊎_elim first (later (bit_num bs (k - 8))) (cases_lt k 8)
  where
    small : b % 256 < 2 ^ 8
    small = omega arith

    first : k < 8 → bit (b ∷ bs) k ≡ bit_of (num_of bs * 256 + b % 256) k
    first h =
        let q : k / 8 ≡ 0 = omega arith in
        let r : k % 8 ≡ k = omega arith in
        rw (q, r) (sym (bit_mod b 8 k h) ∙ sym (bit_low (num_of bs) (b % 256) 8 k small h))

    later : bit bs (k - 8) ≡ bit_of (num_of bs) (k - 8) → 8 ≤ k → bit (b ∷ bs) k ≡ bit_of (num_of bs * 256 + b % 256) k
    later rest h =
        let q : k / 8 ≡ suc ((k - 8) / 8) = omega arith in
        let r : k % 8 ≡ (k - 8) % 8 = omega arith in
        let e : 8 + (k - 8) ≡ k = omega arith in
        rw (q, r) (rest ∙ sym (bit_high (num_of bs) (b % 256) 8 (k - 8) small) ∙ ap (bit_of (num_of bs * 256 + b % 256)) e)

-- bits of bytes, as a part of their number
pub bits_num : (bytes : List ℕ) (s n : ℕ) → bits_from bytes s n ≡ num_of bytes / 2 ^ s % 2 ^ n
unfolding bits_from
bits_num bytes s n =
    from_same (bit_past bytes s) (bit_of (num_of bytes / 2 ^ s)) n (λ j _. bit_num bytes (s + j) ∙ sym (bit_shift (num_of bytes) s j))
    ∙ from_bits (num_of bytes / 2 ^ s) n

pub num_drop : (bytes : List ℕ) (i : ℕ) → num_of bytes / 2 ^ (8 * i) ≡ num_of (drop i bytes)
num_drop bytes zero = omega arith
num_drop [] (suc i) = zero-div (2 ^ (8 * suc i))
num_drop (b ∷ bs) (suc i) =
    let e : 8 * suc i ≡ 8 + 8 * i = omega arith in
    let one : (num_of bs * 256 + b % 256) / 256 ≡ num_of bs = omega arith in
    rw e (sym (shr-shr (num_of bs * 256 + b % 256) 8 (8 * i)) ∙ ap (λ t. t / 2 ^ (8 * i)) one ∙ num_drop bs i)

-- one byte, and the ones after it
pub num_step : (bytes : List ℕ) (i : ℕ) → num_of (drop i bytes) ≡ num_of (drop (i + 1) bytes) * 256 + get_or bytes i 0 % 256
num_step [] zero = refl
num_step [] (suc i) = let e : suc i + 1 ≡ suc (i + 1) = omega arith in rw e refl
num_step (b ∷ bs) zero = refl
num_step (b ∷ bs) (suc i) = let e : suc i + 1 ≡ suc (i + 1) = omega arith in rw e (num_step bs i)

pub num_lt : (bytes : List ℕ) → num_of bytes < 2 ^ (8 * length bytes)
num_lt [] = omega arith
num_lt (b ∷ bs) =
    let rest = num_lt bs in
    let e : 8 * suc (length bs) ≡ 8 * length bs + 8 = omega arith in
    let p : 2 ^ (8 * length bs + 8) ≡ 2 ^ (8 * length bs) * 256 = pow-add 2 (8 * length bs) 8 in
    rw (e, p) (omega arith)
