-- Ascending lists of numbers.
use Rattle.std.proofs.Common.{◌≡◌, ℕ, zero, suc, ◌+◌, ◌-◌, ◌<◌, ◌≤◌, Bool, true, false, cond, List, [], ◌∷◌, map, length, get_or, filter, refl, ap₂, arith}
use Rattle.std.specs.List.{range_with_len, AllByRecursion}
use Rattle.std.proofs.ByRecursion.{All-weaker}
use Rattle.selection.specs.Selected.{Rising}

pub rising_from : (lo lower hi : ℕ) (xs : List ℕ) → lower ≤ lo → Rising lo hi xs → Rising lower hi xs
rising_from lo lower hi [] l h = tt
rising_from lo lower hi (x ∷ xs) l h = (omega arith, h.1, h.2)

pub rising_within : (lo hi lower higher : ℕ) (xs : List ℕ) → lower ≤ lo → hi ≤ higher → Rising lo hi xs → Rising lower higher xs
rising_within lo hi lower higher [] l k h = tt
rising_within lo hi lower higher (x ∷ xs) l k h = (omega arith, omega arith, rising_within (suc x) hi (suc x) higher xs (omega arith) k h.2)

pub rising_kept : (q : ℕ → Bool) (lo hi : ℕ) (xs : List ℕ) → Rising lo hi xs → Rising lo hi (filter q xs)
rising_kept q lo hi [] h = tt
rising_kept q lo hi (x ∷ xs) h = go (q x) (rising_kept q (suc x) hi xs h.2)
  where
    go : (b : Bool) → Rising (suc x) hi (filter q xs) → Rising lo hi (cond b (x ∷ filter q xs) (filter q xs))
    go true r = (h.0, h.1, r)
    go false r = rising_from (suc x) lo hi (filter q xs) (omega arith) r

pub rising_counting : (a n hi : ℕ) → a + n ≤ hi → Rising a hi (range_with_len a n)
rising_counting a zero hi h = tt
rising_counting a (suc n) hi h = (omega arith, omega arith, rising_from (a + 1) (suc a) hi (range_with_len (a + 1) n) (omega arith) (rising_counting (a + 1) n hi (omega arith)))

pub rising_shifted : (o lo hi : ℕ) (xs : List ℕ) → Rising lo hi xs → Rising (o + lo) (o + hi) (map (λ i. o + i) xs)
rising_shifted o lo hi [] h = tt
rising_shifted o lo hi (x ∷ xs) h = (omega arith, omega arith, rising_from (o + suc x) (suc (o + x)) (o + hi) (map (λ i. o + i) xs) (omega arith) (rising_shifted o (suc x) hi xs h.2))

pub rising_length : (lo hi : ℕ) (xs : List ℕ) → Rising lo hi xs → length xs ≤ hi - lo
rising_length lo hi [] h = omega arith
rising_length lo hi (x ∷ xs) h = let rest = rising_length (suc x) hi xs h.2 in omega arith

pub rising_below : (lo hi b : ℕ) (xs : List ℕ) → Rising lo hi xs → AllByRecursion (λ x. x < b) xs → Rising lo b xs
rising_below lo hi b [] h k = tt
rising_below lo hi b (x ∷ xs) h k = (h.0, k.0, rising_below (suc x) hi b xs h.2 k.1)

pub rising_above : (lo hi a : ℕ) (xs : List ℕ) → Rising lo hi xs → AllByRecursion (λ x. a ≤ x) xs → Rising a hi xs
rising_above lo hi a [] h k = tt
rising_above lo hi a (x ∷ xs) h k = (k.0, h.1, h.2)

pub rising_all : (lo hi : ℕ) (xs : List ℕ) → Rising lo hi xs → AllByRecursion (λ x. (lo ≤ x) × (x < hi)) xs
rising_all lo hi [] h = tt
rising_all lo hi (x ∷ xs) h = ((h.0, h.1), All-weaker (λ y. (suc x ≤ y) × (y < hi)) (λ y. (lo ≤ y) × (y < hi)) (λ y k. (omega arith, k.1)) xs (rising_all (suc x) hi xs h.2))

pub rising_get_d : (lo hi : ℕ) (xs : List ℕ) (k : ℕ) → Rising lo hi xs → k < length xs → (lo ≤ get_or xs k 0) × (get_or xs k 0 < hi)
rising_get_d lo hi [] k h l = absurd (omega arith)
rising_get_d lo hi (x ∷ xs) zero h l = (h.0, h.1)
rising_get_d lo hi (x ∷ xs) (suc k) h l = let r = rising_get_d (suc x) hi xs k h.2 (omega arith) in (omega arith, r.1)

pub rising_step : (lo hi : ℕ) (xs : List ℕ) (k : ℕ) → Rising lo hi xs → suc k < length xs → get_or xs k 0 < get_or xs (suc k) 0
rising_step lo hi [] k h l = absurd (omega arith)
rising_step lo hi (x ∷ xs) zero h l = (rising_get_d (suc x) hi xs zero h.2 (omega arith)).0
rising_step lo hi (x ∷ xs) (suc k) h l = rising_step (suc x) hi xs k h.2 (omega arith)

-- as many ascending numbers as there is room for are all of them
pub rising_full : (n lo hi : ℕ) (ps : List ℕ) → hi ≡ lo + n → Rising lo hi ps → length ps ≡ n → ps ≡ range_with_len lo n
rising_full zero lo hi [] e h l = refl
rising_full zero lo hi (p ∷ ps) e h l = absurd (omega arith)
rising_full (suc n) lo hi [] e h l = absurd (omega arith)
rising_full (suc n) lo hi (p ∷ ps) e h l =
    let most = rising_length (suc p) hi ps h.2 in
    let here : p ≡ lo = omega arith in
    let next : lo + 1 ≡ suc p = omega arith in
    ap₂ (λ (x : ℕ) (xs : List ℕ). x ∷ xs) here (rising_full n (lo + 1) hi ps (omega arith) (rw next h.2) (omega arith))
