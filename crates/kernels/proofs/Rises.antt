-- Places that ascend, and what stands at them.
use Rattle.std.proofs.Common.{◌≡◌, ℕ, zero, suc, ◌+◌, ◌-◌, ◌<◌, ◌≤◌, List, [], ◌∷◌, ◌++◌, length, take, drop, sym, refl, ap, ◌∙◌, subst, ap₂, arith}
use Rattle.std.specs.List.{range_with_len}
use Rattle.std.proofs.ByRecursion.{All-weaker}
use Rattle.std.proofs.lemmas.List.{append_assoc, drop_at, drop-drop, length-append, length-take}
use Rattle.selection.specs.Selected.{Rising}
use Rattle.selection.proofs.Rising.{rising_all, rising_counting, rising_from, rising_kept}
use Rattle.kernels.specs.Moved.{gather, splice}
use Rattle.kernels.specs.declared.slice.MaskBits.{MaskBits}
use Rattle.kernels.specs.Masks.{Inside, Masks, mask_bit, mask_len, selected_by}
use Rattle.kernels.proofs.SetBits.{counting_inside}

pub rising_inside : (lo hi : ℕ) (ps : List ℕ) → Rising lo hi ps → Inside hi ps
rising_inside lo hi ps h = All-weaker (λ p. (lo ≤ p) × (p < hi)) (λ p. p < hi) (λ p l. l.1) ps (rising_all lo hi ps h)

-- the first of an ascending list
pub rising_left : (lo hi : ℕ) (ps qs : List ℕ) → Rising lo hi (ps ++ qs) → Rising lo hi ps
rising_left lo hi [] qs h = tt
rising_left lo hi (p ∷ ps) qs h = (h.0, h.1, rising_left (suc p) hi ps qs h.2)

-- and the others: so many numbers lie below them
pub rising_right : (lo hi : ℕ) (ps qs : List ℕ) → Rising lo hi (ps ++ qs) → Rising (lo + length ps) hi qs
rising_right lo hi [] qs h = rising_from lo (lo + 0) hi qs (omega arith) h
rising_right lo hi (p ∷ ps) qs h = rising_from (suc p + length ps) (lo + suc (length ps)) hi qs (let l = h.0 in omega arith) (rising_right (suc p) hi ps qs h.2)

pub drop_same : {T : Type 0} (xs ys : List T) (m n : ℕ) → drop m xs ≡ drop m ys → m ≤ n → drop n xs ≡ drop n ys
drop_same xs ys m n e l =
    let k : ℕ = n - m in
    let on : m + k ≡ n = omega arith in
    ap (λ i. drop i xs) (sym on) ∙ sym (drop-drop k m xs) ∙ ap (drop k) e ∙ drop-drop k m ys ∙ ap (λ i. drop i ys) on

pub gather_same : {T : Type 0} (xs ys : List T) (m hi : ℕ) (ps : List ℕ) → drop m xs ≡ drop m ys → Rising m hi ps → gather xs ps ≡ gather ys ps
gather_same xs ys m hi [] e h = refl
gather_same xs ys m hi (p ∷ ps) e h =
    let next : drop (suc p) xs ≡ drop (suc p) ys = drop_same xs ys m (suc p) e (let l = h.0 in omega arith) in
    ap₂ (λ us vs. us ++ vs) (ap (take 1) (drop_same xs ys m p e h.0)) (gather_same xs ys (suc p) hi ps next h.2)

-- past what was written
pub drop_splice : {T : Type 0} (xs vs : List T) (at n : ℕ) → length vs ≡ n → at ≤ length xs → drop (at + n) (splice xs at vs) ≡ drop (at + n) xs
drop_splice xs vs at n e l =
    let front : length (take at xs ++ vs) ≡ at + n = simp (length-append, length-take) (omega arith) in
    ap (drop (at + n)) (sym (append_assoc (take at xs) vs (drop (at + length vs) xs)))
    ∙ drop_at (take at xs ++ vs) (drop (at + length vs) xs) (at + n) front
    ∙ ap (λ k. drop (at + k) xs) e

-- numbers one after another
pub counting_down : (lo hi a n : ℕ) → 0 < n → Rising lo hi (range_with_len a n) → (lo ≤ a) × (a + n ≤ hi)
counting_down lo hi a zero p h = absurd (omega arith)
counting_down lo hi a (suc n) p h = (h.0, counting_inside hi a (suc n) (rising_inside lo hi (range_with_len a (suc n)) h) p)

-- what a mask selects ascends
pub mask_rises : (bits : MaskBits) (n : ℕ) → Masks bits n → Rising 0 n (selected_by bits)
unfolding selected_by
mask_rises bits n h = subst (λ k. Rising 0 k (selected_by bits)) h.long (rising_kept (mask_bit bits) 0 (mask_len bits) (range_with_len 0 (mask_len bits)) (rising_counting 0 (mask_len bits) (mask_len bits) (omega arith)))
