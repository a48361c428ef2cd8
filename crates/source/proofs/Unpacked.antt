-- Readings that are unpacked one by one.
use Rattle.std.proofs.Common.{◌≡◌, ℕ, ◌+◌, ◌*◌, ◌/◌, ◌%◌, ◌^◌, ◌<◌, ◌≤◌, min, eqb, ltb, List, map, length, None, ap, ◌∙◌, ap₂, lt_of_lt_of_le, arith, pow_mono}
use Rattle.std.specs.List.{AllByRecursion}
use Rattle.std.proofs.lemmas.Bool.{eq-eqb, le-ltb, ne_eqb, not_from_true, or_from}
use Rattle.kernels.specs.Moved.{gather}
use Rattle.kernels.proofs.Gathered.{gather_made}
use Rattle.selection.specs.Selected.{bits_from}
use Rattle.selection.proofs.Objections.{none_when}
use Rattle.selection.proofs.Fields.{bits_lt}
use Rattle.source.specs.Packing.{packed_fault, packed_readings, reading_at, unpacked}

-- the bits that reading i is made of
pub reading_is : (bs : List ℕ) (w i x : ℕ) → x ≡ bits_from bs (8 * (i * w / 8) + i * w % 8) w → x ≡ reading_at bs w i
reading_is bs w i x e = let at : 8 * (i * w / 8) + i * w % 8 ≡ i * w = omega arith in e ∙ ap (λ s. bits_from bs s w) at

pub reading_lt : (bs : List ℕ) (s w x : ℕ) → w ≤ 32 → x ≡ bits_from bs s w → x < 2 ^ 32
reading_lt bs s w x h e = rw e (lt_of_lt_of_le (bits_lt bs s w) (pow_mono {j = 32} h))

-- readings at some places
pub packed_gather : (bs : List ℕ) (w n : ℕ) (ps : List ℕ) → AllByRecursion (λ p. p < 1024 * min n 16384) ps → gather (packed_readings bs w n) ps ≡ map (reading_at bs (min w 32)) ps
unfolding packed_readings
packed_gather bs w n ps h = gather_made (reading_at bs (min w 32)) (1024 * min n 16384) ps h

-- a source of no more than its bits and chunks
pub packed_all : (bs : List ℕ) (w n : ℕ) → w ≤ 32 → n ≤ 16384 → packed_readings bs w n ≡ unpacked bs w n
unfolding packed_readings
packed_all bs w n h l =
    let a : min w 32 ≡ w = omega arith in
    let b : min n 16384 ≡ n = omega arith in
    ap₂ (unpacked bs) a b

-- bytes of the right shape
pub packed_formed : (bs : List ℕ) (w n : ℕ) → (w ≡ 0 → ⊥) → w ≤ 32 → n ≤ 16384 → length bs ≡ 128 * w * n → packed_fault bs w n ≡ None
packed_formed bs w n some h l e = none_when _ _ (or_from (eqb w 0) _ (ne_eqb w 0 some) (or_from (ltb 32 w) _ (le-ltb 32 w h) (or_from (ltb 16384 n) _ (le-ltb 16384 n l) (not_from_true _ (eq-eqb (length bs) (128 * w * n) e)))))
