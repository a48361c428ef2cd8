-- Selected bits: what each form of a selection asks for, what stands against them, and how they look.
use Rattle.std.proofs.Common.{◌≡◌, ℕ, zero, suc, ◌+◌, ◌*◌, ◌/◌, ◌%◌, ◌^◌, ◌<◌, Bool, true, false, not, eqb, ltb, List, [], ◌∷◌, ◌++◌, map, length, get_or, drop, Some, None, Err, Option, sym, refl, ap, ◌∙◌, subst, ap₂, arith, shr-shr}
use Rattle.std.proofs.lemmas.List.{drop_at, get_or_append_left, get_or-map, get_or_past, length-map}
use Rattle.selection.specs.declared.windows.Window.{Window}
use Rattle.selection.specs.declared.selections.Selection.{Selection}
use Rattle.selection.specs.declared.selections.Selection.TheVariants.{Bitmap}
use Rattle.selection.specs.declared.refusals.Refusal.{Refusal}
use Rattle.selection.specs.declared.refusals.Refusal.TheVariants.{Mismatch, Output}
use Rattle.selection.specs.Refusals.{answered, first_of, settled, when}
use Rattle.selection.specs.Selected.{bit, bit_of, count_of, extent, positions, selection_fault, window_bit, window_fault, window_positions}
use Rattle.selection.proofs.Bits.{bit_mod, bit_shift}
use Rattle.kernels.specs.Moved.{splice}
use Rattle.slices.specs.declared.accumulator.Accumulator.{Accumulator}
use Rattle.slices.specs.Accumulated.{Adds, Room}
use Rattle.slices.specs.Bits.{BitsPicked, bit_bytes, bits_fault, bytes_for, low_bytes, packed, picked_bits}
use Rattle.slices.specs.Slices.{too_few, unequal}
use Rattle.slices.proofs.Packed.{packed_bit}
use Rattle.slices.proofs.Stored.{length_low}

-- a bitmap
pub bitmap_length : (s : Selection) (w : Window) → s ≡ Bitmap w → (n : ℕ) → extent s ≡ n → w.len ≡ n
bitmap_length s w e n h = ap extent (sym e) ∙ h

pub bitmap_positions : (s : Selection) (w : Window) → s ≡ Bitmap w → window_positions w ≡ positions s
unfolding positions
bitmap_positions s w e = ap positions (sym e)

-- the bits at the positions of a form are those that are picked
pub picked_room : (s : Selection) (ps : List ℕ) (acc : Accumulator) → ps ≡ positions s → Room acc (count_of s) → Room acc (length ps)
picked_room s ps acc e r = subst (λ t. Room acc (length t)) (sym e) r

pub picked_adds : (w : Window) (s : Selection) (ps : List ℕ) (acc acc' : Accumulator) → ps ≡ positions s → Adds (map (window_bit w) ps) acc acc' → Adds (picked_bits w s) acc acc'
picked_adds w s ps acc acc' e a = subst (λ t. Adds (map (window_bit w) t) acc acc') e a

-- the first thing that stands against a call
module _ (w : Window) (s : Selection) (places : ℕ) where
  pub selection_stands : (r : Refusal) → selection_fault s ≡ Some r → bits_fault w s places ≡ Some r
  unfolding bits_fault
  selection_stands r h = rw h refl

  pub window_stands : (r : Refusal) → selection_fault s ≡ None → window_fault w ≡ Some r → bits_fault w s places ≡ Some r
  unfolding bits_fault
  window_stands r h g = let fault : window_fault w ≡ Some r = g in ap₂ (λ o p. first_of (o ∷ p ∷ unequal (extent s) w.len ∷ too_few places (bytes_for (count_of s)) ∷ [])) h g

  pub mismatch_stands : selection_fault s ≡ None → window_fault w ≡ None → eqb (extent s) w.len ≡ false → bits_fault w s places ≡ Some Mismatch
  unfolding bits_fault
  mismatch_stands h g e = ap₂ (λ o p. first_of (o ∷ p ∷ unequal (extent s) w.len ∷ too_few places (bytes_for (count_of s)) ∷ [])) h g ∙ ap (λ b. first_of (when (not b) Mismatch ∷ too_few places (bytes_for (count_of s)) ∷ [])) e

  pub output_stands : selection_fault s ≡ None → window_fault w ≡ None → eqb (extent s) w.len ≡ true → ltb places (bytes_for (count_of s)) ≡ true → bits_fault w s places ≡ Some Output
  unfolding bits_fault
  output_stands h g e f = ap₂ (λ o p. first_of (o ∷ p ∷ unequal (extent s) w.len ∷ too_few places (bytes_for (count_of s)) ∷ [])) h g ∙ ap₂ (λ b d. first_of (when (not b) Mismatch ∷ when d Output ∷ [])) e f

  pub nothing_stands : selection_fault s ≡ None → window_fault w ≡ None → eqb (extent s) w.len ≡ true → ltb places (bytes_for (count_of s)) ≡ false → bits_fault w s places ≡ None
  unfolding bits_fault
  nothing_stands h g e f = ap₂ (λ o p. first_of (o ∷ p ∷ unequal (extent s) w.len ∷ too_few places (bytes_for (count_of s)) ∷ [])) h g ∙ ap₂ (λ b d. first_of (when (not b) Mismatch ∷ when d Output ∷ [])) e f

pub refused_value : {X : Type 0} (o : Option Refusal) (r : Refusal) (x : X) → o ≡ Some r → Err r ≡ answered o x
refused_value o r x e = sym (ap (λ p. answered p x) e)

pub refused_after : {S : Type 0} (o : Option Refusal) (r : Refusal) (before after : S) → o ≡ Some r → before ≡ settled o before after
refused_after o r before after e = sym (ap (λ p. settled p before after) e)

pub refused_never : {P : Type 0} (o : Option Refusal) (r : Refusal) → o ≡ Some r → o ≡ None → P
refused_never o r e n = let z : ◌≡◌ {A = ℕ} 0 1 = cc in absurd (omega arith)

pub settled_after : {S : Type 0} (o : Option Refusal) (before after out : S) → o ≡ None → out ≡ after → out ≡ settled o before after
settled_after o before after out e h = h ∙ sym (ap (λ p. settled p before after) e)

-- a byte of a number
low_at : (n x i : ℕ) → i < n → get_or (low_bytes n x) i 0 ≡ x / 2 ^ (8 * i) % 256
low_at zero x i h = absurd (omega arith)
low_at (suc n) x zero h = let e : x ≡ x / 1 = omega arith in ap (λ t. t % 256) e
low_at (suc n) x (suc i) h =
    let e : 8 + 8 * i ≡ 8 * suc i = omega arith in
    low_at n (x / 256) i (omega arith) ∙ ap (λ t. t % 256) (shr-shr x 8 (8 * i) ∙ ap (λ t. x / 2 ^ t) e)

bit_low_bytes : (n x j : ℕ) (rest : List ℕ) → j < 8 * n → bit (low_bytes n x ++ rest) j ≡ bit_of x j
bit_low_bytes n x j rest h =
    let size = length_low n x in
    let e : 8 * (j / 8) + j % 8 ≡ j = omega arith in
    ap (λ b. bit_of b (j % 8)) (get_or_append_left (low_bytes n x) rest 0 (j / 8) (omega arith) ∙ low_at n x (j / 8) (omega arith))
    ∙ bit_mod (x / 2 ^ (8 * (j / 8))) 8 (j % 8) (omega arith)
    ∙ bit_shift x (8 * (j / 8)) (j % 8)
    ∙ ap (bit_of x) e

bit_written : (bs : List Bool) (before : List ℕ) (j : ℕ) → j < 8 * bytes_for (length bs) → bit (splice before 0 (bit_bytes bs)) j ≡ get_or bs j false
unfolding bit_bytes
bit_written bs before j h = bit_low_bytes (bytes_for (length bs)) (packed bs) j _ h ∙ packed_bit bs j

length_bytes : (bs : List Bool) → length (bit_bytes bs) ≡ bytes_for (length bs)
unfolding bit_bytes
length_bytes bs = length_low (bytes_for (length bs)) (packed bs)

rest_written : (bs : List Bool) (before : List ℕ) → drop (bytes_for (length bs)) (splice before 0 (bit_bytes bs)) ≡ drop (bytes_for (length bs)) before
rest_written bs before =
    let e : 0 + length (bit_bytes bs) ≡ bytes_for (length bs) = let s = length_bytes bs in omega arith in
    drop_at (bit_bytes bs) (drop (0 + length (bit_bytes bs)) before) (bytes_for (length bs)) (length_bytes bs) ∙ ap (λ n. drop n before) e

pub bits_look : (w : Window) (s : Selection) (before after : List ℕ) → after ≡ splice before 0 (bit_bytes (picked_bits w s)) → BitsPicked w s before after
bits_look w s before after e =
    let bs = picked_bits w s in
    let size = length-map (positions s) (window_bit w) in
    record {
      taken = λ j h. ap (λ t. bit t j) e ∙ bit_written bs before j (omega arith) ∙ get_or-map (window_bit w) (positions s) j 0 false h;
      clear = λ j h l. ap (λ t. bit t j) e ∙ bit_written bs before j (omega arith) ∙ get_or_past bs j false (omega arith);
      rest = ap (drop (bytes_for (count_of s))) e ∙ subst (λ n. drop (bytes_for n) (splice before 0 (bit_bytes bs)) ≡ drop (bytes_for n) before) size (rest_written bs before);
    }
