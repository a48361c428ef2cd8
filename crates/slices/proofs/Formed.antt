-- What a well formed selection picks, form by form.
use Rattle.std.proofs.Common.{◌≡◌, ℕ, zero, suc, ◌+◌, ◌-◌, ◌^◌, ◌<◌, ◌≤◌, List, [], ◌∷◌, map, length, get_or, None, sym, refl, ap, ◌∙◌, subst, ap₂, arith, Bor}
use Rattle.std.specs.List.{flat_map, AllByRecursion}
use Rattle.std.proofs.ByRecursion.{All-weaker}
use Rattle.selection.specs.declared.windows.Window.{Window}
use Rattle.selection.specs.declared.selections.Run.{Run}
use Rattle.selection.specs.declared.selections.Selection.{Selection}
use Rattle.selection.specs.declared.selections.Selection.TheVariants.{Bitmap, Indices, Runs}
use Rattle.selection.specs.Selected.{Rising, RunsRise, extent, indices_fault, long, no_run, positions, range, runs_fault, selection_fault}
use Rattle.selection.proofs.Listed.{index_rises, indices_pick, ranges_rise, runs_pick_formed, runs_rise}
use Rattle.selection.proofs.Objections.{none_each}
use Rattle.selection.proofs.Rising.{rising_all}
use Rattle.kernels.specs.declared.slice.MaskBits.TheVariants.{Window as Framed}
use Rattle.kernels.specs.Moved.{Within, gather, shifted, splice}
use Rattle.kernels.specs.Masks.{Inside, Masks, compacted, selected_by}
use Rattle.kernels.proofs.Masked.{window_mask, window_selected}

-- a bitmap
pub bitmap_mask : (s : Selection) (w : Window) (n : ℕ) → s ≡ Bitmap w → extent s ≡ n → Masks (Framed w) n
bitmap_mask s w n e f = subst (Masks (Framed w)) (sym (ap extent e) ∙ f) (window_mask w)

window_picks : (w : Window) → selected_by (Framed w) ≡ positions (Bitmap w)
unfolding positions
window_picks w = window_selected w

pub bitmap_picks : (s : Selection) (w : Window) → s ≡ Bitmap w → selected_by (Framed w) ≡ positions s
bitmap_picks s w e = window_picks w ∙ ap positions (sym e)

-- a list of indices
pub indices_formed : (xs : Bor (List ℕ)) (n : ℕ) → selection_fault (Indices xs n) ≡ None → indices_fault n xs.now ≡ None
unfolding selection_fault
indices_formed xs n e = (none_each (long n ∷ indices_fault n xs.now ∷ []) e).1.0

pub indices_picks : (s : Selection) (xs : Bor (List ℕ)) (n : ℕ) → s ≡ Indices xs n → selection_fault s ≡ None → xs.now ≡ positions s
indices_picks s xs n e f = sym (indices_pick xs n (indices_formed xs n (sym (ap selection_fault e) ∙ f))) ∙ ap positions (sym e)

pub indices_rise : (s : Selection) (xs : Bor (List ℕ)) (n m : ℕ) → s ≡ Indices xs n → selection_fault s ≡ None → extent s ≡ m → Rising 0 m xs.now
indices_rise s xs n m e f g = subst (λ k. Rising 0 k xs.now) (sym (ap extent e) ∙ g) (index_rises n xs.now (indices_formed xs n (sym (ap selection_fault e) ∙ f)))

-- a list of runs
pub runs_formed : (rs : Bor (List Run)) (n : ℕ) → selection_fault (Runs rs n) ≡ None → runs_fault n rs.now ≡ None
unfolding selection_fault
runs_formed rs n e = (none_each (long n ∷ runs_fault n rs.now ∷ []) e).1.0

pub runs_picks : (s : Selection) (rs : Bor (List Run)) (n : ℕ) → s ≡ Runs rs n → selection_fault s ≡ None → flat_map range rs.now ≡ positions s
runs_picks s rs n e f = sym (runs_pick_formed rs n (runs_formed rs n (sym (ap selection_fault e) ∙ f))) ∙ ap positions (sym e)

pub runs_follow : (s : Selection) (rs : Bor (List Run)) (n m : ℕ) → s ≡ Runs rs n → selection_fault s ≡ None → extent s ≡ m → RunsRise 0 m rs.now
runs_follow s rs n m e f g = subst (λ k. RunsRise 0 k rs.now) (sym (ap extent e) ∙ g) (runs_rise n rs.now (runs_formed rs n (sym (ap selection_fault e) ∙ f)))

-- the run at a place
pub run_at : (lo hi : ℕ) (rs : List Run) (k : ℕ) → RunsRise lo hi rs → k < length rs → ((get_or rs k no_run).start < (get_or rs k no_run).«end») × ((get_or rs k no_run).«end» ≤ hi)
run_at lo hi [] k h l = absurd (omega arith)
run_at lo hi (r ∷ rs) zero h l = (h.1, h.2)
run_at lo hi (r ∷ rs) (suc k) h l = run_at r.«end» hi rs k h.3 (omega arith)

pub rising_inside : (n : ℕ) (xs : List ℕ) → Rising 0 n xs → Inside n xs
rising_inside n xs h = All-weaker (λ p. (0 ≤ p) × (p < n)) (λ p. p < n) (λ p l. l.1) xs (rising_all 0 n xs h)

pub ranges_inside : (n : ℕ) (rs : List Run) → RunsRise 0 n rs → Inside n (flat_map range rs)
ranges_inside n rs h = rising_inside n (flat_map range rs) (ranges_rise 0 n rs h)

-- indices that are not moved
pub rising_within_64 : (n : ℕ) (xs : List ℕ) → n < 2 ^ 64 → Rising 0 n xs → AllByRecursion (Within 0 0 n) xs
rising_within_64 n xs l h = All-weaker (λ p. (0 ≤ p) × (p < n)) (Within 0 0 n) (λ p i. let b = i.1 in record { fits = omega arith; above = omega arith; below = omega arith }) xs (rising_all 0 n xs h)

unshifted : (xs : List ℕ) → map (shifted 0 0) xs ≡ xs
unshifted [] = refl
unshifted (x ∷ xs) = let e : x + 0 - 0 ≡ x = omega arith in ap₂ (λ (y : ℕ) (ys : List ℕ). y ∷ ys) e (unshifted xs)

-- what is left by the same places
pub left_by : {T : Type 0} (xs out out' : List T) (ps qs : List ℕ) → out' ≡ compacted xs ps out → ps ≡ qs → out' ≡ compacted xs qs out
left_by xs out out' ps qs h e = h ∙ ap (λ rs. compacted xs rs out) e

-- indices that are not moved, as a compaction
pub left_unshifted : {T : Type 0} (xs out out' : List T) (is qs : List ℕ) → out' ≡ splice out 0 (gather xs (map (shifted 0 0) is)) → is ≡ qs → out' ≡ compacted xs qs out
unfolding compacted
left_unshifted xs out out' is qs h e = h ∙ ap (λ rs. splice out 0 (gather xs rs)) (unshifted is ∙ e)
