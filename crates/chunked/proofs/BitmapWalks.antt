-- How far a delivery has come on its walk over a bitmap.
use Rattle.std.proofs.Common.{◌≡◌, ℕ, ◌+◌, ◌<◌, ◌≤◌, Bool, List, length, None, sym, refl, ap, ◌∙◌, subst, ap₂, ⊎_elim, arith}
use Rattle.std.specs.List.{between}
use Rattle.std.proofs.lemmas.List.{length-map}
use Rattle.std.proofs.lemmas.Bool.{cases_lt}
use Rattle.selection.specs.declared.windows.Window.{Window}
use Rattle.selection.specs.Selected.{Rising, window_bit, window_positions}
use Rattle.selection.proofs.Rising.{rising_shifted}
use Rattle.source.specs.Fetched.{Whole}
use Rattle.settle.specs.Pushes.{declined, moved}
use Rattle.settle.specs.Bounds.{boundary, kept_between_places}
use Rattle.settle.proofs.Bitmaps.{count_next, kept_start, kept_whole}
use Rattle.settle.proofs.Settled.{at}
use Rattle.chunked.specs.declared.serve.Delivery.{Delivery}
use Rattle.chunked.specs.Served.{Servable}
use Rattle.chunked.specs.Deliveries.{Delivered, offers}
use Rattle.chunked.proofs.Cuts.{Cut}
use Rattle.chunked.proofs.Windows.{bitmap_cut, bitmap_part, kept_rises}
use Rattle.chunked.proofs.Walks.{Walk, walk_more, walk_servable, walk_start, walk_still}

-- the places of the chunks before chunk c were served
abbrev pub BitmapWalk : {D T : Type 0} → ℕ → (D → List T) → (D → ℕ) → Delivery D T → Delivery D T → ℕ → Window → ℕ → Type 0
BitmapWalk L readings allowance d e offset w c = Walk L readings allowance d e (at offset (window_positions w)) (length (kept_between_places (window_bit w) 0 (boundary offset w.len c)))

module _ {D T : Type 0} (L : ℕ) (readings : D → List T) (allowance : D → ℕ) (d : Delivery D T) (offset : ℕ) (w : Window) (small : offset ≤ 1024) where
  pub bitmap_start : BitmapWalk L readings allowance d d offset w 0
  bitmap_start = subst (Walk L readings allowance d d (at offset (window_positions w))) (sym (ap length (kept_start (window_bit w) offset w.len))) (walk_start L readings allowance d (at offset (window_positions w)))

  module _ (e : Delivery D T) (c : ℕ) (h : BitmapWalk L readings allowance d e offset w c) where
    module _ (whole : (s : D) → Whole (readings s)) (ok : declined (offers L readings allowance d) (at offset (window_positions w)) ≡ None) (room : 1024 ≤ length d.scratch.now) (a b : ℕ) (first : a ≡ boundary offset w.len c) (last : b ≡ boundary offset w.len (c + 1)) where
      abbrev q : ℕ → Bool
      q = window_bit w

      count : length (kept_between_places q a b) ≡ length (kept_between_places q (boundary offset w.len c) (boundary offset w.len (c + 1)))
      count = ap₂ (λ x y. length (kept_between_places q x y)) first last

      rise : Rising (offset + 0) (offset + w.len) (at offset (window_positions w))
      rise = subst (λ xs. Rising (offset + 0) (offset + w.len) (at offset xs)) (kept_whole w) (rising_shifted offset 0 w.len (kept_between_places q 0 w.len) (kept_rises q w.len))

      abbrev k : ℕ
      k = length (kept_between_places q 0 (boundary offset w.len c))

      abbrev n : ℕ
      n = length (kept_between_places q a b)

      here : 0 < n → Cut (at offset (window_positions w)) k (k + n) c
      here some = subst (λ xs. Cut (at offset xs) k (k + n) c) (kept_whole w) (bitmap_cut q offset w.len c small k n refl count some)

      part : 0 < n → between k (k + n) (at offset (window_positions w)) ≡ at offset (kept_between_places q a b)
      part some =
          ap (λ xs. between k (k + n) (at offset xs)) (sym (kept_whole w))
          ∙ bitmap_part q offset w.len c small k n refl count some
          ∙ ap₂ (λ x y. at offset (kept_between_places q x y)) (sym first) (sym last)

      pub bitmap_servable : 0 < length (kept_between_places q a b) → Servable (offers L readings allowance e) c (at offset (kept_between_places q a b))
      bitmap_servable some = subst (Servable (offers L readings allowance e) c) (part some) (walk_servable L readings allowance d (at offset (window_positions w)) e k h (k + n) c _ _ (here some) rise ok (whole d.source.now) room)

      pub bitmap_more : (f : Delivery D T) → Delivered L readings allowance e f (at offset (kept_between_places q a b)) → BitmapWalk L readings allowance d f offset w (c + 1)
      bitmap_more f g =
          let next = count_next q offset w.len c small in
          let same = count in
          let on : k + n ≡ length (kept_between_places q 0 (boundary offset w.len (c + 1))) = omega arith in
          subst (Walk L readings allowance d f (at offset (window_positions w))) on (⊎_elim more still (cases_lt 0 n))
        where
          more : 0 < n → Walk L readings allowance d f (at offset (window_positions w)) (k + n)
          more some = walk_more L readings allowance d (at offset (window_positions w)) e k h (k + n) c _ _ (here some) rise ok (whole d.source.now) room f (subst (Delivered L readings allowance e f) (sym (part some)) g)

          still : n ≤ 0 → Walk L readings allowance d f (at offset (window_positions w)) (k + n)
          still none = walk_still L readings allowance d (at offset (window_positions w)) e k h f (at offset (kept_between_places q a b)) n (length-map (kept_between_places q a b) (moved offset)) (omega arith) g
