-- The places of a bitmap, chunk by chunk.
use Rattle.std.proofs.Common.{◌≡◌, ℕ, ◌+◌, ◌-◌, ◌/◌, ◌<◌, ◌≤◌, min, Bool, [], ◌++◌, length, filter, ap, ◌∙◌, ap₂, arith}
use Rattle.std.specs.List.{range_with_len, AllByRecursion}
use Rattle.std.proofs.lemmas.List.Elements.{filter-append}
use Rattle.std.proofs.ByRecursion.{all_kept_by, All-map, All-weaker}
use Rattle.std.proofs.lemmas.List.{length-append, map-append}
use Rattle.std.proofs.lemmas.List.FromFn.{length-range_with_len}
use Rattle.selection.specs.declared.windows.Window.{Window}
use Rattle.selection.specs.Selected.{set_between, window_bit, window_positions}
use Rattle.selection.proofs.Filtered.{kept_fewer_all}
use Rattle.selection.proofs.Rising.{rising_all, rising_counting}
use Rattle.kernels.proofs.Masked.{counting_split}
use Rattle.settle.specs.Pushes.{moved}
use Rattle.settle.specs.Bounds.{boundary, kept_between_places}
use Rattle.settle.proofs.Settled.{at}

pub kept_split : (q : ℕ → Bool) (a b d : ℕ) → a ≤ b → b ≤ d → kept_between_places q a d ≡ kept_between_places q a b ++ kept_between_places q b d
kept_split q a b d h l =
    let n : d - a ≡ (b - a) + (d - b) = omega arith in
    let on : a + (b - a) ≡ b = omega arith in
    ap (λ m. filter q (range_with_len a m)) n ∙ ap (filter q) (counting_split (b - a) (d - b) a) ∙ filter-append q (range_with_len a (b - a)) (range_with_len (a + (b - a)) (d - b)) ∙ ap (λ x. kept_between_places q a b ++ filter q (range_with_len x (d - b))) on

pub kept_within : (q : ℕ → Bool) (a b : ℕ) → AllByRecursion (λ x. (a ≤ x) × (x < b)) (kept_between_places q a b)
kept_within q a b = all_kept_by q (λ x. (a ≤ x) × (x < b)) (range_with_len a (b - a)) (All-weaker (λ x. (a ≤ x) × (x < a + (b - a))) (λ x. (a ≤ x) × (x < b)) (λ x h. (h.0, omega arith)) (range_with_len a (b - a)) (rising_all a (a + (b - a)) (range_with_len a (b - a)) (rising_counting a (b - a) (a + (b - a)) (omega arith))))

-- the places of the positions that a test keeps, of a selection of length n at an offset, by chunk c
module _ (q : ℕ → Bool) (offset n c : ℕ) (small : offset ≤ 1024) where
  pub chunk_here : AllByRecursion (λ p. p / 1024 ≡ c) (at offset (kept_between_places q (boundary offset n c) (boundary offset n (c + 1))))
  chunk_here = All-map (λ p. p / 1024 ≡ c) (moved offset) (kept_between_places q (boundary offset n c) (boundary offset n (c + 1))) (All-weaker (λ x. (boundary offset n c ≤ x) × (x < boundary offset n (c + 1))) (λ x. moved offset x / 1024 ≡ c) (λ x h. omega arith) (kept_between_places q (boundary offset n c) (boundary offset n (c + 1))) (kept_within q (boundary offset n c) (boundary offset n (c + 1))))

  -- the places before the next chunk
  pub places_next : at offset (kept_between_places q 0 (boundary offset n (c + 1))) ≡ at offset (kept_between_places q 0 (boundary offset n c)) ++ at offset (kept_between_places q (boundary offset n c) (boundary offset n (c + 1)))
  places_next = ap (at offset) (kept_split q 0 (boundary offset n c) (boundary offset n (c + 1)) (omega arith) (omega arith)) ∙ map-append (moved offset) (kept_between_places q 0 (boundary offset n c)) (kept_between_places q (boundary offset n c) (boundary offset n (c + 1)))

  -- how many positions come before the next chunk
  pub count_next : length (kept_between_places q 0 (boundary offset n (c + 1))) ≡ length (kept_between_places q 0 (boundary offset n c)) + length (kept_between_places q (boundary offset n c) (boundary offset n (c + 1)))
  count_next = ap length (kept_split q 0 (boundary offset n c) (boundary offset n (c + 1)) (omega arith) (omega arith)) ∙ length-append (kept_between_places q 0 (boundary offset n c)) (kept_between_places q (boundary offset n c) (boundary offset n (c + 1)))

-- what a window has set between the bounds of a chunk
pub set_in_chunk : (w : Window) (offset c : ℕ) → set_between w (boundary offset w.len c) (boundary offset w.len (c + 1)) ≡ length (kept_between_places (window_bit w) (boundary offset w.len c) (boundary offset w.len (c + 1)))
unfolding set_between
set_in_chunk w offset c =
    let a : min (boundary offset w.len c) w.len ≡ boundary offset w.len c = omega arith in
    let b : min (boundary offset w.len (c + 1)) w.len ≡ boundary offset w.len (c + 1) = omega arith in
    ap₂ (λ x y. length (filter (window_bit w) (range_with_len x (y - x)))) a b

pub ones_next : (w : Window) (offset c n : ℕ) → offset ≤ 1024 → n ≡ set_between w (boundary offset w.len c) (boundary offset w.len (c + 1)) → length (kept_between_places (window_bit w) 0 (boundary offset w.len (c + 1))) ≡ length (kept_between_places (window_bit w) 0 (boundary offset w.len c)) + n
ones_next w offset c n small e = let next = count_next (window_bit w) offset w.len c small in let here = set_in_chunk w offset c in omega arith

pub kept_whole : (w : Window) → kept_between_places (window_bit w) 0 w.len ≡ window_positions w
kept_whole w = let n : w.len - 0 ≡ w.len = omega arith in ap (λ m. filter (window_bit w) (range_with_len 0 m)) n

-- before the first chunk there is nothing
pub kept_start : (q : ℕ → Bool) (offset n : ℕ) → kept_between_places q 0 (boundary offset n 0) ≡ []
kept_start q offset n = let z : boundary offset n 0 - 0 ≡ 0 = omega arith in ap (λ m. filter q (range_with_len 0 m)) z

-- no more are kept than there are
pub kept_few : (q : ℕ → Bool) (a b : ℕ) → length (kept_between_places q a b) ≤ b - a
kept_few q a b =
    let most = kept_fewer_all q (range_with_len a (b - a)) in
    let size = length-range_with_len a (b - a) in
    omega arith
