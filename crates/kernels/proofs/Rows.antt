-- The table of bytes, by rows.
use Rattle.std.proofs.Common.{◌≡◌, ℕ, zero, suc, ◌+◌, ◌-◌, ◌*◌, ◌<◌, ◌≤◌, List, [], ◌∷◌, ◌++◌, length, get_or, take, drop, replicate, sym, refl, ap, ap₂, ◌∙◌, arith}
use Rattle.std.specs.List.{range_with_len, flat_map}
use Rattle.std.proofs.lemmas.List.FromFn.{length-range_with_len}
use Rattle.std.proofs.lemmas.List.{drop_at, drop-drop, drop_more, get_or_append_left, get_or-append_right, get_or-map, get_or-take, length-append, length-map, length-replicate, length-take-le, take_at}
use Rattle.selection.specs.Selected.{bit_of}
use Rattle.selection.proofs.Filtered.{kept_fewer_all}
use Rattle.kernels.specs.Masks.{bits_of, row_of, set_bits}
use Rattle.kernels.proofs.SetBits.{bits_from_place}

-- rows of nine, one after another
row_in_rows : (f : ℕ → List ℕ) → ((b : ℕ) → length (f b) ≡ 9) → (n a row : ℕ) → row < n → take 9 (drop (9 * row) (flat_map f (range_with_len a n))) ≡ f (a + row)
row_in_rows f size zero a row h = absurd (omega arith)
row_in_rows f size (suc n) a zero h = let here : a + 0 ≡ a = omega arith in take_at (f a) (flat_map f (range_with_len (a + 1) n)) 9 (size a) ∙ ap f (sym here)
row_in_rows f size (suc n) a (suc row) h =
    let more : 9 + 9 * row ≡ 9 * suc row = omega arith in
    let next : a + 1 + row ≡ a + suc row = omega arith in
    let rest = flat_map f (range_with_len (a + 1) n) in
    ap (λ m. take 9 (drop m (f a ++ rest))) (sym more)
    ∙ ap (take 9) (sym (drop-drop (9 * row) 9 (f a ++ rest)))
    ∙ ap (λ xs. take 9 (drop (9 * row) xs)) (drop_at (f a) rest 9 (size a))
    ∙ row_in_rows f size n (a + 1) row (omega arith)
    ∙ ap f next

pub length_bits_of : (n w : ℕ) → length (bits_of n w) ≤ n
length_bits_of n w = let h = kept_fewer_all (bit_of w) (range_with_len 0 n) in let e = length-range_with_len 0 n in omega arith

pub length_row : (b : ℕ) → length (row_of b) ≡ 9
unfolding row_of
length_row b = let h = length_bits_of 8 b in simp (length-append, length-replicate) (omega arith)

-- the whole table: a row of it
pub table_row : (row from n : ℕ) → row < 256 → from ≡ row → n ≡ 9 → take n (drop (9 * from) (flat_map row_of (range_with_len 0 256))) ≡ row_of row
table_row row from n h e f =
    let here : 0 + row ≡ row = omega arith in
    ap₂ (λ m k. take m (drop (9 * k) (flat_map row_of (range_with_len 0 256)))) f e ∙ row_in_rows row_of length_row 256 0 row h ∙ ap row_of here

-- the last of a row
pub row_count : (b at : ℕ) → get_or (row_of b) 8 0 ≡ length (set_bits 8 b at)
unfolding row_of
row_count b at =
    let js = bits_of 8 b in
    let h = length_bits_of 8 b in
    let n : ℕ = 8 - length js in
    let past : 8 - length js - n ≡ 0 = omega arith in
    get_or-append_right js (replicate n 0 ++ (length js ∷ [])) (length js) 8 0 refl h
    ∙ get_or-append_right (replicate n 0) (length js ∷ []) n (8 - length js) 0 (length-replicate n 0) (omega arith)
    ∙ ap (λ m. get_or (length js ∷ []) m 0) past
    ∙ sym (ap length (bits_from_place 8 b at) ∙ length-map js (λ j. at + j))

-- the others are the set bits
pub row_place : (b at j : ℕ) → j < length (set_bits 8 b at) → get_or (set_bits 8 b at) j 0 ≡ at + get_or (row_of b) j 0
unfolding row_of
row_place b at j l =
    let js = bits_of 8 b in
    let size : length (set_bits 8 b at) ≡ length js = ap length (bits_from_place 8 b at) ∙ length-map js (λ j. at + j) in
    ap (λ ps. get_or ps j 0) (bits_from_place 8 b at)
    ∙ get_or-map (λ j. at + j) js j 0 0 (omega arith)
    ∙ ap (λ m. at + m) (sym (get_or_append_left js (replicate (8 - length js) 0 ++ (length js ∷ [])) 0 j (omega arith)))

pub row_short : (b at : ℕ) → length (set_bits 8 b at) ≤ 8
row_short b at = let e = ap length (bits_from_place 8 b at) ∙ length-map (bits_of 8 b) (λ j. at + j) in let h = length_bits_of 8 b in omega arith

-- one place of a row, and the rest
pub row_step : (b at j r : ℕ) → j < get_or (row_of b) 8 0 → r ≡ get_or (row_of b) j 0 → drop j (set_bits 8 b at) ≡ (at + r) ∷ drop (j + 1) (set_bits 8 b at)
row_step b at j r h e =
    let ps = set_bits 8 b at in
    let n = row_count b at in
    let l : j < length ps = omega arith in
    drop_more ps j 0 l ∙ ap (λ p. p ∷ drop (j + 1) ps) (row_place b at j l ∙ ap (λ m. at + m) (sym e))

-- the places of a row are as many as its last entry says
pub row_items : (b at n : ℕ) (row : List ℕ) → row ≡ row_of b → n ≡ get_or row 8 0 → (length (take n row) ≡ n) × (n ≡ length (set_bits 8 b at))
row_items b at n row e f =
    let many : n ≡ length (set_bits 8 b at) = f ∙ ap (λ xs. get_or xs 8 0) e ∙ row_count b at in
    let long = ap length e ∙ length_row b in
    let short = row_short b at in
    (length-take-le n row (omega arith), many)

-- one of them, and the rest
pub row_told : (b at n j r : ℕ) (row : List ℕ) → row ≡ row_of b → n ≡ get_or row 8 0 → j < length (take n row) → r ≡ get_or (take n row) j 0 → drop j (set_bits 8 b at) ≡ (at + r) ∷ drop (j + 1) (set_bits 8 b at)
row_told b at n j r row e f l i =
    let m : n ≡ get_or (row_of b) 8 0 = f ∙ ap (λ xs. get_or xs 8 0) e in
    let items = row_items b at n row e f in
    row_step b at j r (omega arith) (i ∙ get_or-take n row j 0 (omega arith) ∙ ap (λ xs. get_or xs j 0) e)
