-- Values at places, and what a write leaves.
use Rattle.std.proofs.Common.{◌≡◌, ℕ, zero, suc, ◌+◌, ◌-◌, ◌<◌, ◌≤◌, List, [], ◌∷◌, ◌++◌, map, length, get_or, take, drop, set, sym, refl, ap, ◌∙◌, ap₂, arith}
use lib.Seq.{paste}
use Rattle.std.specs.List.{copy_within, range_with_len, AllByRecursion}
use Rattle.std.proofs.lemmas.List.Edits.{drop-paste, take-paste}
use Rattle.std.proofs.lemmas.List.FromFn.{get_or-map-range_with_len, length-map-range_with_len}
use Rattle.std.proofs.ByRecursion.{All-get_or, All-map, All-take}
use Rattle.std.proofs.lemmas.List.{append-nil, drop-append-le, drop-take, take-append-drop, take-append-le, take-take, length-map, length-take-le, map_more, take_at, drop_at, append_assoc, drop-drop, drop_more, set_at, length-take, length-drop, length-append}
use Rattle.kernels.specs.Moved.{value_at, gather, shifted, splice}

-- each place inside gives one value
pub length_gather : {T : Type 0} (xs : List T) (ps : List ℕ) → AllByRecursion (λ p. p < length xs) ps → length (gather xs ps) ≡ length ps
length_gather xs [] h = refl
length_gather xs (p ∷ ps) h =
    let rest = length_gather xs ps h.1 in
    let one : length (value_at xs p) ≡ 1 = simp (length-take, length-drop) (omega arith) in
    simp length-append (omega arith)

pub length_splice : {T : Type 0} (xs : List T) (at : ℕ) (vs : List T) → at + length vs ≤ length xs → length (splice xs at vs) ≡ length xs
length_splice xs at vs h = simp (length-append, length-take, length-drop) (omega arith)

pub take_splice : {T : Type 0} (xs : List T) (at n : ℕ) (vs : List T) → at ≤ length xs → length vs ≡ n → take (at + n) (splice xs at vs) ≡ take at xs ++ vs
take_splice xs at n vs h e =
    let size : length (take at xs ++ vs) ≡ at + n = simp (length-append, length-take) (omega arith) in
    rw (← append_assoc (take at xs) vs (drop (at + length vs) xs)) (take_at (take at xs ++ vs) (drop (at + length vs) xs) (at + n) size)

drop_one : {T : Type 0} (v rest : List T) (k : ℕ) → length v ≡ 1 → drop (suc k) (v ++ rest) ≡ drop k rest
drop_one [] rest k e = absurd (omega arith)
drop_one (x ∷ []) rest k e = refl
drop_one (x ∷ (y ∷ ys)) rest k e = absurd (omega arith)

-- the value at a place of what was gathered
pub value_at_gather : {T : Type 0} (vs : List T) (ps : List ℕ) (k : ℕ) → AllByRecursion (λ p. p < length vs) ps → k < length ps → value_at (gather vs ps) k ≡ value_at vs (get_or ps k 0)
value_at_gather vs [] k h l = absurd (omega arith)
value_at_gather vs (p ∷ ps) zero h l =
    let one : length (value_at vs p) ≡ 1 = simp (length-take, length-drop) (omega arith) in
    take_at (value_at vs p) (gather vs ps) 1 one
value_at_gather vs (p ∷ ps) (suc k) h l =
    let one : length (value_at vs p) ≡ 1 = simp (length-take, length-drop) (omega arith) in
    ap (take 1) (drop_one (value_at vs p) (gather vs ps) k one) ∙ value_at_gather vs ps k h.1 (omega arith)

pub gather_gather : {T : Type 0} (vs : List T) (ps ks : List ℕ) → AllByRecursion (λ p. p < length vs) ps → AllByRecursion (λ k. k < length ps) ks → gather (gather vs ps) ks ≡ gather vs (map (λ r. get_or ps r 0) ks)
gather_gather vs ps [] h l = refl
gather_gather vs ps (k ∷ ks) h l = rw (value_at_gather vs ps k h l.0, gather_gather vs ps ks h l.1) refl

-- what a splice wrote
pub piece_splice : {T : Type 0} (xs : List T) (at n : ℕ) (vs : List T) → at ≤ length xs → length vs ≡ n → take n (drop at (splice xs at vs)) ≡ vs
piece_splice xs at n vs h e =
    let front : length (take at xs) ≡ at = simp length-take (omega arith) in
    ap (take n) (drop_at (take at xs) (vs ++ drop (at + length vs) xs) at front) ∙ take_at vs (drop (at + length vs) xs) n e

pub gather_append : {T : Type 0} (vs : List T) (ps qs : List ℕ) → gather vs (ps ++ qs) ≡ gather vs ps ++ gather vs qs
gather_append vs [] qs = refl
gather_append vs (p ∷ ps) qs = ap (λ xs. value_at vs p ++ xs) (gather_append vs ps qs) ∙ sym (append_assoc (value_at vs p) (gather vs ps) (gather vs qs))

take_none : {T : Type 0} (n : ℕ) → ◌≡◌ {A = List T} (take n []) []
take_none zero = refl
take_none (suc n) = refl

take_first : {T : Type 0} (n : ℕ) (xs : List T) → take 1 xs ++ take n (drop 1 xs) ≡ take (suc n) xs
take_first n [] = take_none n
take_first n (x ∷ xs) = refl

-- values one after another
pub gather_counting : {T : Type 0} (vs : List T) (n a : ℕ) → gather vs (range_with_len a n) ≡ take n (drop a vs)
gather_counting vs zero a = refl
gather_counting vs (suc n) a =
    ap (λ xs. value_at vs a ++ xs) (gather_counting vs n (a + 1) ∙ ap (take n) (sym (drop-drop 1 a vs)))
    ∙ take_first n (drop a vs)

pub value_at_is : {T : Type 0} (xs : List T) (p : ℕ) (d : T) → p < length xs → value_at xs p ≡ get_or xs p d ∷ []
value_at_is xs p d h = ap (take 1) (drop_more xs p d h)

-- one value more of a write
pub splice_more : {T : Type 0} (xs : List T) (at n : ℕ) (vs : List T) (y : T) → length vs ≡ n → at + n < length xs → set (splice xs at vs) (at + n) y ≡ splice xs at (vs ++ (y ∷ []))
splice_more xs at n vs y e h =
    let i = at + length vs in
    let front : length (take at xs ++ vs) ≡ at + n = simp (length-append, length-take) (omega arith) in
    let next : at + length (vs ++ (y ∷ [])) ≡ i + 1 = simp length-append (omega arith) in
    ap (λ zs. set (take at xs ++ (vs ++ zs)) (at + n) y) (drop_more xs i y (omega arith))
    ∙ ap (λ zs. set zs (at + n) y) (sym (append_assoc (take at xs) vs (get_or xs i y ∷ drop (i + 1) xs)))
    ∙ set_at (take at xs ++ vs) (get_or xs i y) (drop (i + 1) xs) y (at + n) front
    ∙ append_assoc (take at xs) vs (y ∷ drop (i + 1) xs)
    ∙ ap (λ zs. take at xs ++ zs) (sym (append_assoc vs (y ∷ []) (drop (i + 1) xs)) ∙ ap (λ m. (vs ++ (y ∷ [])) ++ drop m xs) (sym next))

-- one place more, read and written
pub copy_more : {T : Type 0} (src out : List T) (f : ℕ → ℕ) (is : List ℕ) (k : ℕ) (y : T) → k < length is → k < length out → AllByRecursion (λ i. f i < length src) is → y ≡ get_or src (f (get_or is k 0)) y → set (splice out 0 (gather src (map f (take k is)))) k y ≡ splice out 0 (gather src (map f (take (k + 1) is)))
copy_more src out f is k y h l inside e =
    let place = f (get_or is k 0) in
    let within : place < length src = All-get_or (λ i. f i < length src) is k 0 h inside in
    let vs = gather src (map f (take k is)) in
    let size : length vs ≡ k = length_gather src (map f (take k is)) (All-map (λ p. p < length src) f (take k is) (All-take (λ i. f i < length src) k is inside)) ∙ length-map (take k is) f ∙ length-take-le k is (omega arith) in
    let zero-add' : 0 + k ≡ k = omega arith in
    let one : value_at src place ≡ y ∷ [] = value_at_is src place y within ∙ ap (λ v. v ∷ []) (sym e) in
    let more : gather src (map f (take (k + 1) is)) ≡ vs ++ (y ∷ []) =
    ap (gather src) (map_more f is k 0 h) ∙ gather_append src (map f (take k is)) (place ∷ []) ∙ ap (λ ws. vs ++ ws) (append-nil (value_at src place) ∙ one) in
    ap (λ m. set (splice out 0 vs) m y) (sym zero-add') ∙ splice_more out 0 k vs y size (omega arith) ∙ ap (splice out 0) (sym more)

-- two writes, one after the other
pub splice_splice : {T : Type 0} (xs : List T) (at n : ℕ) (vs ws : List T) → length vs ≡ n → at ≤ length xs → splice (splice xs at vs) (at + n) ws ≡ splice xs at (vs ++ ws)
splice_splice xs at n vs ws e h =
    let m = length ws in
    let front : length (take at xs ++ vs) ≡ at + n = simp (length-append, length-take) (omega arith) in
    let shape : splice xs at vs ≡ (take at xs ++ vs) ++ drop (at + n) xs = ap (λ k. take at xs ++ (vs ++ drop (at + k) xs)) e ∙ sym (append_assoc (take at xs) vs (drop (at + n) xs)) in
    let past : drop (at + n + m) (splice xs at vs) ≡ drop (at + n + m) xs =
    sym (drop-drop m (at + n) (splice xs at vs))
    ∙ ap (λ zs. drop m (drop (at + n) zs)) shape
    ∙ ap (drop m) (drop_at (take at xs ++ vs) (drop (at + n) xs) (at + n) front)
    ∙ drop-drop m (at + n) xs in
    let all : at + length (vs ++ ws) ≡ at + n + m = simp length-append (omega arith) in
    ap (λ zs. zs ++ (ws ++ drop (at + n + m) (splice xs at vs))) (take_splice xs at n vs h e)
    ∙ ap (λ zs. (take at xs ++ vs) ++ (ws ++ zs)) past
    ∙ append_assoc (take at xs) vs (ws ++ drop (at + n + m) xs)
    ∙ ap (λ zs. take at xs ++ zs) (sym (append_assoc vs ws (drop (at + n + m) xs)) ∙ ap (λ k. (vs ++ ws) ++ drop k xs) (sym all))

-- a write over an earlier one that is no longer
pub splice_over : {T : Type 0} (xs vs ws : List T) → length vs ≤ length ws → splice (splice xs 0 vs) 0 ws ≡ splice xs 0 ws
splice_over xs vs ws h =
    let m : ℕ = length ws - length vs in
    let n = 0 + length vs in
    let on : n + m ≡ 0 + length ws = omega arith in
    let front : length vs ≡ n = omega arith in
    let same : drop (0 + length ws) (splice xs 0 vs) ≡ drop (0 + length ws) xs =
    ap (λ k. drop k (vs ++ drop n xs)) (sym on)
    ∙ sym (drop-drop m n (vs ++ drop n xs))
    ∙ ap (drop m) (drop_at vs (drop n xs) n front)
    ∙ drop-drop m n xs
    ∙ ap (λ k. drop k xs) on in
    ap (λ zs. ws ++ zs) same

pub splice_none : {T : Type 0} (xs : List T) (at : ℕ) → splice xs at [] ≡ xs
splice_none xs at = let e : at + 0 ≡ at = omega arith in ap (λ n. take at xs ++ drop n xs) e ∙ take-append-drop at xs

-- a value of a part that was written from the first place on
value_at_part : {T : Type 0} (xs out : List T) (b n j : ℕ) → j < n → b + n ≤ length xs → value_at (splice out 0 (take n (drop b xs))) j ≡ value_at xs (b + j)
value_at_part xs out b n j h l =
    let zs = drop b xs in
    let v = take n zs in
    let rest = drop (0 + length v) out in
    let size : length v ≡ n = simp (length-take, length-drop) (omega arith) in
    let m : ℕ = n - j in
    let on : j + m ≡ n = omega arith in
    let part : drop j v ≡ take m (drop j zs) = ap (λ k. drop j (take k zs)) (sym on) ∙ drop-take j m zs in
    let some : 1 ≤ length (drop j v) = simp length-drop (omega arith) in
    ap (take 1) (drop-append-le j v rest (omega arith))
    ∙ take-append-le 1 (drop j v) rest some
    ∙ ap (take 1) part
    ∙ take-take 1 m (drop j zs) (omega arith)
    ∙ ap (take 1) (drop-drop j b xs)

pub gather_part : {T : Type 0} (xs out : List T) (b n : ℕ) (js : List ℕ) → AllByRecursion (λ j. j < n) js → b + n ≤ length xs → gather (splice out 0 (take n (drop b xs))) js ≡ gather xs (map (λ j. b + j) js)
gather_part xs out b n [] h l = refl
gather_part xs out b n (j ∷ js) h l = ap₂ (λ v vs. v ++ vs) (value_at_part xs out b n j h.0 l) (gather_part xs out b n js h.1 l)

-- a value of the first n
pub value_at_take : {T : Type 0} (xs : List T) (n p : ℕ) → p < n → value_at (take n xs) p ≡ value_at xs p
value_at_take xs n p h =
    let m : ℕ = n - p in
    let on : p + m ≡ n = omega arith in
    ap (λ k. take 1 (drop p (take k xs))) (sym on) ∙ ap (take 1) (drop-take p m xs) ∙ take-take 1 m (drop p xs) (omega arith)

-- values of a part of a slice
pub gather_slice : {T : Type 0} (xs : List T) (b n : ℕ) (js : List ℕ) → AllByRecursion (λ j. j < n) js → gather (take n (drop b xs)) js ≡ gather xs (map (shifted b 0) js)
gather_slice xs b n [] h = refl
gather_slice xs b n (j ∷ js) h =
    let e : b + j ≡ j + b - 0 = omega arith in
    let one : value_at (take n (drop b xs)) j ≡ value_at xs (j + b - 0) = value_at_take (drop b xs) n j h.0 ∙ ap (take 1) (drop-drop j b xs) ∙ ap (value_at xs) e in
    ap₂ (λ v vs. v ++ vs) one (gather_slice xs b n js h.1)

-- a loop that writes f of each of some numbers, one more
pub write_more : {T : Type 0} (f : ℕ → T) (is : List ℕ) (out : List T) (k : ℕ) → k < length is → k < length out → set (splice out 0 (map f (take k is))) k (f (get_or is k 0)) ≡ splice out 0 (map f (take (k + 1) is))
write_more f is out k h l =
    let vs = map f (take k is) in
    let size : length vs ≡ k = length-map (take k is) f ∙ length-take-le k is (omega arith) in
    let here : 0 + k ≡ k = omega arith in
    ap (λ m. set (splice out 0 vs) m (f (get_or is k 0))) (sym here)
    ∙ splice_more out 0 k vs (f (get_or is k 0)) size (omega arith)
    ∙ ap (splice out 0) (sym (map_more f is k 0 h))

-- values made by their places
pub gather_made : {T : Type 0} (f : ℕ → T) (n : ℕ) (ps : List ℕ) → AllByRecursion (λ p. p < n) ps → gather (map f (range_with_len 0 n)) ps ≡ map f ps
gather_made f n [] h = refl
gather_made f n (p ∷ ps) h =
    let inside : p < length (map f (range_with_len 0 n)) = let size = length-map-range_with_len f 0 n in let l = h.0 in omega arith in
    let one : value_at (map f (range_with_len 0 n)) p ≡ f p ∷ [] = value_at_is (map f (range_with_len 0 n)) p (f p) inside ∙ ap (λ v. v ∷ []) (get_or-map-range_with_len f 0 n p p (f p) h.0 (omega arith)) in
    ap₂ (λ v vs. v ++ vs) one (gather_made f n ps h.1)

pub set_splice : {T : Type 0} (xs : List T) (at : ℕ) (y : T) → at < length xs → splice xs at (y ∷ []) ≡ set xs at y
set_splice xs at y h =
    let e : at + 0 ≡ at = omega arith in
    sym (splice_more xs at 0 [] y refl (omega arith)) ∙ ap (λ n. set (splice xs at []) n y) e ∙ ap (λ zs. set zs at y) (splice_none xs at)

-- the first value of a write, and the rest
pub splice_first : {T : Type 0} (xs : List T) (at : ℕ) (y : T) (vs : List T) → at < length xs → splice xs at (y ∷ vs) ≡ splice (set xs at y) (at + 1) vs
splice_first xs at y vs h = sym (splice_splice xs at 1 (y ∷ []) vs refl (omega arith)) ∙ ap (λ zs. splice zs (at + 1) vs) (set_splice xs at y h)

-- a part of a slice, replaced by a part of another
pub put_splice : {T : Type 0} (xs src out : List T) (at from n : ℕ) → from + n ≤ length src → out ≡ take (from + n - from) (drop from src) → take at xs ++ (out ++ drop (at + n - at) (drop at xs)) ≡ splice xs at (take n (drop from src))
put_splice xs src out at from n h e =
    let a : from + n - from ≡ n = omega arith in
    let b : at + n - at ≡ n = omega arith in
    let same : out ≡ take n (drop from src) = e ∙ ap (λ k. take k (drop from src)) a in
    let size : length (take n (drop from src)) ≡ n = simp (length-take, length-drop) (omega arith) in
    let rest : drop (at + n - at) (drop at xs) ≡ drop (at + length (take n (drop from src))) xs = ap (λ k. drop k (drop at xs)) b ∙ drop-drop n at xs ∙ ap (λ k. drop (at + k) xs) (sym size) in
    ap₂ (λ vs ys. take at xs ++ (vs ++ ys)) same rest

-- one element is written
pub put_one : {T : Type 0} (xs src : List T) (at p : ℕ) (d : T) → p < length src → at < length xs → set xs at (get_or src p d) ≡ splice xs at (gather src (p ∷ []))
put_one xs src at p d h l = sym (ap (splice xs at) (append-nil (value_at src p) ∙ value_at_is src p d h) ∙ set_splice xs at (get_or src p d) l)

-- a part that is written where it stands
pub splice_self : {T : Type 0} (xs : List T) (at n : ℕ) → at + n ≤ length xs → splice xs at (take n (drop at xs)) ≡ xs
splice_self xs at n l =
    let size : length (take n (drop at xs)) ≡ n = simp (length-take, length-drop) (omega arith) in
    ap (λ k. take at xs ++ (take n (drop at xs) ++ drop (at + k) xs)) size
    ∙ ap (λ zs. take at xs ++ (take n (drop at xs) ++ zs)) (sym (drop-drop n at xs))
    ∙ ap (λ zs. take at xs ++ zs) (take-append-drop n (drop at xs))
    ∙ take-append-drop at xs

-- a block that is moved down
pub block_moved : {T : Type 0} (xs out : List T) (a n to : ℕ) → to ≤ a → a + n ≤ length xs → out ≡ copy_within xs a (a + n) to → out ≡ splice xs to (take n (drop a xs))
block_moved xs out a n to l h e =
    let m : a + n - a ≡ n = omega arith in
    let part = drop a xs in
    let some : n ≤ length part = simp length-drop (omega arith) in
    let size : length (take n part) ≡ n = simp (length-take, length-drop) (omega arith) in
    e
    ∙ ap (paste xs to part) m
    ∙ sym (take-append-drop (to + n) (paste xs to part n))
    ∙ ap₂ (λ us vs. us ++ vs) (take-paste xs to part n (omega arith) some) (drop-paste xs to part n (omega arith) some)
    ∙ append_assoc (take to xs) (take n part) (drop (to + n) xs)
    ∙ ap (λ k. take to xs ++ (take n part ++ drop (to + k) xs)) (sym size)

-- a block that stands where it belongs
pub stands_there : {T : Type 0} (xs : List T) (a n to : ℕ) → to ≡ a → a + n ≤ length xs → xs ≡ splice xs to (take n (drop a xs))
stands_there xs a n to e l = sym (ap (λ k. splice xs k (take n (drop a xs))) e ∙ splice_self xs a n l)
