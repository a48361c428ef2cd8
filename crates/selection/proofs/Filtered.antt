-- Filters and maps of lists.
use Rattle.std.proofs.Common.{◌≡◌, ℕ, suc, ◌+◌, ◌≤◌, Bool, true, false, cond, ◌&&◌, List, [], ◌∷◌, ◌++◌, map, length, get_or, filter, sym, refl, ap, ◌∙◌, ap₂, arith}
use Rattle.std.specs.List.{range_with_len, AllByRecursion}
use Rattle.std.proofs.lemmas.List.FromFn.{fill_by_all, filter_of_map_range_with_len_more}
use Rattle.std.proofs.lemmas.List.{length-append, map-id}

pub kept_same : {X : Type 0} (p q : X → Bool) (xs : List X) → AllByRecursion (λ x. p x ≡ q x) xs → filter p xs ≡ filter q xs
kept_same p q [] h = refl
kept_same {X} p q (x ∷ xs) h = rw (h.0, kept_same p q xs h.1) refl

pub kept_both : {X : Type 0} (p q : X → Bool) (xs : List X) → filter (λ x. p x && q x) xs ≡ filter q (filter p xs)
kept_both p q [] = refl
kept_both p q (x ∷ xs) = go (p x) (kept_both p q xs)
  where
    go : (b : Bool) → filter (λ y. p y && q y) xs ≡ filter q (filter p xs) → cond (b && q x) (x ∷ filter (λ y. p y && q y) xs) (filter (λ y. p y && q y) xs) ≡ filter q (cond b (x ∷ filter p xs) (filter p xs))
    go true h = rw h refl
    go false h = h

pub kept_map : {X Y : Type 0} (q : Y → Bool) (f : X → Y) (xs : List X) → filter q (map f xs) ≡ map f (filter (λ x. q (f x)) xs)
kept_map q f [] = refl
kept_map q f (x ∷ xs) = go (q (f x)) (kept_map q f xs)
  where
    go : (b : Bool) → filter q (map f xs) ≡ map f (filter (λ y. q (f y)) xs) → cond b (f x ∷ filter q (map f xs)) (filter q (map f xs)) ≡ map f (cond b (x ∷ filter (λ y. q (f y)) xs) (filter (λ y. q (f y)) xs))
    go true h = ap (λ ys. f x ∷ ys) h
    go false h = h

pub kept_fewer_all : {X : Type 0} (q : X → Bool) (xs : List X) → length (filter q xs) ≤ length xs
kept_fewer_all q [] = omega arith
kept_fewer_all q (x ∷ xs) = go (q x) (kept_fewer_all q xs)
  where
    go : (b : Bool) → length (filter q xs) ≤ length xs → length (cond b (x ∷ filter q xs) (filter q xs)) ≤ suc (length xs)
    go true h = omega arith
    go false h = omega arith

-- a list by its places
pub by_places : (xs : List ℕ) → map (λ r. get_or xs r 0) (range_with_len 0 (length xs)) ≡ xs
by_places xs = sym (fill_by_all (λ r. get_or xs r 0) xs (length xs) 0 refl (λ k _. refl))

pub all_of_map : {X Y : Type 0} (P : Y → Type 0) (f : X → Y) (xs : List X) → AllByRecursion P (map f xs) → AllByRecursion (λ x. P (f x)) xs
all_of_map P f [] h = tt
all_of_map P f (x ∷ xs) h = (h.0, all_of_map P f xs h.1)

pub map_same : {X Y : Type 0} (f g : X → Y) (xs : List X) → AllByRecursion (λ x. f x ≡ g x) xs → map f xs ≡ map g xs
map_same f g [] h = refl
map_same f g (x ∷ xs) h = ap₂ (λ y ys. y ∷ ys) h.0 (map_same f g xs h.1)

pub map_map : {X Y Z : Type 0} (g : Y → Z) (f : X → Y) (xs : List X) → map g (map f xs) ≡ map (λ x. g (f x)) xs
map_map g f [] = refl
map_map g f (x ∷ xs) = ap (λ ys. g (f x) ∷ ys) (map_map g f xs)

-- one number more of a count
pub kept_counting_more : (q : ℕ → Bool) (n : ℕ) → filter q (range_with_len 0 (n + 1)) ≡ filter q (range_with_len 0 n) ++ cond (q n) (n ∷ []) []
kept_counting_more q n = rw (← map-id (range_with_len 0 (n + 1)), ← map-id (range_with_len 0 n)) (filter_of_map_range_with_len_more q (λ k. k) 0 n n (omega arith))

pub count_kept_more : (q : ℕ → Bool) (n : ℕ) → length (filter q (range_with_len 0 (n + 1))) ≡ length (filter q (range_with_len 0 n)) + cond (q n) 1 0
count_kept_more q n = ap length (kept_counting_more q n) ∙ length-append (filter q (range_with_len 0 n)) (cond (q n) (n ∷ []) []) ∙ ap (λ m. length (filter q (range_with_len 0 n)) + m) (one (q n))
  where
    one : (b : Bool) → length (cond b (n ∷ []) []) ≡ cond b 1 0
    one true = refl
    one false = refl
