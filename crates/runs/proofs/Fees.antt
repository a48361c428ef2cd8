-- What ascending places cost at least, and at most.
use Rattle.std.proofs.Common.{◌≡◌, ℕ, ◌+◌, ◌*◌, ◌/◌, ◌<◌, ◌≤◌, Bool, cond, eqb, ltb, List, [], ◌∷◌, length, filter, sym, ap, ◌∙◌, arith}
use Rattle.std.specs.List.{AllByRecursion}
use Rattle.std.proofs.lemmas.List.Sums.{length-filter, sum_by-cons}
use Rattle.std.proofs.lemmas.Bool.Decides.{nat_tests}
use Rattle.selection.specs.Selected.{Rising}
use Rattle.kernels.specs.Moved.{limit_at_width}
use Rattle.settle.specs.Prices.{chunk_places, price_of_chunk, fee_of, in_chunk, sum_below}
use Rattle.settle.proofs.Sums.{price_high, price_low, sum_add, sum_le, sum_none, sum_one, sum_same, sum_scaled}
use Rattle.chunked.proofs.Cuts.{chunk_most}

kept_cons : {X : Type 0} (q : X → Bool) (x : X) (xs : List X) → length (filter q (x ∷ xs)) ≡ cond (q x) 1 0 + length (filter q xs)
kept_cons q x xs = length-filter q (x ∷ xs) ∙ sum_by-cons (λ y. cond (q y) 1 0) x xs ∙ ap (λ n. cond (q x) 1 0 + n) (sym (length-filter q xs))

-- how many of some places lie in chunk c
abbrev chunk_count : List ℕ → ℕ → ℕ
chunk_count ps c = length (chunk_places ps c)

-- the chunks have all places that lie in them
sum_chunks : (n : ℕ) (ps : List ℕ) → AllByRecursion (λ p. p / 1024 < n) ps → sum_below (chunk_count ps) n ≡ length ps
sum_chunks n [] h = sum_none n
sum_chunks n (p ∷ ps) h =
    let rest = sum_chunks n ps h.1 in
    let here = sum_one (p / 1024) 1 n in
    let split = sum_same (chunk_count (p ∷ ps)) (λ c. cond (eqb (p / 1024) c) 1 0 + chunk_count ps c) n (λ c _. kept_cons (in_chunk c) p ps) in
    let parts = sum_add (λ c. cond (eqb (p / 1024) c) 1 0) (chunk_count ps) n in
    let within = h.0 in
    let lies : ◌≡◌ {A = ℕ} (cond (ltb (p / 1024) n) 1 0) 1 = grind (arith, nat_tests) in
    omega arith

module _ (L chunks lo hi : ℕ) (ps : List ℕ) (up : Rising lo hi ps) (inside : AllByRecursion (λ p. p / 1024 < chunks) ps) where
  pub fee_low : length ps ≤ fee_of L chunks ps
  unfolding fee_of
  fee_low =
      let all = sum_chunks chunks ps inside in
      let each = sum_le (chunk_count ps) (price_of_chunk L ps) chunks (λ c _. price_low L (chunk_count ps c) (chunk_most lo hi ps up c)) in
      omega arith

  pub fee_high : L + 1 ≤ 1024 → (L + 1) * fee_of L chunks ps ≤ 1024 * length ps
  unfolding fee_of
  fee_high small =
      let all = sum_chunks chunks ps inside in
      let each = sum_scaled (L + 1) 1024 (price_of_chunk L ps) (chunk_count ps) chunks (λ c _. price_high L (chunk_count ps c) small) in
      omega arith

-- every element type has a limit below a chunk
pub limit_small : (w : ℕ) → limit_at_width w + 1 ≤ 1024
limit_small w = grind (arith, nat_tests)
