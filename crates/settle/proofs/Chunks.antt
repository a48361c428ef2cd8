-- Places of one chunk.
use Rattle.std.proofs.Common.{◌≡◌, ℕ, ◌/◌, Bool, true, false, List, [], ◌∷◌, filter, sym, refl, ap, ◌∙◌, arith}
use Rattle.std.specs.List.{AllByRecursion}
use Rattle.std.proofs.ByRecursion.{All-weaker}
use Rattle.std.proofs.lemmas.Bool.{eq-eqb, ne_eqb}
use Rattle.std.proofs.lemmas.Bool.Decides.{nat_tests}
use Rattle.settle.specs.Prices.{chunk_places, price_of_chunk, fee_of, in_chunk}
use Rattle.settle.proofs.Sums.{sum_none, sum_same}

pub none_kept : (q : ℕ → Bool) (ps : List ℕ) → AllByRecursion (λ p. q p ≡ false) ps → filter q ps ≡ []
none_kept q [] h = refl
none_kept q (p ∷ ps) h = rw h.0 (none_kept q ps h.1)

all_kept : (q : ℕ → Bool) (ps : List ℕ) → AllByRecursion (λ p. q p ≡ true) ps → filter q ps ≡ ps
all_kept q [] h = refl
all_kept q (p ∷ ps) h = rw h.0 (ap (λ xs. p ∷ xs) (all_kept q ps h.1))

-- no places cost nothing
pub fee_none : (L n : ℕ) → fee_of L n [] ≡ 0
unfolding fee_of
fee_none L n = sum_same (price_of_chunk L []) (λ _. 0) n (λ c _. grind (arith, nat_tests)) ∙ sum_none n

-- places of one chunk
module _ (c : ℕ) (ys : List ℕ) (here : AllByRecursion (λ p. p / 1024 ≡ c) ys) where
  pub only_here : chunk_places ys c ≡ ys
  only_here = all_kept (in_chunk c) ys (All-weaker (λ p. p / 1024 ≡ c) (λ p. in_chunk c p ≡ true) (λ p e. eq-eqb (p / 1024) c e) ys here)

  pub none_else : (d : ℕ) → (c ≡ d → ⊥) → chunk_places ys d ≡ []
  none_else d ne = none_kept (in_chunk d) ys (All-weaker (λ p. p / 1024 ≡ c) (λ p. in_chunk d p ≡ false) (λ p e. ne_eqb (p / 1024) d (λ f. ne (sym e ∙ f))) ys here)
