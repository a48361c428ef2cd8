-- Places that are taken in some order.
use Rattle.std.specs.Prelude.{ℕ, ◌^◌, ◌-◌, List, [], ◌++◌}
use Rattle.kernels.specs.Masks.{Inside}

-- if some places can be taken, so can the first of them, and then the rest; together that takes all of them
pub record InOrder {S : Type 0} (can : S → List ℕ → Type 0) (took : S → List ℕ → S → Type 0) : Type 0 where
  pub small : (s : S) (ps : List ℕ) → can s ps → Inside (2 ^ 64 - 1) ps
  pub first : (s : S) (ps qs : List ℕ) → can s (ps ++ qs) → can s ps
  pub rest : (s t : S) (ps qs : List ℕ) → can s (ps ++ qs) → took s ps t → can t qs
  pub none : (s : S) → took s [] s
  pub both : (s t u : S) (ps qs : List ℕ) → can s (ps ++ qs) → took s ps t → took t qs u → took s (ps ++ qs) u
