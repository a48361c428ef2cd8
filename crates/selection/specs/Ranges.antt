-- Positions that make up one run.
use Rattle.std.specs.Prelude.{◌≡◌, ℕ, ◌+◌, ◌-◌, ◌<◌, ◌≤◌, Bool, true, false, ◌&&◌, List, [], ◌∷◌, length, Some, None, filter, Option, ◌==◌, ◌≢◌}
use Rattle.std.specs.List.{range_with_len}
use Rattle.selection.specs.declared.selections.Run.{Run}
use Rattle.selection.specs.Refusals.{when}
use Rattle.selection.specs.Selected.{range}

-- each number is one more than the one before it, and the first is n
abbrev pub in_turn : ℕ → List ℕ → Bool
in_turn n [] = true
in_turn n (x ∷ xs) = x == n && in_turn (n + 1) xs

-- the run from the first position up to the one after the last, if they are consecutive and not none
unfoldable pub run_of : List ℕ → Option Run
run_of [] = None
run_of (p ∷ ps) = when (in_turn (p + 1) ps) (record { start = p; «end» = p + length (p ∷ ps) })

-- a run with exactly these positions, or there is none
abbrev pub OneRun : List ℕ → Option Run → Type 0
OneRun ps (Some r) = (r.start < r.«end») × (ps ≡ range r)
OneRun ps None = (r : Run) → r.start < r.«end» → ps ≢ range r

-- of the numbers below n that pass a test, a is the first and b the one after the last
pub record EndsIn (q : ℕ → Bool) (n a b : ℕ) : Type 0 where
  pub order : a < b
  pub inside : b ≤ n
  pub first : q a ≡ true
  pub last : q (b - 1) ≡ true
  pub below : (j : ℕ) → j < a → q j ≡ false
  pub above : (j : ℕ) → b ≤ j → j < n → q j ≡ false

-- there are so many of them, and these are their ends if there are any
pub record Ended (q : ℕ → Bool) (n count a b : ℕ) : Type 0 where
  pub counted : count ≡ length (filter q (range_with_len 0 n))
  pub order : a ≤ b
  pub ends : 0 < count → EndsIn q n a b
