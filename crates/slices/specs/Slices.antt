-- What keeps a slice from being filtered by a selection.
use Rattle.std.specs.Prelude.{ℕ, not, [], ◌∷◌, Option, ◌==◌, nat_lt}
use Rattle.selection.specs.declared.selections.Selection.{Selection}
use Rattle.selection.specs.declared.refusals.Refusal.{Refusal}
use Rattle.selection.specs.declared.refusals.Refusal.TheVariants.{Mismatch, Output}
use Rattle.selection.specs.Refusals.{when, first_of}
use Rattle.selection.specs.Selected.{count_of, extent, selection_fault}

-- two lengths differ
abbrev pub unequal : ℕ → ℕ → Option Refusal
unequal m n = when (not (m == n)) Mismatch

-- there are fewer places than it takes
abbrev pub too_few : ℕ → ℕ → Option Refusal
too_few places needed = when (nat_lt places needed) Output

-- why a slice of n elements cannot be filtered where it stands
unfoldable pub place_fault : Selection → ℕ → Option Refusal
place_fault s n = first_of (selection_fault s ∷ unequal (extent s) n ∷ [])

-- why a slice of n elements cannot be filtered into some places
unfoldable pub copy_fault : Selection → ℕ → ℕ → Option Refusal
copy_fault s n places = first_of (selection_fault s ∷ unequal (extent s) n ∷ too_few places (count_of s) ∷ [])
