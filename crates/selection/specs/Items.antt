-- The items of a list as runs.
use Rattle.std.specs.Prelude.{ℕ, ◌+◌, ◌||◌, List, [], ◌∷◌, filter, Option, nat_le, nat_lt}
use Rattle.std.specs.List.{range_with_len}
use Rattle.selection.specs.declared.selections.Run.{Run}
use Rattle.selection.specs.declared.refusals.Refusal.{Refusal}
use Rattle.selection.specs.declared.refusals.Refusal.TheVariants.{Order, Past}
use Rattle.selection.specs.Refusals.{first_of, when}
use Rattle.selection.specs.Selected.{covered, long, runs_fault}

-- an index is a run of one
abbrev pub single : ℕ → Run
single i = record { start = i; «end» = i + 1 }

-- why a run at place k is refused, if it may start at least at a number and not pass n
abbrev pub item_fault : Run → ℕ → ℕ → ℕ → Option Refusal
item_fault r k least n =
    first_of (
    when (nat_lt r.start least || nat_le r.«end» r.start) (Order k)
    ∷ when (nat_lt n r.«end») (Past k)
    ∷ []
    )

-- why a list of runs is refused where the length is n
abbrev pub listed_fault : ℕ → List Run → Option Refusal
listed_fault n rs = first_of (long n ∷ runs_fault n rs ∷ [])

-- the positions below n that the runs cover, ascending
abbrev pub listed_positions : ℕ → List Run → List ℕ
listed_positions n rs = filter (λ k. covered k rs) (range_with_len 0 n)
