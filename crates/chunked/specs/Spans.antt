-- The places of runs within bounds.
use Rattle.std.specs.Prelude.{ℕ, ◌+◌, ◌-◌, ◌^◌, ◌<◌, ◌≤◌, min, max, List}
use Rattle.std.specs.List.{range_with_len, flat_map}
use Rattle.selection.specs.declared.selections.Run.{Run}

-- where a run at an offset begins and ends, cut to the bounds
abbrev pub span_start : ℕ → ℕ → ℕ → Run → ℕ
span_start offset lo hi r = min (max (r.start + offset) lo) hi

abbrev pub span_end : ℕ → ℕ → Run → ℕ
span_end offset hi r = min (r.«end» + offset) hi

-- its places from lo on and below hi
abbrev pub spanned : ℕ → ℕ → ℕ → Run → List ℕ
spanned offset lo hi r = range_with_len (span_start offset lo hi r) (span_end offset hi r - span_start offset lo hi r)

abbrev pub in_span : ℕ → ℕ → ℕ → List Run → List ℕ
in_span offset lo hi rs = flat_map (spanned offset lo hi) rs

-- a run at an offset ends at or before a bound
abbrev pub EndsBy : ℕ → ℕ → Run → Type 0
EndsBy offset hi r = r.«end» + offset ≤ hi

-- a run that can be cut to the bounds in 64 bits, and lies from base on
pub record Spans (offset lo hi base : ℕ) (r : Run) : Type 0 where
  pub from : r.start + offset < 2 ^ 64
  pub to : r.«end» + offset < 2 ^ 64
  pub ordered : span_start offset lo hi r ≤ span_end offset hi r
  pub above : base ≤ span_start offset lo hi r
