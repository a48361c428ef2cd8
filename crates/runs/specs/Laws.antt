-- What holds of all pushes to a new filter.
use Prim.{Unit, tt}
use Rattle.std.specs.Prelude.{◌≡◌, ℕ, ◌+◌, ◌*◌, ◌^◌, ◌<◌, ◌≤◌, List, length, take, filter, Result}
use Rattle.std.specs.List.{AllZip}
use Rattle.selection.specs.declared.refusals.Refusal.{Refusal}
use Rattle.selection.specs.Refusals.{answered, settled}
use Rattle.selection.specs.Selected.{positions}
use Rattle.kernels.specs.Moved.{splice}
use Rattle.source.specs.Fetched.{Whole}
use Rattle.settle.specs.declared.settle.Push.{Push}
use Rattle.settle.specs.Pushes.{Answer}
use Rattle.chunked.specs.Served.{State}
use Rattle.runs.specs.Runs.{after, answers, fees_paid, heard, notes_fault, values_written, well_formed}

-- a new filter, with its source, its output and its scratch
pub record Fresh {T : Type 0} (s : State T) : Type 0 where
  pub whole : Whole s.readings
  pub small : s.allowance < 2 ^ 64
  pub room : length s.output < 2 ^ 64
  pub none_written : s.written ≡ 0
  pub none_paid : s.fees ≡ 0

-- a list of pushes took s to t, and its answers are noted: all of it, or nothing with too few notes
pub record Ran {T : Type 0} (L : ℕ) (ps : List Push) (s t : State T) (before now' : List Answer) (made : Result Unit Refusal) : Type 0 where
  pub told : made ≡ answered (notes_fault (length before) (length ps)) tt
  pub noted : now' ≡ settled (notes_fault (length before) (length ps)) before (splice before 0 (answers L s ps))
  pub ended : t ≡ settled (notes_fault (length before) (length ps)) s (after L s ps)

-- from s to t by pushes with such answers, the allowance goes into fees alone, and the fees stay near the values written
pub record Balanced {T : Type 0} (L : ℕ) (s t : State T) (as' : List Answer) : Type 0 where
  pub spent : s.allowance ≡ t.allowance + fees_paid as'
  pub low : values_written as' ≤ fees_paid as'
  pub high : (L + 1) * fees_paid as' ≤ 1024 * values_written as'
  pub counted : t.written ≡ values_written as'
  pub charged : t.fees ≡ fees_paid as'

-- so it is after any pushes to a new filter
abbrev pub Balance : {T : Type 0} → ℕ → State T → List Push → Type 0
Balance L s ps = L + 1 ≤ 1024 → Fresh s → Balanced L s (after L s ps) (answers L s ps)

-- two pushes with the same positions at equal offsets
abbrev pub SamePick : Push → Push → Type 0
SamePick p q = (p.offset ≡ q.offset) × (positions p.selection ≡ positions q.selection)

-- the well formed ones of some pushes, at the scratch of a state
abbrev pub formed_ones : {T : Type 0} → State T → List Push → List Push
formed_ones s ps = filter (well_formed (length s.scratch)) ps

-- two states with the same readings, as much left and as many places to write to
pub record Alike {T : Type 0} (s t : State T) : Type 0 where
  pub readings : s.readings ≡ t.readings
  pub allowance : s.allowance ≡ t.allowance
  pub places : length s.output ≡ length t.output

-- two lists of pushes with such answers led to s and to t: the well formed ones are answered alike, and wrote and paid the same
pub record Agree {T : Type 0} (s t : State T) (ps qs : List Push) (as' bs : List Answer) : Type 0 where
  pub answers : heard (length s.scratch) ps as' ≡ heard (length t.scratch) qs bs
  pub values : take (values_written as') s.output ≡ take (values_written bs) t.output
  pub left : s.allowance ≡ t.allowance

-- only the picked positions matter: neither the form of a selection nor a push that is not well formed
abbrev pub Agreement : {T : Type 0} → ℕ → State T → State T → List Push → List Push → Type 0
Agreement L s t ps qs =
    L + 1 ≤ 1024 → Fresh s → Fresh t → Alike s t → AllZip SamePick (formed_ones s ps) (formed_ones t qs)
    → Agree (after L s ps) (after L t qs) ps qs (answers L s ps) (answers L t qs)
