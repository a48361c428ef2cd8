-- What a source holds, and what a fetch does.
use Rattle.std.specs.Prelude.{◌≡◌, ℕ, ◌+◌, ◌-◌, ◌*◌, ◌/◌, ◌%◌, ◌^◌, ◌≤◌, not, ◌||◌, List, [], ◌∷◌, map, length, Option, ◌==◌, nat_le, nat_lt, slice_index, min, take}
use Rattle.std.specs.List.{range_with_len}
use Rattle.selection.specs.declared.refusals.Refusal.{Refusal}
use Rattle.selection.specs.declared.refusals.Refusal.TheVariants.{Output, Shape, Beyond, Index, Spent}
use Rattle.selection.specs.Refusals.{when, first, first_of, settled}
use Rattle.kernels.specs.Moved.{gather, splice}

abbrev pub chunks_of : {T : Type 0} → List T → ℕ
chunks_of xs = length xs / 1024

-- readings in whole chunks, and not too many
abbrev pub Whole : {T : Type 0} → List T → Type 0
Whole xs = (length xs ≡ 1024 * chunks_of xs) × (chunks_of xs ≤ 16384)

-- what a source and the output of a fetch hold
pub record Held (T : Type 0) : Type 0 where
  pub readings : List T
  pub allowance : ℕ
  pub output : List T

abbrev pub holding : {T : Type 0} → List T → ℕ → List T → Held T
holding xs left out = record { readings = xs; allowance = left; output = out }

-- all places of a chunk, in order
unfoldable pub whole_chunk : List ℕ
whole_chunk = range_with_len 0 1024

-- the place of index i of a chunk among all readings
abbrev pub place_in : ℕ → ℕ → ℕ
place_in c i = 1024 * c + i

-- an index that no chunk has
abbrev pub index_fault : List ℕ → ℕ → Option Refusal
index_fault is k = when (nat_le 1024 (slice_index is k)) (Index k)

-- what stands against a fetch of some indices of chunk c, from so many chunks, with so much left, into so many places
abbrev pub objections : ℕ → ℕ → ℕ → ℕ → List ℕ → List (Option Refusal)
objections chunks left room c is =
    when (nat_le chunks c) (Beyond c)
    ∷ first (index_fault is) (range_with_len 0 (length is))
    ∷ when (nat_lt room (length is)) Output
    ∷ when (nat_lt left (length is)) (Spent (length is))
    ∷ []

unfoldable pub fetch_fault : {T : Type 0} → Held T → ℕ → List ℕ → Option Refusal
fetch_fault h c is = first_of (objections (chunks_of h.readings) h.allowance (length h.output) c is)

-- what an accepted fetch leaves: a reading costs one
abbrev pub delivered : {T : Type 0} → Held T → ℕ → List ℕ → Held T
delivered h c is = record {
  readings = h.readings;
  allowance = h.allowance - length is;
  output = splice h.output 0 (gather h.readings (map (place_in c) is));
}

-- what a fetch leaves
unfoldable pub fetched : {T : Type 0} → Held T → ℕ → List ℕ → Held T
fetched h c is = settled (fetch_fault h c is) h (delivered h c is)

-- the readings of a slice: its whole chunks, and not too many of them
abbrev pub whole_chunks : {T : Type 0} → List T → ℕ
whole_chunks xs = min (chunks_of xs) 16384

unfoldable pub whole_part : {T : Type 0} → List T → List T
whole_part xs = take (1024 * whole_chunks xs) xs

-- why a slice is no table: it would have other readings
abbrev pub table_fault : {T : Type 0} → List T → Option Refusal
table_fault xs = when (not (length xs % 1024 == 0) || nat_lt 16384 (chunks_of xs)) Shape

-- reading i of a ramp
abbrev pub ramp_at : ℕ → ℕ → ℕ → ℕ
ramp_at start step i = (start + step * i) % 2 ^ 64

-- the reading at index i of chunk c
abbrev pub ramp_place : ℕ → ℕ → ℕ → ℕ → ℕ
ramp_place start step c i = ramp_at start step (place_in c i)

-- the first n readings of a ramp
unfoldable pub ramped : ℕ → ℕ → ℕ → List ℕ
ramped start step n = map (ramp_at start step) (range_with_len 0 n)

-- why there is no ramp of so many chunks
abbrev pub ramp_fault : ℕ → Option Refusal
ramp_fault chunks = when (nat_lt 16384 chunks) Shape
