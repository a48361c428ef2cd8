-- The readings of a packed source.
use Rattle.std.specs.Prelude.{◌≡◌, ℕ, ◌*◌, ◌≤◌, min, not, ◌||◌, List, map, length, Option, ◌==◌, nat_lt}
use Rattle.std.proofs.Common.{arith}
use Rattle.std.specs.List.{range_with_len}
use Rattle.selection.specs.declared.refusals.Refusal.{Refusal}
use Rattle.selection.specs.declared.refusals.Refusal.TheVariants.{Shape}
use Rattle.selection.specs.Refusals.{when}
use Rattle.selection.specs.Selected.{bits_from}
use Rattle.source.specs.Fetched.{Whole, chunks_of}
use Rattle.source.specs.Parts.{made_length, made_whole}

-- reading i, where each has w bits
abbrev pub reading_at : List ℕ → ℕ → ℕ → ℕ
reading_at bs w i = bits_from bs (i * w) w

-- the readings of n chunks
abbrev pub unpacked : List ℕ → ℕ → ℕ → List ℕ
unpacked bs w n = map (reading_at bs w) (range_with_len 0 (1024 * n))

-- the readings of a packed source: no wider than 32 bits, and not too many
unfoldable pub packed_readings : List ℕ → ℕ → ℕ → List ℕ
packed_readings bs w n = unpacked bs (min w 32) (min n 16384)

-- why bytes are no packed source
abbrev pub packed_fault : List ℕ → ℕ → ℕ → Option Refusal
packed_fault bs w n = when (w == 0 || (nat_lt 32 w || (nat_lt 16384 n || not (length bs == 128 * w * n)))) Shape

pub unpacked_whole : (bs : List ℕ) (w n : ℕ) → n ≤ 16384 → Whole (unpacked bs w n)
unpacked_whole bs w n few = made_whole (reading_at bs w) n few

pub packed_length : (bs : List ℕ) (w n : ℕ) → length (packed_readings bs w n) ≡ 1024 * min n 16384
unfolding packed_readings
packed_length bs w n = made_length (reading_at bs (min w 32)) (min n 16384)

pub packed_chunks : (bs : List ℕ) (w n : ℕ) → chunks_of (packed_readings bs w n) ≡ min n 16384
packed_chunks bs w n = let size = packed_length bs w n in omega arith

pub packed_whole : (bs : List ℕ) (w n : ℕ) → Whole (packed_readings bs w n)
unfolding packed_readings
packed_whole bs w n = unpacked_whole bs (min w 32) (min n 16384) (omega arith)
