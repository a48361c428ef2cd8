-- Readings that are made by their places.
use Rattle.std.specs.Prelude.{◌≡◌, ℕ, ◌*◌, ◌≤◌, List, length, map}
use Rattle.std.specs.List.{range_with_len}
use Rattle.std.proofs.Common.{◌∙◌, arith}
use Rattle.std.proofs.lemmas.List.{length-take}
use Rattle.std.proofs.lemmas.List.FromFn.{length-map-range_with_len}
use Rattle.source.specs.Fetched.{Whole, chunks_of, ramp_at, ramped, whole_chunks, whole_part}

-- of any list, its whole chunks
pub part_length : {T : Type 0} (xs : List T) → length (whole_part xs) ≡ 1024 * whole_chunks xs
unfolding whole_part
part_length xs = length-take (1024 * whole_chunks xs) xs ∙ omega arith

pub part_chunks : {T : Type 0} (xs : List T) → chunks_of (whole_part xs) ≡ whole_chunks xs
part_chunks xs = let n = part_length xs in omega arith

pub part_whole : {T : Type 0} (xs : List T) → Whole (whole_part xs)
part_whole xs = let n = part_length xs in let c = part_chunks xs in (omega arith, omega arith)

-- and of any function, what it makes of the places below a number
pub made_length : {T : Type 0} (f : ℕ → T) (n : ℕ) → length (map f (range_with_len 0 (1024 * n))) ≡ 1024 * n
made_length f n = length-map-range_with_len f 0 (1024 * n)

pub made_whole : {T : Type 0} (f : ℕ → T) (n : ℕ) → n ≤ 16384 → Whole (map f (range_with_len 0 (1024 * n)))
made_whole f n few = let size = made_length f n in (omega arith, omega arith)

pub ramp_length : (start step n : ℕ) → length (ramped start step n) ≡ n
unfolding ramped
ramp_length start step n = length-map-range_with_len (ramp_at start step) 0 n

pub ramp_whole : (start step chunks : ℕ) → chunks ≤ 16384 → Whole (ramped start step (1024 * chunks))
unfolding ramped
ramp_whole start step chunks few = made_whole (ramp_at start step) chunks few
