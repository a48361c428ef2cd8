-- The positions between the bounds of chunks.
use Rattle.std.specs.Prelude.{ℕ, ◌-◌, ◌*◌, min, Bool, List, filter}
use Rattle.std.specs.List.{range_with_len}

-- the first position of a selection of length n that lies in chunk c or past it
abbrev pub boundary : ℕ → ℕ → ℕ → ℕ
boundary offset n c = min (c * 1024 - offset) n

-- the positions from a up to b that a test keeps
abbrev pub kept_between_places : (ℕ → Bool) → ℕ → ℕ → List ℕ
kept_between_places q a b = filter q (range_with_len a (b - a))
