-- What stands where, and what a write leaves.
use Rattle.std.specs.Prelude.{ℕ, ◌+◌, ◌-◌, ◌^◌, ◌<◌, ◌≤◌, cond, List, ◌++◌, length, take, drop, ◌==◌}
use Rattle.std.specs.List.{flat_map}

-- the most positions of a chunk that are fetched one by one, at a width in bytes
abbrev pub limit_at_width : ℕ → ℕ
limit_at_width w = cond (w == 1) 16 (cond (w == 2) 32 (cond (w == 4) 64 160))

-- what stands at a place: one value, or none past the end
abbrev pub value_at : {T : Type 0} → List T → ℕ → List T
value_at xs p = take 1 (drop p xs)

-- the values at some places, in their order
abbrev pub gather : {T : Type 0} → List T → List ℕ → List T
gather xs ps = flat_map (value_at xs) ps

-- a number moved up and then down
abbrev pub shifted : ℕ → ℕ → ℕ → ℕ
shifted up down i = i + up - down

-- a number that can be so moved in 64 bits, and then lies below n
pub record Within (up down n i : ℕ) : Type 0 where
  pub fits : i + up < 2 ^ 64
  pub above : down ≤ i + up
  pub below : i + up - down < n

-- xs with vs written from a place on
abbrev pub splice : {T : Type 0} → List T → ℕ → List T → List T
splice xs at vs = take at xs ++ (vs ++ drop (at + length vs) xs)
