-- Bits that are written out as bytes, 64 at a time.
use Rattle.std.specs.Prelude.{◌≡◌, ℕ, ◌+◌, ◌*◌, ◌/◌, ◌^◌, ◌<◌, ◌≤◌, Bool, List, ◌++◌, length}
use Rattle.kernels.specs.Moved.{splice}
use Rattle.slices.specs.declared.accumulator.Accumulator.{Accumulator}
use Rattle.slices.specs.Bits.{bit_bytes, low_bytes, packed}

-- an accumulator's bytes were written over those before, and with what it has not written yet they hold these bits
pub record Holds (bs : List Bool) (before : List ℕ) (acc : Accumulator) : Type 0 where
  pub fill : acc.fill < 64
  pub count : 8 * acc.at + acc.fill ≡ length bs
  pub inside : acc.at ≤ length before
  pub written : acc.out.now ≡ splice before 0 (low_bytes acc.at (packed bs))
  pub low : acc.low ≡ packed bs / 2 ^ (8 * acc.at)

-- a step adds bits to those that are held, in the same bytes
pub record Adds (xs : List Bool) (acc acc' : Accumulator) : Type 0 where
  pub same : acc'.out.ghost_name ≡ acc.out.ghost_name
  pub fill : acc'.fill < 64
  pub count : 8 * acc'.at + acc'.fill ≡ 8 * acc.at + acc.fill + length xs
  pub long : length acc'.out.now ≡ length acc.out.now
  pub holds : (bs : List Bool) (before : List ℕ) → Holds bs before acc → Holds (bs ++ xs) before acc'

-- there is room for so many bits more
pub record Room (acc : Accumulator) (n : ℕ) : Type 0 where
  pub fill : acc.fill < 64
  pub enough : 8 * acc.at + acc.fill + n ≤ 8 * length acc.out.now

-- and the last step writes all that are held
abbrev pub Ends : Accumulator → List ℕ → Type 0
Ends acc out' = (bs : List Bool) (before : List ℕ) → Holds bs before acc → out' ≡ splice before 0 (bit_bytes bs)
