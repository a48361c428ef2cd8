-- What is put into targets.
use Rattle.std.specs.Prelude.{◌≡◌, ℕ, ◌+◌, ◌-◌, ◌^◌, ◌<◌, ◌≤◌, List, length, map}
use Rattle.selection.specs.Selected.{Rising}
use Rattle.kernels.specs.declared.targets.Copying.{Copying}
use Rattle.kernels.specs.declared.targets.Moving.{Moving}
use Rattle.kernels.specs.declared.targets.Listing.{Listing}
use Rattle.kernels.specs.Moved.{gather, shifted, splice}
use Rattle.kernels.specs.Masks.{Inside}

-- the elements at some places can be copied
pub record CanCopy {T : Type 0} (s : Copying T) (ps : List ℕ) : Type 0 where
  pub short : length s.src.now < 2 ^ 64
  pub inside : Inside (length s.src.now) ps
  pub room : s.at + length ps ≤ length s.places.now

-- and are copied
pub record Copied {T : Type 0} (s : Copying T) (ps : List ℕ) (t : Copying T) : Type 0 where
  pub src : t.src.now ≡ s.src.now
  pub same : t.places.ghost_name ≡ s.places.ghost_name
  pub at : t.at ≡ s.at + length ps
  pub places : t.places.now ≡ splice s.places.now s.at (gather s.src.now ps)

-- the elements at some places can be moved down
pub record CanMove {T : Type 0} (s : Moving T) (ps : List ℕ) : Type 0 where
  pub short : length s.values.now < 2 ^ 64
  pub low : s.at ≤ length s.values.now
  pub rises : Rising s.at (length s.values.now) ps

-- and are moved
pub record Moves {T : Type 0} (s : Moving T) (ps : List ℕ) (t : Moving T) : Type 0 where
  pub same : t.values.ghost_name ≡ s.values.ghost_name
  pub at : t.at ≡ s.at + length ps
  pub values : t.values.now ≡ splice s.values.now s.at (gather s.values.now ps)

-- some places can be listed
pub record CanList (s : Listing) (ps : List ℕ) : Type 0 where
  pub inside : Inside (2 ^ 64 - 1 - s.base) ps
  pub room : s.at + length ps ≤ length s.places.now

-- and are listed
pub record Lists (s : Listing) (ps : List ℕ) (t : Listing) : Type 0 where
  pub base : t.base ≡ s.base
  pub same : t.places.ghost_name ≡ s.places.ghost_name
  pub at : t.at ≡ s.at + length ps
  pub places : t.places.now ≡ splice s.places.now s.at (map (shifted s.base 0) ps)
