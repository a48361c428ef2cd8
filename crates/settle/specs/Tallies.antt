-- What a tally says of the places so far.
use Rattle.std.specs.Prelude.{◌≡◌, ℕ, ◌/◌, ◌≤◌, List, length, Some, None, Option}
use Rattle.std.specs.List.{AllByRecursion}
use Rattle.selection.specs.declared.refusals.Refusal.{Refusal}
use Rattle.selection.specs.declared.refusals.Refusal.TheVariants.{Beyond}
use Rattle.selection.specs.Refusals.{first}
use Rattle.settle.specs.declared.settle.Tally.{Tally}
use Rattle.settle.specs.declared.settle.Terms.{Terms}
use Rattle.settle.specs.Prices.{chunk_places, fee_of}
use Rattle.settle.specs.Pushes.{past_source}

-- the refusal for the first chunk past the source
abbrev pub beyond_fault : Option ℕ → Option Refusal
beyond_fault None = None
beyond_fault (Some c) = Some (Beyond c)

-- no place lies past the current chunk; the chunks before it cost the fee, and the first place past the source is known
pub record Tallied (t : Terms) (y : Tally) (ps : List ℕ) : Type 0 where
  pub fee : y.fee ≡ fee_of t.limit y.chunk ps
  pub count : y.count ≡ length (chunk_places ps y.chunk)
  pub within : AllByRecursion (λ p. p / 1024 ≤ y.chunk) ps
  pub beyond : first (past_source t.chunks) ps ≡ beyond_fault y.beyond
