-- What a push answers.
use Rattle.std.specs.Prelude.{ℕ, ◌+◌, ◌/◌, List, [], ◌∷◌, map, length, Option, Result, nat_le, nat_lt}
use Rattle.selection.specs.declared.refusals.Refusal.{Refusal}
use Rattle.selection.specs.declared.refusals.Refusal.TheVariants.{Offset, Scratch, Output, Beyond, Spent}
use Rattle.selection.specs.Refusals.{when, first, first_of, answered}
use Rattle.selection.specs.Selected.{positions, selection_fault}
use Rattle.settle.specs.declared.settle.Push.{Push}
use Rattle.settle.specs.declared.settle.Receipt.{Receipt}
use Rattle.settle.specs.declared.settle.Terms.{Terms}
use Rattle.settle.specs.Prices.{fee_of}

abbrev pub Answer : Type 0
Answer = Result Receipt Refusal

abbrev pub moved : ℕ → ℕ → ℕ
moved offset i = offset + i

-- the places of the source that a push takes
unfoldable pub places : Push → List ℕ
places p = map (moved p.offset) (positions p.selection)

-- an offset that is too large, or a scratch that is too small
abbrev pub room_fault : ℕ → ℕ → Option Refusal
room_fault scratch offset = first_of (when (nat_lt 1024 offset) Offset ∷ when (nat_lt scratch 1024) Scratch ∷ [])

-- what keeps a push from being well formed, at a scratch of some length
unfoldable pub misformed : ℕ → Push → Option Refusal
misformed scratch p = first_of (selection_fault p.selection ∷ room_fault scratch p.offset ∷ [])

-- a place past a source of some chunks
abbrev pub past_source : ℕ → ℕ → Option Refusal
past_source chunks p = when (nat_le chunks (p / 1024)) (Beyond (p / 1024))

-- too few free places, or too small an allowance, for so many values at a fee
abbrev pub grant_fault : Terms → ℕ → ℕ → Option Refusal
grant_fault t count cost = first_of (when (nat_lt t.free count) Output ∷ when (nat_lt t.left cost) (Spent cost) ∷ [])

abbrev pub fee : Terms → List ℕ → ℕ
fee t ps = fee_of t.limit t.chunks ps

-- what stands against some places
unfoldable pub declined : Terms → List ℕ → Option Refusal
declined t ps = first_of (first (past_source t.chunks) ps ∷ grant_fault t (length ps) (fee t ps) ∷ [])

-- the first condition against a push that holds, in their order
abbrev pub refusal : Terms → Push → Option Refusal
refusal t p = first_of (misformed t.scratch p ∷ declined t (places p) ∷ [])

abbrev pub receipt : Terms → List ℕ → Receipt
receipt t ps = record { count = length ps; fee = fee t ps }

-- what a push answers
unfoldable pub answer : Terms → Push → Answer
answer t p = answered (refusal t p) (receipt t (places p))

-- the answer to the positions of a selection at an offset, where this is its fault
unfoldable pub answer_to : Terms → ℕ → Option Refusal → List ℕ → Answer
answer_to t offset fault is = answered (first_of (first_of (fault ∷ room_fault t.scratch offset ∷ []) ∷ declined t (map (moved offset) is) ∷ [])) (receipt t (map (moved offset) is))
