-- Several pushes, one after another.
use Rattle.std.specs.Prelude.{◌≡◌, ℕ, ◌+◌, Bool, cond, not, List, [], ◌∷◌, ◌++◌, is_some, Ok, Err, fold, Option, nat_lt}
use Rattle.settle.specs.declared.settle.Push.{Push}
use Rattle.settle.specs.declared.settle.Receipt.{Receipt}
use Rattle.selection.specs.declared.refusals.Refusal.{Refusal}
use Rattle.selection.specs.declared.refusals.Refusal.TheVariants.{Output}
use Rattle.selection.specs.Refusals.{when}
use Rattle.runs.specs.declared.runs.Ended.{Ended}
use Rattle.runs.specs.declared.runs.Batch.{Batch}
use Rattle.settle.specs.Pushes.{Answer, answer, misformed}
use Rattle.chunked.specs.Served.{State, next, terms_of}

-- the state that some pushes leave
abbrev pub after : {T : Type 0} → ℕ → State T → List Push → State T
after L s ps = fold (next L) s ps

-- what each of them answers
abbrev pub answers : {T : Type 0} → ℕ → State T → List Push → List Answer
answers L s [] = []
answers L s (p ∷ ps) = answer (terms_of L s) p ∷ answers L (next L s p) ps

-- the sum of f over the accepted pushes
abbrev pub tally : (Receipt → ℕ) → List Answer → ℕ
tally f [] = 0
tally f (Ok r ∷ as') = f r + tally f as'
tally f (Err e ∷ as') = tally f as'

-- how many values the accepted pushes wrote
abbrev pub values_written : List Answer → ℕ
values_written as' = tally (λ r. r.count) as'

-- what they cost
abbrev pub fees_paid : List Answer → ℕ
fees_paid as' = tally (λ r. r.fee) as'

-- whether a push is well formed, at a scratch of some length
abbrev pub well_formed : ℕ → Push → Bool
well_formed scratch p = not (is_some (misformed scratch p))

-- of the answers to some pushes, those to the well formed ones
abbrev pub heard : ℕ → List Push → List Answer → List Answer
heard scratch [] as' = []
heard scratch (p ∷ ps) [] = []
heard scratch (p ∷ ps) (a ∷ as') = cond (well_formed scratch p) (a ∷ []) [] ++ heard scratch ps as'

-- the state of a filter as it is made
abbrev pub new_state : {T : Type 0} → List T → ℕ → List T → List T → State T
new_state xs left out aside = record { readings = xs; allowance = left; written = 0; fees = 0; output = out; scratch = aside }

-- the state that a run ended in
abbrev pub ended_in : {D T : Type 0} → (D → List T) → (D → ℕ) → Ended D → List T → List T → State T
ended_in readings allowance e out aside = record { readings = readings e.source; allowance = allowance e.source; written = e.written; fees = e.fees; output = out; scratch = aside }

-- where a batch begins, over such readings with so much left
abbrev pub start_of : {T : Type 0} → List T → ℕ → Batch T → State T
start_of xs left b = new_state xs left b.output.now b.scratch.now

-- and where it ends
abbrev pub end_of : {D T : Type 0} → (D → List T) → (D → ℕ) → Ended D → Batch T → State T
end_of readings allowance e b = ended_in readings allowance e b.output.now b.scratch.now

-- a batch has the same pushes as before, and the same places to write to
pub record SamePlaces {T : Type 0} (b b' : Batch T) : Type 0 where
  pub pushes : b'.pushes ≡ b.pushes
  pub output : b'.output.ghost_name ≡ b.output.ghost_name
  pub scratch : b'.scratch.ghost_name ≡ b.scratch.ghost_name
  pub notes : b'.notes.ghost_name ≡ b.notes.ghost_name

-- too few places to note the answers to so many pushes
abbrev pub notes_fault : ℕ → ℕ → Option Refusal
notes_fault notes pushes = when (nat_lt notes pushes) Output
