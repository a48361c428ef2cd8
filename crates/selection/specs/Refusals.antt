-- Refusals by number and place, and the first of several.
use Rattle.std.specs.Fmt.{decimal}
use Rattle.std.specs.Prelude.{ℕ, Bool, true, false, List, [], ◌∷◌, ◌++◌, codes, Some, None, Ok, Err, Option, Result}
use Rattle.selection.specs.declared.refusals.Refusal.{Refusal}
use Rattle.selection.specs.declared.refusals.Refusal.TheVariants.{Long, Short, Order, Past, Offset, Scratch, Output, Mismatch, Rank, Shape, Beyond, Index, Spent}

-- the number of a refusal
abbrev pub number_of : Refusal → ℕ
number_of Long = 1
number_of Short = 2
number_of (Order k) = 3
number_of (Past k) = 4
number_of Offset = 5
number_of Scratch = 6
number_of Output = 7
number_of Mismatch = 8
number_of (Rank k) = 9
number_of Shape = 10
number_of (Beyond k) = 11
number_of (Index k) = 12
number_of (Spent k) = 13

-- its place
abbrev pub place_of : Refusal → ℕ
place_of Long = 0
place_of Short = 0
place_of (Order k) = k
place_of (Past k) = k
place_of Offset = 0
place_of Scratch = 0
place_of Output = 0
place_of Mismatch = 0
place_of (Rank k) = k
place_of Shape = 0
place_of (Beyond k) = k
place_of (Index k) = k
place_of (Spent k) = k

-- what is printed of it
abbrev pub text_of : Refusal → List ℕ
text_of r = codes "number " ++ decimal (number_of r) ++ codes ", place " ++ decimal (place_of r)

-- x where the test holds
abbrev pub when : {X : Type 0} → Bool → X → Option X
when true x = Some x
when false x = None

abbrev pub or_else : {X : Type 0} → Option X → Option X → Option X
or_else None o = o
or_else (Some x) o = Some x

-- the first of a list of objections that stands
abbrev pub first_of : {X : Type 0} → List (Option X) → Option X
first_of [] = None
first_of (o ∷ os) = or_else o (first_of os)

-- the first objection that f raises along a list
abbrev pub first : {X Y : Type 0} → (X → Option Y) → List X → Option Y
first f [] = None
first f (x ∷ xs) = or_else (f x) (first f xs)

-- a call that is refused if something stands against it, and else answers x
abbrev pub answered : {X : Type 0} → Option Refusal → X → Result X Refusal
answered None x = Ok x
answered (Some e) x = Err e

-- what a call leaves: all as it was if it is refused
abbrev pub settled : {S : Type 0} → Option Refusal → S → S → S
settled None before after = after
settled (Some e) before after = before
