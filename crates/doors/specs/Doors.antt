-- What a door log says.
use Rattle.std.specs.Fmt.{decimal}
use Rattle.std.specs.Prelude.{◌++◌, codes, ◌≡◌, ℕ, ◌<◌, cond, ◌&&◌, List, [], ◌∷◌, Some, None, Bool, count_by, length, slice_index_or, Option, Result, MatchResult, ◌==◌, nat_le, nat_lt}
use Rattle.kernels.specs.declared.elements.Event.{Event}
use Rattle.doors.specs.declared.door.Door.{Door}
use Rattle.doors.specs.declared.door.Door.TheVariants.{Silent, Signal}
use Rattle.doors.specs.declared.door.UnknownCode.{UnknownCode}
use Rattle.doors.specs.declared.summary.Summary.{Summary}

-- the code for what a door says
abbrev pub code_of : Door → ℕ
code_of Silent = 0
code_of Signal = 1

-- the result is what has this code, or the code that nothing has
abbrev pub Decodes : ℕ → Result Door UnknownCode → Type 0
Decodes code r = MatchResult r (λ door. code_of door ≡ code) (λ e. (e.0 ≡ code) × (1 < code))

-- the cable is out from second 1500 on, and in place again from second 1540 on
abbrev pub door_of : ℕ → Door
door_of second = cond (nat_le 1500 second && nat_lt second 1540) Silent Signal

-- the reading of a second
abbrev pub logged : ℕ → Event
logged second = record { time = second; lift = 7; code = code_of (door_of second) }

abbrev pub is_silent : Event → Bool
is_silent event = event.code == code_of Silent

-- how many of some readings are silent
abbrev pub silent_among : List Event → ℕ
silent_among es = count_by is_silent es

-- the first and the last second of some readings, and how many are silent
abbrev pub summed : List Event → Option Summary
summed [] = None
summed (e ∷ es) = Some (record { from = e.time; to = (slice_index_or (e ∷ es) (length es) e).time; silent = silent_among (e ∷ es) })

-- what is printed of them
abbrev pub door_text : Door → List ℕ
door_text Silent = codes "no signal"
door_text Signal = codes "signal"

abbrev pub summary_text : Summary → List ℕ
summary_text s = codes "second " ++ decimal s.from ++ codes " to second " ++ decimal s.to ++ codes ", " ++ decimal s.silent ++ codes " without a signal"
