-- Which positions a selection picks, and what is wrong with one.
use Rattle.std.specs.Prelude.{ℕ, zero, suc, ◌+◌, ◌-◌, ◌*◌, ◌/◌, ◌%◌, ◌^◌, ◌<◌, ◌≤◌, min, Bool, false, cond, ◌&&◌, ◌||◌, List, [], ◌∷◌, length, filter, Option, ◌==◌, nat_le, nat_lt, slice_index, slice_index_or}
use Rattle.std.specs.List.{range_with_len}
use Rattle.selection.specs.declared.windows.Window.{Window}
use Rattle.selection.specs.declared.selections.Run.{Run}
use Rattle.selection.specs.declared.selections.Selection.{Selection}
use Rattle.selection.specs.declared.selections.Selection.TheVariants.{Bitmap, Indices, Runs}
use Rattle.selection.specs.declared.refusals.Refusal.{Refusal}
use Rattle.selection.specs.declared.refusals.Refusal.TheVariants.{Long, Short, Order, Past}
use Rattle.selection.specs.Refusals.{when, first, first_of}

-- strictly ascending, from lo on and below hi
abbrev pub Rising : ℕ → ℕ → List ℕ → Type 0
Rising lo hi [] = Unit {0}
Rising lo hi (x ∷ xs) = (lo ≤ x) × (x < hi) × Rising (suc x) hi xs

-- bit j of a number, the lowest first
abbrev pub bit_of : ℕ → ℕ → Bool
bit_of n j = n / 2 ^ j % 2 == 1

-- bit k of bytes, the lowest of each first
abbrev pub bit : List ℕ → ℕ → Bool
bit bytes k = bit_of (slice_index bytes (k / 8)) (k % 8)

-- the number below 2 ^ n with such bits
abbrev pub number_of_bits : (ℕ → Bool) → ℕ → ℕ
number_of_bits f zero = 0
number_of_bits f (suc n) = number_of_bits f n + cond (f n) (2 ^ n) 0

-- bit j of bytes, counted from bit s
abbrev pub bit_past : List ℕ → ℕ → ℕ → Bool
bit_past bytes s j = bit bytes (s + j)

-- the number that n bits make, from bit s on
unfoldable pub bits_from : List ℕ → ℕ → ℕ → ℕ
bits_from bytes s n = number_of_bits (bit_past bytes s) n

abbrev pub among : ℕ → List ℕ → Bool
among k [] = false
among k (x ∷ xs) = x == k || among k xs

abbrev pub in_run : ℕ → Run → Bool
in_run k r = nat_le r.start k && nat_lt k r.«end»

abbrev pub covered : ℕ → List Run → Bool
covered k [] = false
covered k (r ∷ rs) = in_run k r || covered k rs

-- bit k of a window
abbrev pub window_bit : Window → ℕ → Bool
window_bit w k = bit w.bytes.now (w.start + k)

-- runs one after another, from lo on and up to hi
abbrev pub RunsRise : ℕ → ℕ → List Run → Type 0
RunsRise lo hi [] = Unit {0}
RunsRise lo hi (r ∷ rs) = (lo ≤ r.start) × (r.start < r.«end») × (r.«end» ≤ hi) × RunsRise r.«end» hi rs

-- the positions of a run
abbrev pub range : Run → List ℕ
range r = range_with_len r.start (r.«end» - r.start)

-- the positions that a window selects, ascending
abbrev pub window_positions : Window → List ℕ
window_positions w = filter (window_bit w) (range_with_len 0 w.len)

-- bit j of a window, counted from a position
abbrev pub window_from : Window → ℕ → ℕ → Bool
window_from w from j = window_bit w (from + j)

-- the number that n bits of a window make from a position on, at most 64 and none past the window
unfoldable pub window_bits : Window → ℕ → ℕ → ℕ
window_bits w from n = number_of_bits (window_from w from) (min (min n 64) (w.len - from))

-- how many bits are set from one position up to and without another
unfoldable pub set_between : Window → ℕ → ℕ → ℕ
set_between w from to = length (filter (window_bit w) (range_with_len (min from w.len) (min to w.len - min from w.len)))

-- bit j of word k of a window, and none past the window
abbrev pub word_bit : Window → ℕ → ℕ → Bool
word_bit w k j = window_bit w (64 * k + j) && nat_lt (64 * k + j) w.len

-- word k of a window: the 64 bits from bit 64 k on
unfoldable pub word_of : Window → ℕ → ℕ
word_of w k = number_of_bits (word_bit w k) 64

-- whether a position is selected
abbrev pub picks : Selection → ℕ → Bool
picks (Bitmap w) k = window_bit w k
picks (Indices xs n) k = among k xs.now
picks (Runs rs n) k = covered k rs.now

-- the length of a selection
abbrev pub extent : Selection → ℕ
extent (Bitmap w) = w.len
extent (Indices xs n) = n
extent (Runs rs n) = n

-- the selected positions, ascending
unfoldable pub positions : Selection → List ℕ
positions s = filter (picks s) (range_with_len 0 (extent s))

-- the item at a place does not ascend, or reaches past the length n
abbrev pub index_fault : ℕ → List ℕ → ℕ → Option Refusal
index_fault n xs k =
    first_of (
    when (nat_lt 0 k && nat_le (slice_index xs k) (slice_index xs (k - 1))) (Order k)
    ∷ when (nat_le n (slice_index xs k)) (Past k)
    ∷ []
    )

abbrev pub no_run : Run
no_run = record { start = 0; «end» = 0 }

abbrev pub run_fault : ℕ → List Run → ℕ → Option Refusal
run_fault n rs k =
    let r = slice_index_or rs k no_run in
    first_of (
    when ((nat_lt 0 k && nat_lt r.start (slice_index_or rs (k - 1) no_run).«end») || nat_le r.«end» r.start) (Order k)
    ∷ when (nat_lt n r.«end») (Past k)
    ∷ []
    )

-- the first faulty item of a list
abbrev pub indices_fault : ℕ → List ℕ → Option Refusal
indices_fault n xs = first (index_fault n xs) (range_with_len 0 (length xs))

abbrev pub runs_fault : ℕ → List Run → Option Refusal
runs_fault n rs = first (run_fault n rs) (range_with_len 0 (length rs))

abbrev pub long : ℕ → Option Refusal
long n = when (nat_lt 16777216 n) Long

abbrev pub short : Window → Option Refusal
short w = when (nat_lt (8 * length w.bytes.now) (w.start + w.len)) Short

-- why a window is refused
abbrev pub window_fault : Window → Option Refusal
window_fault w = first_of (long w.len ∷ short w ∷ [])

-- why a selection is refused
unfoldable pub selection_fault : Selection → Option Refusal
selection_fault (Bitmap w) = window_fault w
selection_fault (Indices xs n) = first_of (long n ∷ indices_fault n xs.now ∷ [])
selection_fault (Runs rs n) = first_of (long n ∷ runs_fault n rs.now ∷ [])

-- the number of selected positions
abbrev pub count_of : Selection → ℕ
count_of s = length (positions s)
