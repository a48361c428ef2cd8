-- What a fetch asks and leaves.
use Rattle.std.proofs.Common.{◌≡◌, ℕ, zero, suc, ◌+◌, ◌-◌, ◌*◌, ◌%◌, ◌<◌, ◌≤◌, List, [], ◌∷◌, ◌++◌, map, length, get_or, take, drop, set, cond, Bool, true, false, Option, option_map, nat_le, slice_get, position, Some, None, Ok, Err, sym, refl, ap, subst, ◌∙◌, ap₂, add_assoc, arith}
use Rattle.std.specs.List.{position_from, range_with_len, AllByRecursion}
use Rattle.std.proofs.lemmas.List.{append-nil, map_more, take_all, take_more_set}
use Rattle.std.proofs.lemmas.Iterator.Adapters.{position_from-zero}
use Rattle.std.proofs.lemmas.Option.{get_or_from_slice_get, slice_get-get_or, slice_get_within}
use Rattle.std.proofs.lemmas.List.FromFn.{get_or-map-range_with_len, get_or-range_with_len, length-map-range_with_len, length-range_with_len}
use Rattle.std.proofs.ByRecursion.{All-map, All-weaker, All-get_or, All-from_get_or}
use Rattle.std.proofs.lemmas.Bool.{leb-false, ltb-false, lt-leb, le-ltb}
use Rattle.std.proofs.lemmas.Bool.Decides.{nat_tests}
use Rattle.selection.specs.declared.refusals.Refusal.{Refusal}
use Rattle.selection.specs.declared.refusals.Refusal.TheVariants.{Index}
use Rattle.selection.specs.Refusals.{first, first_of, or_else, when, answered, settled}
use Rattle.selection.proofs.Objections.{none_first, none_when, none_each, none_of, when_none, first_none, answered_err, answered_ok}
use Rattle.selection.proofs.Rising.{rising_all, rising_counting}
use Rattle.selection.proofs.Filtered.{map_map}
use Rattle.selection.proofs.Listed.{at_count}
use Rattle.kernels.specs.Moved.{gather, splice, value_at}
use Rattle.kernels.proofs.Gathered.{gather_append, gather_counting, gather_made, value_at_is, value_at_take}
use Rattle.source.specs.Fetched.{Held, chunks_of, delivered, fetch_fault, fetched, holding, index_fault, objections, place_in, ramp_at, ramp_place, ramped, whole_chunk, whole_chunks, whole_part}
use Rattle.source.specs.Parts.{ramp_length}

pub index_fine : (is : List ℕ) (k : ℕ) → get_or is k 0 < 1024 → index_fault is k ≡ None
index_fine is k h = grind (arith, nat_tests)

-- indices below 1,024 are not refused
pub indices_inside : (is : List ℕ) → AllByRecursion (λ i. i < 1024) is → first (index_fault is) (range_with_len 0 (length is)) ≡ None
indices_inside is h =
    none_first (index_fault is) (range_with_len 0 (length is))
    (All-weaker (λ k. (0 ≤ k) × (k < length is)) (λ k. index_fault is k ≡ None) (λ k l. index_fine is k (All-get_or (λ i. i < 1024) is k 0 l.1 h)) (range_with_len 0 (length is)) (rising_all 0 (length is) (range_with_len 0 (length is)) (rising_counting 0 (length is) (length is) (omega arith))))

pub inside_indices : (is : List ℕ) → first (index_fault is) (range_with_len 0 (length is)) ≡ None → AllByRecursion (λ i. i < 1024) is
inside_indices is e =
    All-from_get_or (λ i. i < 1024) is 0 (λ k l. leb-false 1024 (get_or is k 0) (when_none _ _ (at_count (λ k. index_fault is k ≡ None) (length is) k (first_none (index_fault is) (range_with_len 0 (length is)) e) l)))

pub whole_length : length whole_chunk ≡ 1024
unfolding whole_chunk
whole_length = length-range_with_len 0 1024

pub whole_below : AllByRecursion (λ i. i < 1024) whole_chunk
unfolding whole_chunk
whole_below = All-weaker (λ k. (0 ≤ k) × (k < 1024)) (λ k. k < 1024) (λ k l. l.1) (range_with_len 0 1024) (rising_all 0 1024 (range_with_len 0 1024) (rising_counting 0 1024 1024 (omega arith)))

pub whole_inside : first (index_fault whole_chunk) (range_with_len 0 (length whole_chunk)) ≡ None
whole_inside = indices_inside whole_chunk whole_below

-- a fetch that nothing stands against
pub record Admits (chunks left room c : ℕ) (is : List ℕ) : Type 0 where
  pub chunk : c < chunks
  pub indices : AllByRecursion (λ i. i < 1024) is
  pub places : length is ≤ room
  pub payable : length is ≤ left

pub admitted : (chunks left room c : ℕ) (is : List ℕ) → first_of (objections chunks left room c is) ≡ None → Admits chunks left room c is
admitted chunks left room c is e =
    let h = none_each (objections chunks left room c is) e in
    record {
      chunk = leb-false chunks c (when_none _ _ h.0);
      indices = inside_indices is h.1.0;
      places = ltb-false room (length is) (when_none _ _ h.1.1.0);
      payable = ltb-false left (length is) (when_none _ _ h.1.1.1.0);
    }

pub admits : (chunks left room c : ℕ) (is : List ℕ) → Admits chunks left room c is → first_of (objections chunks left room c is) ≡ None
admits chunks left room c is h =
    none_of (objections chunks left room c is) (
      none_when _ _ (lt-leb chunks c h.chunk),
      (
        indices_inside is h.indices,
        (none_when _ _ (le-ltb room (length is) h.places), (none_when _ _ (le-ltb left (length is) h.payable), tt)),
      ),
    )

module _ {T : Type 0} (h : Held T) (c : ℕ) (is : List ℕ) where
  pub fetched_ok : fetch_fault h c is ≡ None → fetched h c is ≡ delivered h c is
  unfolding fetched
  fetched_ok e = ap (λ o. settled o h (delivered h c is)) e

  pub fetched_err : (r : Refusal) → fetch_fault h c is ≡ Some r → fetched h c is ≡ h
  unfolding fetched
  fetched_err r e = ap (λ o. settled o h (delivered h c is)) e

  answered_none : Ok (tt {0}) ≡ answered (fetch_fault h c is) (tt {0}) → fetch_fault h c is ≡ None
  answered_none e = answered_ok (fetch_fault h c is) (tt {0}) (tt {0}) (sym e)

  -- what holds of a fetch that was not refused
  pub granted : Ok (tt {0}) ≡ answered (fetch_fault h c is) (tt {0}) → Admits (chunks_of h.readings) h.allowance (length h.output) c is
  unfolding fetch_fault
  granted e = admitted (chunks_of h.readings) h.allowance (length h.output) c is (answered_none e)

  -- what such a fetch leaves once it is carried out
  pub carried_out : (n : ℕ) (vs : List T) → Ok (tt {0}) ≡ answered (fetch_fault h c is) (tt {0}) → n ≡ length is → length vs ≡ n → vs ≡ gather h.readings (map (place_in c) is) → holding h.readings (h.allowance - n) (vs ++ drop n h.output) ≡ fetched h c is
  carried_out n vs e l m v =
      let on : n ≡ 0 + length vs = omega arith in
      ap₂ (λ left out. holding h.readings (h.allowance - left) out) l (ap (λ k. vs ++ drop k h.output) on ∙ ap (splice h.output 0) v) ∙ sym (fetched_ok (answered_none e))

  -- and what one leaves that was refused
  pub turned_down : (r : Refusal) → Err r ≡ answered (fetch_fault h c is) (tt {0}) → h ≡ fetched h c is
  turned_down r e = sym (fetched_err r (answered_err (fetch_fault h c is) (tt {0}) r (sym e)))

-- the readings of a chunk, one after another
pub whole_places : (c : ℕ) → map (place_in c) whole_chunk ≡ range_with_len (1024 * c) 1024
unfolding whole_chunk
whole_places c = shift 1024 0 ∙ ap (λ a. range_with_len a 1024) (omega arith)
  where
    shift : (n a : ℕ) → map (place_in c) (range_with_len a n) ≡ range_with_len (1024 * c + a) n
    shift zero a = refl
    shift (suc n) a = ap (λ xs. place_in c a ∷ xs) (shift n (a + 1) ∙ ap (λ b. range_with_len b n) (sym (add_assoc (1024 * c) a 1)))

pub whole_gathered : {T : Type 0} (xs : List T) (c : ℕ) → gather xs (map (place_in c) whole_chunk) ≡ take 1024 (drop (1024 * c) xs)
whole_gathered xs c = ap (gather xs) (whole_places c) ∙ gather_counting xs 1024 (1024 * c)

-- a slice of whole chunks is all of its whole chunks
pub part_all : {T : Type 0} (xs : List T) → length xs % 1024 ≡ 0 → chunks_of xs ≤ 16384 → whole_part xs ≡ xs
unfolding whole_part
part_all xs even few = take_all (1024 * whole_chunks xs) xs (omega arith)

-- values of the whole chunks are those of the slice
pub part_gather : {T : Type 0} (xs : List T) (ps : List ℕ) → AllByRecursion (λ p. p < 1024 * whole_chunks xs) ps → gather (whole_part xs) ps ≡ gather xs ps
unfolding whole_part
part_gather xs [] h = refl
part_gather xs (p ∷ ps) h = ap₂ (λ v vs. v ++ vs) (value_at_take xs (1024 * whole_chunks xs) p h.0) (part_gather xs ps h.1)

pub part_chunk : {T : Type 0} (xs : List T) (c : ℕ) → c < whole_chunks xs → gather (whole_part xs) (map (place_in c) whole_chunk) ≡ take 1024 (drop (1024 * c) xs)
part_chunk xs c h =
    part_gather xs (map (place_in c) whole_chunk) (All-map (λ p. p < 1024 * whole_chunks xs) (place_in c) whole_chunk (All-weaker (λ i. i < 1024) (λ i. place_in c i < 1024 * whole_chunks xs) (λ i l. omega arith) whole_chunk whole_below))
    ∙ whole_gathered xs c

pub whole_get : (k : ℕ) → k < 1024 → get_or whole_chunk k 0 ≡ k
unfolding whole_chunk
whole_get k h = get_or-range_with_len 0 1024 k 0 h ∙ omega arith

-- one reading more of those at some indices
pub read_more : {T : Type 0} (xs out : List T) (c : ℕ) (is : List ℕ) (k p : ℕ) (y : T) → p ≡ place_in c (get_or is k 0) → slice_get xs p ≡ Some y → k < length is → k < length out → take k out ≡ gather xs (map (place_in c) (take k is)) → take (k + 1) (set out k y) ≡ gather xs (map (place_in c) (take (k + 1) is))
read_more xs out c is k p y e s l m h =
    let q = place_in c (get_or is k 0) in
    let inside = slice_get_within xs p y s in
    let value : get_or xs q y ≡ y = ap (λ n. get_or xs n y) (sym e) ∙ get_or_from_slice_get xs p y y s in
    let one : value_at xs q ≡ y ∷ [] = value_at_is xs q y (omega arith) ∙ ap (λ v. v ∷ []) value in
    take_more_set out k y m
    ∙ ap₂ (λ zs v. zs ++ v) h (sym (append-nil (value_at xs q) ∙ one))
    ∙ sym (ap (gather xs) (map_more (place_in c) is k 0 l) ∙ gather_append xs (map (place_in c) (take k is)) (q ∷ []))

-- the first index that no chunk has, by its place
pub index_first : (is : List ℕ) → first (index_fault is) (range_with_len 0 (length is)) ≡ option_map Index (position (λ i. nat_le 1024 i) is)
index_first is =
    go is 0 (index_fault is) (λ k. let at : 0 + k ≡ k = omega arith in ap (λ n. when (nat_le 1024 (get_or is n 0)) (Index (0 + k))) at)
    ∙ ap (option_map Index) (sym (position_from-zero (λ i. nat_le 1024 i) is))
  where
    pick : (b : Bool) (a : ℕ) (o : Option ℕ) → or_else (when b (Index a)) (option_map Index o) ≡ option_map Index (cond b (Some a) o)
    pick true a o = refl
    pick false a o = refl

    go : (is : List ℕ) (a : ℕ) (f : ℕ → Option Refusal) → ((k : ℕ) → f (a + k) ≡ when (nat_le 1024 (get_or is k 0)) (Index (a + k))) → first f (range_with_len a (length is)) ≡ option_map Index (position_from (λ i. nat_le 1024 i) a is)
    go [] a f h = refl
    go (i ∷ is) a f h =
        let none : a + 0 ≡ a = omega arith in
        let here = subst (λ n. f n ≡ when (nat_le 1024 i) (Index n)) none (h 0) in
        let rest = go is (a + 1) f (λ k. let on : a + suc k ≡ a + 1 + k = omega arith in subst (λ n. f n ≡ when (nat_le 1024 (get_or is k 0)) (Index n)) on (h (suc k))) in
        ap₂ or_else here rest ∙ pick (nat_le 1024 i) a (position_from (λ i. nat_le 1024 i) (a + 1) is)

-- a reading that is made by its place
pub made_get : {T : Type 0} (f : ℕ → T) (n p : ℕ) → p < n → slice_get (map f (range_with_len 0 n)) p ≡ Some (f p)
made_get f n p h =
    let size = length-map-range_with_len f 0 n in
    slice_get-get_or (map f (range_with_len 0 n)) p (f p) (omega arith) ∙ ap Some (get_or-map-range_with_len f 0 n p p (f p) h (omega arith))

pub ramp_chunks : (start step chunks : ℕ) → chunks_of (ramped start step (1024 * chunks)) ≡ chunks
ramp_chunks start step chunks = let n = ramp_length start step (1024 * chunks) in omega arith

-- the readings of a ramp at some indices of a chunk
pub ramp_gathered : (start step chunks c : ℕ) (is : List ℕ) → c < chunks → AllByRecursion (λ i. i < 1024) is → gather (ramped start step (1024 * chunks)) (map (place_in c) is) ≡ map (ramp_place start step c) is
unfolding ramped
ramp_gathered start step chunks c is l h =
    gather_made (ramp_at start step) (1024 * chunks) (map (place_in c) is) (All-map (λ p. p < 1024 * chunks) (place_in c) is (All-weaker (λ i. i < 1024) (λ i. place_in c i < 1024 * chunks) (λ i k. omega arith) is h))
    ∙ map_map (ramp_at start step) (place_in c) is
