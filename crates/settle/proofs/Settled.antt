-- The places of a push, and its answer by steps.
use Rattle.std.proofs.Common.{◌≡◌, ℕ, zero, suc, ◌+◌, ◌-◌, ◌<◌, ◌≤◌, ltb, List, [], ◌∷◌, ◌++◌, map, length, get_or, take, Some, None, Err, Option, sym, refl, ap, ◌∙◌, ap₂, arith, Bor}
use Rattle.std.specs.List.{flat_map, range_with_len}
use Rattle.std.proofs.lemmas.List.{map-append, take_more, flat_map_more}
use Rattle.std.proofs.lemmas.Bool.{ltb-false}
use Rattle.selection.specs.declared.refusals.Refusal.{Refusal}
use Rattle.selection.specs.declared.refusals.Refusal.TheVariants.{Offset, Scratch}
use Rattle.selection.specs.declared.selections.Selection.{Selection}
use Rattle.selection.specs.declared.selections.Selection.TheVariants.{Bitmap, Indices, Runs}
use Rattle.selection.specs.declared.windows.Window.{Window}
use Rattle.selection.specs.declared.selections.Run.{Run}
use Rattle.selection.specs.Refusals.{answered, first, first_of, when}
use Rattle.selection.specs.Selected.{Rising, RunsRise, indices_fault, long, range, runs_fault, selection_fault, positions, window_fault, window_positions, no_run}
use Rattle.selection.specs.Items.{listed_fault, listed_positions}
use Rattle.selection.proofs.Objections.{none_each, when_none}
use Rattle.selection.proofs.Listed.{index_rises, indices_pick, runs_pick, runs_pick_formed, runs_rise, runs_wider}
use Rattle.selection.proofs.Rising.{rising_within}
use Rattle.settle.specs.declared.settle.Push.{Push}
use Rattle.settle.specs.declared.settle.Terms.{Terms}
use Rattle.settle.specs.Pushes.{answer, answer_to, declined, fee, grant_fault, misformed, moved, past_source, places, receipt, room_fault}

-- the places of some indices at an offset
abbrev pub at : ℕ → List ℕ → List ℕ
at offset is = map (moved offset) is

-- the answer to positions at an offset, by the first of its steps that objects
module _ (t : Terms) (offset : ℕ) (fault : Option Refusal) (is : List ℕ) where
  pub by_selection : (e : Refusal) → fault ≡ Some e → Err e ≡ answer_to t offset fault is
  unfolding answer_to
  by_selection e h = rw h refl

  module _ (formed : fault ≡ None) where
    pub by_room : (e : Refusal) → room_fault t.scratch offset ≡ Some e → Err e ≡ answer_to t offset fault is
    unfolding answer_to
    by_room e h = rw (formed, h) refl

    module _ (roomy : room_fault t.scratch offset ≡ None) where
      pub by_past : (e : Refusal) → first (past_source t.chunks) (at offset is) ≡ Some e → Err e ≡ answer_to t offset fault is
      unfolding answer_to declined
      by_past e h = rw (formed, roomy, h) refl

      pub by_grant : (count cost : ℕ) → first (past_source t.chunks) (at offset is) ≡ None → count ≡ length (at offset is) → cost ≡ fee t (at offset is) → answered (grant_fault t count cost) (record { count = count; fee = cost }) ≡ answer_to t offset fault is
      unfolding answer_to declined
      by_grant count cost h n f = rw (n, f, formed, roomy, h) (last (grant_fault t (length (at offset is)) (fee t (at offset is))))
        where
          last : (o : Option Refusal) → answered o (receipt t (at offset is)) ≡ answered (first_of (first_of (o ∷ []) ∷ [])) (receipt t (at offset is))
          last None = refl
          last (Some e) = refl

-- the answer to a push, from its selection
pub answer_is : (t : Terms) (p : Push) → answer t p ≡ answer_to t p.offset (selection_fault p.selection) (positions p.selection)
unfolding answer answer_to misformed places
answer_is t p = refl

pub answer_by : (t : Terms) (p : Push) (s : Selection) (fault : Option Refusal) (is : List ℕ) → p.selection ≡ s → fault ≡ selection_fault s → is ≡ positions s → answer_to t p.offset fault is ≡ answer t p
answer_by t p s fault is form e f = ap₂ (answer_to t p.offset) (e ∙ ap selection_fault (sym form)) (f ∙ ap positions (sym form)) ∙ sym (answer_is t p)

pub not_long : (n : ℕ) → long n ≡ None → n ≤ 16777216
not_long n e = ltb-false 16777216 n (when_none _ _ e)

-- a list is refused for its length, or else for its items
module _ (n : ℕ) (o : Option Refusal) where
  too_long : (e : Refusal) → long n ≡ Some e → first_of (long n ∷ o ∷ []) ≡ Some e
  too_long e l = ap (λ h. first_of (h ∷ o ∷ [])) l

  not_too_long : long n ≡ None → first_of (long n ∷ o ∷ []) ≡ o
  not_too_long l = ap (λ h. first_of (h ∷ o ∷ [])) l ∙ or_none o
    where
      or_none : (o : Option Refusal) → first_of (o ∷ []) ≡ o
      or_none None = refl
      or_none (Some e) = refl

-- a list of runs
module _ (n : ℕ) (rs : List Run) where
  pub listed_long : (e : Refusal) → long n ≡ Some e → listed_fault n rs ≡ Some e
  listed_long e l = too_long n (runs_fault n rs) e l

  pub listed_fault_is : long n ≡ None → listed_fault n rs ≡ runs_fault n rs
  listed_fault_is l = not_too_long n (runs_fault n rs) l

module _ (xs : Bor (List ℕ)) (n : ℕ) where
  pub indices_fault_is : long n ≡ None → selection_fault (Indices xs n) ≡ indices_fault n xs.now
  unfolding selection_fault
  indices_fault_is l = not_too_long n (indices_fault n xs.now) l

module _ (rs : Bor (List Run)) (n : ℕ) where
  pub runs_fault_is : long n ≡ None → selection_fault (Runs rs n) ≡ runs_fault n rs.now
  unfolding selection_fault
  runs_fault_is l = not_too_long n (runs_fault n rs.now) l

-- a well formed index list
module _ (offset : ℕ) (xs : Bor (List ℕ)) (n : ℕ) (formed : selection_fault (Indices xs n) ≡ None) where
  parts : (n ≤ 16777216) × (indices_fault n xs.now ≡ None)
  unfolding selection_fault
  parts = let h = none_each (long n ∷ indices_fault n xs.now ∷ []) formed in (ltb-false 16777216 n (when_none _ _ h.0), h.1.0)

  pub listed_rise : Rising 0 16777216 xs.now
  listed_rise = rising_within 0 n 0 16777216 xs.now (omega arith) parts.0 (index_rises n xs.now parts.1)

  pub places_listed : places (record { offset = offset; selection = Indices xs n }) ≡ at offset xs.now
  unfolding places
  places_listed = ap (map (moved offset)) (indices_pick xs n parts.1)

-- a well formed run list
module _ (offset : ℕ) (rs : Bor (List Run)) (n : ℕ) (formed : selection_fault (Runs rs n) ≡ None) where
  run_parts : (n ≤ 16777216) × (runs_fault n rs.now ≡ None)
  unfolding selection_fault
  run_parts = let h = none_each (long n ∷ runs_fault n rs.now ∷ []) formed in (ltb-false 16777216 n (when_none _ _ h.0), h.1.0)

  pub listed_runs_rise : RunsRise 0 16777216 rs.now
  listed_runs_rise = runs_wider 0 n 16777216 rs.now run_parts.0 (runs_rise n rs.now run_parts.1)

  pub places_runs : places (record { offset = offset; selection = Runs rs n }) ≡ at offset (flat_map range rs.now)
  unfolding places
  places_runs = ap (map (moved offset)) (runs_pick_formed rs n run_parts.1)

-- a well formed bitmap
pub places_window : (offset : ℕ) (w : Window) → places (record { offset = offset; selection = Bitmap w }) ≡ at offset (window_positions w)
unfolding places positions
places_window offset w = refl

pub window_formed : (w : Window) (o : Option Refusal) → window_fault w ≡ o → selection_fault (Bitmap w) ≡ o
unfolding selection_fault
window_formed w o e = e

pub formed_window : (w : Window) → selection_fault (Bitmap w) ≡ None → window_fault w ≡ None
unfolding selection_fault
formed_window w e = e

-- a push with an offset and a scratch that will do
pub roomy : (scratch offset : ℕ) → room_fault scratch offset ≡ None → (offset ≤ 1024) × (1024 ≤ scratch)
roomy scratch offset e =
    let h = none_each (when (ltb 1024 offset) Offset ∷ when (ltb scratch 1024) Scratch ∷ []) e in
    (ltb-false 1024 offset (when_none _ _ h.0), ltb-false scratch 1024 (when_none _ _ h.1.0))

pub counting_moved : (offset a n : ℕ) → range_with_len (a + offset) n ≡ at offset (range_with_len a n)
counting_moved offset a zero = refl
counting_moved offset a (suc n) =
    let e : a + offset ≡ offset + a = omega arith in
    let f : a + offset + 1 ≡ a + 1 + offset = omega arith in
    ap₂ (λ x xs. x ∷ xs) e (ap (λ b. range_with_len b n) f ∙ counting_moved offset (a + 1) n)

-- the places of runs at an offset
abbrev pub run_places : ℕ → List Run → List ℕ
run_places offset runs = at offset (flat_map range runs)

-- one run more
pub run_places_more : (up : ℕ) (rs : List Run) (k : ℕ) → k < length rs → run_places up (take (k + 1) rs) ≡ run_places up (take k rs) ++ range_with_len ((get_or rs k no_run).start + up) ((get_or rs k no_run).«end» + up - ((get_or rs k no_run).start + up))
run_places_more up rs k l =
    let r = get_or rs k no_run in
    let n : (get_or rs k no_run).«end» - (get_or rs k no_run).start ≡ (get_or rs k no_run).«end» + up - ((get_or rs k no_run).start + up) = omega arith in
    ap (run_places up) (take_more rs k no_run l)
    ∙ ap (at up) (sym (flat_map_more range [] (take k rs) r))
    ∙ map-append (moved up) (flat_map range (take k rs)) (range r)
    ∙ ap (λ xs. run_places up (take k rs) ++ xs) (sym (counting_moved up r.start (r.«end» - r.start)) ∙ ap (range_with_len (r.start + up)) n)

-- the places of sound runs
pub listed_places : (offset n : ℕ) (rs : List Run) → runs_fault n rs ≡ None → at offset (listed_positions n rs) ≡ run_places offset rs
listed_places offset n rs formed = ap (at offset) (runs_pick n rs (runs_rise n rs formed))
