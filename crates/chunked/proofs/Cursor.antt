-- How far a walk over runs has come.
use Rattle.std.proofs.Common.{◌≡◌, ℕ, zero, suc, ◌+◌, ◌-◌, ◌*◌, ◌/◌, ◌<◌, ◌≤◌, min, max, List, [], ◌∷◌, ◌++◌, length, get_or, take, drop, sym, ap, ◌∙◌, ap₂, ⊎_elim, arith}
use Rattle.std.specs.List.{range_with_len, between, flat_map, AllByRecursion}
use Rattle.std.proofs.lemmas.List.Edits.{get_or-between, length-between}
use Rattle.std.proofs.ByRecursion.{All-from_get_or, All-get_or}
use Rattle.std.proofs.lemmas.Slice.{between_to_end}
use Rattle.std.proofs.lemmas.Bool.{cases_lt}
use Rattle.std.proofs.lemmas.List.{drop_all, drop_at, drop-drop, drop_more, get_or_append_left, get_or-drop, length-append, length-drop, take_at}
use Rattle.selection.specs.declared.selections.Run.{Run}
use Rattle.selection.specs.Selected.{Rising, RunsRise, no_run, range}
use Rattle.selection.proofs.Listed.{ranges_rise}
use Rattle.selection.proofs.Rising.{rising_shifted}
use Rattle.chunked.specs.Spans.{EndsBy, Spans, in_span, span_end, span_start}
use Rattle.settle.proofs.Settled.{run_places}
use Rattle.chunked.proofs.Cuts.{Cut, Parted, cut, drop_cut}
use Rattle.chunked.proofs.Spanning.{ends_ahead, ends_rise, runs_at, runs_drop, span_all, span_append, span_below, span_split, span_stops, span_within, starts_after}

-- the first k places are done; the others are those of the runs from next on, from place resume on
pub record Cursor (offset : ℕ) (runs : List Run) (k next resume : ℕ) : Type 0 where
  pub rest : drop k (run_places offset runs) ≡ in_span offset resume 16778240 (drop next runs)
  pub within : next ≤ length runs
  pub ahead : next < length runs → resume < (get_or runs next no_run).«end» + offset

module _ (offset : ℕ) (runs : List Run) (up : RunsRise 0 16777216 runs) (small : offset ≤ 1024) where
  pub places_rise : Rising (offset + 0) (offset + 16777216) (run_places offset runs)
  places_rise = rising_shifted offset 0 16777216 (flat_map range runs) (ranges_rise 0 16777216 runs up)

  pub cursor_start : Cursor offset runs 0 0 0
  cursor_start = record {
    rest = sym (span_all offset 16778240 0 16777216 runs up (omega arith));
    within = omega arith;
    ahead = λ h. let r = runs_at 0 16777216 runs 0 up h in omega arith;
  }

  -- at the end all places are done
  pub cursor_end : (k next resume : ℕ) → Cursor offset runs k next resume → length runs ≤ next → length (run_places offset runs) ≤ k
  cursor_end k next resume h l =
      let none : drop next runs ≡ [] = drop_all next runs l in
      let left : length (drop k (run_places offset runs)) ≡ 0 = ap length (h.rest ∙ ap (in_span offset resume 16778240) none) in
      let n = length-drop k (run_places offset runs) in
      omega arith

  module _ (k next resume : ℕ) (h : Cursor offset runs k next resume) (here : next < length runs) where
    -- the next place
    pub next_place : (k < length (run_places offset runs)) × (get_or (run_places offset runs) k 0 ≡ max ((get_or runs next no_run).start + offset) resume)
    next_place =
        let r = get_or runs next no_run in
        let at-r = runs_at 0 16777216 runs next up here in
        let far = h.ahead here in
        let x = span_start offset resume 16778240 r in
        let m : ℕ = span_end offset 16778240 r - x - 1 in
        let some : span_end offset 16778240 r - span_start offset resume 16778240 r ≡ suc m = omega arith in
        let front : drop k (run_places offset runs) ≡ x ∷ (range_with_len (x + 1) m ++ in_span offset resume 16778240 (drop (next + 1) runs)) = h.rest ∙ ap (in_span offset resume 16778240) (drop_more runs next no_run here) ∙ ap (λ n. range_with_len x n ++ in_span offset resume 16778240 (drop (next + 1) runs)) some in
        let size = length-drop k (run_places offset runs) in
        let long : length (drop k (run_places offset runs)) ≡ suc (length (range_with_len (x + 1) m ++ in_span offset resume 16778240 (drop (next + 1) runs))) = ap length front in
        let on : k + 0 ≡ k = omega arith in
        let read : get_or (run_places offset runs) k 0 ≡ x = ap (λ i. get_or (run_places offset runs) i 0) (sym on) ∙ sym (get_or-drop k (run_places offset runs) 0 0) ∙ ap (λ xs. get_or xs 0 0) front in
        (omega arith, read ∙ omega arith)

    -- the part below the end of the next place's chunk
    module _ (c n after : ℕ) (chunk : c ≡ max ((get_or runs next no_run).start + offset) resume / 1024) (count : n ≡ length (in_span offset resume ((c + 1) * 1024) (drop next runs))) (order : (next ≤ after) × (after ≤ length runs)) (done : AllByRecursion (EndsBy offset ((c + 1) * 1024)) (between next after runs)) where
      bounds : (resume ≤ (c + 1) * 1024) × ((c + 1) * 1024 ≤ 16778240)
      bounds =
          let at-r = runs_at 0 16777216 runs next up here in
          let far = h.ahead here in
          (omega arith, omega arith)

      parts : drop k (run_places offset runs) ≡ in_span offset resume ((c + 1) * 1024) (drop next runs) ++ in_span offset ((c + 1) * 1024) 16778240 (drop next runs)
      parts = h.rest ∙ span_split offset resume ((c + 1) * 1024) 16778240 0 16777216 (drop next runs) (runs_drop 0 16777216 runs next up) bounds.0 bounds.1

      later : in_span offset ((c + 1) * 1024) 16778240 (drop next runs) ≡ in_span offset ((c + 1) * 1024) 16778240 (drop after runs)
      later =
          ap (in_span offset ((c + 1) * 1024) 16778240) (drop_cut runs next after order.0)
          ∙ span_append offset ((c + 1) * 1024) 16778240 (between next after runs) (drop after runs)
          ∙ ap (λ xs. xs ++ in_span offset ((c + 1) * 1024) 16778240 (drop after runs)) (span_below offset ((c + 1) * 1024) 16778240 (between next after runs) bounds.1 done)

      pub part_is : between k (k + n) (run_places offset runs) ≡ in_span offset resume ((c + 1) * 1024) (drop next runs)
      part_is =
          let on : k + n - k ≡ n = omega arith in
          ap₂ take on parts ∙ take_at (in_span offset resume ((c + 1) * 1024) (drop next runs)) (in_span offset ((c + 1) * 1024) 16778240 (drop next runs)) n (sym count)

      rest_is : drop (k + n) (run_places offset runs) ≡ in_span offset ((c + 1) * 1024) 16778240 (drop after runs)
      rest_is =
          sym (drop-drop n k (run_places offset runs))
          ∙ ap (drop n) parts
          ∙ drop_at (in_span offset resume ((c + 1) * 1024) (drop next runs)) (in_span offset ((c + 1) * 1024) 16778240 (drop next runs)) n (sym count)
          ∙ later

      pub cursor_more : (after < length runs → (c + 1) * 1024 < (get_or runs after no_run).«end» + offset) → Cursor offset runs (k + n) after ((c + 1) * 1024)
      cursor_more past = record { rest = rest_is; within = order.1; ahead = past }

      pub cursor_cut : Parted (run_places offset runs) k → Cut (run_places offset runs) k (k + n) c
      cursor_cut parted =
          let first = next_place in
          let size = length-drop k (run_places offset runs) in
          let long = ap length parts in
          let both = length-append (in_span offset resume ((c + 1) * 1024) (drop next runs)) (in_span offset ((c + 1) * 1024) 16778240 (drop next runs)) in
          let in_list = first.0 in
          cut (offset + 0) (offset + 16777216) (run_places offset runs) k (k + n) c places_rise in_list (chunk ∙ ap (λ p. p / 1024) (sym first.1)) parted (omega arith) (omega arith) below above
        where
          below : (m : ℕ) → k ≤ m → m < k + n → get_or (run_places offset runs) m 0 < 1024 * c + 1024
          below m a b =
              let on : k + (m - k) ≡ m = omega arith in
              let inside : m - k < length (in_span offset resume ((c + 1) * 1024) (drop next runs)) = omega arith in
              let read : get_or (run_places offset runs) m 0 ≡ get_or (in_span offset resume ((c + 1) * 1024) (drop next runs)) (m - k) 0 =
              ap (λ i. get_or (run_places offset runs) i 0) (sym on)
              ∙ sym (get_or-drop k (run_places offset runs) (m - k) 0)
              ∙ ap (λ xs. get_or xs (m - k) 0) parts
              ∙ get_or_append_left (in_span offset resume ((c + 1) * 1024) (drop next runs)) (in_span offset ((c + 1) * 1024) 16778240 (drop next runs)) 0 (m - k) inside in
              let bound = All-get_or (λ p. (resume ≤ p) × (p < (c + 1) * 1024)) (in_span offset resume ((c + 1) * 1024) (drop next runs)) (m - k) 0 inside (span_within offset resume ((c + 1) * 1024) (drop next runs) bounds.0) in
              omega arith

          above : k + n < length (run_places offset runs) → 1024 * c + 1024 ≤ get_or (run_places offset runs) (k + n) 0
          above l =
              let on : k + n + 0 ≡ k + n = omega arith in
              let size = length-drop (k + n) (run_places offset runs) in
              let long = ap length rest_is in
              let read : get_or (run_places offset runs) (k + n) 0 ≡ get_or (in_span offset ((c + 1) * 1024) 16778240 (drop after runs)) 0 0 =
              ap (λ i. get_or (run_places offset runs) i 0) (sym on)
              ∙ sym (get_or-drop (k + n) (run_places offset runs) 0 0)
              ∙ ap (λ xs. get_or xs 0 0) rest_is in
              let bound = All-get_or (λ p. ((c + 1) * 1024 ≤ p) × (p < 16778240)) (in_span offset ((c + 1) * 1024) 16778240 (drop after runs)) 0 0 (omega arith) (span_within offset ((c + 1) * 1024) 16778240 (drop after runs) bounds.1) in
              omega arith

      -- the runs that meet the chunk
      module _ (last : ℕ) (ends : last ≡ min (length runs) (after + 1)) (past : after < length runs → (c + 1) * 1024 < (get_or runs after no_run).«end» + offset) where
        pub part_runs : in_span offset resume ((c + 1) * 1024) (between next last runs) ≡ in_span offset resume ((c + 1) * 1024) (drop next runs)
        part_runs = ⊎_elim stops goes_on (cases_lt after (length runs))
          where
            stops : after < length runs → in_span offset resume ((c + 1) * 1024) (between next last runs) ≡ in_span offset resume ((c + 1) * 1024) (drop next runs)
            stops l =
                let e : last ≡ after + 1 = omega arith in
                ap (λ m. in_span offset resume ((c + 1) * 1024) (between next m runs)) e ∙ sym (span_stops offset resume ((c + 1) * 1024) runs next after up order.0 l (past l))

            goes_on : length runs ≤ after → in_span offset resume ((c + 1) * 1024) (between next last runs) ≡ in_span offset resume ((c + 1) * 1024) (drop next runs)
            goes_on l = ap (in_span offset resume ((c + 1) * 1024)) (between_to_end runs next last (omega arith))

        pub part_order : (next ≤ last) × (last ≤ length runs)
        part_order = let o = order.0 in let p = order.1 in (omega arith, omega arith)

        pub part_spans : AllByRecursion (Spans offset resume ((c + 1) * 1024) (c * 1024)) (between next last runs)
        part_spans = All-from_get_or (Spans offset resume ((c + 1) * 1024) (c * 1024)) (between next last runs) no_run each
          where
            each : (m : ℕ) → m < length (between next last runs) → Spans offset resume ((c + 1) * 1024) (c * 1024) (get_or (between next last runs) m no_run)
            each m l =
                let size = length-between runs next last part_order.1 in
                let under : next + m < last = omega arith in
                let read = get_or-between runs next last m no_run under in
                let in_list : next + m < length runs = let o = part_order.1 in omega arith in
                let at-m = runs_at 0 16777216 runs (next + m) up in_list in
                let ahead = ends_ahead offset resume ((c + 1) * 1024) runs next (next + m) up (omega arith) in_list h.ahead in
                let b = bounds in
                let low : c * 1024 ≤ max ((get_or runs (next + m) no_run).start + offset) resume = starts_from m in_list in
                rw read (record { «from» = omega arith; to = omega arith; ordered = omega arith; above = omega arith })
              where
                starts_from : (m : ℕ) → next + m < length runs → c * 1024 ≤ max ((get_or runs (next + m) no_run).start + offset) resume
                starts_from zero l = let e : next + 0 ≡ next = omega arith in rw e (omega arith)
                starts_from (suc m) l =
                    let e : next + suc m ≡ suc (next + m) = omega arith in
                    let before = ends_rise 0 16777216 runs next m up (omega arith) in
                    let first = runs_at 0 16777216 runs next up here in
                    let far = h.ahead here in
                    let step = starts_after 0 16777216 runs (next + m) up (omega arith) in
                    rw e (omega arith)
