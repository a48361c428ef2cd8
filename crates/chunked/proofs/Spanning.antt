-- The places of runs, cut at bounds.
use Rattle.std.proofs.Common.{◌≡◌, ℕ, zero, suc, ◌+◌, ◌-◌, ◌<◌, ◌≤◌, ◌⊎◌, List, [], ◌∷◌, ◌++◌, map, length, get_or, take, drop, sym, refl, ap, ◌∙◌, subst, ap₂, inl, inr, arith}
use borrow.Rule.Slice.PartMut.{put_mid}
use Rattle.std.specs.List.{range_with_len, between, flat_map, AllByRecursion}
use Rattle.std.proofs.lemmas.List.FromFn.{length-range_with_len}
use Rattle.std.proofs.ByRecursion.{All-append, All-get_or, All-map, All-weaker}
use Rattle.std.proofs.lemmas.List.{append_assoc, append-nil, drop-drop, length-append, length-map, map-append, take-append-drop, take_more, take_rest}
use Rattle.std.proofs.lemmas.Bool.{cases_lt}
use Rattle.std.proofs.lemmas.List.Edits.{between_more}
use Rattle.selection.specs.declared.selections.Run.{Run}
use Rattle.selection.specs.Selected.{RunsRise, no_run, range}
use Rattle.selection.proofs.Rising.{rising_all, rising_counting}
use Rattle.kernels.specs.Moved.{shifted, splice}
use Rattle.kernels.proofs.Gathered.{splice_splice}
use Rattle.settle.specs.Pushes.{moved}
use Rattle.chunked.specs.Spans.{Spans, in_span, span_end, span_start, spanned}
use Rattle.settle.proofs.Settled.{at, counting_moved}
use Rattle.chunked.proofs.Cuts.{drop_cut}
use Rattle.chunked.proofs.Fetching.{put_rest, splice_part}

pub span_append : (offset lo hi : ℕ) (rs ss : List Run) → in_span offset lo hi (rs ++ ss) ≡ in_span offset lo hi rs ++ in_span offset lo hi ss
span_append offset lo hi [] ss = refl
span_append offset lo hi (r ∷ rs) ss = ap (λ xs. spanned offset lo hi r ++ xs) (span_append offset lo hi rs ss) ∙ sym (append_assoc (spanned offset lo hi r) (in_span offset lo hi rs) (in_span offset lo hi ss))

counting_none : (a n : ℕ) → n ≡ 0 → range_with_len a n ≡ []
counting_none a n e = ap (range_with_len a) e

counting_split : (a n m : ℕ) → range_with_len a (n + m) ≡ range_with_len a n ++ range_with_len (a + n) m
counting_split a zero m = let e : 0 + m ≡ m = omega arith in let f : a + 0 ≡ a = omega arith in rw (e, f) refl
counting_split a (suc n) m =
    let e : suc n + m ≡ suc (n + m) = omega arith in
    let f : a + 1 + n ≡ a + suc n = omega arith in
    ap (range_with_len a) e ∙ ap (λ xs. a ∷ xs) (counting_split (a + 1) n m ∙ ap (λ b. range_with_len (a + 1) n ++ range_with_len b m) f)

-- runs that begin at the bound have no place below it
pub span_above : (offset lo hi a b : ℕ) (rs : List Run) → RunsRise a b rs → hi ≤ a + offset → in_span offset lo hi rs ≡ []
span_above offset lo hi a b [] up h = refl
span_above offset lo hi a b (r ∷ rs) up h =
    let s = up.0 in
    let e = up.1 in
    let none : span_end offset hi r - span_start offset lo hi r ≡ 0 = omega arith in
    ap₂ (λ xs ys. xs ++ ys) (counting_none (span_start offset lo hi r) (span_end offset hi r - span_start offset lo hi r) none) (span_above offset lo hi r.«end» b rs up.3 (omega arith))

-- runs that end at the bound have no place from it on
pub span_below : (offset lo hi : ℕ) (rs : List Run) → lo ≤ hi → AllByRecursion (λ r. r.«end» + offset ≤ lo) rs → in_span offset lo hi rs ≡ []
span_below offset lo hi [] l h = refl
span_below offset lo hi (r ∷ rs) l h =
    let e = h.0 in
    let none : span_end offset hi r - span_start offset lo hi r ≡ 0 = omega arith in
    ap₂ (λ xs ys. xs ++ ys) (counting_none (span_start offset lo hi r) (span_end offset hi r - span_start offset lo hi r) none) (span_below offset lo hi rs l h.1)

-- the places of one run below a bound, and then those from it on
run_split : (offset lo mid hi : ℕ) (r : Run) → r.start < r.«end» → lo ≤ mid → mid ≤ hi → spanned offset lo hi r ≡ spanned offset lo mid r ++ spanned offset mid hi r
run_split offset lo mid hi r s l m = go (cases_lt (r.start + offset) mid) (cases_lt mid (r.«end» + offset))
  where
    go : (r.start + offset < mid) ⊎ (mid ≤ r.start + offset) → (mid < r.«end» + offset) ⊎ (r.«end» + offset ≤ mid) → spanned offset lo hi r ≡ spanned offset lo mid r ++ spanned offset mid hi r
    go (inl h) (inl e) =
        let from : span_start offset lo hi r ≡ span_start offset lo mid r = omega arith in
        let all : span_end offset hi r - span_start offset lo hi r ≡ (span_end offset mid r - span_start offset lo mid r) + (span_end offset hi r - span_start offset mid hi r) = omega arith in
        let on : span_start offset lo mid r + (span_end offset mid r - span_start offset lo mid r) ≡ span_start offset mid hi r = omega arith in
        ap₂ range_with_len from all ∙ counting_split (span_start offset lo mid r) (span_end offset mid r - span_start offset lo mid r) (span_end offset hi r - span_start offset mid hi r) ∙ ap (λ b. spanned offset lo mid r ++ range_with_len b (span_end offset hi r - span_start offset mid hi r)) on
    go (inl h) (inr e) =
        let from : span_start offset lo hi r ≡ span_start offset lo mid r = omega arith in
        let all : span_end offset hi r - span_start offset lo hi r ≡ span_end offset mid r - span_start offset lo mid r = omega arith in
        let none : span_end offset hi r - span_start offset mid hi r ≡ 0 = omega arith in
        ap₂ range_with_len from all ∙ sym (append-nil (spanned offset lo mid r)) ∙ ap (λ xs. spanned offset lo mid r ++ xs) (sym (counting_none (span_start offset mid hi r) (span_end offset hi r - span_start offset mid hi r) none))
    go (inr h) e =
        let from : span_start offset lo hi r ≡ span_start offset mid hi r = omega arith in
        let none : span_end offset mid r - span_start offset lo mid r ≡ 0 = omega arith in
        ap (λ a. range_with_len a (span_end offset hi r - a)) from ∙ ap (λ xs. xs ++ spanned offset mid hi r) (sym (counting_none (span_start offset lo mid r) (span_end offset mid r - span_start offset lo mid r) none))

-- the places below a bound, and then those from it on
pub span_split : (offset lo mid hi a b : ℕ) (rs : List Run) → RunsRise a b rs → lo ≤ mid → mid ≤ hi → in_span offset lo hi rs ≡ in_span offset lo mid rs ++ in_span offset mid hi rs
span_split offset lo mid hi a b [] up l m = refl
span_split offset lo mid hi a b (r ∷ rs) up l m = ap₂ (λ xs ys. xs ++ ys) (run_split offset lo mid hi r up.1 l m) (span_split offset lo mid hi r.«end» b rs up.3 l m) ∙ shuffle (cases_lt mid (r.«end» + offset))
  where
    swap_none : (as' bs cs ds : List ℕ) → (bs ≡ []) ⊎ (cs ≡ []) → (as' ++ bs) ++ (cs ++ ds) ≡ (as' ++ cs) ++ (bs ++ ds)
    swap_none as' bs cs ds (inl e) = rw e (ap (λ xs. xs ++ (cs ++ ds)) (append-nil as') ∙ sym (append_assoc as' cs ds))
    swap_none as' bs cs ds (inr e) = rw e (append_assoc as' bs ds ∙ ap (λ xs. xs ++ (bs ++ ds)) (sym (append-nil as')))

    shuffle : (mid < r.«end» + offset) ⊎ (r.«end» + offset ≤ mid) → (spanned offset lo mid r ++ spanned offset mid hi r) ++ (in_span offset lo mid rs ++ in_span offset mid hi rs) ≡ (spanned offset lo mid r ++ in_span offset lo mid rs) ++ (spanned offset mid hi r ++ in_span offset mid hi rs)
    shuffle (inl h) = swap_none (spanned offset lo mid r) (spanned offset mid hi r) (in_span offset lo mid rs) (in_span offset mid hi rs) (inr (span_above offset lo mid r.«end» b rs up.3 (omega arith)))
    shuffle (inr h) =
        let s = up.1 in
        swap_none (spanned offset lo mid r) (spanned offset mid hi r) (in_span offset lo mid rs) (in_span offset mid hi rs) (inl (counting_none (span_start offset mid hi r) (span_end offset hi r - span_start offset mid hi r) (omega arith)))

-- within wide bounds all places
pub span_all : (offset hi a b : ℕ) (rs : List Run) → RunsRise a b rs → b + offset ≤ hi → in_span offset 0 hi rs ≡ at offset (flat_map range rs)
span_all offset hi a b [] up h = refl
span_all offset hi a b (r ∷ rs) up h =
    let s = up.1 in
    let e = up.2 in
    let from : span_start offset 0 hi r ≡ r.start + offset = omega arith in
    let all : span_end offset hi r - span_start offset 0 hi r ≡ r.«end» - r.start = omega arith in
    ap₂ (λ xs ys. xs ++ ys) (ap₂ range_with_len from all ∙ counting_moved offset r.start (r.«end» - r.start)) (span_all offset hi r.«end» b rs up.3 h)
    ∙ sym (map-append (moved offset) (range r) (flat_map range rs))

-- they lie within the bounds
pub span_within : (offset lo hi : ℕ) (rs : List Run) → lo ≤ hi → AllByRecursion (λ p. (lo ≤ p) × (p < hi)) (in_span offset lo hi rs)
span_within offset lo hi [] l = tt
span_within offset lo hi (r ∷ rs) l =
    All-append (λ p. (lo ≤ p) × (p < hi)) (spanned offset lo hi r) (in_span offset lo hi rs)
    (All-weaker (λ p. (span_start offset lo hi r ≤ p) × (p < span_start offset lo hi r + (span_end offset hi r - span_start offset lo hi r))) (λ p. (lo ≤ p) × (p < hi)) (λ p h. (omega arith, omega arith)) (spanned offset lo hi r) (rising_all (span_start offset lo hi r) (span_start offset lo hi r + (span_end offset hi r - span_start offset lo hi r)) (spanned offset lo hi r) (rising_counting (span_start offset lo hi r) (span_end offset hi r - span_start offset lo hi r) (span_start offset lo hi r + (span_end offset hi r - span_start offset lo hi r)) (omega arith))))
    (span_within offset lo hi rs l)

-- there are no more of them than positions
pub span_few : (offset lo hi a b : ℕ) (rs : List Run) → RunsRise a b rs → a ≤ b → length (in_span offset lo hi rs) ≤ b - a
span_few offset lo hi a b [] up l = omega arith
span_few offset lo hi a b (r ∷ rs) up l =
    let s = up.0 in
    let t = up.1 in
    let e = up.2 in
    let rest = span_few offset lo hi r.«end» b rs up.3 e in
    let one = length-range_with_len (span_start offset lo hi r) (span_end offset hi r - span_start offset lo hi r) in
    let both = length-append (spanned offset lo hi r) (in_span offset lo hi rs) in
    omega arith

-- ascending runs by their places in the list
pub runs_at : (a b : ℕ) (rs : List Run) (k : ℕ) → RunsRise a b rs → k < length rs → (a ≤ (get_or rs k no_run).start) × ((get_or rs k no_run).start < (get_or rs k no_run).«end») × ((get_or rs k no_run).«end» ≤ b)
runs_at a b [] k up h = absurd (omega arith)
runs_at a b (r ∷ rs) zero up h = (up.0, up.1, up.2)
runs_at a b (r ∷ rs) (suc k) up h =
    let rest = runs_at r.«end» b rs k up.3 (omega arith) in
    let x = up.0 in
    let y = up.1 in
    (omega arith, rest.1, rest.2)

pub runs_after : (a b : ℕ) (rs : List Run) (k : ℕ) → RunsRise a b rs → k < length rs → RunsRise (get_or rs k no_run).«end» b (drop (suc k) rs)
runs_after a b [] k up h = absurd (omega arith)
runs_after a b (r ∷ rs) zero up h = up.3
runs_after a b (r ∷ rs) (suc k) up h = runs_after r.«end» b rs k up.3 (omega arith)

runs_from : (a c b : ℕ) (rs : List Run) → c ≤ a → RunsRise a b rs → RunsRise c b rs
runs_from a c b [] l up = tt
runs_from a c b (r ∷ rs) l up = let x = up.0 in (omega arith, up.1, up.2, up.3)

pub runs_drop : (a b : ℕ) (rs : List Run) (k : ℕ) → RunsRise a b rs → RunsRise a b (drop k rs)
runs_drop a b rs zero up = up
runs_drop a b [] (suc k) up = tt
runs_drop a b (r ∷ rs) (suc k) up = let x = up.0 in let y = up.1 in runs_drop a b rs k (runs_from r.«end» a b rs (omega arith) up.3)

pub runs_take : (a b : ℕ) (rs : List Run) (k : ℕ) → RunsRise a b rs → RunsRise a b (take k rs)
runs_take a b rs zero up = tt
runs_take a b [] (suc k) up = tt
runs_take a b (r ∷ rs) (suc k) up = (up.0, up.1, up.2, runs_take r.«end» b rs k up.3)

-- a run begins where the one before it ended, or later
pub starts_after : (a b : ℕ) (rs : List Run) (k : ℕ) → RunsRise a b rs → suc k < length rs → (get_or rs k no_run).«end» ≤ (get_or rs (suc k) no_run).start
starts_after a b [] k up h = absurd (omega arith)
starts_after a b (r ∷ rs) zero up h = (runs_at r.«end» b rs 0 up.3 (omega arith)).0
starts_after a b (r ∷ rs) (suc k) up h = starts_after r.«end» b rs k up.3 (omega arith)

-- later runs end later
pub ends_rise : (a b : ℕ) (rs : List Run) (i m : ℕ) → RunsRise a b rs → i + m < length rs → (get_or rs i no_run).«end» ≤ (get_or rs (i + m) no_run).«end»
ends_rise a b rs i zero up h = let e : i + 0 ≡ i = omega arith in rw e (omega arith)
ends_rise a b rs i (suc m) up h =
    let e : i + suc m ≡ suc (i + m) = omega arith in
    let before = ends_rise a b rs i m up (omega arith) in
    let low = starts_after a b rs (i + m) up (omega arith) in
    let more = runs_at a b rs (suc (i + m)) up (omega arith) in
    rw e (omega arith)

module _ (offset lo hi : ℕ) (runs : List Run) (from i : ℕ) (up : RunsRise 0 16777216 runs) (order : from ≤ i) (here : i < length runs) where
  -- a run from the first on ends after the lower bound
  pub ends_ahead : (from < length runs → lo < (get_or runs from no_run).«end» + offset) → lo < (get_or runs i no_run).«end» + offset
  ends_ahead ahead =
      let first = ahead (omega arith) in
      let on : from + (i - from) ≡ i = omega arith in
      let later = ends_rise 0 16777216 runs from (i - from) up (omega arith) in
      let later' : (get_or runs from no_run).«end» ≤ (get_or runs i no_run).«end» = rw on at later in
      omega arith

  -- one run more
  pub span_more : in_span offset lo hi (between from (i + 1) runs) ≡ in_span offset lo hi (between from i runs) ++ spanned offset lo hi (get_or runs i no_run)
  span_more = ap (in_span offset lo hi) (between_more runs from i no_run order here) ∙ span_append offset lo hi (between from i runs) (get_or runs i no_run ∷ []) ∙ ap (λ xs. in_span offset lo hi (between from i runs) ++ xs) (append-nil (spanned offset lo hi (get_or runs i no_run)))

  pub count_more : length (in_span offset lo hi (between from (i + 1) runs)) ≡ length (in_span offset lo hi (between from i runs)) + (span_end offset hi (get_or runs i no_run) - span_start offset lo hi (get_or runs i no_run))
  count_more = ap length span_more ∙ length-append (in_span offset lo hi (between from i runs)) (spanned offset lo hi (get_or runs i no_run)) ∙ ap (λ n. length (in_span offset lo hi (between from i runs)) + n) (length-range_with_len (span_start offset lo hi (get_or runs i no_run)) (span_end offset hi (get_or runs i no_run) - span_start offset lo hi (get_or runs i no_run)))

  pub count_few : length (in_span offset lo hi (between from (i + 1) runs)) ≤ 16777216
  count_few = let n = span_few offset lo hi 0 16777216 (between from (i + 1) runs) (runs_take 0 16777216 (drop from runs) (i + 1 - from) (runs_drop 0 16777216 runs from up)) (omega arith) in omega arith

  -- the runs after one that ends past the bound have no place below it
  pub span_stops : hi < (get_or runs i no_run).«end» + offset → in_span offset lo hi (drop from runs) ≡ in_span offset lo hi (between from (i + 1) runs)
  span_stops far =
      let s : suc i ≡ i + 1 = omega arith in
      let later : RunsRise (get_or runs i no_run).«end» 16777216 (drop (i + 1) runs) = subst (λ k. RunsRise (get_or runs i no_run).«end» 16777216 (drop k runs)) s (runs_after 0 16777216 runs i up here) in
      ap (in_span offset lo hi) (drop_cut runs from (i + 1) (omega arith))
      ∙ span_append offset lo hi (between from (i + 1) runs) (drop (i + 1) runs)
      ∙ ap (λ xs. in_span offset lo hi (between from (i + 1) runs) ++ xs) (span_above offset lo hi (get_or runs i no_run).«end» 16777216 (drop (i + 1) runs) later (omega arith))
      ∙ append-nil (in_span offset lo hi (between from (i + 1) runs))

-- one run more of a list
module _ (offset lo hi : ℕ) (rs : List Run) (i : ℕ) (here : i < length rs) where
  pub span_take_more : in_span offset lo hi (take (i + 1) rs) ≡ in_span offset lo hi (take i rs) ++ spanned offset lo hi (get_or rs i no_run)
  span_take_more = ap (in_span offset lo hi) (take_more rs i no_run here) ∙ span_append offset lo hi (take i rs) (get_or rs i no_run ∷ []) ∙ ap (λ xs. in_span offset lo hi (take i rs) ++ xs) (append-nil (spanned offset lo hi (get_or rs i no_run)))

  pub span_take_count : length (in_span offset lo hi (take (i + 1) rs)) ≡ length (in_span offset lo hi (take i rs)) + (span_end offset hi (get_or rs i no_run) - span_start offset lo hi (get_or rs i no_run))
  span_take_count = ap length span_take_more ∙ length-append (in_span offset lo hi (take i rs)) (spanned offset lo hi (get_or rs i no_run)) ∙ ap (λ n. length (in_span offset lo hi (take i rs)) + n) (length-range_with_len (span_start offset lo hi (get_or rs i no_run)) (span_end offset hi (get_or rs i no_run) - span_start offset lo hi (get_or rs i no_run)))

pub span_take_most : (offset lo hi : ℕ) (rs : List Run) (i : ℕ) → length (in_span offset lo hi (take i rs)) ≤ length (in_span offset lo hi rs)
span_take_most offset lo hi rs i =
    let both : length (in_span offset lo hi rs) ≡ length (in_span offset lo hi (take i rs)) + length (in_span offset lo hi (drop i rs)) = ap (λ xs. length (in_span offset lo hi xs)) (sym (take-append-drop i rs)) ∙ ap length (span_append offset lo hi (take i rs) (drop i rs)) ∙ length-append (in_span offset lo hi (take i rs)) (in_span offset lo hi (drop i rs)) in
    omega arith

-- the run at a place of a list that can be cut
pub span_ok : (offset lo hi base : ℕ) (rs : List Run) (i : ℕ) → AllByRecursion (Spans offset lo hi base) rs → i < length rs → Spans offset lo hi base (get_or rs i no_run)
span_ok offset lo hi base rs i h l = All-get_or (Spans offset lo hi base) rs i no_run l h

-- there is room for its places after those of the runs before it
pub span_room : (offset lo hi : ℕ) (rs : List Run) (i at room : ℕ) → i < length rs → at ≡ length (in_span offset lo hi (take i rs)) → length (in_span offset lo hi rs) ≤ room → at + (span_end offset hi (get_or rs i no_run) - span_start offset lo hi (get_or rs i no_run)) ≤ room
span_room offset lo hi rs i at room l e h = let count = span_take_count offset lo hi rs i l in let most = span_take_most offset lo hi rs (i + 1) in omega arith

-- numbers one after another, less a base
pub counting_less : (base x n : ℕ) → base ≤ x → range_with_len (x - base) n ≡ map (shifted 0 base) (range_with_len x n)
counting_less base x zero h = refl
counting_less base x (suc n) h =
    let e : x - base ≡ shifted 0 base x = omega arith in
    let f : x - base + 1 ≡ x + 1 - base = omega arith in
    ap₂ (λ y ys. y ∷ ys) e (ap (λ b. range_with_len b n) f ∙ counting_less base (x + 1) n (omega arith))

-- a write right after another
pub put_more : {T : Type 0} (out vs ws : List T) (at k : ℕ) → length vs ≡ at → length ws ≡ k → put_mid at k (splice out 0 vs) ws ≡ splice out 0 (vs ++ ws)
put_more out vs ws at k e f =
    let here : 0 + at ≡ at = omega arith in
    let past : drop k (drop at (splice out 0 vs)) ≡ drop (at + length ws) (splice out 0 vs) = drop-drop k at (splice out 0 vs) ∙ ap (λ n. drop (at + n) (splice out 0 vs)) (sym f) in
    ap (λ zs. take at (splice out 0 vs) ++ (ws ++ zs)) past ∙ ap (λ n. splice (splice out 0 vs) n ws) (sym here) ∙ splice_splice out 0 at vs ws e (omega arith)

pub put_rest_more : {T : Type 0} (out vs ws cur part : List T) (at : ℕ) → length vs ≡ at → cur ≡ splice out 0 vs → part ≡ splice (take (length cur - at) (drop at cur)) 0 ws → put_mid at (length cur - at) cur part ≡ splice out 0 (vs ++ ws)
put_rest_more out vs ws cur part at e c p =
    let here : 0 + at ≡ at = omega arith in
    put_rest cur part at
    ∙ ap (λ zs. take at cur ++ zs) (p ∙ ap (λ zs. splice zs 0 ws) (take_rest cur at))
    ∙ splice_part cur at ws
    ∙ ap (λ zs. splice zs at ws) c
    ∙ ap (λ n. splice (splice out 0 vs) n ws) (sym here)
    ∙ splice_splice out 0 at vs ws e (omega arith)

-- less a base they are places of what lies from there on
pub span_inside : (offset lo hi base n : ℕ) (rs : List Run) → AllByRecursion (Spans offset lo hi base) rs → hi ≤ base + n → AllByRecursion (λ p. p < n) (map (shifted 0 base) (in_span offset lo hi rs))
span_inside offset lo hi base n rs h l = All-map (λ p. p < n) (shifted 0 base) (in_span offset lo hi rs) (each rs h)
  where
    each : (rs : List Run) → AllByRecursion (Spans offset lo hi base) rs → AllByRecursion (λ p. shifted 0 base p < n) (in_span offset lo hi rs)
    each [] h = tt
    each (r ∷ rs) h =
        let ordered = h.0.ordered in
        let above = h.0.above in
        All-append (λ p. shifted 0 base p < n) (spanned offset lo hi r) (in_span offset lo hi rs)
        (All-weaker (λ p. (span_start offset lo hi r ≤ p) × (p < span_start offset lo hi r + (span_end offset hi r - span_start offset lo hi r))) (λ p. shifted 0 base p < n) (λ p k. omega arith) (spanned offset lo hi r) (rising_all (span_start offset lo hi r) (span_start offset lo hi r + (span_end offset hi r - span_start offset lo hi r)) (spanned offset lo hi r) (rising_counting (span_start offset lo hi r) (span_end offset hi r - span_start offset lo hi r) (span_start offset lo hi r + (span_end offset hi r - span_start offset lo hi r)) (omega arith))))
        (each rs h.1)

-- room for what is picked is room for the places
pub picked_room : (f : ℕ → ℕ) (xs : List ℕ) (n : ℕ) → length (map f xs) ≤ n → length xs ≤ n
picked_room f xs n h = let same = length-map xs f in omega arith

-- where there is room for all that is picked, there is room for each piece after those before it
pub piece_room : (offset lo hi base : ℕ) (rs : List Run) (i at room : ℕ) → i < length rs → at ≡ length (in_span offset lo hi (take i rs)) → length (map (shifted 0 base) (in_span offset lo hi rs)) ≤ room → at + (span_end offset hi (get_or rs i no_run) - span_start offset lo hi (get_or rs i no_run)) ≤ room
piece_room offset lo hi base rs i at room l e h = span_room offset lo hi rs i at room l e (picked_room (shifted 0 base) (in_span offset lo hi rs) room h)
