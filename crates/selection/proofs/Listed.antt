-- Well formed lists pick what they list.
use Rattle.std.proofs.Common.{◌≡◌, ℕ, zero, suc, ◌+◌, ◌-◌, ◌<◌, ◌≤◌, Bool, true, false, ◌&&◌, ◌||◌, eqb, ltb, leb, List, [], ◌∷◌, ◌++◌, map, length, get_or, None, Ok, sum_by, filter, sym, refl, ap, ◌∙◌, subst, ap₂, ⊎_elim, arith, Bor}
use Rattle.std.specs.List.{range_with_len, flat_map, AllByRecursion}
use Rattle.std.proofs.lemmas.Bool.{ne_eqb, eq-eqb, cases_eq, leb-false, ltb-false, lt-ltb, lt-leb, and_right, or_parts}
use Rattle.std.proofs.lemmas.Bool.Decides.{nat_tests}
use Rattle.std.proofs.lemmas.List.{length-append}
use Rattle.std.proofs.lemmas.List.Sums.{sum_by-cons}
use Rattle.std.proofs.lemmas.List.FromFn.{get_or-range_with_len, length-range_with_len}
use Rattle.std.proofs.ByRecursion.{All-weaker, All-get_or}
use Rattle.selection.specs.declared.windows.Window.{Window}
use Rattle.selection.specs.declared.selections.Run.{Run}
use Rattle.selection.specs.declared.refusals.Refusal.TheVariants.{Order, Past}
use Rattle.selection.specs.declared.selections.Selection.TheVariants.{Bitmap, Indices, Runs}
use Rattle.selection.specs.Refusals.{when, first, answered}
use Rattle.selection.specs.Selected.{Rising, RunsRise, range, window_bit, window_fault, among, in_run, covered, index_fault, indices_fault, run_fault, runs_fault, no_run, long, positions, count_of, selection_fault}
use Rattle.selection.specs.Items.{listed_positions, single}
use Rattle.selection.proofs.AsRuns.{single_faults}
use Rattle.selection.proofs.Objections.{none_each, none_of, none_when, none_first, when_none, first_none, ok_answered}
use Rattle.selection.proofs.Rising.{rising_from, rising_within, rising_all, rising_counting, rising_get_d, rising_step}
use Rattle.selection.proofs.Filtered.{kept_same}

among_below : (lo hi k : ℕ) (xs : List ℕ) → Rising lo hi xs → k < lo → among k xs ≡ false
among_below lo hi k [] h l = refl
among_below lo hi k (x ∷ xs) h l = let e : eqb x k ≡ false = ne_eqb x k (λ e. omega arith) in rw e (among_below (suc x) hi k xs h.2 (omega arith))

pub nothing_kept : (n a : ℕ) → filter (λ k. among k []) (range_with_len a n) ≡ []
nothing_kept zero a = refl
nothing_kept (suc n) a = nothing_kept n (a + 1)

-- a number below the others is not asked for again
among_past : (n a x : ℕ) (xs : List ℕ) → x < a → filter (λ k. among k (x ∷ xs)) (range_with_len a n) ≡ filter (λ k. among k xs) (range_with_len a n)
among_past n a x xs l =
    kept_same (λ k. among k (x ∷ xs)) (λ k. among k xs) (range_with_len a n)
    (All-weaker (λ k. (a ≤ k) × (k < a + n)) (λ k. among k (x ∷ xs) ≡ among k xs) (λ k h. let e : eqb x k ≡ false = ne_eqb x k (λ e. omega arith) in rw e refl) (range_with_len a n) (rising_all a (a + n) (range_with_len a n) (rising_counting a n (a + n) (omega arith))))

-- an ascending list is the list of the numbers among it
pub among_rising : (n a : ℕ) (xs : List ℕ) → Rising a (a + n) xs → filter (λ k. among k xs) (range_with_len a n) ≡ xs
among_rising zero a [] h = refl
among_rising zero a (x ∷ xs) h = absurd (omega arith)
among_rising (suc n) a [] h = nothing_kept n (a + 1)
among_rising (suc n) a (x ∷ xs) h = ⊎_elim (at_first (among_rising n (a + 1) xs)) (later (among_rising n (a + 1) (x ∷ xs))) (cases_eq x a)
  where
    at_first : (Rising (a + 1) (a + 1 + n) xs → filter (λ k. among k xs) (range_with_len (a + 1) n) ≡ xs) → x ≡ a → filter (λ k. among k (x ∷ xs)) (range_with_len a (suc n)) ≡ x ∷ xs
    at_first rest e =
        let yes' : eqb x a ≡ true = eq-eqb x a e in
        let tail = among_past n (a + 1) x xs (omega arith) ∙ rest (rising_within (suc x) (a + suc n) (a + 1) (a + 1 + n) xs (omega arith) (omega arith) h.2) in
        rw yes' (ap₂ (λ (y : ℕ) (ys : List ℕ). y ∷ ys) (sym e) tail)

    later : (Rising (a + 1) (a + 1 + n) (x ∷ xs) → filter (λ k. among k (x ∷ xs)) (range_with_len (a + 1) n) ≡ x ∷ xs) → (x ≡ a → ⊥) → filter (λ k. among k (x ∷ xs)) (range_with_len a (suc n)) ≡ x ∷ xs
    later rest e =
        let below : among a (x ∷ xs) ≡ false = among_below (a + 1) (a + suc n) a (x ∷ xs) (omega arith, h.1, h.2) (omega arith) in
        rw below (rest (omega arith, omega arith, rising_within (suc x) (a + suc n) (suc x) (a + 1 + n) xs (omega arith) (omega arith) h.2))

-- no item of an ascending list is faulty
pub index_sound : (n : ℕ) (xs : List ℕ) → Rising 0 n xs → first (index_fault n xs) (range_with_len 0 (length xs)) ≡ None
index_sound n xs h =
    none_first (index_fault n xs) (range_with_len 0 (length xs))
    (All-weaker (λ k. (0 ≤ k) × (k < length xs)) (λ k. index_fault n xs k ≡ None) (λ k l. each k l.1) (range_with_len 0 (length xs)) (rising_all 0 (length xs) (range_with_len 0 (length xs)) (rising_counting 0 (length xs) (length xs) (omega arith))))
  where
    each : (k : ℕ) → k < length xs → index_fault n xs k ≡ None
    each zero l = let r = rising_get_d 0 n xs zero h l in none_of (when (ltb 0 0 && leb (get_or xs 0 0) (get_or xs (0 - 1) 0)) (Order 0) ∷ when (leb n (get_or xs 0 0)) (Past 0) ∷ []) (refl, (none_when _ _ (lt-leb n (get_or xs 0 0) r.1), tt))
    each (suc k) l =
        let r = rising_get_d 0 n xs (suc k) h l in
        let back : suc k - 1 ≡ k = omega arith in
        let s : get_or xs (suc k - 1) 0 < get_or xs (suc k) 0 = rw back (rising_step 0 n xs k h l) in
        none_of (when (ltb 0 (suc k) && leb (get_or xs (suc k) 0) (get_or xs (suc k - 1) 0)) (Order (suc k)) ∷ when (leb n (get_or xs (suc k) 0)) (Past (suc k)) ∷ [])
        (none_when _ _ (and_right (ltb 0 (suc k)) _ (lt-leb (get_or xs (suc k) 0) (get_or xs (suc k - 1) 0) s)), (none_when _ _ (lt-leb n (get_or xs (suc k) 0) r.1), tt))

-- what holds along a count holds at each number
pub at_count : (P : ℕ → Type 0) (n k : ℕ) → AllByRecursion P (range_with_len 0 n) → k < n → P k
at_count P n k h l =
    let size = length-range_with_len 0 n in
    let e : get_or (range_with_len 0 n) k 0 ≡ k = get_or-range_with_len 0 n k 0 l ∙ omega arith in
    subst P e (All-get_or P (range_with_len 0 n) k 0 (omega arith) h)

pub rising_by_places : (lo hi : ℕ) (xs : List ℕ) → (0 < length xs → lo ≤ get_or xs 0 0) → ((k : ℕ) → k < length xs → get_or xs k 0 < hi) → ((k : ℕ) → suc k < length xs → get_or xs k 0 < get_or xs (suc k) 0) → Rising lo hi xs
rising_by_places lo hi [] a b c = tt
rising_by_places lo hi (x ∷ xs) a b c = (a (omega arith), b 0 (omega arith), rising_by_places (suc x) hi xs (λ l. c 0 (omega arith)) (λ k l. b (suc k) (omega arith)) (λ k l. c (suc k) (omega arith)))

among_append : (k : ℕ) (xs ys : List ℕ) → among k (xs ++ ys) ≡ (among k xs || among k ys)
among_append k [] ys = refl
among_append k (x ∷ xs) ys = go (eqb x k) (among_append k xs ys)
  where
    go : (b : Bool) → among k (xs ++ ys) ≡ (among k xs || among k ys) → (b || among k (xs ++ ys)) ≡ ((b || among k xs) || among k ys)
    go true h = refl
    go false h = h

among_count : (n a k : ℕ) → among k (range_with_len a n) ≡ (leb a k && ltb k (a + n))
among_count zero a k = grind (arith, nat_tests)
among_count (suc n) a k = let rest = among_count n (a + 1) k in grind (arith, nat_tests)

covered_ranges : (lo hi k : ℕ) (rs : List Run) → RunsRise lo hi rs → covered k rs ≡ among k (flat_map range rs)
covered_ranges lo hi k [] h = refl
covered_ranges lo hi k (r ∷ rs) h =
    let size : r.start + (r.«end» - r.start) ≡ r.«end» = let s = h.1 in omega arith in
    let one : among k (range r) ≡ in_run k r = among_count (r.«end» - r.start) r.start k ∙ ap (λ m. leb r.start k && ltb k m) size in
    sym (among_append k (range r) (flat_map range rs) ∙ ap₂ (λ x y. x || y) one (sym (covered_ranges r.«end» hi k rs h.3)))

rising_append : (lo mid hi : ℕ) (xs ys : List ℕ) → lo ≤ mid → mid ≤ hi → Rising lo mid xs → Rising mid hi ys → Rising lo hi (xs ++ ys)
rising_append lo mid hi [] ys l k h g = rising_from mid lo hi ys l g
rising_append lo mid hi (x ∷ xs) ys l k h g = (h.0, omega arith, rising_append (suc x) mid hi xs ys (omega arith) k h.2 g)

pub ranges_rise : (lo hi : ℕ) (rs : List Run) → RunsRise lo hi rs → Rising lo hi (flat_map range rs)
ranges_rise lo hi [] h = tt
ranges_rise lo hi (r ∷ rs) h =
    let a = h.0 in
    let b = h.1 in
    rising_append lo r.«end» hi (range r) (flat_map range rs) (omega arith) h.2 (rising_from r.start lo r.«end» (range r) a (rising_counting r.start (r.«end» - r.start) r.«end» (omega arith))) (ranges_rise r.«end» hi rs h.3)

pub runs_pick : (n : ℕ) (rs : List Run) → RunsRise 0 n rs → filter (λ k. covered k rs) (range_with_len 0 n) ≡ flat_map range rs
runs_pick n rs h =
    kept_same (λ k. covered k rs) (λ k. among k (flat_map range rs)) (range_with_len 0 n) (All-weaker (λ k. (0 ≤ k) × (k < n)) (λ k. covered k rs ≡ among k (flat_map range rs)) (λ k _. covered_ranges 0 n k rs h) (range_with_len 0 n) (rising_all 0 n (range_with_len 0 n) (rising_counting 0 n n (omega arith))))
    ∙ among_rising n 0 (flat_map range rs) (rising_within 0 n 0 (0 + n) (flat_map range rs) (omega arith) (omega arith) (ranges_rise 0 n rs h))

runs_by_places : (lo hi : ℕ) (rs : List Run) → (0 < length rs → lo ≤ (get_or rs 0 no_run).start) → ((k : ℕ) → k < length rs → ((get_or rs k no_run).start < (get_or rs k no_run).«end») × ((get_or rs k no_run).«end» ≤ hi)) → ((k : ℕ) → suc k < length rs → (get_or rs k no_run).«end» ≤ (get_or rs (suc k) no_run).start) → RunsRise lo hi rs
runs_by_places lo hi [] a b c = tt
runs_by_places lo hi (r ∷ rs) a b c = (a (omega arith), (b 0 (omega arith)).0, (b 0 (omega arith)).1, runs_by_places r.«end» hi rs (λ l. c 0 (omega arith)) (λ k l. b (suc k) (omega arith)) (λ k l. c (suc k) (omega arith)))

-- runs with no faulty item follow one another below the length
pub runs_rise : (n : ℕ) (rs : List Run) → first (run_fault n rs) (range_with_len 0 (length rs)) ≡ None → RunsRise 0 n rs
runs_rise n rs e = runs_by_places 0 n rs (λ _. omega arith) inside step
  where
    each : (k : ℕ) → k < length rs → run_fault n rs k ≡ None
    each k l = at_count (λ k. run_fault n rs k ≡ None) (length rs) k (first_none (run_fault n rs) (range_with_len 0 (length rs)) e) l

    order : (k : ℕ) → k < length rs → ((ltb 0 k && ltb (get_or rs k no_run).start (get_or rs (k - 1) no_run).«end») ≡ false) × (leb (get_or rs k no_run).«end» (get_or rs k no_run).start ≡ false)
    order k l = or_parts (ltb 0 k && ltb (get_or rs k no_run).start (get_or rs (k - 1) no_run).«end») (leb (get_or rs k no_run).«end» (get_or rs k no_run).start) (when_none _ _ (none_each (when ((ltb 0 k && ltb (get_or rs k no_run).start (get_or rs (k - 1) no_run).«end») || leb (get_or rs k no_run).«end» (get_or rs k no_run).start) (Order k) ∷ when (ltb n (get_or rs k no_run).«end») (Past k) ∷ []) (each k l)).0)

    inside : (k : ℕ) → k < length rs → ((get_or rs k no_run).start < (get_or rs k no_run).«end») × ((get_or rs k no_run).«end» ≤ n)
    inside k l = (leb-false _ _ (order k l).1, ltb-false n _ (when_none _ _ (none_each (when ((ltb 0 k && ltb (get_or rs k no_run).start (get_or rs (k - 1) no_run).«end») || leb (get_or rs k no_run).«end» (get_or rs k no_run).start) (Order k) ∷ when (ltb n (get_or rs k no_run).«end») (Past k) ∷ []) (each k l)).1.0))

    step : (k : ℕ) → suc k < length rs → (get_or rs k no_run).«end» ≤ (get_or rs (suc k) no_run).start
    step k l =
        let h = (order (suc k) l).0 in
        let back : suc k - 1 ≡ k = omega arith in
        let pos : ltb 0 (suc k) ≡ true = lt-ltb 0 (suc k) (omega arith) in
        let test : ltb (get_or rs (suc k) no_run).start (get_or rs k no_run).«end» ≡ false = rw (pos, back) at h in
        ltb-false _ _ test

single_rising : (lo hi : ℕ) (xs : List ℕ) → RunsRise lo hi (map single xs) → Rising lo hi xs
single_rising lo hi [] h = tt
single_rising lo hi (x ∷ xs) h = let most = h.2 in (h.0, omega arith, rising_from (x + 1) (suc x) hi xs (omega arith) (single_rising (x + 1) hi xs h.3))

-- a list with no faulty item ascends below the length
pub index_rises : (n : ℕ) (xs : List ℕ) → first (index_fault n xs) (range_with_len 0 (length xs)) ≡ None → Rising 0 n xs
index_rises n xs e = single_rising 0 n xs (runs_rise n (map single xs) (single_faults n xs ∙ e))

pub indices_pick : (xs : Bor (List ℕ)) (n : ℕ) → indices_fault n xs.now ≡ None → positions (Indices xs n) ≡ xs.now
unfolding positions
indices_pick xs n e = among_rising n 0 xs.now (rising_within 0 n 0 (0 + n) xs.now (omega arith) (omega arith) (index_rises n xs.now e))

pub runs_pick_formed : (rs : Bor (List Run)) (n : ℕ) → runs_fault n rs.now ≡ None → positions (Runs rs n) ≡ flat_map range rs.now
unfolding positions
runs_pick_formed rs n e = runs_pick n rs.now (runs_rise n rs.now e)

-- how many positions a well formed selection has
pub count_window : (w : Window) (n : ℕ) → window_fault w ≡ None → n ≡ length (filter (window_bit w) (range_with_len 0 w.len)) → Ok n ≡ answered (selection_fault (Bitmap w)) (count_of (Bitmap w))
unfolding selection_fault positions
count_window w n e f = ap Ok f ∙ ok_answered _ _ e

pub count_of_indices : (xs : Bor (List ℕ)) (n : ℕ) → selection_fault (Indices xs n) ≡ None → length xs.now ≡ count_of (Indices xs n)
unfolding selection_fault
count_of_indices xs n e = sym (ap length (indices_pick xs n (none_each (long n ∷ indices_fault n xs.now ∷ []) e).1.0))

length_ranges : (rs : List Run) → sum_by (λ r. r.«end» - r.start) rs ≡ length (flat_map range rs)
length_ranges [] = refl
length_ranges (r ∷ rs) =
    let rest = length_ranges rs in
    let one = length-range_with_len r.start (r.«end» - r.start) in
    let both = length-append (range r) (flat_map range rs) in
    sum_by-cons (λ r. r.«end» - r.start) r rs ∙ omega arith

pub count_runs : (n : ℕ) (rs : List Run) → runs_fault n rs ≡ None → sum_by (λ r. r.«end» - r.start) rs ≡ length (listed_positions n rs)
count_runs n rs e = length_ranges rs ∙ sym (ap length (runs_pick n rs (runs_rise n rs e)))

pub runs_wider : (lo hi higher : ℕ) (rs : List Run) → hi ≤ higher → RunsRise lo hi rs → RunsRise lo higher rs
runs_wider lo hi higher [] l up = tt
runs_wider lo hi higher (r ∷ rs) l up = let e = up.2 in (up.0, up.1, omega arith, runs_wider r.«end» hi higher rs l up.3)
