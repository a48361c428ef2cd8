-- Positions that make up one run, by their ends.
use Rattle.std.proofs.Common.{◌≡◌, ℕ, zero, suc, ◌+◌, ◌-◌, ◌*◌, ◌/◌, ◌%◌, ◌^◌, ◌<◌, ◌≤◌, min, Bool, true, false, cond, ◌&&◌, ◌||◌, eqb, ltb, ◌⊎◌, List, [], ◌∷◌, map, length, get_or, Some, None, Ok, filter, Option, sym, refl, ap, ◌∙◌, subst, ap₂, inl, inr, ⊎_elim, lt_of_lt_of_le, add-zero, pow-suc, arith, pow_mono}
use lib.Arith.{lt-one}
use lib.Count.{ones, count_leading_zeros, count_trailing_zeros, leading_top}
use Rattle.std.specs.List.{range_with_len, slice_get, AllByRecursion}
use Rattle.std.proofs.lemmas.Nat.{div_below, le-div}
use Rattle.std.proofs.lemmas.List.{get_or-map, length-map}
use Rattle.std.proofs.lemmas.List.FromFn.{length-range_with_len}
use Rattle.std.proofs.lemmas.Option.{get_or_from_slice_get, slice_get-get_or, slice_get_within}
use Rattle.std.proofs.ByRecursion.{All-weaker}
use Rattle.std.proofs.lemmas.Bool.{cases_eq, cases_lt, eq-eqb, ne_eqb, lt-ltb, le-ltb}
use Rattle.std.proofs.lemmas.Bool.Decides.{nat_tests}
use Rattle.selection.specs.declared.selections.Run.{Run}
use Rattle.selection.specs.declared.ranges.Ends.{Ends}
use Rattle.selection.specs.declared.windows.Window.{Window}
use Rattle.selection.specs.Refusals.{answered, when}
use Rattle.selection.specs.Selected.{Rising, RunsRise, among, bit_of, covered, number_of_bits, in_run, long, no_run, range, runs_fault, window_bit, word_of}
use Rattle.selection.specs.declared.refusals.Refusal.{Refusal}
use Rattle.selection.specs.Items.{listed_fault, listed_positions}
use Rattle.selection.specs.Ranges.{Ended, EndsIn, OneRun, in_turn, run_of}
use Rattle.selection.proofs.Bits.{bit_above, bit_from, bit_none, bit_shift, from_lt, ones_from, tally, tally_more, tally_none, tally_split}
use Rattle.selection.proofs.Fields.{bits_window, word_bits}
use Rattle.selection.proofs.Listed.{nothing_kept, runs_rise}
use Rattle.selection.proofs.Objections.{answered_ok, answered_value, none_each, ok_answered}
use Rattle.selection.proofs.Rising.{rising_above, rising_below, rising_counting, rising_full, rising_kept, rising_length}

-- numbers in turn are a count
turn_counting : (n a : ℕ) → in_turn a (range_with_len a n) ≡ true
turn_counting zero a = refl
turn_counting (suc n) a = let e : eqb a a ≡ true = eq-eqb a a refl in rw e (turn_counting n (a + 1))

counting_turn : (a : ℕ) (xs : List ℕ) → in_turn a xs ≡ true → xs ≡ range_with_len a (length xs)
counting_turn a [] h = refl
counting_turn a (x ∷ xs) h = go (counting_turn (a + 1) xs) (cases_eq x a)
  where
    go : (in_turn (a + 1) xs ≡ true → xs ≡ range_with_len (a + 1) (length xs)) → (x ≡ a) ⊎ (x ≡ a → ⊥) → x ∷ xs ≡ range_with_len a (suc (length xs))
    go rest (inl e) = let yes' : eqb x a ≡ true = eq-eqb x a e in ap₂ (λ (y : ℕ) (ys : List ℕ). y ∷ ys) e (rest (rw yes' at h))
    go rest (inr e) = let no' : eqb x a ≡ false = ne_eqb x a e in let z : false ≡ true = rw no' at h in absurd (let o : ◌≡◌ {A = ℕ} 0 1 = cc in omega arith)

pub run_of_counting : (a n : ℕ) → 0 < n → run_of (range_with_len a n) ≡ Some (record { start = a; «end» = a + n })
unfolding run_of
run_of_counting a zero h = absurd (omega arith)
run_of_counting a (suc n) h =
    let size : a + suc (length (range_with_len (a + 1) n)) ≡ a + suc n = let l = length-range_with_len (a + 1) n in omega arith in
    rw (turn_counting n (a + 1), size) refl

-- the law of run_of
pub one_run : (ps : List ℕ) → OneRun ps (run_of ps)
unfolding run_of
one_run [] = λ r l e. absurd (let s = ap length e in let n = length-range_with_len r.start (r.«end» - r.start) in omega arith)
one_run (p ∷ ps) = go (in_turn (p + 1) ps) refl
  where
    go : (b : Bool) → in_turn (p + 1) ps ≡ b → OneRun (p ∷ ps) (when b (record { start = p; «end» = p + length (p ∷ ps) }))
    go true e =
        let size : suc (length ps) ≡ p + suc (length ps) - p = omega arith in
        (omega arith, ap (λ xs. p ∷ xs) (counting_turn (p + 1) ps e) ∙ ap (range_with_len p) size)
    go false e = λ r l same. absurd (never r l same)
      where
        never : (r : Run) → r.start < r.«end» → p ∷ ps ≡ range r → ⊥
        never r l same =
            let n : ℕ = r.«end» - r.start - 1 in
            let more : r.«end» - r.start ≡ suc n = omega arith in
            let shape : p ∷ ps ≡ r.start ∷ range_with_len (r.start + 1) n = same ∙ ap (range_with_len r.start) more in
            let first : p ≡ r.start = cc in
            let rest : ps ≡ range_with_len (r.start + 1) n = cc in
            let turn : in_turn (p + 1) ps ≡ true = ap₂ (λ x xs. in_turn (x + 1) xs) first rest ∙ turn_counting n (r.start + 1) in
            let z : ◌≡◌ {A = Bool} false true = sym e ∙ turn in
            let o : ◌≡◌ {A = ℕ} 0 1 = cc in
            omega arith

-- what is kept is among the kept
among_kept : (q : ℕ → Bool) (n a k : ℕ) → q k ≡ true → a ≤ k → k < a + n → among k (filter q (range_with_len a n)) ≡ true
among_kept q zero a k h l m = absurd (omega arith)
among_kept q (suc n) a k h l m = ⊎_elim here (later (among_kept q n (a + 1) k h)) (cases_eq a k)
  where
    here : a ≡ k → among k (filter q (range_with_len a (suc n))) ≡ true
    here e = let yes' : q a ≡ true = ap q e ∙ h in let t : eqb a k ≡ true = eq-eqb a k e in rw (yes', t) refl

    or_true : (b : Bool) → (b || true) ≡ true
    or_true true = refl
    or_true false = refl

    later : (a + 1 ≤ k → k < a + 1 + n → among k (filter q (range_with_len (a + 1) n)) ≡ true) → (a ≡ k → ⊥) → among k (filter q (range_with_len a (suc n))) ≡ true
    later rest e = go (q a) (rest (omega arith) (omega arith))
      where
        go : (b : Bool) → among k (filter q (range_with_len (a + 1) n)) ≡ true → among k (cond b (a ∷ filter q (range_with_len (a + 1) n)) (filter q (range_with_len (a + 1) n))) ≡ true
        go true r = rw r (or_true (eqb a k))
        go false r = r

among_within : (a n k : ℕ) → among k (range_with_len a n) ≡ true → (a ≤ k) × (k < a + n)
among_within a zero k h = absurd (let o : ◌≡◌ {A = ℕ} 0 1 = cc in omega arith)
among_within a (suc n) k h = go (among_within (a + 1) n k) (cases_eq a k)
  where
    go : (among k (range_with_len (a + 1) n) ≡ true → (a + 1 ≤ k) × (k < a + 1 + n)) → (a ≡ k) ⊎ (a ≡ k → ⊥) → (a ≤ k) × (k < a + suc n)
    go rest (inl e) = (omega arith, omega arith)
    go rest (inr e) = let no' : eqb a k ≡ false = ne_eqb a k e in let r = rest (rw no' at h) in (omega arith, omega arith)

kept_all : (q : ℕ → Bool) (n a b : ℕ) → EndsIn q n a b → (i m : ℕ) → i + m ≤ n → AllByRecursion (λ k. (a ≤ k) × (k < b)) (filter q (range_with_len i m))
kept_all q n a b h i zero l = tt
kept_all q n a b h i (suc m) l = go (q i) refl (kept_all q n a b h (i + 1) m (omega arith))
  where
    clash : {X : Type 0} → q i ≡ true → q i ≡ false → X
    clash e f = absurd (let o : ◌≡◌ {A = ℕ} 0 1 = cc in omega arith)

    within : q i ≡ true → (a ≤ i) × (i < b)
    within e = (⊎_elim (λ g. clash e (h.below i g)) (λ g. g) (cases_lt i a), ⊎_elim (λ g. g) (λ g. clash e (h.above i g (omega arith))) (cases_lt i b))

    go : (t : Bool) → q i ≡ t → AllByRecursion (λ k. (a ≤ k) × (k < b)) (filter q (range_with_len (i + 1) m)) → AllByRecursion (λ k. (a ≤ k) × (k < b)) (cond t (i ∷ filter q (range_with_len (i + 1) m)) (filter q (range_with_len (i + 1) m)))
    go true e r = (within e, r)
    go false e r = r

-- kept numbers lie between the ends
kept_between : (q : ℕ → Bool) (n a b : ℕ) → EndsIn q n a b → Rising a b (filter q (range_with_len 0 n))
kept_between q n a b h =
    let ps = filter q (range_with_len 0 n) in
    let up : Rising 0 n ps = rising_kept q 0 n (range_with_len 0 n) (rising_counting 0 n n (omega arith)) in
    let each : AllByRecursion (λ k. (a ≤ k) × (k < b)) ps = kept_all q n a b h 0 n (omega arith) in
    rising_above 0 b a ps (rising_below 0 n b ps up (All-weaker (λ k. (a ≤ k) × (k < b)) (λ k. k < b) (λ k l. l.1) ps each)) (All-weaker (λ k. (a ≤ k) × (k < b)) (λ k. a ≤ k) (λ k l. l.0) ps each)

pub run_of_none : (xs : List ℕ) → length xs ≡ 0 → run_of xs ≡ None
unfolding run_of
run_of_none [] e = refl
run_of_none (x ∷ xs) e = absurd (omega arith)

-- the run by the ends
pub run_by_ends : (q : ℕ → Bool) (n c a b : ℕ) → Ended q n c a b → when (ltb 0 c && eqb (b - a) c) (record { start = a; «end» = b }) ≡ run_of (filter q (range_with_len 0 n))
run_by_ends q n c a b h = ⊎_elim some none (cases_lt 0 c)
  where
    ps : List ℕ
    ps = filter q (range_with_len 0 n)

    none : c ≤ 0 → when (ltb 0 c && eqb (b - a) c) (record { start = a; «end» = b }) ≡ run_of ps
    none l = let t : ltb 0 c ≡ false = le-ltb 0 c l in let e = h.counted in rw t (sym (run_of_none ps (omega arith)))

    some : 0 < c → when (ltb 0 c && eqb (b - a) c) (record { start = a; «end» = b }) ≡ run_of ps
    some l = let t : ltb 0 c ≡ true = lt-ltb 0 c l in rw t (⊎_elim whole parted (cases_eq (b - a) c))
      where
        ends : EndsIn q n a b
        ends = h.ends l

        up : Rising a b ps
        up = kept_between q n a b ends

        whole : b - a ≡ c → when (eqb (b - a) c) (record { start = a; «end» = b }) ≡ run_of ps
        whole e =
            let o = ends.order in
            let all : ps ≡ range_with_len a c = rising_full c a b ps (omega arith) up (sym h.counted) in
            let end : a + c ≡ b = omega arith in
            let yes' : eqb (b - a) c ≡ true = eq-eqb (b - a) c e in
            rw yes' (sym (ap run_of all ∙ run_of_counting a c l ∙ ap (λ m. Some (record { start = a; «end» = m })) end))

        parted : (b - a ≡ c → ⊥) → when (eqb (b - a) c) (record { start = a; «end» = b }) ≡ run_of ps
        parted e = let no' : eqb (b - a) c ≡ false = ne_eqb (b - a) c e in rw no' (go (run_of ps) (one_run ps))
          where
            go : (o : Option Run) → OneRun ps o → None ≡ o
            go None g = refl
            go (Some r) g =
                let o = ends.order in
                let i = ends.inside in
                let same = g.1 in
                let long = g.0 in
                let m : ℕ = r.«end» - r.start in
                let size : c ≡ m = h.counted ∙ ap length same ∙ length-range_with_len r.start m in
                let f = among_within r.start m a (ap (among a) (sym same) ∙ among_kept q n 0 a ends.first (omega arith) (omega arith)) in
                let z = among_within r.start m (b - 1) (ap (among (b - 1)) (sym same) ∙ among_kept q n 0 (b - 1) ends.last (omega arith) (omega arith)) in
                let most = rising_length a b ps up in
                let count = h.counted in
                absurd (e (omega arith))

-- the lowest set bit
pub trailing_bit : (k w : ℕ) → 0 < w → w < 2 ^ k → (bit_of w (count_trailing_zeros k w) ≡ true) × ((j : ℕ) → j < count_trailing_zeros k w → bit_of w j ≡ false)
unfolding count_trailing_zeros
trailing_bit zero w p h = let z : w ≡ 0 = lt-one h in absurd (omega arith)
trailing_bit (suc k) w p h = go (w % 2) refl (omega arith) (trailing_bit k (w / 2))
  where
    one : w / 2 ^ 0 ≡ w
    one = omega arith

    next : (j : ℕ) → bit_of (w / 2) j ≡ bit_of w (suc j)
    next j = let e : 1 + j ≡ suc j = omega arith in bit_shift w 1 j ∙ ap (bit_of w) e

    go : (d : ℕ) → w % 2 ≡ d → d < 2 → (0 < w / 2 → w / 2 < 2 ^ k → (bit_of (w / 2) (count_trailing_zeros k (w / 2)) ≡ true) × ((j : ℕ) → j < count_trailing_zeros k (w / 2) → bit_of (w / 2) j ≡ false)) → (bit_of w (count_trailing_zeros (suc k) w) ≡ true) × ((j : ℕ) → j < count_trailing_zeros (suc k) w → bit_of w j ≡ false)
    go zero e l rest =
        let r = rest (omega arith) (omega (arith, pow-suc 2 k)) in
        rw e (sym (next (count_trailing_zeros k (w / 2))) ∙ r.0, below e r.1)
      where
        below : w % 2 ≡ 0 → ((j : ℕ) → j < count_trailing_zeros k (w / 2) → bit_of (w / 2) j ≡ false) → (j : ℕ) → j < suc (count_trailing_zeros k (w / 2)) → bit_of w j ≡ false
        below e r zero g = ap (λ x. eqb (x % 2) 1) one ∙ ap (λ x. eqb x 1) e
        below e r (suc j) g = sym (next j) ∙ r j (omega arith)
    go (suc zero) e l rest = rw e (ap (λ x. eqb (x % 2) 1) one ∙ ap (λ x. eqb x 1) e, λ j g. absurd (omega arith))
    go (suc (suc d)) e l rest = absurd (omega arith)

-- the highest set bit
pub leading_bit : (w : ℕ) → 0 < w → w < 2 ^ 64 → (count_leading_zeros 64 w < 64) × (bit_of w (63 - count_leading_zeros 64 w) ≡ true) × ((j : ℕ) → 64 - count_leading_zeros 64 w ≤ j → bit_of w j ≡ false)
leading_bit w p h =
    let t = leading_top 64 w p h in
    let j = t.0 in
    let size = t.1 in
    let top : 63 - count_leading_zeros 64 w ≡ j = omega arith in
    let past : 64 - count_leading_zeros 64 w ≡ suc j = omega arith in
    let one : w / 2 ^ j ≡ 1 = top_one w (2 ^ j) t.2 (let u : w < 2 ^ suc j = t.3 in omega (arith, pow-suc 2 j)) in
    (omega arith, ap (bit_of w) top ∙ ap (λ x. eqb (x % 2) 1) one, λ i l. bit_above w (suc j) i t.3 (omega arith))
  where
    top_one : (w p : ℕ) → p ≤ w → w < 2 * p → w / p ≡ 1
    top_one w p l g = let a = le-div 1 w p (omega arith) (omega arith) in let b = div_below w p 2 (omega arith) g in omega arith

-- no bit is set where none is counted
tally_clear : (q : ℕ → Bool) (n j : ℕ) → tally q n ≡ 0 → j < n → q j ≡ false
tally_clear q zero j e l = absurd (omega arith)
tally_clear q (suc n) j e l = go (q n) refl (tally_clear q n j) (sym (tally_more q n) ∙ e) (cases_eq j n)
  where
    go : (t : Bool) → q n ≡ t → (tally q n ≡ 0 → j < n → q j ≡ false) → tally q n + cond t 1 0 ≡ 0 → (j ≡ n) ⊎ (j ≡ n → ⊥) → q j ≡ false
    go true f rest g at = absurd (omega arith)
    go false f rest g (inl at) = ap q at ∙ f
    go false f rest g (inr at) = rest (omega arith) (omega arith)

-- a word that has no set bit
pub ended_none : (q : ℕ → Bool) (m n c a b w : ℕ) → Ended q m c a b → w ≡ number_of_bits (λ j. q (m + j)) n → w ≡ 0 → Ended q (m + n) c a b
ended_none q m n c a b w h e z =
    record {
      counted = h.counted ∙ sym (tally_split q m n ∙ ap (λ t. tally q m + t) (tally_none (λ j. q (m + j)) n clear) ∙ add-zero (tally q m));
      order = h.order;
      ends = λ l. let g = h.ends l in let i = g.inside in record {
        order = g.order;
        inside = omega arith;
        first = g.first;
        last = g.last;
        below = g.below;
        above = λ j f o. ⊎_elim (λ k. g.above j f k) (λ k. past j k o) (cases_lt j m);
      };
    }
  where
    clear : (j : ℕ) → j < n → q (m + j) ≡ false
    clear j l = sym (bit_from (λ j. q (m + j)) n j l) ∙ ap (λ x. bit_of x j) (sym e ∙ z) ∙ bit_none j

    past : (j : ℕ) → m ≤ j → j < m + n → q j ≡ false
    past j k o = let at : m + (j - m) ≡ j = omega arith in ap q (sym at) ∙ clear (j - m) (omega arith)

-- a word that has one
module _ (q : ℕ → Bool) (m n c a b w : ℕ) (h : Ended q m c a b) (few : n ≤ 64) (is : w ≡ number_of_bits (λ j. q (m + j)) n) (some : 0 < w) where
  small : w < 2 ^ n
  small = subst (λ x. x < 2 ^ n) (sym is) (from_lt (λ j. q (m + j)) n)

  whole : w < 2 ^ 64
  whole = lt_of_lt_of_le small (pow_mono few)

  -- its bits
  bits : (j : ℕ) → j < n → q (m + j) ≡ bit_of w j
  bits j l = sym (bit_from (λ j. q (m + j)) n j l) ∙ ap (λ x. bit_of x j) (sym is)

  set_within : (j : ℕ) → bit_of w j ≡ true → j < n
  set_within j e = ⊎_elim (λ l. l) (λ l. absurd (let f = bit_above w n j small l in let o : ◌≡◌ {A = ℕ} 0 1 = cc in omega arith)) (cases_lt j n)

  clear_within : (j : ℕ) → m ≤ j → j < m + n → bit_of w (j - m) ≡ false → q j ≡ false
  clear_within j l k e = let at : m + (j - m) ≡ j = omega arith in ap q (sym at) ∙ bits (j - m) (omega arith) ∙ e

  abbrev low : ℕ
  low = count_trailing_zeros 64 w

  abbrev high : ℕ
  high = 64 - count_leading_zeros 64 w

  low_is : (bit_of w low ≡ true) × ((j : ℕ) → j < low → bit_of w j ≡ false)
  low_is = trailing_bit 64 w some whole

  high_is : (count_leading_zeros 64 w < 64) × (bit_of w (63 - count_leading_zeros 64 w) ≡ true) × ((j : ℕ) → 64 - count_leading_zeros 64 w ≤ j → bit_of w j ≡ false)
  high_is = leading_bit w some whole

  low_high : low < high
  low_high = ⊎_elim (λ l. l) (λ l. absurd (let f = high_is.2 low l in let g = low_is.0 in let o : ◌≡◌ {A = ℕ} 0 1 = cc in omega arith)) (cases_lt low high)

  high_in : high ≤ n
  high_in = let k = set_within (63 - count_leading_zeros 64 w) high_is.1 in let z = high_is.0 in omega arith

  ends_with : (from : ℕ) → from < m + high → q from ≡ true → ((j : ℕ) → j < from → q j ≡ false) → EndsIn q (m + n) from (m + high)
  ends_with from l f g = record {
    order = l;
    inside = omega (arith, high_in);
    first = f;
    last = last';
    below = g;
    above = λ j k o. clear_within j (omega arith) o (high_is.2 (j - m) (omega arith));
  }
    where
      last' : q (m + high - 1) ≡ true
      last' =
          let z = high_is.0 in
          let at : m + high - 1 ≡ m + (63 - count_leading_zeros 64 w) = omega arith in
          ap q at ∙ bits (63 - count_leading_zeros 64 w) (set_within (63 - count_leading_zeros 64 w) high_is.1) ∙ high_is.1

  pub ended_word : Ended q (m + n) (c + ones w) (cond (eqb c 0) (m + count_trailing_zeros 64 w) a) (m + (64 - count_leading_zeros 64 w))
  ended_word = ⊎_elim fresh more (cases_eq c 0)
    where
      count : c + ones w ≡ tally q (m + n)
      count = ap₂ (λ x y. x + y) h.counted (ap ones is ∙ ones_from (λ j. q (m + j)) n) ∙ sym (tally_split q m n)

      fresh : c ≡ 0 → Ended q (m + n) (c + ones w) (cond (eqb c 0) (m + count_trailing_zeros 64 w) a) (m + (64 - count_leading_zeros 64 w))
      fresh e =
          let t : eqb c 0 ≡ true = eq-eqb c 0 e in
          let lh = low_high in
          let nothing : tally q m ≡ 0 = sym h.counted ∙ e in
          let first' : q (m + low) ≡ true = bits low (set_within low low_is.0) ∙ low_is.0 in
          let below' : (j : ℕ) → j < m + low → q j ≡ false = λ j l. ⊎_elim (λ k. tally_clear q m j nothing k) (λ k. clear_within j k (let hn = high_in in omega arith) (low_is.1 (j - m) (omega arith))) (cases_lt j m) in
          rw t (record { counted = count; order = omega arith; ends = λ _. ends_with (m + low) (omega arith) first' below' })

      more : (c ≡ 0 → ⊥) → Ended q (m + n) (c + ones w) (cond (eqb c 0) (m + count_trailing_zeros 64 w) a) (m + (64 - count_leading_zeros 64 w))
      more e =
          let t : eqb c 0 ≡ false = ne_eqb c 0 e in
          let g = h.ends (omega arith) in
          let o = g.order in
          let i = g.inside in
          let lh = low_high in
          rw t (record { counted = count; order = omega arith; ends = λ _. ends_with a (omega arith) g.first g.below })

-- the ends of runs
covered_at : (rs : List Run) (k p : ℕ) → k < length rs → in_run p (get_or rs k no_run) ≡ true → covered p rs ≡ true
covered_at [] k p l e = absurd (omega arith)
covered_at (r ∷ rs) zero p l e = rw e refl
covered_at (r ∷ rs) (suc k) p l e = rw (covered_at rs k p (omega arith) e) (or_true (in_run p r))
  where
    or_true : (b : Bool) → (b || true) ≡ true
    or_true true = refl
    or_true false = refl

covered_outside : (lo hi p : ℕ) (rs : List Run) → RunsRise lo hi rs → (p < lo) ⊎ (hi ≤ p) → covered p rs ≡ false
covered_outside lo hi p [] h o = refl
covered_outside lo hi p (r ∷ rs) h o =
    let a = h.0 in
    let b = h.1 in
    let d = h.2 in
    let e : in_run p r ≡ false = ⊎_elim (λ l. outside (inl (omega arith))) (λ l. outside (inr (omega arith))) o in
    rw e (covered_outside r.«end» hi p rs h.3 (⊎_elim (λ l. inl (omega arith)) (λ l. inr l) o))
  where
    outside : (p < r.start) ⊎ (r.«end» ≤ p) → in_run p r ≡ false
    outside (inl l) = grind (arith, nat_tests)
    outside (inr l) = grind (arith, nat_tests)

runs_last : (lo hi : ℕ) (rs : List Run) → RunsRise lo hi rs → 0 < length rs → RunsRise (get_or rs 0 no_run).start (get_or rs (length rs - 1) no_run).«end» rs × ((get_or rs (length rs - 1) no_run).«end» ≤ hi)
runs_last lo hi [] h l = absurd (omega arith)
runs_last lo hi (r ∷ []) h l = ((omega arith, h.1, omega arith, tt), h.2)
runs_last lo hi (r ∷ (s ∷ ss)) h l =
    let t = runs_last r.«end» hi (s ∷ ss) h.3 (omega arith) in
    let back : suc (suc (length ss)) - 1 ≡ suc (length ss) = omega arith in
    let back' : suc (length ss) - 1 ≡ length ss = omega arith in
    let u : RunsRise s.start (get_or (s ∷ ss) (length ss) no_run).«end» (s ∷ ss) × ((get_or (s ∷ ss) (length ss) no_run).«end» ≤ hi) = rw back' at t in
    let v = u.0 in
    let a = v.1 in
    let b = v.2 in
    let gap = h.3.0 in
    rw back ((omega arith, h.1, omega arith, (gap, a, b, v.3)), u.1)

pub run_ends : (n : ℕ) (rs : List Run) → RunsRise 0 n rs → 0 < length rs → EndsIn (λ k. covered k rs) n (get_or rs 0 no_run).start (get_or rs (length rs - 1) no_run).«end»
run_ends n rs h l =
    let t = runs_last 0 n rs h l in
    let up = t.0 in
    let a = get_or rs 0 no_run in
    let z = get_or rs (length rs - 1) no_run in
    let first = runs_at 0 n rs 0 h l in
    let last = runs_at 0 n rs (length rs - 1) h (omega arith) in
    let reach = runs_at a.start z.«end» rs 0 up l in
    let top = t.1 in
    record {
      order = omega arith;
      inside = top;
      first = covered_at rs 0 a.start l (inside a.start a (omega arith) first.1);
      last = covered_at rs (length rs - 1) (z.«end» - 1) (omega arith) (inside (z.«end» - 1) z (omega arith) (omega arith));
      below = λ j k. covered_outside a.start z.«end» j rs up (inl k);
      above = λ j k _. covered_outside a.start z.«end» j rs up (inr k);
    }
  where
    inside : (p : ℕ) (r : Run) → r.start ≤ p → p < r.«end» → in_run p r ≡ true
    inside p r l g = grind (arith, nat_tests)

    runs_at : (lo hi : ℕ) (rs : List Run) (k : ℕ) → RunsRise lo hi rs → k < length rs → (lo ≤ (get_or rs k no_run).start) × ((get_or rs k no_run).start < (get_or rs k no_run).«end») × ((get_or rs k no_run).«end» ≤ hi)
    runs_at lo hi [] k h l = absurd (omega arith)
    runs_at lo hi (r ∷ rs) zero h l = (h.0, h.1, h.2)
    runs_at lo hi (r ∷ rs) (suc k) h l = let a = h.0 in let b = h.1 in let t = runs_at r.«end» hi rs k h.3 (omega arith) in (omega arith, t.1, t.2)

-- nothing is seen yet
pub ended_start : (q : ℕ → Bool) (n : ℕ) → n ≡ 0 → Ended q n 0 0 0
ended_start q n e = record { counted = ap (tally q) (sym e); order = omega arith; ends = λ l. absurd (omega arith) }

-- one word more
pub ended_turn : (q : ℕ → Bool) (m n w : ℕ) (e r : Ends) → Ended q m e.count e.start e.«end» → n ≤ 64 → w ≡ number_of_bits (λ j. q (m + j)) n → r ≡ cond (eqb w 0) e (record { count = e.count + ones w; start = cond (eqb e.count 0) (m + count_trailing_zeros 64 w) e.start; «end» = m + (64 - count_leading_zeros 64 w) }) → Ended q (m + n) r.count r.start r.«end»
ended_turn q m n w e r h few is f = ⊎_elim none some (cases_eq w 0)
  where
    none : w ≡ 0 → Ended q (m + n) r.count r.start r.«end»
    none z = let t : eqb w 0 ≡ true = eq-eqb w 0 z in let same : r ≡ e = rw t at f in subst (λ x. Ended q (m + n) x.count x.start x.«end») (sym same) (ended_none q m n e.count e.start e.«end» w h is z)

    some : (w ≡ 0 → ⊥) → Ended q (m + n) r.count r.start r.«end»
    some z =
        let t : eqb w 0 ≡ false = ne_eqb w 0 z in
        let same : r ≡ record { count = e.count + ones w; start = cond (eqb e.count 0) (m + count_trailing_zeros 64 w) e.start; «end» = m + (64 - count_leading_zeros 64 w) } = rw t at f in
        subst (λ x. Ended q (m + n) x.count x.start x.«end») (sym same) (ended_word q m n e.count e.start e.«end» w h few is (omega arith))

-- the bits of a word of a window
pub window_word : (w : Window) (k : ℕ) → word_of w k ≡ number_of_bits (λ j. window_bit w (64 * k + j)) (min (w.len - 64 * k) 64)
window_word w k = sym (word_bits w k) ∙ bits_window w (64 * k) (w.start + 64 * k) (min (w.len - 64 * k) 64) refl

-- what positions with such ends answer
pub ranged : (e : Option Refusal) (q : ℕ → Bool) (n c a b : ℕ) (o : Option Run) → e ≡ None → Ended q n c a b → o ≡ when (ltb 0 c && eqb (b - a) c) (record { start = a; «end» = b }) → Ok o ≡ answered e (run_of (filter q (range_with_len 0 n)))
ranged e q n c a b o none h f = ap Ok (f ∙ run_by_ends q n c a b h) ∙ ok_answered e (run_of (filter q (range_with_len 0 n))) none

-- and no items, where there is no last
pub ranged_none : {X : Type 0} (f : X → Run) (e : Option Refusal) (n : ℕ) (xs : List X) → e ≡ None → None ≡ slice_get xs (length xs - 1) → Ok None ≡ answered e (run_of (listed_positions n (map f xs)))
ranged_none f e n [] none is = ap Ok (sym (ap run_of (nothing_kept n 0) ∙ run_of_none [] refl)) ∙ ok_answered e _ none
ranged_none {X} f e n (x ∷ xs) none is = let l : length xs < suc (length xs) = omega arith in let s = slice_get-get_or (x ∷ xs) (suc (length xs) - 1) x (omega arith) in absurd (cc)

-- the ends of well formed runs, of which there are some
pub runs_ended : (n : ℕ) (rs : List Run) (c : ℕ) → runs_fault n rs ≡ None → c ≡ length (listed_positions n rs) → 0 < length rs → Ended (λ k. covered k rs) n c (get_or rs 0 no_run).start (get_or rs (length rs - 1) no_run).«end» × ((get_or rs (length rs - 1) no_run).«end» ≤ n)
runs_ended n rs c e is l =
    let ends = run_ends n rs (runs_rise n rs e) l in
    let o = ends.order in
    (record { counted = is; order = omega arith; ends = λ _. ends }, ends.inside)

-- and of well formed items, where this is the last
module _ {X : Type 0} (f : X → Run) (n c : ℕ) (xs : List X) (z : X) (is : Some z ≡ slice_get xs (length xs - 1)) (counted : answered (listed_fault n (map f xs)) (length (listed_positions n (map f xs))) ≡ Ok c) where
  pub items_ended : (a : X) → a ≡ get_or xs 0 a → Ended (λ k. covered k (map f xs)) n c (f a).start (f z).«end» × ((f z).«end» ≤ n)
  items_ended a at =
      let l : length xs - 1 < length xs = slice_get_within xs (length xs - 1) z (sym is) in
      let size = length-map xs f in
      let first : get_or (map f xs) 0 no_run ≡ f a = get_or-map f xs 0 a no_run (omega arith) ∙ ap f (sym at) in
      let last : get_or (map f xs) (length (map f xs) - 1) no_run ≡ f z =
      ap (λ m. get_or (map f xs) (m - 1) no_run) size ∙ get_or-map f xs (length xs - 1) z no_run l ∙ ap f (get_or_from_slice_get xs (length xs - 1) z z (sym is)) in
      let fine = (none_each (long n ∷ runs_fault n (map f xs) ∷ []) (answered_ok _ _ _ counted)).1.0 in
      let ends = runs_ended n (map f xs) c fine (sym (answered_value _ _ _ counted)) (omega arith) in
      rw (← first, ← last) ends
