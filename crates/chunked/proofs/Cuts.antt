-- Ascending places, cut where a chunk ends.
use Rattle.std.proofs.Common.{◌≡◌, ℕ, zero, suc, ◌+◌, ◌-◌, ◌*◌, ◌/◌, ◌<◌, ◌≤◌, Bool, true, false, cond, ◌&&◌, ◌||◌, eqb, ◌⊎◌, List, [], ◌∷◌, ◌++◌, length, get_or, take, drop, Some, None, filter, Option, sym, refl, ap, ◌∙◌, subst, ap₂, inl, inr, ⊎_elim, add_comm, arith, take-add}
use Rattle.std.specs.List.{range_with_len, between, AllByRecursion}
use Rattle.std.proofs.lemmas.List.{drop_at, drop-drop, get_or_append_left, get_or-append_right, get_or-take, length-append, length-take-le, take-append-drop, take_at, get_or-map, length-map, take-map, drop-map}
use Rattle.std.proofs.lemmas.List.Edits.{get_or-between, length-between}
use Rattle.std.proofs.lemmas.List.Elements.{filter-append}
use Rattle.std.proofs.ByRecursion.{All-weaker, All-from_get_or, All-get_or, kept_by_passes}
use Rattle.std.proofs.lemmas.Bool.{eqb-true, cases_eq, cases_lt, eq-eqb, ne_eqb, lt-ltb}
use Rattle.std.proofs.lemmas.Bool.Decides.{nat_tests}
use Rattle.selection.specs.Refusals.{or_else, when}
use Rattle.selection.specs.Selected.{Rising, among}
use Rattle.selection.proofs.Filtered.{kept_same}
use Rattle.selection.proofs.Listed.{among_rising, rising_by_places}
use Rattle.selection.proofs.Rising.{rising_above, rising_all, rising_below, rising_counting, rising_kept, rising_length, rising_step, rising_shifted, rising_get_d}
use Rattle.settle.specs.Prices.{chunk_places, price_of_chunk, fee_of, in_chunk, price}
use Rattle.settle.specs.Pushes.{moved}
use Rattle.chunked.specs.Served.{compacted, compacts_chunk, last_compacted, last_of}
use Rattle.settle.proofs.Sums.{price_mono, sum_add, sum_le, sum_one, sum_same}
use Rattle.settle.proofs.Settled.{at}
use Rattle.settle.proofs.Chunks.{none_else, none_kept, only_here}

-- what stands before place i lies in earlier chunks than what stands there
abbrev pub Parted : List ℕ → ℕ → Type 0
Parted ps i = (k : ℕ) → k < i → i < length ps → get_or ps k 0 / 1024 < get_or ps i 0 / 1024

-- the places from i up to j are those of chunk c, and those before lie in earlier chunks
pub record Cut (ps : List ℕ) (i j c : ℕ) : Type 0 where
  pub more : i < j
  pub within : j ≤ length ps
  pub before : AllByRecursion (λ p. p / 1024 < c) (take i ps)
  pub here : AllByRecursion (λ p. p / 1024 ≡ c) (between i j ps)
  pub low : (k : ℕ) → i ≤ k → k < j → 1024 * c ≤ get_or ps k 0
  pub high : (k : ℕ) → i ≤ k → k < j → get_or ps k 0 < 1024 * c + 1024
  pub parted : Parted ps j

-- later places are higher
rising_later : (lo hi : ℕ) (ps : List ℕ) (i m : ℕ) → Rising lo hi ps → i + m < length ps → get_or ps i 0 ≤ get_or ps (i + m) 0
rising_later lo hi ps i zero up h = let e : i + 0 ≡ i = omega arith in rw e (omega arith)
rising_later lo hi ps i (suc m) up h =
    let e : i + suc m ≡ suc (i + m) = omega arith in
    let before = rising_later lo hi ps i m up (omega arith) in
    let step = rising_step lo hi ps (i + m) up (omega arith) in
    rw e (omega arith)

pub cut : (lo hi : ℕ) (ps : List ℕ) (i j c : ℕ) → Rising lo hi ps → i < length ps → c ≡ get_or ps i 0 / 1024 → Parted ps i → i ≤ j → j ≤ length ps → ((k : ℕ) → i ≤ k → k < j → get_or ps k 0 < 1024 * c + 1024) → (j < length ps → 1024 * c + 1024 ≤ get_or ps j 0) → Cut ps i j c
cut lo hi ps i j c up l e parted more within below above =
    record {
      more = grows (cases_lt i j);
      within = within;
      before = All-from_get_or (λ p. p / 1024 < c) (take i ps) 0 earlier;
      here = All-from_get_or (λ p. p / 1024 ≡ c) (between i j ps) 0 same;
      low = low;
      high = below;
      parted = λ k h in_List. later k h in_List (cases_lt k i);
    }
  where
    low : (k : ℕ) → i ≤ k → k < j → 1024 * c ≤ get_or ps k 0
    low k a b =
        let on : i + (k - i) ≡ k = omega arith in
        let past = rising_later lo hi ps i (k - i) up (omega arith) in
        let past' : get_or ps i 0 ≤ get_or ps k 0 = rw on at past in
        omega arith

    grows : (i < j) ⊎ (j ≤ i) → i < j
    grows (inl h) = h
    grows (inr h) =
        let same : j ≡ i = omega arith in
        let high : j < length ps = omega arith in
        let far = above high in
        let far' : 1024 * c + 1024 ≤ get_or ps i 0 = rw same at far in
        absurd (omega arith)

    earlier : (k : ℕ) → k < length (take i ps) → get_or (take i ps) k 0 / 1024 < c
    earlier k h =
        let size = length-take-le i ps (omega arith) in
        let under : k < i = omega arith in
        let read = get_or-take i ps k 0 under in
        let less = parted k under l in
        rw read (omega arith)

    same : (k : ℕ) → k < length (between i j ps) → get_or (between i j ps) k 0 / 1024 ≡ c
    same k h =
        let size = length-between ps i j within in
        let under : i + k < j = omega arith in
        let read = get_or-between ps i j k 0 under in
        let a = low (i + k) (omega arith) under in
        let b = below (i + k) (omega arith) under in
        rw read (omega arith)

    later : (k : ℕ) → k < j → j < length ps → (k < i) ⊎ (i ≤ k) → get_or ps k 0 / 1024 < get_or ps j 0 / 1024
    later k h in_List (inl a) = let x = parted k a l in let y = above in_List in omega arith
    later k h in_List (inr a) = let x = below k a h in let y = above in_List in omega arith

-- a part from the start
pub between_start : {X : Type 0} (n : ℕ) (xs : List X) → between 0 n xs ≡ take n xs
between_start n xs = let all : n - 0 ≡ n = omega arith in ap (λ m. take m xs) all

module _ {X : Type 0} (ps : List X) (i j : ℕ) (up : i ≤ j) where
  pub take_cut : take j ps ≡ take i ps ++ between i j ps
  take_cut = let on : i + (j - i) ≡ j = omega arith in ap (λ n. take n ps) (sym on) ∙ take-add i (j - i) ps

  pub drop_cut : drop i ps ≡ between i j ps ++ drop j ps
  drop_cut =
      let on : i + (j - i) ≡ j = omega arith in
      sym (take-append-drop (j - i) (drop i ps)) ∙ ap (λ xs. between i j ps ++ xs) (drop-drop (j - i) i ps ∙ ap (λ n. drop n ps) on)

-- places of one chunk
module _ (c : ℕ) (ys : List ℕ) (here : AllByRecursion (λ p. p / 1024 ≡ c) ys) where
  -- how many of them a chunk has
  count_here : (d : ℕ) → length (chunk_places ys d) ≡ cond (eqb c d) (length ys) 0
  count_here d = go (cases_eq c d)
    where
      go : (c ≡ d) ⊎ (c ≡ d → ⊥) → length (chunk_places ys d) ≡ cond (eqb c d) (length ys) 0
      go (inl e) = rw (← e, eq-eqb c c refl) (ap length (only_here c ys here))
      go (inr ne) = rw (ne_eqb c d ne) (ap length (none_else c ys here d ne))

  pub fee_one : (L n : ℕ) → c < n → fee_of L n ys ≡ price L (length ys)
  unfolding fee_of
  fee_one L n l =
      sum_same (price_of_chunk L ys) (λ d. cond (eqb c d) (price L (length ys)) 0) n (λ d _. ap (price L) (count_here d) ∙ priced d)
      ∙ sum_one c (price L (length ys)) n
      ∙ ap (λ b. cond b (price L (length ys)) 0) (lt-ltb c n l)
    where
      priced : (d : ℕ) → price L (cond (eqb c d) (length ys) 0) ≡ cond (eqb c d) (price L (length ys)) 0
      priced d = grind (arith, nat_tests)

  -- places before them
  module _ (xs : List ℕ) (earlier : AllByRecursion (λ p. p / 1024 < c) xs) where
    none_yet : (d : ℕ) → c ≤ d → chunk_places xs d ≡ []
    none_yet d l = none_kept (in_chunk d) xs (All-weaker (λ p. p / 1024 < c) (λ p. in_chunk d p ≡ false) (λ p h. ne_eqb (p / 1024) d (λ e. omega arith)) xs earlier)

    count_both : (d : ℕ) → length (chunk_places (xs ++ ys) d) ≡ length (chunk_places xs d) + length (chunk_places ys d)
    count_both d = ap length (filter-append (in_chunk d) xs ys) ∙ length-append (chunk_places xs d) (chunk_places ys d)

    -- a chunk has places of one of the two only
    apart : (d : ℕ) → (length (chunk_places xs d) ≡ 0) ⊎ (length (chunk_places ys d) ≡ 0)
    apart d = ⊎_elim (λ e. inl (ap length (none_yet d (omega arith)))) (λ ne. inr (ap length (none_else c ys here d ne))) (cases_eq c d)

    pub fee_append : (L n : ℕ) → fee_of L n (xs ++ ys) ≡ fee_of L n xs + fee_of L n ys
    unfolding fee_of
    fee_append L n =
        sum_same (price_of_chunk L (xs ++ ys)) (λ d. price_of_chunk L xs d + price_of_chunk L ys d) n (λ d _. ap (price L) (count_both d) ∙ priced (length (chunk_places xs d)) (length (chunk_places ys d)) (apart d))
        ∙ sum_add (price_of_chunk L xs) (price_of_chunk L ys) n
      where
        priced : (a b : ℕ) → (a ≡ 0) ⊎ (b ≡ 0) → price L (a + b) ≡ price L a + price L b
        priced a b (inl e) = grind (arith, nat_tests)
        priced a b (inr e) = grind (arith, nat_tests)

    -- the chunks that go through scratch, by tests: t is tx before c, and ty from c on
    split_kept : (t tx ty : ℕ → Bool) → ((d : ℕ) → d < c → (t d ≡ tx d) × (ty d ≡ false)) → ((d : ℕ) → c ≤ d → (t d ≡ ty d) × (tx d ≡ false)) → (n a : ℕ) → filter t (range_with_len a n) ≡ filter tx (range_with_len a n) ++ filter ty (range_with_len a n)
    split_kept t tx ty low high zero a = refl
    split_kept t tx ty low high (suc n) a = go (split_kept t tx ty low high n (a + 1)) (cases_lt a c)
      where
        go : filter t (range_with_len (a + 1) n) ≡ filter tx (range_with_len (a + 1) n) ++ filter ty (range_with_len (a + 1) n) → (a < c) ⊎ (c ≤ a) → filter t (range_with_len a (suc n)) ≡ filter tx (range_with_len a (suc n)) ++ filter ty (range_with_len a (suc n))
        go rest (inl l) = rw ((low a l).0, (low a l).1) (one (tx a) rest)
          where
            one : (b : Bool) → filter t (range_with_len (a + 1) n) ≡ filter tx (range_with_len (a + 1) n) ++ filter ty (range_with_len (a + 1) n) → cond b (a ∷ filter t (range_with_len (a + 1) n)) (filter t (range_with_len (a + 1) n)) ≡ cond b (a ∷ filter tx (range_with_len (a + 1) n)) (filter tx (range_with_len (a + 1) n)) ++ filter ty (range_with_len (a + 1) n)
            one true h = ap (λ zs. a ∷ zs) h
            one false h = h
        go rest (inr l) =
            let all = rising_all a (a + suc n) (range_with_len a (suc n)) (rising_counting a (suc n) (a + suc n) (omega arith)) in
            let none = none_kept tx (range_with_len a (suc n)) (All-weaker (λ d. (a ≤ d) × (d < a + suc n)) (λ d. tx d ≡ false) (λ d h. (high d (omega arith)).1) (range_with_len a (suc n)) all) in
            let same = kept_same t ty (range_with_len a (suc n)) (All-weaker (λ d. (a ≤ d) × (d < a + suc n)) (λ d. t d ≡ ty d) (λ d h. (high d (omega arith)).0) (range_with_len a (suc n)) all) in
            same ∙ ap (λ zs. zs ++ filter ty (range_with_len a (suc n))) (sym none)

    pub last_append : (L n : ℕ) → last_compacted L n (xs ++ ys) ≡ or_else (last_compacted L n ys) (last_compacted L n xs)
    unfolding last_compacted
    last_append L n =
        ap last_of (split_kept (compacts_chunk L (xs ++ ys)) (compacts_chunk L xs) (compacts_chunk L ys) low high n 0)
        ∙ last_of_list (filter (compacts_chunk L xs) (range_with_len 0 n)) (filter (compacts_chunk L ys) (range_with_len 0 n))
      where
        empty : compacted L 0 ≡ false
        empty = grind (arith, nat_tests)

        low : (d : ℕ) → d < c → (compacts_chunk L (xs ++ ys) d ≡ compacts_chunk L xs d) × (compacts_chunk L ys d ≡ false)
        low d l =
            let none : length (chunk_places ys d) ≡ 0 = ap length (none_else c ys here d (λ e. omega arith)) in
            let both : length (chunk_places (xs ++ ys) d) ≡ length (chunk_places xs d) = let b = count_both d in omega arith in
            (ap (compacted L) both, ap (compacted L) none ∙ empty)

        high : (d : ℕ) → c ≤ d → (compacts_chunk L (xs ++ ys) d ≡ compacts_chunk L ys d) × (compacts_chunk L xs d ≡ false)
        high d l =
            let none : length (chunk_places xs d) ≡ 0 = ap length (none_yet d l) in
            let both : length (chunk_places (xs ++ ys) d) ≡ length (chunk_places ys d) = let b = count_both d in omega arith in
            (ap (compacted L) both, ap (compacted L) none ∙ empty)

        last_of_list : (as' bs : List ℕ) → last_of (as' ++ bs) ≡ or_else (last_of bs) (last_of as')
        last_of_list [] bs = or_none (last_of bs)
          where
            or_none : (o : Option ℕ) → o ≡ or_else o None
            or_none None = refl
            or_none (Some x) = refl
        last_of_list (a ∷ as') bs = ap (λ o. or_else o (Some a)) (last_of_list as' bs) ∙ or_assoc (last_of bs) (last_of as')
          where
            or_assoc : (o p : Option ℕ) → or_else (or_else o p) (Some a) ≡ or_else o (or_else p (Some a))
            or_assoc None p = refl
            or_assoc (Some x) p = refl

  -- the chunk itself, if it goes through scratch
  pub last_one : (L n : ℕ) → c < n → last_compacted L n ys ≡ when (compacted L (length ys)) c
  unfolding last_compacted
  last_one L n l = ap last_of (kept_same (compacts_chunk L ys) (λ d. eqb c d && compacted L (length ys)) (range_with_len 0 n) (All-weaker (λ d. (0 ≤ d) × (d < n)) (λ d. compacts_chunk L ys d ≡ (eqb c d && compacted L (length ys))) (λ d _. ap (compacted L) (count_here d) ∙ tested d) (range_with_len 0 n) (rising_all 0 n (range_with_len 0 n) (rising_counting 0 n n (omega arith))))) ∙ one (compacted L (length ys))
    where
      tested : (d : ℕ) → compacted L (cond (eqb c d) (length ys) 0) ≡ (eqb c d && compacted L (length ys))
      tested d = grind (arith, nat_tests)

      one : (b : Bool) → last_of (filter (λ d. eqb c d && b) (range_with_len 0 n)) ≡ when b c
      one true = ap last_of (kept_same (λ d. eqb c d && true) (λ d. among d (c ∷ [])) (range_with_len 0 n) (All-weaker (λ d. (0 ≤ d) × (d < n)) (λ d. (eqb c d && true) ≡ among d (c ∷ [])) (λ d _. plain (eqb c d)) (range_with_len 0 n) (rising_all 0 n (range_with_len 0 n) (rising_counting 0 n n (omega arith)))) ∙ among_rising n 0 (c ∷ []) (omega arith, omega arith, tt))
        where
          plain : (b : Bool) → (b && true) ≡ (b || false)
          plain true = refl
          plain false = refl
      one false = ap last_of (none_kept (λ d. eqb c d && false) (range_with_len 0 n) (All-weaker (λ d. (0 ≤ d) × (d < n)) (λ d. (eqb c d && false) ≡ false) (λ d _. never (eqb c d)) (range_with_len 0 n) (rising_all 0 n (range_with_len 0 n) (rising_counting 0 n n (omega arith)))))
        where
          never : (b : Bool) → (b && false) ≡ false
          never true = refl
          never false = refl

module _ {ps : List ℕ} {i j c : ℕ} (k : Cut ps i j c) where
  pub fee_cut : (L n : ℕ) → c < n → fee_of L n (take j ps) ≡ fee_of L n (take i ps) + price L (j - i)
  fee_cut L n l =
      ap (fee_of L n) (take_cut ps i j (let m = k.more in omega arith))
      ∙ fee_append c (between i j ps) k.here (take i ps) k.before L n
      ∙ ap (λ m. fee_of L n (take i ps) + m) (fee_one c (between i j ps) k.here L n l ∙ ap (price L) (length-between ps i j k.within))

-- a chunk has at most 1,024 of ascending places
pub chunk_most : (lo hi : ℕ) (ps : List ℕ) → Rising lo hi ps → (c : ℕ) → length (chunk_places ps c) ≤ 1024
chunk_most lo hi ps h c =
    let ks = chunk_places ps c in
    let r = rising_kept (in_chunk c) lo hi ps h in
    let inside = kept_by_passes (in_chunk c) ps in
    let low = All-weaker _ (λ x. 1024 * c ≤ x) (λ x e. omega (arith, eqb-true (x / 1024) c e)) ks inside in
    let high = All-weaker _ (λ x. x < 1024 * c + 1024) (λ x e. omega (arith, eqb-true (x / 1024) c e)) ks inside in
    let n = rising_length (1024 * c) (1024 * c + 1024) ks (rising_below (1024 * c) hi (1024 * c + 1024) ks (rising_above lo hi (1024 * c) ks r low) high) in
    omega arith

-- the first of ascending places never cost more than all
pub fee_part : (L n lo hi : ℕ) (ps : List ℕ) (j : ℕ) → Rising lo hi ps → fee_of L n (take j ps) ≤ fee_of L n ps
unfolding fee_of
fee_part L n lo hi ps j up =
    sum_le (price_of_chunk L (take j ps)) (price_of_chunk L ps) n (λ d _. price_mono L (length (chunk_places (take j ps) d)) (length (chunk_places ps d)) (fewer d) (chunk_most lo hi ps up d))
  where
    fewer : (d : ℕ) → length (chunk_places (take j ps) d) ≤ length (chunk_places ps d)
    fewer d =
        let both : length (chunk_places ps d) ≡ length (chunk_places (take j ps) d) + length (chunk_places (drop j ps) d) = ap (λ xs. length (chunk_places xs d)) (sym (take-append-drop j ps)) ∙ ap length (filter-append (in_chunk d) (take j ps) (drop j ps)) ∙ length-append (chunk_places (take j ps) d) (chunk_places (drop j ps) d) in
        omega arith

-- the places of a cut ascend within its chunk
pub cut_rises : (lo hi : ℕ) (ps : List ℕ) (i j c : ℕ) → Rising lo hi ps → Cut ps i j c → Rising (1024 * c) (1024 * c + 1024) (between i j ps)
cut_rises lo hi ps i j c up k =
    rising_by_places (1024 * c) (1024 * c + 1024) (between i j ps) (λ h. rw (read 0 h) (k.low (i + 0) (omega arith) (under 0 h))) (λ m h. rw (read m h) (k.high (i + m) (omega arith) (under m h))) step
  where
    under : (m : ℕ) → m < length (between i j ps) → i + m < j
    under m h = let size = length-between ps i j k.within in omega arith

    read : (m : ℕ) → m < length (between i j ps) → get_or (between i j ps) m 0 ≡ get_or ps (i + m) 0
    read m h = get_or-between ps i j m 0 (under m h)

    step : (m : ℕ) → suc m < length (between i j ps) → get_or (between i j ps) m 0 < get_or (between i j ps) (suc m) 0
    step m h =
        let a = read m (omega arith) in
        let b = read (suc m) h in
        let u = under (suc m) h in
        let w = k.within in
        let on : i + suc m ≡ suc (i + m) = omega arith in
        let b' : get_or (between i j ps) (suc m) 0 ≡ get_or ps (suc (i + m)) 0 = rw on at b in
        let s = rising_step lo hi ps (i + m) up (omega arith) in
        rw (a, b') s

-- a list that is put together of places before a chunk, of the chunk, and past it
module _ (xs ys zs : List ℕ) (c : ℕ) (before : AllByRecursion (λ p. p / 1024 < c) xs) (here : AllByRecursion (λ p. p / 1024 ≡ c) ys) (past : AllByRecursion (λ p. c < p / 1024) zs) (some : 0 < length ys) where
  drop_front : drop (length xs) (xs ++ (ys ++ zs)) ≡ ys ++ zs
  drop_front = drop_at xs (ys ++ zs) (length xs) refl

  pub part_of : between (length xs) (length xs + length ys) (xs ++ (ys ++ zs)) ≡ ys
  part_of = let n : length xs + length ys - length xs ≡ length ys = omega arith in ap₂ take n drop_front ∙ take_at ys zs (length ys) refl

  all_long : length (xs ++ (ys ++ zs)) ≡ length xs + (length ys + length zs)
  all_long = length-append xs (ys ++ zs) ∙ ap (λ n. length xs + n) (length-append ys zs)

  in_part : (k : ℕ) → length xs ≤ k → k < length xs + length ys → get_or (xs ++ (ys ++ zs)) k 0 / 1024 ≡ c
  in_part k a b =
      let inside : k - length xs < length ys = omega arith in
      let read : get_or (xs ++ (ys ++ zs)) k 0 ≡ get_or ys (k - length xs) 0 = get_or-append_right xs (ys ++ zs) (length xs) k 0 refl a ∙ get_or_append_left ys zs 0 (k - length xs) inside in
      let e = All-get_or (λ p. p / 1024 ≡ c) ys (k - length xs) 0 inside here in
      omega arith

  pub cut_of : Cut (xs ++ (ys ++ zs)) (length xs) (length xs + length ys) c
  cut_of = record {
    more = omega arith;
    within = let n = all_long in omega arith;
    before = subst (AllByRecursion (λ p. p / 1024 < c)) (sym (take_at xs (ys ++ zs) (length xs) refl)) before;
    here = subst (AllByRecursion (λ p. p / 1024 ≡ c)) (sym part_of) here;
    low = λ k a b. let e = in_part k a b in omega arith;
    high = λ k a b. let e = in_part k a b in omega arith;
    parted = λ k a b. let last = at_end b in let e = up_to k a (cases_lt k (length xs)) in omega arith;
  }
    where
      up_to : (k : ℕ) → k < length xs + length ys → (k < length xs) ⊎ (length xs ≤ k) → get_or (xs ++ (ys ++ zs)) k 0 / 1024 ≤ c
      up_to k a (inl l) =
          let read = get_or_append_left xs (ys ++ zs) 0 k l in
          let e = All-get_or (λ p. p / 1024 < c) xs k 0 l before in
          omega arith
      up_to k a (inr l) = let e = in_part k l a in omega arith

      at_end : length xs + length ys < length (xs ++ (ys ++ zs)) → c < get_or (xs ++ (ys ++ zs)) (length xs + length ys) 0 / 1024
      at_end b =
          let n = all_long in
          let on : length xs + length ys - length xs ≡ length ys = omega arith in
          let none : length ys - length ys ≡ 0 = omega arith in
          let read : get_or (xs ++ (ys ++ zs)) (length xs + length ys) 0 ≡ get_or zs 0 0 =
          get_or-append_right xs (ys ++ zs) (length xs) (length xs + length ys) 0 refl (omega arith)
          ∙ ap (λ k. get_or (ys ++ zs) k 0) on
          ∙ get_or-append_right ys zs (length ys) (length ys) 0 refl (omega arith)
          ∙ ap (λ k. get_or zs k 0) none in
          let e = All-get_or (λ p. c < p / 1024) zs 0 0 (omega arith) past in
          omega arith

-- the places of some indices
module _ (offset : ℕ) (is : List ℕ) where
  pub place_is : (k : ℕ) → k < length is → get_or (at offset is) k 0 ≡ offset + get_or is k 0
  place_is k h = get_or-map (moved offset) is k 0 0 h

  -- the indices of one chunk, found by a walk to the first that is not below the chunk's end
  module _ (up : Rising 0 16777216 is) (small : offset ≤ 1024) where
    pub cut_here : (i j c : ℕ) → i < length is → c ≡ (get_or is i 0 + offset) / 1024 → Parted (at offset is) i → i ≤ j → j ≤ length is → ((k : ℕ) → i ≤ k → k < j → get_or is k 0 < (c + 1) * 1024 - offset) → (j < length is → (c + 1) * 1024 - offset ≤ get_or is j 0) → Cut (at offset is) i j c
    cut_here i j c h e parted more within below past =
        let size = length-map is (moved offset) in
        let first-is = place_is i h in
        cut (offset + 0) (offset + 16777216) (at offset is) i j c (rising_shifted offset 0 16777216 is up) (omega arith) (e ∙ ap (λ p. p / 1024) (add_comm (get_or is i 0) offset ∙ sym first-is)) parted more (omega arith)
        (λ k a b. let read = place_is k (omega arith) in let less = below k a b in omega arith)
        (λ l. let read = place_is j (omega arith) in let less = past (omega arith) in omega arith)

    pub below_limit : (i : ℕ) → i < length is → get_or is i 0 < 16777216
    below_limit i h = (rising_get_d 0 16777216 is i up h).1

-- a part of some indices
pub between_at : (offset : ℕ) (is : List ℕ) (i j : ℕ) → at offset (between i j is) ≡ between i j (at offset is)
between_at offset is i j = sym (ap (take (j - i)) (drop-map (moved offset) i is) ∙ take-map (moved offset) (j - i) (drop i is))
