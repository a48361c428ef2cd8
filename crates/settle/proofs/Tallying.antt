-- One more part of the places on a tally.
use Rattle.std.proofs.Common.{◌≡◌, ℕ, zero, suc, ◌+◌, ◌-◌, ◌*◌, ◌/◌, ◌<◌, ◌≤◌, Bool, true, false, leb, ◌⊎◌, List, [], ◌∷◌, ◌++◌, length, is_some, Some, None, Option, sym, refl, ap, ◌∙◌, subst, ap₂, inl, inr, ⊎_elim, arith}
use Rattle.std.specs.List.{range_with_len, AllByRecursion}
use Rattle.std.proofs.lemmas.List.Elements.{filter-append}
use Rattle.std.proofs.ByRecursion.{All-append, All-weaker}
use Rattle.std.proofs.lemmas.List.{append-nil, append_assoc, length-append}
use Rattle.std.proofs.lemmas.Bool.{cases_lt, le-leb, leb-false, lt-leb, ne_eqb}
use Rattle.std.proofs.lemmas.Bool.Decides.{nat_tests}
use Rattle.selection.specs.declared.refusals.Refusal.{Refusal}
use Rattle.selection.specs.declared.refusals.Refusal.TheVariants.{Beyond}
use Rattle.selection.specs.Refusals.{first, or_else, when}
use Rattle.selection.proofs.Objections.{first_none, when_none}
use Rattle.selection.proofs.Rising.{rising_all, rising_counting}
use Rattle.kernels.proofs.Masked.{counting_split}
use Rattle.settle.specs.declared.settle.Tally.{Tally}
use Rattle.settle.specs.declared.settle.Terms.{Terms}
use Rattle.settle.specs.Prices.{chunk_places, price_of_chunk, fee_of, in_chunk, price, sum_below}
use Rattle.settle.specs.Pushes.{past_source}
use Rattle.settle.specs.Tallies.{Tallied, beyond_fault}
use Rattle.settle.proofs.Chunks.{fee_none, none_else, none_kept, only_here}
use Rattle.settle.proofs.Sums.{sum_same}

-- a sum whose later numbers are all 0
sum_wider : (f : ℕ → ℕ) (n k : ℕ) → ((d : ℕ) → n ≤ d → f d ≡ 0) → sum_below f (n + k) ≡ sum_below f n
sum_wider f n zero none = let e : n + 0 ≡ n = omega arith in ap (sum_below f) e
sum_wider f n (suc k) none =
    let e : n + suc k ≡ suc (n + k) = omega arith in
    let before = sum_wider f n k none in
    let last = none (n + k) (omega arith) in
    ap (sum_below f) e ∙ omega arith

price_none : (L n : ℕ) → n ≡ 0 → price L n ≡ 0
price_none L n e = grind (arith, nat_tests)

-- chunks past all places cost nothing
pub fee_wider : (L n m : ℕ) (ps : List ℕ) → AllByRecursion (λ p. p / 1024 < n) ps → n ≤ m → fee_of L m ps ≡ fee_of L n ps
unfolding fee_of
fee_wider L n m ps below l =
    let on : n + (m - n) ≡ m = omega arith in
    ap (sum_below (price_of_chunk L ps)) (sym on) ∙ sum_wider (price_of_chunk L ps) n (m - n) (λ d h. price_none L (length (chunk_places ps d)) (ap length (none_kept (in_chunk d) ps (All-weaker (λ p. p / 1024 < n) (λ p. in_chunk d p ≡ false) (λ p k. ne_eqb (p / 1024) d (λ e. omega arith)) ps below))))

pub fee_next : (L n : ℕ) (ps : List ℕ) → fee_of L (suc n) ps ≡ fee_of L n ps + price L (length (chunk_places ps n))
unfolding fee_of
fee_next L n ps = refl

-- places of one chunk after others
module _ (c : ℕ) (ps ys : List ℕ) (here : AllByRecursion (λ p. p / 1024 ≡ c) ys) where
  count_more : (d : ℕ) → length (chunk_places (ps ++ ys) d) ≡ length (chunk_places ps d) + length (chunk_places ys d)
  count_more d = ap length (filter-append (in_chunk d) ps ys) ∙ length-append (chunk_places ps d) (chunk_places ys d)

  pub count_on : length (chunk_places (ps ++ ys) c) ≡ length (chunk_places ps c) + length ys
  count_on = count_more c ∙ ap (λ zs. length (chunk_places ps c) + length zs) (only_here c ys here)

  -- the chunks before them cost what they did
  pub fee_on : (L : ℕ) → fee_of L c (ps ++ ys) ≡ fee_of L c ps
  unfolding fee_of
  fee_on L = sum_same (price_of_chunk L (ps ++ ys)) (price_of_chunk L ps) c (λ d l. ap (price L) (let more = count_more d in let none : length (chunk_places ys d) ≡ 0 = ap length (none_else c ys here d (λ e. omega arith)) in omega arith))

pub first_append : {X Y : Type 0} (f : X → Option Y) (xs ys : List X) → first f (xs ++ ys) ≡ or_else (first f xs) (first f ys)
first_append f [] ys = refl
first_append f (x ∷ xs) ys = ap (or_else (f x)) (first_append f xs ys) ∙ or_assoc (f x) (first f xs) (first f ys)
  where
    or_assoc : {Y : Type 0} (o p q : Option Y) → or_else o (or_else p q) ≡ or_else (or_else o p) q
    or_assoc None p q = refl
    or_assoc (Some x) p q = refl

-- what places of one chunk raise
past_one : (chunks c : ℕ) (ys : List ℕ) → AllByRecursion (λ p. p / 1024 ≡ c) ys → 0 < length ys → first (past_source chunks) ys ≡ when (leb chunks c) (Beyond c)
past_one chunks c [] here some = absurd (omega arith)
past_one chunks c (y ∷ ys) here some = ap (λ d. or_else (when (leb chunks d) (Beyond d)) (first (past_source chunks) ys)) here.0 ∙ go (leb chunks c) refl
  where
    none : (zs : List ℕ) → AllByRecursion (λ p. p / 1024 ≡ c) zs → leb chunks c ≡ false → first (past_source chunks) zs ≡ None
    none [] all e = refl
    none (z ∷ zs) all e = ap (λ d. or_else (when (leb chunks d) (Beyond d)) (first (past_source chunks) zs)) all.0 ∙ rw e (none zs all.1 e)

    go : (b : Bool) → leb chunks c ≡ b → or_else (when b (Beyond c)) (first (past_source chunks) ys) ≡ when b (Beyond c)
    go true e = refl
    go false e = none ys here.1 e

-- n places of chunk c after those of a tally
module _ (t : Terms) (y : Tally) (ps ys : List ℕ) (c n : ℕ) (h : Tallied t y ps) (here : AllByRecursion (λ p. p / 1024 ≡ c) ys) (size : length ys ≡ n) (ahead : y.chunk ≤ c) where
  earlier : (p : ℕ) → p / 1024 ≤ y.chunk → p / 1024 ≤ c
  earlier p l = omega arith

  pub within_more : AllByRecursion (λ p. p / 1024 ≤ c) (ps ++ ys)
  within_more = All-append (λ p. p / 1024 ≤ c) ps ys (All-weaker (λ p. p / 1024 ≤ y.chunk) (λ p. p / 1024 ≤ c) earlier ps h.within) (All-weaker (λ p. p / 1024 ≡ c) (λ p. p / 1024 ≤ c) (λ p e. omega arith) ys here)

  -- the current chunk goes on
  pub same_chunk : c ≡ y.chunk → (y.fee ≡ fee_of t.limit c (ps ++ ys)) × (y.count + n ≡ length (chunk_places (ps ++ ys) c))
  same_chunk e =
      let cost : y.fee ≡ fee_of t.limit c ps = h.fee ∙ ap (λ d. fee_of t.limit d ps) (sym e) in
      let so_far : y.count ≡ length (chunk_places ps c) = h.count ∙ ap (λ d. length (chunk_places ps d)) (sym e) in
      let on = count_on c ps ys here in
      (cost ∙ sym (fee_on c ps ys here t.limit), omega arith)

  -- another chunk begins
  pub next_chunk : y.chunk < c → (y.fee + price t.limit y.count ≡ fee_of t.limit c (ps ++ ys)) × (0 + n ≡ length (chunk_places (ps ++ ys) c))
  next_chunk l =
      let below : AllByRecursion (λ p. p / 1024 < suc y.chunk) ps = All-weaker (λ p. p / 1024 ≤ y.chunk) (λ p. p / 1024 < suc y.chunk) (λ p k. omega arith) ps h.within in
      let wide = fee_wider t.limit (suc y.chunk) c ps below l in
      let next = fee_next t.limit y.chunk ps in
      let cost = h.fee in
      let last : price t.limit y.count ≡ price t.limit (length (chunk_places ps y.chunk)) = ap (price t.limit) h.count in
      let on = count_on c ps ys here in
      let same = fee_on c ps ys here t.limit in
      let none : length (chunk_places ps c) ≡ 0 = ap length (none_kept (in_chunk c) ps (All-weaker (λ p. p / 1024 ≤ y.chunk) (λ p. in_chunk c p ≡ false) (λ p k. ne_eqb (p / 1024) c (λ e. omega arith)) ps h.within)) in
      (omega arith, omega arith)

  both : 0 < n → first (past_source t.chunks) (ps ++ ys) ≡ or_else (beyond_fault y.beyond) (when (leb t.chunks c) (Beyond c))
  both some = first_append (past_source t.chunks) ps ys ∙ ap₂ or_else h.beyond (past_one t.chunks c ys here (omega arith))

  -- the first place past the source
  pub past_now : 0 < n → y.beyond ≡ None → t.chunks ≤ c → first (past_source t.chunks) (ps ++ ys) ≡ Some (Beyond c)
  past_now some e l = both some ∙ ap₂ (λ o b. or_else (beyond_fault o) (when b (Beyond c))) e (le-leb t.chunks c l)

  -- there is none, or it came before
  pub past_not : 0 < n → c < t.chunks → first (past_source t.chunks) (ps ++ ys) ≡ beyond_fault y.beyond
  past_not some l = both some ∙ ap (λ b. or_else (beyond_fault y.beyond) (when b (Beyond c))) (lt-leb t.chunks c l) ∙ or_none (beyond_fault y.beyond)
    where
      or_none : (o : Option Refusal) → or_else o None ≡ o
      or_none None = refl
      or_none (Some x) = refl

  pub past_still : (o : Option ℕ) → 0 < n → o ≡ y.beyond → is_some o ≡ true → first (past_source t.chunks) (ps ++ ys) ≡ beyond_fault o
  past_still None some e f = let z : ◌≡◌ {A = ℕ} 0 1 = cc in absurd (omega arith)
  past_still (Some b) some e f = both some ∙ ap (λ o. or_else (beyond_fault o) (when (leb t.chunks c) (Beyond c))) (sym e)

  -- the chunk was reached before
  pub past_same : 0 < n → c ≡ y.chunk → 0 < y.count → first (past_source t.chunks) (ps ++ ys) ≡ beyond_fault y.beyond
  past_same some e counted = go y.beyond refl
    where
      none_past : first (past_source t.chunks) ps ≡ None → t.chunks ≤ y.chunk → y.count ≡ 0
      none_past none l = h.count ∙ ap length (none_kept (in_chunk y.chunk) ps (All-weaker (λ p. past_source t.chunks p ≡ None) (λ p. in_chunk y.chunk p ≡ false) (λ p g. let below = leb-false t.chunks (p / 1024) (when_none _ _ g) in ne_eqb (p / 1024) y.chunk (λ k. omega arith)) ps (first_none (past_source t.chunks) ps none)))

      go : (o : Option ℕ) → y.beyond ≡ o → first (past_source t.chunks) (ps ++ ys) ≡ beyond_fault y.beyond
      go None f = ⊎_elim (λ l. past_not some l) (λ l. absurd (let z = none_past (h.beyond ∙ ap beyond_fault f) (omega arith) in omega arith)) (cases_lt c t.chunks)
      go (Some b) f = past_still y.beyond some refl (ap is_some f)

-- a tally at chunk c: the one before if that was its chunk, and else one that counts anew
pub record Turned (L : ℕ) (y : Tally) (c : ℕ) (z : Tally) : Type 0 where
  pub chunk : z.chunk ≡ c
  pub beyond : z.beyond ≡ y.beyond
  pub by : ((c ≡ y.chunk) × (z.fee ≡ y.fee) × (z.count ≡ y.count)) ⊎ ((y.chunk < c) × (z.fee ≡ y.fee + price L y.count) × (z.count ≡ 0))

pub turned_same : (L : ℕ) (y : Tally) (c : ℕ) (z : Tally) → c ≡ y.chunk → z ≡ y → Turned L y c z
turned_same L y c z e f = record { chunk = ap (λ x. x.chunk) f ∙ sym e; beyond = ap (λ x. x.beyond) f; by = inl (e, ap (λ x. x.fee) f, ap (λ x. x.count) f) }

pub turned_next : (L : ℕ) (y : Tally) (c r : ℕ) (z : Tally) → y.chunk ≤ c → (c ≡ y.chunk → ⊥) → r ≡ price L y.count → z ≡ record { fee = y.fee + r; chunk = c; count = 0; beyond = y.beyond } → Turned L y c z
turned_next L y c r z l ne e f = record { chunk = ap (λ x. x.chunk) f; beyond = ap (λ x. x.beyond) f; by = inr (omega arith, ap (λ x. x.fee) f ∙ ap (λ p. y.fee + p) e, ap (λ x. x.count) f) }

pub price_times : (L n : ℕ) → price L n ≤ 1024 * n
price_times L n = grind (arith, nat_tests)

module _ (L : ℕ) (y : Tally) (c n : ℕ) (z : Tally) (turn : Turned L y c z) where
  pub turned_weight : z.fee + 1024 * (z.count + n) ≤ y.fee + 1024 * (y.count + n)
  turned_weight = go turn.by
    where
      go : ((c ≡ y.chunk) × (z.fee ≡ y.fee) × (z.count ≡ y.count)) ⊎ ((y.chunk < c) × (z.fee ≡ y.fee + price L y.count) × (z.count ≡ 0)) → z.fee + 1024 * (z.count + n) ≤ y.fee + 1024 * (y.count + n)
      go (inl e) = let f = e.1 in let k = e.2 in omega arith
      go (inr e) = let f = e.1 in let k = e.2 in let most = price_times L y.count in omega arith

-- the tally with the n places of ys
module _ (t : Terms) (y : Tally) (c n : ℕ) (z : Tally) (turn : Turned t.limit y c z) (ps ys : List ℕ) (h : Tallied t y ps) (here : AllByRecursion (λ p. p / 1024 ≡ c) ys) (size : length ys ≡ n) (ahead : y.chunk ≤ c) where
  turned_sums : (z.fee ≡ fee_of t.limit c (ps ++ ys)) × (z.count + n ≡ length (chunk_places (ps ++ ys) c))
  turned_sums = go turn.by
    where
      go : ((c ≡ y.chunk) × (z.fee ≡ y.fee) × (z.count ≡ y.count)) ⊎ ((y.chunk < c) × (z.fee ≡ y.fee + price t.limit y.count) × (z.count ≡ 0)) → (z.fee ≡ fee_of t.limit c (ps ++ ys)) × (z.count + n ≡ length (chunk_places (ps ++ ys) c))
      go (inl e) = let on = same_chunk t y ps ys c n h here size ahead e.0 in (e.1 ∙ on.0, ap (λ k. k + n) e.2 ∙ on.1)
      go (inr e) = let on = next_chunk t y ps ys c n h here size ahead e.0 in (e.1 ∙ on.0, ap (λ k. k + n) e.2 ∙ on.1)

  pub tallied_more : (o : Option ℕ) → first (past_source t.chunks) (ps ++ ys) ≡ beyond_fault o → Tallied t (record { fee = z.fee; chunk = z.chunk; count = z.count + n; beyond = o }) (ps ++ ys)
  tallied_more o e =
      let sums = turned_sums in
      let at_c = turn.chunk in
      record {
        fee = sums.0 ∙ ap (λ d. fee_of t.limit d (ps ++ ys)) (sym at_c);
        count = sums.1 ∙ ap (λ d. length (chunk_places (ps ++ ys) d)) (sym at_c);
        within = subst (λ d. AllByRecursion (λ p. p / 1024 ≤ d) (ps ++ ys)) (sym at_c) (within_more t y ps ys c n h here size ahead);
        beyond = e;
      }

-- no places yet
pub tallied_none : (t : Terms) → Tallied t (record { fee = 0; chunk = 0; count = 0; beyond = None }) []
tallied_none t = record { fee = sym (fee_none t.limit 0); count = refl; within = tt; beyond = refl }

-- nothing more
pub tallied_still : (t : Terms) (y : Tally) (ps ys : List ℕ) → length ys ≡ 0 → Tallied t y ps → Tallied t y (ps ++ ys)
tallied_still t y ps [] e h = subst (Tallied t y) (sym (append-nil ps)) h
tallied_still t y ps (x ∷ ys) e h = absurd (omega arith)

-- what the places of a tally cost in all
pub tallied_fee : (t : Terms) (y : Tally) (ps : List ℕ) → Tallied t y ps → first (past_source t.chunks) ps ≡ None → y.fee + price t.limit y.count ≡ fee_of t.limit t.chunks ps
tallied_fee t y ps h none = go (cases_lt y.chunk t.chunks)
  where
    inside : AllByRecursion (λ p. p / 1024 < t.chunks) ps
    inside = All-weaker (λ p. past_source t.chunks p ≡ None) (λ p. p / 1024 < t.chunks) (λ p e. leb-false t.chunks (p / 1024) (when_none _ _ e)) ps (first_none (past_source t.chunks) ps none)

    below : AllByRecursion (λ p. p / 1024 < suc y.chunk) ps
    below = All-weaker (λ p. p / 1024 ≤ y.chunk) (λ p. p / 1024 < suc y.chunk) (λ p k. omega arith) ps h.within

    whole : y.fee + price t.limit y.count ≡ fee_of t.limit (suc y.chunk) ps
    whole = ap₂ (λ a b. a + price t.limit b) h.fee h.count ∙ sym (fee_next t.limit y.chunk ps)

    go : (y.chunk < t.chunks) ⊎ (t.chunks ≤ y.chunk) → y.fee + price t.limit y.count ≡ fee_of t.limit t.chunks ps
    go (inl l) = whole ∙ sym (fee_wider t.limit (suc y.chunk) t.chunks ps below l)
    go (inr l) = whole ∙ fee_wider t.limit t.chunks (suc y.chunk) ps inside (omega arith)

-- places one after another
pub counting_on : (a b d : ℕ) → a ≤ b → b ≤ d → range_with_len a (d - a) ≡ range_with_len a (b - a) ++ range_with_len b (d - b)
counting_on a b d h l =
    let n : d - a ≡ (b - a) + (d - b) = omega arith in
    let on : a + (b - a) ≡ b = omega arith in
    ap (range_with_len a) n ∙ counting_split (b - a) (d - b) a ∙ ap (λ x. range_with_len a (b - a) ++ range_with_len x (d - b)) on

pub counting_more : (ps : List ℕ) (a b d : ℕ) → a ≤ b → b ≤ d → ps ++ range_with_len a (d - a) ≡ (ps ++ range_with_len a (b - a)) ++ range_with_len b (d - b)
counting_more ps a b d h l = ap (λ xs. ps ++ xs) (counting_on a b d h l) ∙ sym (append_assoc ps (range_with_len a (b - a)) (range_with_len b (d - b)))

-- those up to the end of a chunk lie in it
pub counting_chunk : (a b c : ℕ) → c ≡ a / 1024 → a ≤ b → b ≤ (c + 1) * 1024 → AllByRecursion (λ p. p / 1024 ≡ c) (range_with_len a (b - a))
counting_chunk a b c e o l = All-weaker (λ p. (a ≤ p) × (p < b)) (λ p. p / 1024 ≡ c) (λ p h. omega arith) (range_with_len a (b - a)) (rising_all a b (range_with_len a (b - a)) (rising_counting a (b - a) b (omega arith)))
