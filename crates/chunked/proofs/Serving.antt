-- Serving places chunk by chunk.
use Rattle.std.proofs.Common.{◌≡◌, ℕ, zero, suc, ◌+◌, ◌-◌, ◌*◌, ◌/◌, ◌<◌, ◌≤◌, Bool, true, false, ltb, List, [], ◌∷◌, ◌++◌, map, length, take, drop, Some, None, filter, Option, sym, refl, ap, ◌∙◌, subst, ap₂, arith}
use Rattle.std.specs.List.{between, AllByRecursion, range_with_len}
use Rattle.std.proofs.ByRecursion.{All-get_or, All-take, All-weaker}
use Rattle.std.proofs.lemmas.List.{length-drop, length-map, length-take, length-take-le, take_all, take_at}
use Rattle.std.proofs.lemmas.List.Edits.{length-between}
use Rattle.std.proofs.lemmas.Bool.{leb-false, ltb-false}
use Rattle.selection.specs.declared.refusals.Refusal.TheVariants.{Output, Spent}
use Rattle.selection.specs.Refusals.{first, or_else, when}
use Rattle.selection.specs.Selected.{Rising}
use Rattle.std.proofs.lemmas.Bool.Decides.{nat_tests}
use Rattle.selection.proofs.Objections.{first_none, none_each, none_when, when_none}
use Rattle.selection.proofs.Filtered.{all_of_map, map_map, map_same}
use Rattle.selection.proofs.Rising.{rising_all, rising_full, rising_length}
use Rattle.kernels.specs.Moved.{Within, gather, shifted, splice}
use Rattle.kernels.proofs.Gathered.{gather_append, gather_part, length_gather, length_splice, splice_none, splice_over, splice_splice}
use Rattle.source.specs.Fetched.{Whole, chunks_of, fetch_fault, holding, place_in, whole_chunk}
use Rattle.source.proofs.Fetches.{admits, whole_below, whole_gathered, whole_length, whole_places}
use Rattle.settle.specs.declared.settle.Terms.{Terms}
use Rattle.settle.specs.Prices.{fee_of, price}
use Rattle.settle.specs.Pushes.{declined, fee, grant_fault, moved, past_source}
use Rattle.chunked.specs.Served.{Servable, Store, compacted, compacts_chunk, last_compacted, last_of, offered, overlaid, serving, storing}
use Rattle.settle.proofs.Settled.{at}
use Rattle.settle.proofs.Chunks.{fee_none}
use Rattle.chunked.proofs.Fetching.{Fetch, splice_part}
use Rattle.chunked.proofs.Cuts.{Cut, Parted, cut_rises, fee_append, fee_cut, fee_one, fee_part, last_append, last_one, take_cut}

-- places in chunks of the source are places of the source
pub places_inside : {T : Type 0} (xs : List T) (ps : List ℕ) → Whole xs → AllByRecursion (λ p. p / 1024 < chunks_of xs) ps → AllByRecursion (λ p. p < length xs) ps
places_inside xs ps whole h = let n = whole.0 in All-weaker (λ p. p / 1024 < chunks_of xs) (λ p. p < length xs) (λ p l. omega arith) ps h

-- what is laid over scratch last hides what was laid there before
over_twice : {T : Type 0} (xs aside : List T) (o : Option ℕ) (p : Option ℕ) → ((c : ℕ) → o ≡ Some c → 1024 * c + 1024 ≤ length xs) → overlaid xs (overlaid xs aside p) o ≡ overlaid xs aside (or_else o p)
over_twice xs aside None p full = refl
over_twice xs aside (Some c) None full = refl
over_twice xs aside (Some c) (Some d) full =
    let l = full c refl in
    let all : length (take 1024 (drop (1024 * c) xs)) ≡ 1024 = simp (length-take, length-drop) (omega arith) in
    let most : length (take 1024 (drop (1024 * d) xs)) ≤ 1024 = simp length-take (omega arith) in
    splice_over aside (take 1024 (drop (1024 * d) xs)) (take 1024 (drop (1024 * c) xs)) (omega arith)

pub length_overlaid : {T : Type 0} (xs aside : List T) (o : Option ℕ) → 1024 ≤ length aside → length (overlaid xs aside o) ≡ length aside
length_overlaid xs aside None h = refl
length_overlaid xs aside (Some c) h =
    let most : length (take 1024 (drop (1024 * c) xs)) ≤ 1024 = simp length-take (omega arith) in
    length_splice aside 0 (take 1024 (drop (1024 * c) xs)) (omega arith)

same_store : {T : Type 0} {xs ys : List T} {a b : ℕ} {o p q r : List T} → xs ≡ ys → a ≡ b → o ≡ p → q ≡ r → storing xs a o q ≡ storing ys b p r
same_store h₁ h₂ h₃ h₄ = cc

-- places of earlier chunks, and then those of one chunk
module _ {T : Type 0} (L : ℕ) (s : Store T) (pos c : ℕ) (xs ys : List ℕ) (earlier : AllByRecursion (λ p. p / 1024 < c) xs) (here : AllByRecursion (λ p. p / 1024 ≡ c) ys) (chunk : c < chunks_of s.readings) (whole : Whole s.readings) (room : pos ≤ length s.output) where
  pub serving_append : serving L (serving L s pos xs) (pos + length xs) ys ≡ serving L s pos (xs ++ ys)
  unfolding serving
  serving_append =
      let n = chunks_of s.readings in
      let cost = fee_append c ys here xs earlier L n in
      let inside = places_inside s.readings xs whole (All-weaker (λ p. p / 1024 < c) (λ p. p / 1024 < n) (λ p l. omega arith) xs earlier) in
      let values = length_gather s.readings xs inside in
      let allowance : s.allowance - fee_of L n xs - fee_of L n ys ≡ s.allowance - fee_of L n (xs ++ ys) = omega arith in
      let output : splice (splice s.output pos (gather s.readings xs)) (pos + length xs) (gather s.readings ys) ≡ splice s.output pos (gather s.readings (xs ++ ys)) =
      splice_splice s.output pos (length xs) (gather s.readings xs) (gather s.readings ys) values room
      ∙ ap (splice s.output pos) (sym (gather_append s.readings xs ys)) in
      let one = last_one c ys here L n chunk in
      let full : (d : ℕ) → last_compacted L n ys ≡ Some d → 1024 * d + 1024 ≤ length s.readings = λ d e. last_full d (sym one ∙ e) in
      let scratch : overlaid s.readings (overlaid s.readings s.scratch (last_compacted L n xs)) (last_compacted L n ys) ≡ overlaid s.readings s.scratch (last_compacted L n (xs ++ ys)) =
      over_twice s.readings s.scratch (last_compacted L n ys) (last_compacted L n xs) full
      ∙ ap (overlaid s.readings s.scratch) (sym (last_append c ys here xs earlier L n)) in
      same_store refl allowance output scratch
    where
      last_full : (d : ℕ) → when (compacted L (length ys)) c ≡ Some d → 1024 * d + 1024 ≤ length s.readings
      last_full d e = go (compacted L (length ys)) e
        where
          go : (b : Bool) → when b c ≡ Some d → 1024 * d + 1024 ≤ length s.readings
          go true e = let same : c ≡ d = cc in let n = whole.0 in omega arith
          go false e = let z : ◌≡◌ {A = ℕ} 0 1 = cc in absurd (omega arith)

-- what serving the places ys of chunk c leaves
pub record Leaves {T : Type 0} (L : ℕ) (s : Store T) (pos c : ℕ) (ys : List ℕ) (xs : List T) (left : ℕ) (out aside : List T) : Type 0 where
  pub kept : xs ≡ s.readings
  pub paid : left ≡ s.allowance - price L (length ys)
  pub wrote : out ≡ splice s.output pos (gather s.readings ys)
  pub laid : aside ≡ overlaid s.readings s.scratch (when (compacted L (length ys)) c)

-- ascending places of one chunk
module _ {T : Type 0} (L : ℕ) (s : Store T) (pos c : ℕ) (ys : List ℕ) (ok : Servable (offered L s pos) c ys) where
  pub part_here : AllByRecursion (λ p. p / 1024 ≡ c) ys
  part_here = All-weaker (λ p. (1024 * c ≤ p) × (p < 1024 * c + 1024)) (λ p. p / 1024 ≡ c) (λ p h. omega arith) ys (rising_all (1024 * c) (1024 * c + 1024) ys ok.rising)

  pub part_most : length ys ≤ 1024
  part_most = let n = rising_length (1024 * c) (1024 * c + 1024) ys ok.rising in omega arith

  -- a chunk's whole price is payable if it has more places than the limit
  whole_payable : L < length ys → 1024 ≤ s.allowance
  whole_payable h = let p = ok.payable in let e : price L (length ys) ≡ 1024 = grind (arith, nat_tests) in omega arith

  pub clear_chunk : (out : List T) → 1024 ≤ length out → L < length ys → fetch_fault (holding s.readings s.allowance out) c whole_chunk ≡ None
  unfolding fetch_fault
  clear_chunk out room h =
      let size = whole_length in
      let enough = whole_payable h in
      admits (chunks_of s.readings) s.allowance (length out) c whole_chunk (record { chunk = ok.chunk; indices = whole_below; places = omega arith; payable = omega arith })

  pub leaves_served : (xs : List T) (left : ℕ) (out aside : List T) → Leaves L s pos c ys xs left out aside → storing xs left out aside ≡ serving L s pos ys
  unfolding serving
  leaves_served xs left out aside h =
      let cost = fee_one c ys part_here L (chunks_of s.readings) ok.chunk in
      let last = last_one c ys part_here L (chunks_of s.readings) ok.chunk in
      same_store h.kept (h.paid ∙ ap (λ m. s.allowance - m) (sym cost)) h.wrote (h.laid ∙ ap (overlaid s.readings s.scratch) (sym last))

  -- all readings of the chunk, straight to the output
  module _ (whole : Whole s.readings) where
    pub straight : (xs : List T) (left : ℕ) (out : List T) → L < length ys → length ys ≡ 1024 → Fetch s.readings xs s.allowance left s.output out pos c whole_chunk → Leaves L s pos c ys xs left out s.scratch
    straight xs left out more all h =
        let size = whole_length in
        let paid = h.paid in
        let same : ys ≡ map (place_in c) whole_chunk = rising_full 1024 (1024 * c) (1024 * c + 1024) ys refl ok.rising all ∙ sym (whole_places c) in
        record {
          kept = h.kept;
          paid = grind (arith, nat_tests);
          wrote = h.wrote ∙ ap (λ ps. splice s.output pos (gather s.readings ps)) (sym same);
          laid = ap (λ o. overlaid s.readings s.scratch o) (sym (none_when (compacted L (length ys)) c (grind (arith, nat_tests))));
        }

-- places that are not moved
pub at_zero : (ys : List ℕ) → at 0 ys ≡ ys
at_zero [] = refl
at_zero (y ∷ ys) = let e : 0 + y ≡ y = omega arith in ap₂ (λ x xs. x ∷ xs) e (at_zero ys)

-- indices of one chunk whose places may be served
module _ {T : Type 0} (L : ℕ) (s : Store T) (pos c : ℕ) (js : List ℕ) (ok : Servable (offered L s pos) c (map (place_in c) js)) (whole : Whole s.readings) where
  count : length (map (place_in c) js) ≡ length js
  count = length-map js (place_in c)

  pub below : AllByRecursion (λ j. j < 1024) js
  below =
      All-weaker (λ j. (1024 * c ≤ place_in c j) × (place_in c j < 1024 * c + 1024)) (λ j. j < 1024) (λ j l. omega arith) js
      (all_of_map (λ p. (1024 * c ≤ p) × (p < 1024 * c + 1024)) (place_in c) js (rising_all (1024 * c) (1024 * c + 1024) (map (place_in c) js) ok.rising))

  pub clear_sparse : (is : List ℕ) → is ≡ js → length js ≤ L → fetch_fault (holding s.readings s.allowance (drop pos s.output)) c is ≡ None
  unfolding fetch_fault
  clear_sparse is e few =
      let n : length is ≡ length js = ap length e in
      let all = count in
      let pay = ok.payable in
      let cost : price L (length (map (place_in c) js)) ≡ length js = grind (arith, nat_tests) in
      let fits = ok.fits in
      admits (chunks_of s.readings) s.allowance (length (drop pos s.output)) c is (record { chunk = ok.chunk; indices = rw e below; places = simp length-drop (omega arith); payable = omega arith })

  -- some readings of the chunk, one by one
  pub sparse : (xs : List T) (left : ℕ) (out : List T) (is : List ℕ) → length js ≤ L → is ≡ js → Fetch s.readings xs s.allowance left s.output out pos c is → Leaves L s pos c (map (place_in c) js) xs left out s.scratch
  sparse xs left out is few e h =
      let n : length is ≡ length js = ap length e in
      let all = count in
      let paid = h.paid in
      record {
        kept = h.kept;
        paid = grind (arith, nat_tests);
        wrote = h.wrote ∙ ap (λ ps. splice s.output pos (gather s.readings (map (place_in c) ps))) e;
        laid = ap (λ o. overlaid s.readings s.scratch o) (sym (none_when (compacted L (length (map (place_in c) js))) c (grind (arith, nat_tests))));
      }

  -- the chunk through scratch
  pub through : (xs : List T) (left : ℕ) (part out aside : List T) → L < length js → (length js ≡ 1024 → ⊥) → Fetch s.readings xs s.allowance left s.scratch aside 0 c whole_chunk → part ≡ splice (drop pos s.output) 0 (gather aside js) → out ≡ take pos s.output ++ part → Leaves L s pos c (map (place_in c) js) xs left out aside
  through xs left part out aside more not-all h e f =
      let all = count in
      let size = whole_length in
      let most = part_most L s pos c (map (place_in c) js) ok in
      let paid = h.paid in
      let chunk = ok.chunk in
      let even = whole.0 in
      let laid : aside ≡ splice s.scratch 0 (take 1024 (drop (1024 * c) s.readings)) = h.wrote ∙ ap (splice s.scratch 0) (whole_gathered s.readings c) in
      let values : gather aside js ≡ gather s.readings (map (place_in c) js) = ap (λ zs. gather zs js) laid ∙ gather_part s.readings s.scratch (1024 * c) 1024 js below (omega arith) in
      let goes : compacted L (length (map (place_in c) js)) ≡ true = grind (arith, nat_tests) in
      record {
        kept = h.kept;
        paid = grind (arith, nat_tests);
        wrote = f ∙ ap (λ zs. take pos s.output ++ zs) (e ∙ ap (splice (drop pos s.output) 0) values) ∙ splice_part s.output pos (gather s.readings (map (place_in c) js));
        laid = laid ∙ ap (λ b. overlaid s.readings s.scratch (when b c)) (sym goes);
      }

-- ascending indices of one chunk at an offset
pub inside : {T : Type 0} (L : ℕ) (s : Store T) (pos c offset : ℕ) (is : List ℕ) → Servable (offered L s pos) c (at offset is) → Whole s.readings → (m : ℕ) → 1024 ≤ m → AllByRecursion (Within offset (c * 1024) m) is
inside L s pos c offset is ok whole m h =
    let chunk = ok.chunk in
    let few = whole.1 in
    All-weaker (λ i. (1024 * c ≤ moved offset i) × (moved offset i < 1024 * c + 1024)) (Within offset (c * 1024) m) (λ i l. record { fits = omega arith; above = omega arith; below = omega arith }) is
    (all_of_map (λ p. (1024 * c ≤ p) × (p < 1024 * c + 1024)) (moved offset) is (rising_all (1024 * c) (1024 * c + 1024) (at offset is) ok.rising))

pub back : (c offset : ℕ) (is : List ℕ) → AllByRecursion (Within offset (c * 1024) 1024) is → map (place_in c) (map (shifted offset (c * 1024)) is) ≡ at offset is
back c offset is h = map_map (place_in c) (shifted offset (c * 1024)) is ∙ map_same (λ i. place_in c (shifted offset (c * 1024) i)) (moved offset) is (All-weaker (Within offset (c * 1024) 1024) (λ i. place_in c (shifted offset (c * 1024) i) ≡ moved offset i) (λ i h. let above = h.above in omega arith) is h)

-- places of one chunk, from their indices there
pub back_plain : (t : Terms) (c : ℕ) (ys : List ℕ) → Servable t c ys → map (place_in c) (map (shifted 0 (c * 1024)) ys) ≡ ys
back_plain t c ys ok =
    map_map (place_in c) (shifted 0 (c * 1024)) ys
    ∙ map_same (λ p. place_in c (shifted 0 (c * 1024) p)) (moved 0) ys (All-weaker (λ p. (1024 * c ≤ p) × (p < 1024 * c + 1024)) (λ p. place_in c (shifted 0 (c * 1024) p) ≡ moved 0 p) (λ p l. omega arith) ys (rising_all (1024 * c) (1024 * c + 1024) ys ok.rising))
    ∙ at_zero ys

-- what was written to the first places of a buffer
pub picked_is : (out before vs : List ℕ) (n : ℕ) → out ≡ splice before 0 vs → length vs ≡ n → take (n - 0) out ≡ vs
picked_is out before vs n e h = let all : length vs ≡ n - 0 = omega arith in ap (take (n - 0)) e ∙ take_at vs (drop (0 + length vs) before) (n - 0) all

-- a filter with places to serve has not written past its output
pub written_within : {T : Type 0} (L : ℕ) (s : Store T) (pos c : ℕ) (ys : List ℕ) → Servable (offered L s pos) c ys → pos + length ys ≤ length s.output
written_within L s pos c ys ok = let a = ok.some in let b = ok.fits in omega arith

-- how far a walk over places has served them: s is where it began, and t where it is
pub record Serves {T : Type 0} (L : ℕ) (s t : Store T) (pos : ℕ) (ps : List ℕ) (i : ℕ) : Type 0 where
  pub within : i ≤ length ps
  pub state : t ≡ serving L s pos (take i ps)
  pub parted : Parted ps i

-- places that nothing stands against
pub record Grants (t : Terms) (ps : List ℕ) : Type 0 where
  pub inside : AllByRecursion (λ p. p / 1024 < t.chunks) ps
  pub fits : length ps ≤ t.free
  pub payable : fee t ps ≤ t.left

pub granted : (t : Terms) (ps : List ℕ) → declined t ps ≡ None → Grants t ps
unfolding declined
granted t ps e =
    let h = none_each (first (past_source t.chunks) ps ∷ grant_fault t (length ps) (fee t ps) ∷ []) e in
    let k = none_each (when (ltb t.free (length ps)) Output ∷ when (ltb t.left (fee t ps)) (Spent (fee t ps)) ∷ []) h.1.0 in
    record {
      inside = All-weaker (λ p. past_source t.chunks p ≡ None) (λ p. p / 1024 < t.chunks) (λ p n. leb-false t.chunks (p / 1024) (when_none _ _ n)) ps (first_none (past_source t.chunks) ps h.0);
      fits = ltb-false t.free (length ps) (when_none _ _ k.0);
      payable = ltb-false t.left (fee t ps) (when_none _ _ k.1.0);
    }

-- nothing served
pub serving_none : {T : Type 0} (L : ℕ) (s : Store T) (pos : ℕ) → s ≡ serving L s pos []
unfolding serving last_compacted
serving_none L s pos =
    let n = chunks_of s.readings in
    let cost = fee_none L n in
    let none : filter (compacts_chunk L []) (range_with_len 0 n) ≡ [] = never n 0 in
    same_store refl (omega arith) (sym (splice_none s.output pos)) (sym (ap (λ cs. overlaid s.readings s.scratch (last_of cs)) none))
  where
    never : (n a : ℕ) → filter (compacts_chunk L []) (range_with_len a n) ≡ []
    never zero a = refl
    never (suc n) a = let no' : compacted L 0 ≡ false = grind (arith, nat_tests) in rw no' (never n (a + 1))

module _ {T : Type 0} (L : ℕ) (s t : Store T) (pos : ℕ) (ps : List ℕ) (i j c lo hi : ℕ) (h : Serves L s t pos ps i) (k : Cut ps i j c) (up : Rising lo hi ps) (ok : Grants (offered L s pos) ps) (whole : Whole s.readings) (room : 1024 ≤ length s.scratch) where
  first_in : AllByRecursion (λ p. p / 1024 < chunks_of s.readings) (take i ps)
  first_in = All-take (λ p. p / 1024 < chunks_of s.readings) i ps ok.inside

  -- the cut's chunk is one of the source's
  pub chunk_in : c < chunks_of s.readings
  chunk_in =
      let m = k.more in
      let w = k.within in
      let low = k.low i (omega arith) m in
      let at_i = All-get_or (λ p. p / 1024 < chunks_of s.readings) ps i 0 (omega arith) ok.inside in
      omega arith

  -- there is room for all places up to the cut's end
  pub room_left : pos + j ≤ length s.output
  room_left = let fits = ok.fits in let w = k.within in let m = k.more in omega arith

  -- what the store that is reached offers
  record Reached : Type 0 where
    pub readings : t.readings ≡ s.readings
    pub left : t.allowance ≡ s.allowance - fee_of L (chunks_of s.readings) (take i ps)
    pub output : length t.output ≡ length s.output
    pub scratch : length t.scratch ≡ length s.scratch

  reached : Reached
  unfolding serving
  reached =
      let w = k.within in
      let m = k.more in
      let n = length-take-le i ps (omega arith) in
      let e = h.state in
      let r = room_left in
      let values = length_gather s.readings (take i ps) (places_inside s.readings (take i ps) whole first_in) in
      record {
        readings = ap (λ x. x.readings) e;
        left = ap (λ x. x.allowance) e;
        output = ap (λ x. length x.output) e ∙ length_splice s.output pos (gather s.readings (take i ps)) (omega arith);
        scratch = ap (λ x. length x.scratch) e ∙ length_overlaid s.readings s.scratch (last_compacted L (chunks_of s.readings) (take i ps)) room;
      }

  pub cut_servable : Servable (offered L t (pos + i)) c (between i j ps)
  cut_servable =
      let o = reached in
      let w = k.within in
      let m = k.more in
      let n = length-between ps i j k.within in
      let r = room_left in
      let cost = fee_cut k L (chunks_of s.readings) chunk_in in
      let part = fee_part L (chunks_of s.readings) lo hi ps j up in
      let pay = ok.payable in
      let same : chunks_of t.readings ≡ chunks_of s.readings = ap chunks_of o.readings in
      let size : price L (length (between i j ps)) ≡ price L (j - i) = ap (price L) n in
      let left = o.left in
      let output = o.output in
      let scratch = o.scratch in
      let inside = chunk_in in
      record { some = omega arith; chunk = omega arith; rising = cut_rises lo hi ps i j c up k; fits = omega arith; payable = omega arith; room = omega arith }

  pub serves_more : (u : Store T) → u ≡ serving L t (pos + i) (between i j ps) → Serves L s u pos ps j
  serves_more u e =
      let m = k.more in
      let w = k.within in
      let n : pos + i ≡ pos + length (take i ps) = let size = length-take-le i ps (omega arith) in omega arith in
      record {
        within = k.within;
        state =
            e
            ∙ ap₂ (λ x p. serving L x p (between i j ps)) h.state n
            ∙ serving_append L s pos c (take i ps) (between i j ps) k.before k.here chunk_in whole (let r = room_left in omega arith)
            ∙ ap (serving L s pos) (sym (take_cut ps i j (omega arith)));
        parted = k.parted;
      }

-- no place more
pub serving_empty : {T : Type 0} (L : ℕ) (s : Store T) (pos : ℕ) (ys : List ℕ) → length ys ≡ 0 → s ≡ serving L s pos ys
serving_empty L s pos [] e = serving_none L s pos
serving_empty L s pos (y ∷ ys) e = absurd (omega arith)

pub serves_still : {T : Type 0} (L : ℕ) (s t u : Store T) (pos : ℕ) (ps ys : List ℕ) (i n : ℕ) → Serves L s t pos ps i → length ys ≡ n → n ≡ 0 → u ≡ serving L t (pos + i) ys → Serves L s u pos ps (i + n)
serves_still L s t u pos ps ys i n h size none e =
    let on : i ≡ i + n = omega arith in
    subst (Serves L s u pos ps) on (record { within = h.within; state = e ∙ sym (serving_empty L t (pos + i) ys (omega arith)) ∙ h.state; parted = h.parted })

pub serves_all : {T : Type 0} (L : ℕ) (s t : Store T) (pos : ℕ) (ps : List ℕ) (i : ℕ) → Serves L s t pos ps i → length ps ≤ i → t ≡ serving L s pos ps
serves_all L s t pos ps i h l = h.state ∙ ap (serving L s pos) (take_all i ps l)
