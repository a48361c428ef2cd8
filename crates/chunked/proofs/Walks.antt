-- How far a delivery has come on its walk over places.
use Rattle.std.proofs.Common.{◌≡◌, ℕ, ◌+◌, ◌-◌, ◌*◌, ◌/◌, ◌<◌, ◌≤◌, List, map, length, get_or, take, drop, None, sym, refl, ap, ◌∙◌, subst, ap₂, arith}
use Rattle.std.specs.List.{between, AllByRecursion}
use Rattle.std.proofs.lemmas.List.{drop-drop, get_or-drop, length-drop, length-map}
use Rattle.std.proofs.lemmas.List.Edits.{length-between}
use Rattle.selection.specs.Selected.{Rising}
use Rattle.selection.proofs.Rising.{rising_shifted}
use Rattle.kernels.specs.Moved.{Within, shifted}
use Rattle.source.specs.Fetched.{Whole, place_in}
use Rattle.settle.specs.Pushes.{declined, moved}
use Rattle.settle.proofs.Settled.{at}
use Rattle.chunked.specs.declared.serve.Delivery.{Delivery}
use Rattle.chunked.specs.Served.{Servable, offered, serving}
use Rattle.chunked.specs.Deliveries.{Delivered, SameRefs, held, offers}
use Rattle.chunked.proofs.Cuts.{Cut, below_limit, between_at, cut_here}
use Rattle.chunked.proofs.Serving.{Serves, back, cut_servable, granted, inside, serves_all, serves_more, serves_still, serving_empty, serving_none}

pub same_more : {D T : Type 0} {d e f : Delivery D T} → SameRefs d e → SameRefs e f → SameRefs d f
same_more h k = record { source = k.source ∙ h.source; output = k.output ∙ h.output; scratch = k.scratch ∙ h.scratch }

-- how far a walk over places has come: d is the delivery as it began, and e as it is
pub record Walk {D T : Type 0} (L : ℕ) (readings : D → List T) (allowance : D → ℕ) (d e : Delivery D T) (ps : List ℕ) (i : ℕ) : Type 0 where
  pub serves : Serves L (held readings allowance d) (held readings allowance e) d.at ps i
  pub at : e.at ≡ d.at + i
  pub same : SameRefs d e

module _ {D T : Type 0} (L : ℕ) (readings : D → List T) (allowance : D → ℕ) (d : Delivery D T) (ps : List ℕ) where
  pub walk_start : Walk L readings allowance d d ps 0
  walk_start = record {
    serves = record { within = omega arith; state = serving_none L (held readings allowance d) d.at; parted = λ k h. absurd (omega arith) };
    at = omega arith;
    same = record { source = refl; output = refl; scratch = refl };
  }

  module _ (e : Delivery D T) (i : ℕ) (h : Walk L readings allowance d e ps i) where
    pub walk_end : length ps ≤ i → Delivered L readings allowance d e ps
    walk_end l =
        let within = h.serves.within in
        let at = h.at in
        record { store = serves_all L _ _ d.at ps i h.serves l; moved = omega arith; same = h.same }

    -- no place more
    pub walk_still : (f : Delivery D T) (ys : List ℕ) (n : ℕ) → length ys ≡ n → n ≡ 0 → Delivered L readings allowance e f ys → Walk L readings allowance d f ps (i + n)
    walk_still f ys n size none g =
        let at = h.at in
        let moved' = g.moved in
        record {
          serves = serves_still L _ _ _ d.at ps ys i n h.serves size none (g.store ∙ ap (λ p. serving L (held readings allowance e) p ys) at);
          at = omega arith;
          same = same_more h.same g.same;
        }

    module _ (j c lo hi : ℕ) (k : Cut ps i j c) (up : Rising lo hi ps) (ok : declined (offers L readings allowance d) ps ≡ None) (whole : Whole (readings d.source.now)) (room : 1024 ≤ length d.scratch.now) where
      pub walk_servable : Servable (offers L readings allowance e) c (between i j ps)
      walk_servable = subst (λ p. Servable (offered L (held readings allowance e) p) c (between i j ps)) (sym h.at) (cut_servable L (held readings allowance d) (held readings allowance e) d.at ps i j c lo hi h.serves k up (granted (offers L readings allowance d) ps ok) whole room)

      pub walk_more : (f : Delivery D T) → Delivered L readings allowance e f (between i j ps) → Walk L readings allowance d f ps j
      walk_more f g =
          let at = h.at in
          let moved' = g.moved in
          let more = k.more in
          let within = k.within in
          let n = length-between ps i j k.within in
          record {
            serves = serves_more L (held readings allowance d) (held readings allowance e) d.at ps i j c lo hi h.serves k up (granted (offers L readings allowance d) ps ok) whole room (held readings allowance f) (g.store ∙ ap (λ p. serving L (held readings allowance e) p (between i j ps)) at);
            at = omega arith;
            same = same_more h.same g.same;
          }

-- no place to serve
pub delivered_none : {D T : Type 0} (L : ℕ) (readings : D → List T) (allowance : D → ℕ) (d : Delivery D T) (ys : List ℕ) → length ys ≡ 0 → Delivered L readings allowance d d ys
delivered_none L readings allowance d ys e = record { store = serving_empty L (held readings allowance d) d.at ys e; moved = omega arith; same = record { source = refl; output = refl; scratch = refl } }

-- the places of the indices before the rest were served
pub record IndexWalk {D T : Type 0} (L : ℕ) (readings : D → List T) (allowance : D → ℕ) (d e : Delivery D T) (offset : ℕ) (is rest : List ℕ) : Type 0 where
  pub walk : Walk L readings allowance d e (at offset is) (length is - length rest)
  pub left : rest ≡ drop (length is - length rest) is
  pub few : length rest ≤ length is

-- what a step of the walk needs, and what it gives
pub record IndexStep {D T : Type 0} (L : ℕ) (readings : D → List T) (allowance : D → ℕ) (d e : Delivery D T) (offset : ℕ) (is rest here later : List ℕ) (c : ℕ) : Type 0 where
  pub fewer : length later < length rest
  pub within : AllByRecursion (Within offset (c * 1024) 1024) here
  pub servable : Servable (offers L readings allowance e) c (map (place_in c) (map (shifted offset (c * 1024)) here))
  pub more : (f : Delivery D T) → Delivered L readings allowance e f (map (place_in c) (map (shifted offset (c * 1024)) here)) → IndexWalk L readings allowance d f offset is later

module _ {D T : Type 0} (L : ℕ) (readings : D → List T) (allowance : D → ℕ) (d : Delivery D T) (offset : ℕ) (is : List ℕ) where
  pub index_start : IndexWalk L readings allowance d d offset is is
  index_start =
      let none : 0 ≡ length is - length is = omega arith in
      record { walk = subst (Walk L readings allowance d d (at offset is)) none (walk_start L readings allowance d (at offset is)); left = ap (λ i. drop i is) none; few = omega arith }

  module _ (e : Delivery D T) (rest : List ℕ) (h : IndexWalk L readings allowance d e offset is rest) where
    pub index_end : length rest ≤ 0 → Delivered L readings allowance d e (at offset is)
    index_end l = let size = length-map is (moved offset) in walk_end L readings allowance d (at offset is) e (length is - length rest) h.walk (omega arith)

    module _ (small : offset ≤ 1024) (up : Rising 0 16777216 is) (some : 0 < length rest) (x : ℕ) (first : x ≡ get_or rest 0 0) where
      read : (k : ℕ) → get_or is (length is - length rest + k) 0 ≡ get_or rest k 0
      read k = sym (ap (λ xs. get_or xs k 0) h.left ∙ get_or-drop (length is - length rest) is k 0)

      starts : get_or is (length is - length rest) 0 ≡ x
      starts = let on : length is - length rest ≡ length is - length rest + 0 = omega arith in ap (λ k. get_or is k 0) on ∙ read 0 ∙ sym first

      pub index_bound : x < 16777216
      index_bound = let few = h.few in subst (λ y. y < 16777216) starts (below_limit offset is up small (length is - length rest) (omega arith))

      pub index_step : ((s : D) → Whole (readings s)) → declined (offers L readings allowance d) (at offset is) ≡ None → 1024 ≤ length d.scratch.now → (n : ℕ) (here later : List ℕ) → n ≤ length rest → ((k : ℕ) → k < n → get_or rest k 0 < ((x + offset) / 1024 + 1) * 1024 - offset) → (n < length rest → ((x + offset) / 1024 + 1) * 1024 - offset ≤ get_or rest n 0) → here ≡ take n rest → later ≡ drop n rest → IndexStep L readings allowance d e offset is rest here later ((x + offset) / 1024)
      index_step whole ok room n here later within below past front back' =
          let c : ℕ = (x + offset) / 1024 in
          let i : ℕ = length is - length rest in
          let few = h.few in
          let which : c ≡ (get_or is (length is - length rest) 0 + offset) / 1024 = ap (λ y. (y + offset) / 1024) (sym starts) in
          let k = cut_here offset is up small i (i + n) c (omega arith) which h.walk.serves.parted (omega arith) (omega arith) under over in
          let rise = rising_shifted offset 0 16777216 is up in
          let mid : between i (i + n) (at offset is) ≡ at offset here = sym (between_at offset is i (i + n)) ∙ ap (at offset) part in
          let servable : Servable (offers L readings allowance e) c (at offset here) = subst (Servable (offers L readings allowance e) c) mid (walk_servable L readings allowance d (at offset is) e i h.walk (i + n) c _ _ k rise ok (whole d.source.now) room) in
          let inside' = inside L (held readings allowance e) e.at c offset here servable (whole e.source.now) 1024 (omega arith) in
          let again = back c offset here inside' in
          let more = k.more in
          let size = ap length back' ∙ length-drop n rest in
          let on : i + n ≡ length is - length later = omega arith in
          record {
            fewer = omega arith;
            within = inside';
            servable = subst (Servable (offers L readings allowance e) c) (sym again) servable;
            more = λ f g. record {
              walk = subst (Walk L readings allowance d f (at offset is)) on (walk_more L readings allowance d (at offset is) e i h.walk (i + n) c _ _ k rise ok (whole d.source.now) room f (subst (Delivered L readings allowance e f) (again ∙ sym mid) g));
              left = back' ∙ ap (drop n) h.left ∙ drop-drop n i is ∙ ap (λ m. drop m is) on;
              few = omega arith;
            };
          }
        where
          under : (m : ℕ) → length is - length rest ≤ m → m < length is - length rest + n → get_or is m 0 < ((x + offset) / 1024 + 1) * 1024 - offset
          under m a b =
              let on : length is - length rest + (m - (length is - length rest)) ≡ m = omega arith in
              let same : get_or is m 0 ≡ get_or rest (m - (length is - length rest)) 0 = ap (λ j. get_or is j 0) (sym on) ∙ read (m - (length is - length rest)) in
              let less = below (m - (length is - length rest)) (omega arith) in
              omega arith

          over : length is - length rest + n < length is → ((x + offset) / 1024 + 1) * 1024 - offset ≤ get_or is (length is - length rest + n) 0
          over l = let few = h.few in let same = read n in let far = past (omega arith) in omega arith

          part : between (length is - length rest) (length is - length rest + n) is ≡ here
          part = let size : length is - length rest + n - (length is - length rest) ≡ n = omega arith in ap₂ take size (sym h.left) ∙ sym front
