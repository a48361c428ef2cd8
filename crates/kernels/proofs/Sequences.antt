-- Each target takes places in order.
use Rattle.std.proofs.Common.{◌≡◌, ℕ, ◌+◌, ◌-◌, ◌^◌, ◌<◌, List, ◌++◌, length, drop, map, sym, refl, ap, ◌∙◌, subst, ap₂, arith}
use Rattle.std.proofs.ByRecursion.{All-weaker}
use Rattle.std.proofs.lemmas.List.{length-append, length-map, map-append}
use Rattle.selection.specs.Selected.{Rising}
use Rattle.selection.proofs.Rising.{rising_length}
use Rattle.kernels.specs.declared.targets.Copying.{Copying}
use Rattle.kernels.specs.declared.targets.Moving.{Moving}
use Rattle.kernels.specs.declared.targets.Listing.{Listing}
use Rattle.kernels.specs.Moved.{gather, shifted, splice}
use Rattle.kernels.specs.Masks.{Inside}
use Rattle.kernels.specs.Ordered.{InOrder}
use Rattle.kernels.specs.Targets.{CanCopy, CanList, CanMove, Copied, Lists, Moves}
use Rattle.kernels.proofs.Gathered.{gather_append, length_gather, length_splice, splice_none, splice_splice}
use Rattle.kernels.proofs.Masked.{all_parts}
use Rattle.kernels.proofs.Rises.{drop_splice, gather_same, rising_inside, rising_left, rising_right}

inside_small : (n : ℕ) (ps : List ℕ) → n < 2 ^ 64 → Inside n ps → Inside (2 ^ 64 - 1) ps
inside_small n ps h i = All-weaker (λ p. p < n) (λ p. p < 2 ^ 64 - 1) (λ p l. omega arith) ps i

module _ {T : Type 0} where
  copy_first : (s : Copying T) (ps qs : List ℕ) → CanCopy s (ps ++ qs) → CanCopy s ps
  copy_first s ps qs h = let r = h.room in let n = length-append ps qs in record { short = h.short; inside = (all_parts (λ p. p < length s.src.now) ps qs h.inside).0; room = omega arith }

  copied_length : (s t : Copying T) (ps : List ℕ) → CanCopy s ps → Copied s ps t → length t.places.now ≡ length s.places.now
  copied_length s t ps h c =
      let n = length_gather s.src.now ps h.inside in
      let r = h.room in
      ap length c.places ∙ length_splice s.places.now s.at (gather s.src.now ps) (omega arith)

  copy_rest : (s t : Copying T) (ps qs : List ℕ) → CanCopy s (ps ++ qs) → Copied s ps t → CanCopy t qs
  copy_rest s t ps qs h c =
      let r = h.room in
      let n = length-append ps qs in
      let at = c.at in
      let long = copied_length s t ps (copy_first s ps qs h) c in
      record {
        short = subst (λ xs. length xs < 2 ^ 64) (sym c.src) h.short;
        inside = subst (λ xs. Inside (length xs) qs) (sym c.src) (all_parts (λ p. p < length s.src.now) ps qs h.inside).1;
        room = omega arith;
      }

  copy_both : (s t u : Copying T) (ps qs : List ℕ) → CanCopy s (ps ++ qs) → Copied s ps t → Copied t qs u → Copied s (ps ++ qs) u
  copy_both s t u ps qs h c d =
      let r = h.room in
      let n = length-append ps qs in
      let a = c.at in
      let b = d.at in
      let xs = s.src.now in
      let size = length_gather xs ps (copy_first s ps qs h).inside in
      record {
        src = d.src ∙ c.src;
        same = d.same ∙ c.same;
        at = omega arith;
        places = d.places
            ∙ ap (λ ys. splice t.places.now t.at (gather ys qs)) c.src
            ∙ ap₂ (λ zs m. splice zs m (gather xs qs)) c.places a
            ∙ splice_splice s.places.now s.at (length ps) (gather xs ps) (gather xs qs) size (omega arith)
            ∙ ap (splice s.places.now s.at) (sym (gather_append xs ps qs));
      }

  pub copies_follow : InOrder {S = Copying T} CanCopy Copied
  copies_follow = record {
    small = λ s ps h. inside_small (length s.src.now) ps h.short h.inside;
    first = copy_first;
    rest = copy_rest;
    none = λ s. record { src = refl; same = refl; at = omega arith; places = sym (splice_none s.places.now s.at) };
    both = copy_both;
  }

  move_first : (s : Moving T) (ps qs : List ℕ) → CanMove s (ps ++ qs) → CanMove s ps
  move_first s ps qs h = record { short = h.short; low = h.low; rises = rising_left s.at (length s.values.now) ps qs h.rises }

  moved_length : (s t : Moving T) (ps : List ℕ) → CanMove s ps → Moves s ps t → length t.values.now ≡ length s.values.now
  moved_length s t ps h m =
      let n = length_gather s.values.now ps (rising_inside s.at (length s.values.now) ps h.rises) in
      let few = rising_length s.at (length s.values.now) ps h.rises in
      let low = h.low in
      ap length m.values ∙ length_splice s.values.now s.at (gather s.values.now ps) (omega arith)

  move_rest : (s t : Moving T) (ps qs : List ℕ) → CanMove s (ps ++ qs) → Moves s ps t → CanMove t qs
  move_rest s t ps qs h m =
      let first = move_first s ps qs h in
      let long = moved_length s t ps first m in
      let few = rising_length s.at (length s.values.now) ps first.rises in
      let low = h.low in
      let at = m.at in
      record {
        low = omega arith;
        short = subst (λ n. n < 2 ^ 64) (sym long) h.short;
        rises = subst (λ n. Rising t.at n qs) (sym long) (subst (λ a. Rising a (length s.values.now) qs) (sym m.at) (rising_right s.at (length s.values.now) ps qs h.rises));
      }

  move_both : (s t u : Moving T) (ps qs : List ℕ) → CanMove s (ps ++ qs) → Moves s ps t → Moves t qs u → Moves s (ps ++ qs) u
  move_both s t u ps qs h m d =
      let xs = s.values.now in
      let first = move_first s ps qs h in
      let rest = rising_right s.at (length xs) ps qs h.rises in
      let size = length_gather xs ps (rising_inside s.at (length xs) ps first.rises) in
      let low = h.low in
      let n = length-append ps qs in
      let a = m.at in
      let b = d.at in
      let stands : drop (s.at + length ps) t.values.now ≡ drop (s.at + length ps) xs = ap (drop (s.at + length ps)) m.values ∙ drop_splice xs (gather xs ps) s.at (length ps) size low in
      record {
        same = d.same ∙ m.same;
        at = omega arith;
        values = d.values
            ∙ ap (splice t.values.now t.at) (gather_same t.values.now xs (s.at + length ps) (length xs) qs stands rest)
            ∙ ap₂ (λ zs k. splice zs k (gather xs qs)) m.values a
            ∙ splice_splice xs s.at (length ps) (gather xs ps) (gather xs qs) size low
            ∙ ap (splice xs s.at) (sym (gather_append xs ps qs));
      }

  pub moves_follow : InOrder {S = Moving T} CanMove Moves
  moves_follow = record {
    small = λ s ps h. inside_small (length s.values.now) ps h.short (rising_inside s.at (length s.values.now) ps h.rises);
    first = move_first;
    rest = move_rest;
    none = λ s. record { same = refl; at = omega arith; values = sym (splice_none s.values.now s.at) };
    both = move_both;
  }

list_first : (s : Listing) (ps qs : List ℕ) → CanList s (ps ++ qs) → CanList s ps
list_first s ps qs h = let r = h.room in let n = length-append ps qs in record { inside = (all_parts (λ p. p < 2 ^ 64 - 1 - s.base) ps qs h.inside).0; room = omega arith }

list_rest : (s t : Listing) (ps qs : List ℕ) → CanList s (ps ++ qs) → Lists s ps t → CanList t qs
list_rest s t ps qs h l =
    let r = h.room in
    let n = length-append ps qs in
    let m = length-map ps (shifted s.base 0) in
    let at = l.at in
    let long : length t.places.now ≡ length s.places.now = ap length l.places ∙ length_splice s.places.now s.at (map (shifted s.base 0) ps) (omega arith) in
    record { inside = subst (λ b. Inside (2 ^ 64 - 1 - b) qs) (sym l.base) (all_parts (λ p. p < 2 ^ 64 - 1 - s.base) ps qs h.inside).1; room = omega arith }

list_both : (s t u : Listing) (ps qs : List ℕ) → CanList s (ps ++ qs) → Lists s ps t → Lists t qs u → Lists s (ps ++ qs) u
list_both s t u ps qs h l d =
    let r = h.room in
    let n = length-append ps qs in
    let a = l.at in
    let b = d.at in
    let f = shifted s.base 0 in
    record {
      base = d.base ∙ l.base;
      same = d.same ∙ l.same;
      at = omega arith;
      places = d.places
          ∙ ap (λ c. splice t.places.now t.at (map (shifted c 0) qs)) l.base
          ∙ ap₂ (λ zs m. splice zs m (map f qs)) l.places a
          ∙ splice_splice s.places.now s.at (length ps) (map f ps) (map f qs) (length-map ps f) (omega arith)
          ∙ ap (splice s.places.now s.at) (sym (map-append f ps qs));
    }

pub lists_follow : InOrder CanList Lists
lists_follow = record {
  small = λ s ps h. All-weaker (λ p. p < 2 ^ 64 - 1 - s.base) (λ p. p < 2 ^ 64 - 1) (λ p l. omega arith) ps h.inside;
  first = list_first;
  rest = list_rest;
  none = λ s. record { base = refl; same = refl; at = omega arith; places = sym (splice_none s.places.now s.at) };
  both = list_both;
}
