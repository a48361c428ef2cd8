-- What stands against a filter, one test after another.
use Rattle.std.proofs.Common.{◌≡◌, ℕ, ◌<◌, ◌≤◌, true, false, not, eqb, ltb, ◌≢◌, Some, None, Ok, Err, Option, sym, refl, ap, ◌∙◌, arith}
use Rattle.std.proofs.lemmas.Bool.{eq-eqb, eqb-true, le-ltb, lt-ltb, ltb-false, ne_eqb}
use Rattle.selection.specs.declared.selections.Selection.{Selection}
use Rattle.selection.specs.declared.refusals.Refusal.{Refusal}
use Rattle.selection.specs.declared.refusals.Refusal.TheVariants.{Mismatch, Output}
use Rattle.selection.specs.Refusals.{answered, or_else, when}
use Rattle.selection.specs.Selected.{count_of, extent, selection_fault}
use Rattle.selection.proofs.Objections.{answered_value, none_both, when_none}
use Rattle.slices.specs.Slices.{copy_fault, place_fault, too_few, unequal}

-- an answer after a first test, and then a second
pub refused_first : {X : Type 0} (o p : Option Refusal) (x : X) (e : Refusal) → Err e ≡ answered o x → Err e ≡ answered (or_else o p) x
refused_first None p x e h = let z : ◌≡◌ {A = ℕ} 0 1 = cc in absurd (omega arith)
refused_first (Some r) p x e h = h

pub refused_then : {X : Type 0} (o p : Option Refusal) (x y : X) (e : Refusal) → Ok y ≡ answered o x → p ≡ Some e → Err e ≡ answered (or_else o p) x
refused_then None p x y e h f = sym (ap (λ q. answered q x) f)
refused_then (Some r) p x y e h f = let z : ◌≡◌ {A = ℕ} 0 1 = cc in absurd (omega arith)

pub passed_both : {X : Type 0} (o p : Option Refusal) (x y : X) → Ok y ≡ answered o x → p ≡ None → Ok y ≡ answered (or_else o p) x
passed_both None p x y h f = h ∙ sym (ap (λ q. answered q x) f)
passed_both (Some r) p x y h f = h

-- what was counted
pub counted : {X : Type 0} (o : Option Refusal) (x y : X) → Ok y ≡ answered o x → x ≡ y
counted o x y h = answered_value o x y (sym h)

-- the tests one after another
or_none : (o : Option Refusal) → or_else o None ≡ o
or_none None = refl
or_none (Some r) = refl

pub place_tests : (s : Selection) (n : ℕ) → place_fault s n ≡ or_else (selection_fault s) (unequal (extent s) n)
unfolding place_fault
place_tests s n = ap (or_else (selection_fault s)) (or_none (unequal (extent s) n))

pub copy_tests : (s : Selection) (n places : ℕ) → copy_fault s n places ≡ or_else (place_fault s n) (too_few places (count_of s))
unfolding copy_fault place_fault
copy_tests s n places = go (selection_fault s) (unequal (extent s) n) (too_few places (count_of s))
  where
    go : (a b c : Option Refusal) → or_else a (or_else b (or_else c None)) ≡ or_else (or_else a (or_else b None)) c
    go None None c = or_none c
    go None (Some r) c = refl
    go (Some r) b c = refl

pub lengths_differ : (m n : ℕ) → m ≢ n → unequal m n ≡ Some Mismatch
lengths_differ m n h = ap (λ b. when (not b) Mismatch) (ne_eqb m n h)

pub lengths_agree : (m n : ℕ) → m ≡ n → unequal m n ≡ None
lengths_agree m n h = ap (λ b. when (not b) Mismatch) (eq-eqb m n h)

pub places_lack : (places needed : ℕ) → places < needed → too_few places needed ≡ Some Output
places_lack places needed h = ap (λ b. when b Output) (lt-ltb places needed h)

pub places_enough : (places needed : ℕ) → needed ≤ places → too_few places needed ≡ None
places_enough places needed h = ap (λ b. when b Output) (le-ltb places needed h)

-- what holds where nothing stands against it
pub agreed : (m n : ℕ) → unequal m n ≡ None → m ≡ n
agreed m n e = eqb-true m n (go (eqb m n) e)
  where
    go : (b : _) → when (not b) Mismatch ≡ None → b ≡ true
    go true f = refl
    go false f = let z : ◌≡◌ {A = ℕ} 0 1 = cc in absurd (omega arith)

pub place_passed : (s : Selection) (n : ℕ) → place_fault s n ≡ None → (selection_fault s ≡ None) × (extent s ≡ n)
place_passed s n e = let h = none_both (selection_fault s) (unequal (extent s) n) (sym (place_tests s n) ∙ e) in (h.0, agreed (extent s) n h.1)

pub copy_passed : (s : Selection) (n places : ℕ) → copy_fault s n places ≡ None → (place_fault s n ≡ None) × (count_of s ≤ places)
copy_passed s n places e =
    let h = none_both (place_fault s n) (too_few places (count_of s)) (sym (copy_tests s n places) ∙ e) in
    (h.0, ltb-false places (count_of s) (when_none (ltb places (count_of s)) Output h.1))
