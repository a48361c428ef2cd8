-- The first objection among several.
use Rattle.std.proofs.Common.{◌≡◌, ℕ, zero, suc, ◌+◌, ◌-◌, ◌<◌, ◌≤◌, Bool, true, false, List, [], ◌∷◌, Some, None, Ok, Err, Option, sym, refl, ap, ◌∙◌, ap₂, arith}
use Rattle.std.specs.List.{range_with_len, AllByRecursion}
use Rattle.selection.specs.declared.refusals.Refusal.{Refusal}
use Rattle.selection.specs.Refusals.{when, or_else, first_of, first, answered}
use Rattle.selection.specs.Selected.{long}

pub none_both : {X : Type 0} (o p : Option X) → or_else o p ≡ None → (o ≡ None) × (p ≡ None)
none_both None p e = (refl, e)
none_both (Some x) p e = let z : ◌≡◌ {A = ℕ} 0 1 = cc in absurd (omega arith)

pub none_from : {X : Type 0} (o p : Option X) → o ≡ None → p ≡ None → or_else o p ≡ None
none_from None p e f = f
none_from (Some x) p e f = e

pub when_none : {X : Type 0} (b : Bool) (x : X) → when b x ≡ None → b ≡ false
when_none true x e = let z : ◌≡◌ {A = ℕ} 0 1 = cc in absurd (omega arith)
when_none false x e = refl

pub none_when : {X : Type 0} (b : Bool) (x : X) → b ≡ false → when b x ≡ None
none_when b x e = ap (λ t. when t x) e

pub first_none : {X Y : Type 0} (f : X → Option Y) (xs : List X) → first f xs ≡ None → AllByRecursion (λ x. f x ≡ None) xs
first_none f [] e = tt
first_none f (x ∷ xs) e = let h = none_both (f x) (first f xs) e in (h.0, first_none f xs h.1)

pub none_first : {X Y : Type 0} (f : X → Option Y) (xs : List X) → AllByRecursion (λ x. f x ≡ None) xs → first f xs ≡ None
none_first f [] h = refl
none_first f (x ∷ xs) h = none_from (f x) (first f xs) h.0 (none_first f xs h.1)

-- objections that agree along a count
pub first_same : {Y : Type 0} (f g : ℕ → Option Y) (n : ℕ) → ((k : ℕ) → k < n → f k ≡ g k) → first f (range_with_len 0 n) ≡ first g (range_with_len 0 n)
first_same f g n h = from n 0 (λ k _ l. h k (omega arith))
  where
    from : (m a : ℕ) → ((k : ℕ) → a ≤ k → k < a + m → f k ≡ g k) → first f (range_with_len a m) ≡ first g (range_with_len a m)
    from zero a h = refl
    from (suc m) a h = ap₂ or_else (h a (omega arith) (omega arith)) (from m (a + 1) (λ k l u. h k (omega arith) (omega arith)))

pub none_each : {X : Type 0} (os : List (Option X)) → first_of os ≡ None → AllByRecursion (λ o. o ≡ None) os
none_each [] e = tt
none_each (o ∷ os) e = let h = none_both o (first_of os) e in (h.0, none_each os h.1)

pub none_of : {X : Type 0} (os : List (Option X)) → AllByRecursion (λ o. o ≡ None) os → first_of os ≡ None
none_of [] h = refl
none_of (o ∷ os) h = none_from o (first_of os) h.0 (none_of os h.1)

-- an objection along a count: the first k were passed, and n stand in all
module _ {Y : Type 0} (f : ℕ → Option Y) (k n : ℕ) (passed : first f (range_with_len k (n - k)) ≡ first f (range_with_len 0 n)) where
  step : k < n → first f (range_with_len 0 n) ≡ or_else (f k) (first f (range_with_len (k + 1) (n - (k + 1))))
  step l = let more : n - k ≡ suc (n - (k + 1)) = omega arith in sym passed ∙ ap (λ m. first f (range_with_len k m)) more

  pub count_stands : (e : Y) → k < n → f k ≡ Some e → first f (range_with_len 0 n) ≡ Some e
  count_stands e l s = step l ∙ ap (λ o. or_else o (first f (range_with_len (k + 1) (n - (k + 1))))) s

  pub count_passes : k < n → f k ≡ None → first f (range_with_len (k + 1) (n - (k + 1))) ≡ first f (range_with_len 0 n)
  count_passes l s = sym (step l ∙ ap (λ o. or_else o (first f (range_with_len (k + 1) (n - (k + 1))))) s)

  pub count_ends : n ≤ k → first f (range_with_len 0 n) ≡ None
  count_ends l = let none : n - k ≡ 0 = omega arith in sym passed ∙ ap (λ m. first f (range_with_len k m)) none

-- a list that is not too long is refused for its items alone
pub not_long : {X : Type 0} (n : ℕ) (o p : Option Refusal) (x : X) → long n ≡ None → o ≡ p → answered p x ≡ answered (first_of (long n ∷ o ∷ [])) x
not_long n o p x h e = sym (ap (λ q. answered q x) (ap (λ l. first_of (l ∷ o ∷ [])) h ∙ or_none o ∙ e))
  where
    or_none : (o : Option Refusal) → or_else o None ≡ o
    or_none None = refl
    or_none (Some r) = refl

-- what an answer says of the objection
pub answered_ok : {X : Type 0} (o : Option Refusal) (x y : X) → answered o x ≡ Ok y → o ≡ None
answered_ok None x y e = refl
answered_ok (Some r) x y e = let z : ◌≡◌ {A = ℕ} 0 1 = cc in absurd (omega arith)

pub ok_answered : {X : Type 0} (o : Option Refusal) (x : X) → o ≡ None → Ok x ≡ answered o x
ok_answered o x e = sym (ap (λ p. answered p x) e)

pub same_answer : {X : Type 0} (o : Option Refusal) (x y : X) → (o ≡ None → x ≡ y) → answered o x ≡ answered o y
same_answer None x y e = ap Ok (e refl)
same_answer (Some r) x y e = refl

pub answered_err : {X : Type 0} (o : Option Refusal) (x : X) (e : Refusal) → answered o x ≡ Err e → o ≡ Some e
answered_err None x e h = let z : ◌≡◌ {A = ℕ} 0 1 = cc in absurd (omega arith)
answered_err (Some r) x e h = cc

pub answered_value : {X : Type 0} (o : Option Refusal) (x y : X) → answered o x ≡ Ok y → x ≡ y
answered_value None x y h = cc
answered_value (Some r) x y h = let z : ◌≡◌ {A = ℕ} 0 1 = cc in absurd (omega arith)
