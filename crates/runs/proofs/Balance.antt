-- The allowance, the fees and the values written keep their balance over any pushes.
use Rattle.std.proofs.Common.{◌≡◌, ℕ, ◌+◌, ◌*◌, ◌≤◌, List, [], ◌∷◌, Ok, Err, sym, refl, ap, ◌∙◌, subst, mul-add, arith}
use Rattle.source.specs.Fetched.{Whole}
use Rattle.settle.specs.declared.settle.Push.{Push}
use Rattle.settle.specs.declared.settle.Receipt.{Receipt}
use Rattle.settle.specs.Pushes.{Answer, answer}
use Rattle.chunked.specs.Served.{State, next, terms_of}
use Rattle.runs.specs.Runs.{after, answers, fees_paid, tally, values_written}
use Rattle.runs.specs.Laws.{Balance, Fresh}
use Rattle.chunked.proofs.Accepted.{refused_next}
use Rattle.runs.proofs.Steps.{Sound, takes}

-- what pushes with such answers add, from s to t
pub record Adds {T : Type 0} (L : ℕ) (s t : State T) (as' : List Answer) : Type 0 where
  pub sound : Sound t
  pub spent : s.allowance ≡ t.allowance + fees_paid as'
  pub low : values_written as' ≤ fees_paid as'
  pub high : (L + 1) * fees_paid as' ≤ 1024 * values_written as'
  pub counted : t.written ≡ s.written + values_written as'
  pub charged : t.fees ≡ s.fees + fees_paid as'

-- nothing accepted, nothing added
adds_none : {T : Type 0} (L : ℕ) (s : State T) (as' : List Answer) → values_written as' ≡ 0 → fees_paid as' ≡ 0 → Sound s → Adds L s s as'
adds_none L s as' none free ok = record { sound = ok; spent = omega arith; low = omega arith; high = rw (none, free) (omega arith); counted = omega arith; charged = omega arith }

tally_cons : (f : Receipt → ℕ) (a : Answer) (as' : List Answer) → tally f (a ∷ as') ≡ tally f (a ∷ []) + tally f as'
tally_cons f (Ok r) as' = omega arith
tally_cons f (Err e) as' = omega arith

-- one push and then others
adds_then : {T : Type 0} (L : ℕ) (s t u : State T) (a : Answer) (as' : List Answer) → Adds L s t (a ∷ []) → Adds L t u as' → Adds L s u (a ∷ as')
adds_then L s t u a as' h k =
    let counts = tally_cons (λ r. r.count) a as' in
    let costs = tally_cons (λ r. r.fee) a as' in
    let scaled : (L + 1) * fees_paid (a ∷ as') ≡ (L + 1) * fees_paid (a ∷ []) + (L + 1) * fees_paid as' = ap (λ n. (L + 1) * n) costs ∙ mul-add (L + 1) (fees_paid (a ∷ [])) (fees_paid as') in
    record { sound = k.sound; spent = omega arith; low = omega arith; high = omega arith; counted = omega arith; charged = omega arith }

module _ {T : Type 0} (L : ℕ) (small : L + 1 ≤ 1024) where
  pub adds_one : (s : State T) (p : Push) → Sound s → Adds L s (next L s p) (answer (terms_of L s) p ∷ [])
  adds_one s p ok = go (answer (terms_of L s) p) refl
    where
      go : (a : Answer) → answer (terms_of L s) p ≡ a → Adds L s (next L s p) (a ∷ [])
      go (Err e) h = subst (λ t. Adds L s t (Err e ∷ [])) (refused_next L s p e h) (adds_none L s (Err e ∷ []) refl refl ok)
      go (Ok r) h =
          let k = takes L s p r small ok h in
          let e : r.fee + 0 ≡ r.fee = omega arith in
          record {
            sound = record { whole = subst Whole (sym k.readings) ok.whole; room = omega arith; within = k.fits; small = omega arith };
            spent = omega arith;
            low = omega arith;
            high = rw e (omega arith);
            counted = omega arith;
            charged = omega arith;
          }

  pub adds : (s : State T) (ps : List Push) → Sound s → Adds L s (after L s ps) (answers L s ps)
  adds s [] ok = adds_none L s [] refl refl ok
  adds s (p ∷ ps) ok =
      let one = adds_one s p ok in
      adds_then L s (next L s p) (after L (next L s p) ps) (answer (terms_of L s) p) (answers L (next L s p) ps) one (adds (next L s p) ps one.sound)

pub fresh_sound : {T : Type 0} (s : State T) → Fresh s → Sound s
fresh_sound s new = record { whole = new.whole; room = new.room; within = omega arith; small = omega arith }

pub balance : {T : Type 0} (L : ℕ) (s : State T) (ps : List Push) → Balance L s ps
balance L s ps small new =
    let r = adds L small s ps (fresh_sound s new) in
    record { spent = r.spent; low = r.low; high = r.high; counted = omega arith; charged = omega arith }
