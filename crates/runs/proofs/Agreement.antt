-- Pushes that pick the same positions agree.
use Rattle.std.proofs.Common.{◌≡◌, ℕ, ◌+◌, ◌≤◌, Bool, true, false, cond, not, List, [], ◌∷◌, map, length, take, is_some, Some, None, Ok, Err, filter, Option, sym, refl, ap, ◌∙◌, ap₂, arith}
use Rattle.std.specs.List.{AllZip, AllByRecursion}
use Rattle.std.proofs.ByRecursion.{All-weaker, kept_by_passes}
use Rattle.selection.specs.declared.refusals.Refusal.{Refusal}
use Rattle.selection.specs.Refusals.{first_of, settled}
use Rattle.settle.specs.declared.settle.Push.{Push}
use Rattle.settle.specs.Pushes.{Answer, answer, declined, misformed, moved, places}
use Rattle.chunked.specs.Served.{State, next, served, terms_of}
use Rattle.runs.specs.Runs.{after, answers, heard, well_formed}
use Rattle.runs.specs.Laws.{Agreement, SamePick, formed_ones}
use Rattle.chunked.proofs.Accepted.{refused_next}
use Rattle.runs.proofs.Steps.{Sound, next_scratch, takes}
use Rattle.runs.proofs.Balance.{adds_one, balance, fresh_sound}

-- a push that is not well formed changes nothing
next_misformed : {T : Type 0} (L : ℕ) (s : State T) (p : Push) → well_formed (length s.scratch) p ≡ false → next L s p ≡ s
unfolding next
next_misformed L s p = go (misformed (length s.scratch) p)
  where
    go : (o : Option Refusal) → not (is_some o) ≡ false → settled (first_of (o ∷ declined (terms_of L s) (places p) ∷ [])) s (served L s (places p)) ≡ s
    go (Some x) e = refl
    go None e = let z : ◌≡◌ {A = ℕ} 0 1 = cc in absurd (omega arith)

after_scratch : {T : Type 0} (L : ℕ) (s : State T) (ps : List Push) → length (after L s ps).scratch ≡ length s.scratch
after_scratch L s [] = refl
after_scratch L s (p ∷ ps) = after_scratch L (next L s p) ps ∙ next_scratch L s p

-- what the well formed ones of some pushes leave and answer alone
record Alone {T : Type 0} (L n : ℕ) (s : State T) (ps qs : List Push) : Type 0 where
  pub last : after L s ps ≡ after L s qs
  pub told : heard n ps (answers L s ps) ≡ answers L s qs

only_formed : {T : Type 0} (L n : ℕ) (s : State T) (ps : List Push) → length s.scratch ≡ n → Alone L n s ps (filter (well_formed n) ps)
only_formed L n s [] r = record { last = refl; told = refl }
only_formed {T} L n s (p ∷ ps) r = go (well_formed n p) refl (λ t e. only_formed L n t ps e)
  where
    others : List Push
    others = filter (well_formed n) ps

    go : (b : Bool) → well_formed n p ≡ b → ((t : State T) → length t.scratch ≡ n → Alone L n t ps others) → Alone L n s (p ∷ ps) (cond b (p ∷ others) others)
    go true e rest =
        let h = rest (next L s p) (next_scratch L s p ∙ r) in
        record { last = h.last; told = rw e (ap (λ as'. answer (terms_of L s) p ∷ as') h.told) }
    go false e rest =
        let same : next L s p ≡ s = next_misformed L s p (rw r e) in
        let h = rest s r in
        record { last = rw same h.last; told = rw (e, same) h.told }

-- two states that will answer alike, and have written the same
record Twins {T : Type 0} (s t : State T) : Type 0 where
  pub readings : s.readings ≡ t.readings
  pub allowance : s.allowance ≡ t.allowance
  pub written : s.written ≡ t.written
  pub output : length s.output ≡ length t.output
  pub values : take s.written s.output ≡ take t.written t.output

same_places : (p q : Push) → SamePick p q → places p ≡ places q
unfolding places
same_places p q h = ap₂ (λ (o : ℕ) (is : List ℕ). map (moved o) is) h.0 h.1

module _ {T : Type 0} (L : ℕ) (s t : State T) (p q : Push) (h : Twins s t) (same : SamePick p q) where
  twins_answer : misformed (length s.scratch) p ≡ None → misformed (length t.scratch) q ≡ None → answer (terms_of L s) p ≡ answer (terms_of L t) q
  unfolding answer declined
  twins_answer e f = let ps = same_places p q same in cc

  twins_next : L + 1 ≤ 1024 → Sound s → Sound t → answer (terms_of L s) p ≡ answer (terms_of L t) q → Twins (next L s p) (next L t q)
  twins_next small ok ok' e = go (answer (terms_of L s) p) refl
    where
      go : (a : Answer) → answer (terms_of L s) p ≡ a → Twins (next L s p) (next L t q)
      go (Err x) a = rw (← refused_next L s p x a, ← refused_next L t q x (sym e ∙ a)) h
      go (Ok r) a =
          let k = takes L s p r small ok a in
          let k' = takes L t q r small ok' (sym e ∙ a) in
          let ps = same_places p q same in
          record { readings = cc; allowance = let b = h.allowance in omega arith; written = cc; output = cc; values = cc }

-- what two lists of pushes lead to
record Matched {T : Type 0} (s t : State T) (as' bs : List Answer) : Type 0 where
  pub told : as' ≡ bs
  pub last : Twins s t

module _ {T : Type 0} (L m n : ℕ) (small : L + 1 ≤ 1024) where
  matched : (s t : State T) (ps qs : List Push) → length s.scratch ≡ m → length t.scratch ≡ n → Sound s → Sound t → Twins s t → AllByRecursion (λ p. misformed m p ≡ None) ps → AllByRecursion (λ q. misformed n q ≡ None) qs → AllZip SamePick ps qs → Matched (after L s ps) (after L t qs) (answers L s ps) (answers L t qs)
  matched s t [] [] r r' ok ok' h f f' e = record { told = refl; last = h }
  matched s t [] (q ∷ qs) r r' ok ok' h f f' e = absurd e
  matched s t (p ∷ ps) [] r r' ok ok' h f f' e = absurd e
  matched s t (p ∷ ps) (q ∷ qs) r r' ok ok' h f f' e =
      let here = twins_answer L s t p q h e.0 (rw r f.0) (rw r' f'.0) in
      let rest = matched (next L s p) (next L t q) ps qs (next_scratch L s p ∙ r) (next_scratch L t q ∙ r') (adds_one L small s p ok).sound (adds_one L small t q ok').sound (twins_next L s t p q h e.0 small ok ok' here) f.1 f'.1 e.1 in
      record { told = ap₂ (λ (a : Answer) (as' : List Answer). a ∷ as') here rest.told; last = rest.last }

formed_each : (n : ℕ) (ps : List Push) → AllByRecursion (λ p. misformed n p ≡ None) (filter (well_formed n) ps)
formed_each n ps = All-weaker (λ p. well_formed n p ≡ true) (λ p. misformed n p ≡ None) (λ p e. none (misformed n p) e) (filter (well_formed n) ps) (kept_by_passes (well_formed n) ps)
  where
    none : (o : Option Refusal) → not (is_some o) ≡ true → o ≡ None
    none None e = refl
    none (Some x) e = let z : ◌≡◌ {A = ℕ} 0 1 = cc in absurd (omega arith)

pub agreement : {T : Type 0} (L : ℕ) (s t : State T) (ps qs : List Push) → Agreement L s t ps qs
agreement L s t ps qs small new new' alike same =
    let m = length s.scratch in
    let n = length t.scratch in
    let only = only_formed L m s ps refl in
    let only' = only_formed L n t qs refl in
    let w = new.none_written in
    let w' = new'.none_written in
    let twins : Twins s t = record { readings = alike.readings; allowance = alike.allowance; written = cc; output = alike.places; values = rw (w, w') refl } in
    let both = matched L m n small s t (formed_ones s ps) (formed_ones t qs) refl refl (fresh_sound s new) (fresh_sound t new') twins (formed_each m ps) (formed_each n qs) same in
    let c = (balance L s ps small new).counted in
    let c' = (balance L t qs small new').counted in
    record {
      answers = rw (after_scratch L s ps, after_scratch L t qs) (only.told ∙ both.told ∙ sym only'.told);
      values = rw (← c, ← c', only.last, only'.last) both.last.values;
      left = ap (λ u. u.allowance) only.last ∙ both.last.allowance ∙ ap (λ u. u.allowance) (sym only'.last);
    }
