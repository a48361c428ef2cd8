-- A loop over pushes that notes each answer.
use Prim.{Unit, tt}
use Rattle.std.proofs.Common.{◌≡◌, ℕ, suc, ◌+◌, ◌<◌, ◌≤◌, List, [], ◌∷◌, ◌++◌, length, get_or, take, drop, set, Some, None, Ok, Err, Result, sym, refl, ap, ◌∙◌, subst, ap₂, arith}
use Rattle.std.proofs.lemmas.List.{length-set, take_all, take_more, take_more_set}
use Rattle.std.proofs.lemmas.List.Sums.{fold_more}
use Rattle.std.proofs.lemmas.Bool.{lt-ltb, le-ltb}
use Rattle.selection.specs.declared.refusals.Refusal.{Refusal}
use Rattle.selection.specs.declared.refusals.Refusal.TheVariants.{Output}
use Rattle.selection.specs.Refusals.{answered, settled, when}
use Rattle.kernels.specs.Moved.{splice}
use Rattle.kernels.proofs.Gathered.{take_splice}
use Rattle.settle.specs.declared.settle.Push.{Push}
use Rattle.chunked.specs.declared.filters.ChunkedFilter.{ChunkedFilter}
use Rattle.settle.specs.Pushes.{Answer, answer}
use Rattle.chunked.specs.Served.{State, next, state_of, terms_of}
use Rattle.runs.specs.Runs.{after, answers, notes_fault}
use Rattle.runs.specs.Laws.{Agree, Balanced, Ran}

-- one push after others
answers_push : {T : Type 0} (L : ℕ) (s : State T) (ps : List Push) (p : Push) → answers L s (ps ++ (p ∷ [])) ≡ answers L s ps ++ (answer (terms_of L (after L s ps)) p ∷ [])
answers_push L s [] p = refl
answers_push L s (q ∷ ps) p = ap (λ as'. answer (terms_of L s) q ∷ as') (answers_push L (next L s q) ps p)

-- how far a loop over pushes has come: it began at s and is at t, with the answers to the first i noted
pub record Upto {T : Type 0} (L : ℕ) (ps : List Push) (s t : State T) (noted : List Answer) (i : ℕ) : Type 0 where
  pub within : i ≤ length ps
  pub long : length noted ≡ length ps
  pub state : t ≡ after L s (take i ps)
  pub told : take i noted ≡ answers L s (take i ps)

pub upto_none : {T : Type 0} (L : ℕ) (ps : List Push) (s : State T) (noted : List Answer) → length noted ≡ length ps → Upto L ps s s noted 0
upto_none L ps s noted long = record { within = omega arith; long = long; state = refl; told = refl }

module _ {T : Type 0} (L : ℕ) (ps : List Push) (s t : State T) (noted : List Answer) (i : ℕ) (h : Upto L ps s t noted i) where
  pub upto_more : (u : State T) (a : Answer) (d : Push) → i < length ps → a ≡ answer (terms_of L t) (get_or ps i d) → u ≡ next L t (get_or ps i d) → Upto L ps s u (set noted i a) (i + 1)
  upto_more u a d l e f =
      let p = get_or ps i d in
      let there = h.state in
      let long = h.long in
      record {
        within = omega arith;
        long = length-set noted i a ∙ long;
        state = f ∙ ap (λ x. next L x p) there ∙ sym (fold_more (next L) s ps i d l);
        told =
            take_more_set noted i a (omega arith)
            ∙ ap₂ (λ (as' : List Answer) (b : Answer). as' ++ (b ∷ [])) h.told (e ∙ ap (λ x. answer (terms_of L x) p) there)
            ∙ sym (answers_push L s (take i ps) p)
            ∙ ap (answers L s) (sym (take_more ps i d l));
      }

  -- the loop has come to the end
  pub upto_all : length ps ≤ i → (noted ≡ answers L s ps) × (t ≡ after L s ps)
  upto_all l =
      let all = take_all i ps l in
      let long = h.long in
      (sym (take_all i noted (omega arith)) ∙ h.told ∙ ap (answers L s) all, h.state ∙ ap (after L s) all)

answers_long : {T : Type 0} (L : ℕ) (s : State T) (ps : List Push) → length (answers L s ps) ≡ length ps
answers_long L s [] = refl
answers_long L s (p ∷ ps) = ap suc (answers_long L (next L s p) ps)

module _ {T : Type 0} (L : ℕ) (ps : List Push) (s : State T) (before : List Answer) where
  pub ran_not : (t : State T) (noted : List Answer) (made : Result Unit Refusal) → length before < length ps → t ≡ s → noted ≡ before → made ≡ Err Output → Ran L ps s t before noted made
  ran_not t noted made l there kept told =
      let b : notes_fault (length before) (length ps) ≡ Some Output = ap (λ x. when x Output) (lt-ltb (length before) (length ps) l) in
      record {
        told = told ∙ sym (ap (λ o. answered o tt) b);
        noted = kept ∙ sym (ap (λ o. settled o before (splice before 0 (answers L s ps))) b);
        ended = there ∙ sym (ap (λ o. settled o s (after L s ps)) b);
      }

  pub ran : (t : State T) (noted part : List Answer) (made : Result Unit Refusal) → length ps ≤ length before → t ≡ after L s ps → part ≡ answers L s ps → noted ≡ part ++ drop (length ps) before → made ≡ Ok tt → Ran L ps s t before noted made
  ran t noted part made l there answered' put told =
      let b : notes_fault (length before) (length ps) ≡ None = ap (λ x. when x Output) (le-ltb (length before) (length ps) l) in
      let all : part ++ drop (length ps) before ≡ splice before 0 (answers L s ps) = ap₂ (λ as' n. as' ++ drop n before) answered' (let e = answers_long L s ps in omega arith) in
      record {
        told = told ∙ sym (ap (λ o. answered o tt) b);
        noted = put ∙ all ∙ sym (ap (λ o. settled o before (splice before 0 (answers L s ps))) b);
        ended = there ∙ sym (ap (λ o. settled o s (after L s ps)) b);
      }

  -- with notes enough, the whole list is carried out and noted
  pub ran_all : (t : State T) (noted : List Answer) (made : Result Unit Refusal) → Ran L ps s t before noted made → notes_fault (length before) (length ps) ≡ None → (after L s ps ≡ t) × (answers L s ps ≡ take (length ps) noted)
  ran_all t noted made r none =
      let there = r.ended ∙ ap (λ o. settled o s (after L s ps)) none in
      let told = r.noted ∙ ap (λ o. settled o before (splice before 0 (answers L s ps))) none in
      let first = ap₂ (λ (n : ℕ) (as' : List Answer). take n as') (let e : length ps ≡ 0 + length ps = omega arith in e) told ∙ take_splice before 0 (length ps) (answers L s ps) (omega arith) (answers_long L s ps) in
      (sym there, sym first)

  pub ran_balanced : (t : State T) (noted : List Answer) (made : Result Unit Refusal) → Ran L ps s t before noted made → Balanced L s (after L s ps) (answers L s ps) → notes_fault (length before) (length ps) ≡ None → Balanced L s t (take (length ps) noted)
  ran_balanced t noted made r h none =
      let all = ran_all t noted made r none in
      subst (λ u. Balanced L s u (take (length ps) noted)) all.0 (subst (Balanced L s (after L s ps)) all.1 h)

pub agree_by : {T : Type 0} {s s' t t' : State T} {ps qs : List Push} {as' as'' bs bs' : List Answer} → s ≡ s' → t ≡ t' → as' ≡ as'' → bs ≡ bs' → Agree s t ps qs as' bs → Agree s' t' ps qs as'' bs'
agree_by {s' = s'} {t = t} {t' = t'} {ps = ps} {qs = qs} {as' = as'} {as'' = as''} {bs = bs} e f a b h =
    subst (λ y. Agree s' t' ps qs as'' y) b (subst (λ x. Agree s' t' ps qs x bs) a (subst (λ v. Agree s' v ps qs as' bs) f (subst (λ u. Agree u t ps qs as' bs) e h)))

-- the same filter and the same buffers are the same state
pub same_state : {D T : Type 0} (readings : D → List T) (allowance : D → ℕ) {f f' : ChunkedFilter D} {out out' aside aside' : List T} → f ≡ f' → out ≡ out' → aside ≡ aside' → state_of readings allowance f out aside ≡ state_of readings allowance f' out' aside'
same_state readings allowance {f} {f'} {out} {out'} {aside} {aside'} e o a = ap (λ x. state_of readings allowance x out aside) e ∙ ap₂ (state_of readings allowance f') o a
