-- The state after a push, by its answer.
use Rattle.std.proofs.Common.{◌≡◌, ℕ, ◌≤◌, List, [], ◌∷◌, length, None, Ok, Err, Bor, sym, ap, ◌∙◌, subst, ap₂}
use Rattle.selection.specs.declared.refusals.Refusal.{Refusal}
use Rattle.selection.specs.Refusals.{settled}
use Rattle.selection.specs.Selected.{Rising, RunsRise, selection_fault, window_positions}
use Rattle.selection.specs.declared.selections.Run.{Run}
use Rattle.selection.specs.declared.selections.Selection.{Selection}
use Rattle.selection.specs.declared.selections.Selection.TheVariants.{Bitmap, Indices, Runs}
use Rattle.selection.specs.declared.windows.Window.{Window}
use Rattle.selection.proofs.Faults.{window_within}
use Rattle.settle.proofs.Settled.{at, formed_window, listed_rise, listed_runs_rise, places_listed, places_runs, places_window, run_places}
use Rattle.selection.proofs.Objections.{answered_err, answered_ok, answered_value, none_each}
use Rattle.settle.specs.declared.settle.Push.{Push}
use Rattle.settle.specs.declared.settle.Receipt.{Receipt}
use Rattle.settle.specs.Pushes.{answer, declined, misformed, places, receipt, refusal, room_fault}
use Rattle.chunked.specs.Served.{State, Store, more_written, next, served, serving, store_of, terms_of}

module _ {T : Type 0} (L : ℕ) (s : State T) (p : Push) where
  pub refused_next : (e : Refusal) → answer (terms_of L s) p ≡ Err e → s ≡ next L s p
  unfolding answer next
  refused_next e h = sym (ap (λ o. settled o s (served L s (places p))) (answered_err (refusal (terms_of L s) p) (receipt (terms_of L s) (places p)) e h))

  pub record Accepted (r : Receipt) : Type 0 where
    pub formed : selection_fault p.selection ≡ None
    pub roomy : room_fault (length s.scratch) p.offset ≡ None
    pub allowed : declined (terms_of L s) (places p) ≡ None
    pub gives : r ≡ receipt (terms_of L s) (places p)
    pub after : next L s p ≡ served L s (places p)

  pub accepted : (r : Receipt) → answer (terms_of L s) p ≡ Ok r → Accepted r
  unfolding answer next misformed
  accepted r h =
      let none = answered_ok (refusal (terms_of L s) p) (receipt (terms_of L s) (places p)) r h in
      let parts = none_each (misformed (length s.scratch) p ∷ declined (terms_of L s) (places p) ∷ []) none in
      let form = none_each (selection_fault p.selection ∷ room_fault (length s.scratch) p.offset ∷ []) parts.0 in
      record {
        formed = form.0;
        roomy = form.1.0;
        allowed = parts.1.0;
        gives = sym (answered_value (refusal (terms_of L s) p) (receipt (terms_of L s) (places p)) r h);
        after = ap (λ o. settled o s (served L s (places p))) none;
      }

-- a push that was served, with its receipt on the totals
pub served_by : {T : Type 0} (L : ℕ) (s : State T) (ps : List ℕ) (h : Store T) (r : Receipt) → h ≡ serving L (store_of s) s.written ps → r ≡ receipt (terms_of L s) ps → more_written s h r.count r.fee ≡ served L s ps
unfolding served
served_by L s ps h r e f = ap₂ (λ x q. more_written s x q.count q.fee) e f

-- the places of a well formed push, by its form
module _ (p : Push) (formed : selection_fault p.selection ≡ None) where
  module _ (s : Selection) (form : p.selection ≡ s) where
    fine : selection_fault s ≡ None
    fine = subst (λ x. selection_fault x ≡ None) form formed

    as_form : places p ≡ places (record { offset = p.offset; selection = s })
    as_form = ap (λ x. places (record { offset = p.offset; selection = x })) form

  pub places_in_bitmap : (w : Window) → p.selection ≡ Bitmap w → (w.len ≤ 16777216) × (places p ≡ at p.offset (window_positions w))
  places_in_bitmap w e = ((window_within w (formed_window w (fine _ e))).0, as_form _ e ∙ places_window p.offset w)

  pub places_in_list : (xs : Bor (List ℕ)) (n : ℕ) → p.selection ≡ Indices xs n → Rising 0 16777216 xs.now × (places p ≡ at p.offset xs.now)
  places_in_list xs n e = (listed_rise p.offset xs n (fine _ e), as_form _ e ∙ places_listed p.offset xs n (fine _ e))

  pub places_in_runs : (rs : Bor (List Run)) (n : ℕ) → p.selection ≡ Runs rs n → RunsRise 0 16777216 rs.now × (places p ≡ run_places p.offset rs.now)
  places_in_runs rs n e = (listed_runs_rise p.offset rs n (fine _ e), as_form _ e ∙ places_runs p.offset rs n (fine _ e))
