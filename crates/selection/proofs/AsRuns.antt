-- Items of a list as runs, checked one by one.
use Rattle.std.proofs.Common.{◌≡◌, ℕ, ◌+◌, ◌-◌, ◌<◌, ◌≤◌, ◌||◌, List, [], ◌∷◌, map, length, get_or, take, eqb, Some, None, Ok, Err, sum_by, filter, sym, refl, ap, ◌∙◌, subst, ap₂, arith, Bor}
use Rattle.std.specs.List.{range_with_len}
use Rattle.std.proofs.lemmas.Bool.Decides.{nat_tests}
use Rattle.std.proofs.lemmas.List.{get_or-map, length-map, map-id}
use Rattle.std.proofs.lemmas.List.Elements.{filter_agree}
use Rattle.std.proofs.lemmas.List.Sums.{sum_by-cons, sum_by_more}
use Rattle.selection.specs.declared.selections.Run.{Run}
use Rattle.selection.specs.declared.refusals.Refusal.{Refusal}
use Rattle.selection.specs.declared.selections.Selection.TheVariants.{Indices, Runs}
use Rattle.selection.specs.Refusals.{answered, first, first_of}
use Rattle.selection.specs.Selected.{among, covered, in_run, index_fault, indices_fault, long, no_run, positions, run_fault, runs_fault, selection_fault}
use Rattle.selection.specs.Items.{item_fault, listed_fault, listed_positions, single}
use Rattle.selection.proofs.Faults.{least_after, least_start, run_fine, run_says}
use Rattle.selection.proofs.Objections.{first_same, answered_err, answered_ok, answered_value, count_ends, count_passes, count_stands}

abbrev pub size : Run → ℕ
size r = r.«end» - r.start

-- the runs before place k are sound, and this is the least that may come next
pub record Checked (n : ℕ) (rs : List Run) (k least : ℕ) : Type 0 where
  pub next : least ≡ least_start rs k
  pub rest : first (run_fault n rs) (range_with_len k (length rs - k)) ≡ runs_fault n rs

pub checked_none : (n : ℕ) (rs : List Run) → Checked n rs 0 0
checked_none n rs = let all : length rs - 0 ≡ length rs = omega arith in record { next = refl; rest = ap (λ m. first (run_fault n rs) (range_with_len 0 m)) all }

pub checked_all : (n : ℕ) (rs : List Run) (k least : ℕ) → Checked n rs k least → length rs ≤ k → runs_fault n rs ≡ None
checked_all n rs k least h l = count_ends (run_fault n rs) k (length rs) h.rest l

-- the item x at place k of a list
module _ {X : Type 0} (f : X → Run) (n : ℕ) (xs : List X) (k least : ℕ) (h : Checked n (map f xs) k least) (l : k < length xs) (x : X) (is : x ≡ get_or xs k x) where
  abbrev all : List Run
  all = map f xs

  here : get_or all k no_run ≡ f x
  here = get_or-map f xs k x no_run l ∙ ap f (sym is)

  within : k < length all
  within = omega (arith, length-map xs f)

  says : item_fault (f x) k least n ≡ run_fault n all k
  says = subst (λ r. item_fault r k least n ≡ run_fault n all k) here (run_says n all k least h.next)

  -- it is refused
  pub checked_refused : (e : Refusal) (y : ℕ) → answered (item_fault (f x) k least n) y ≡ Err e → runs_fault n all ≡ Some e
  checked_refused e y a = count_stands (run_fault n all) k (length all) h.rest e within (sym says ∙ answered_err _ _ _ a)

  -- or it is sound, and the check goes on
  module _ (next : ℕ) (a : answered (item_fault (f x) k least n) (f x).«end» ≡ Ok next) where
    fine : run_fault n all k ≡ None
    fine = sym says ∙ answered_ok _ _ _ a

    ends : (f x).«end» ≡ next
    ends = answered_value _ _ _ a

    pub checked_next : Checked n all (k + 1) next
    checked_next = record { next = sym ends ∙ ap (λ r. r.«end») (sym here) ∙ least_after all k; rest = count_passes (run_fault n all) k (length all) h.rest within fine }

    pub checked_bounds : (least ≤ (f x).start) × ((f x).start < next) × (next ≤ n)
    checked_bounds = rw (← ends) (subst (λ r. (least ≤ r.start) × (r.start < r.«end») × (r.«end» ≤ n)) here (run_fine n all k least h.next fine))

    -- the positions so far
    pub checked_more : sum_by size (take k all) + (next - (f x).start) ≡ sum_by size (take (k + 1) all)
    checked_more = ap (λ m. sum_by size (take k all) + (m - (f x).start)) (sym ends) ∙ ap (λ r. sum_by size (take k all) + size r) (sym here) ∙ sym (sum_by_more size all k no_run within)

-- an index is a run of one
pub single_fault : (n : ℕ) (xs : List ℕ) (k : ℕ) → k < length xs → run_fault n (map single xs) k ≡ index_fault n xs k
single_fault n xs k l =
    let here : get_or (map single xs) k no_run ≡ single (get_or xs k 0) = get_or-map single xs k 0 no_run l in
    let before : get_or (map single xs) (k - 1) no_run ≡ single (get_or xs (k - 1) 0) = get_or-map single xs (k - 1) 0 no_run (omega arith) in
    rw (here, before) (grind (arith, nat_tests))

pub single_faults : (n : ℕ) (xs : List ℕ) → runs_fault n (map single xs) ≡ indices_fault n xs
single_faults n xs = ap (λ m. first (run_fault n (map single xs)) (range_with_len 0 m)) (length-map xs single) ∙ first_same (run_fault n (map single xs)) (index_fault n xs) (length xs) (single_fault n xs)

pub single_sizes : (xs : List ℕ) → sum_by size (map single xs) ≡ length xs
single_sizes [] = refl
single_sizes (x ∷ xs) = let rest = single_sizes xs in sum_by-cons size (single x) (map single xs) ∙ omega arith

pub single_covers : (k : ℕ) (xs : List ℕ) → covered k (map single xs) ≡ among k xs
single_covers k [] = refl
single_covers k (x ∷ xs) = let rest = single_covers k xs in let one : in_run k (single x) ≡ eqb x k = grind (arith, nat_tests) in ap₂ (λ a b. a || b) one rest

pub single_positions : (n : ℕ) (xs : List ℕ) → listed_positions n (map single xs) ≡ filter (λ k. among k xs) (range_with_len 0 n)
single_positions n xs = filter_agree (λ k. covered k (map single xs)) (λ k. among k xs) (λ k. single_covers k xs) (range_with_len 0 n)

-- so an index list is refused as its runs are, and has their positions
module _ (xs : Bor (List ℕ)) (n : ℕ) where
  pub indices_listed_fault : listed_fault n (map single xs.now) ≡ selection_fault (Indices xs n)
  unfolding selection_fault
  indices_listed_fault = ap (λ o. first_of (long n ∷ o ∷ [])) (single_faults n xs.now)

  pub indices_listed_positions : listed_positions n (map single xs.now) ≡ positions (Indices xs n)
  unfolding positions
  indices_listed_positions = single_positions n xs.now

-- and so is a list of runs
module _ (rs : Bor (List Run)) (n : ℕ) where
  pub runs_listed_fault : listed_fault n (map (λ r. r) rs.now) ≡ selection_fault (Runs rs n)
  unfolding selection_fault
  runs_listed_fault = ap (listed_fault n) (map-id rs.now)

  pub runs_listed_positions : listed_positions n (map (λ r. r) rs.now) ≡ positions (Runs rs n)
  unfolding positions
  runs_listed_positions = ap (listed_positions n) (map-id rs.now)
