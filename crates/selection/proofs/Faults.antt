-- What the checks of a list find at one item.
use Rattle.std.proofs.Common.{◌≡◌, ℕ, ◌+◌, ◌-◌, ◌*◌, ◌<◌, ◌≤◌, cond, ◌||◌, ltb, leb, List, [], ◌∷◌, length, get_or, None, ◌∙◌, arith}
use Rattle.std.proofs.lemmas.Bool.Decides.{nat_tests}
use Rattle.selection.specs.declared.selections.Run.{Run}
use Rattle.selection.specs.declared.refusals.Refusal.TheVariants.{Order, Past}
use Rattle.selection.specs.declared.windows.Window.{Window}
use Rattle.selection.specs.Selected.{run_fault, no_run, window_fault, long, short}
use Rattle.selection.specs.Items.{item_fault}
use Rattle.std.proofs.lemmas.Bool.{leb-false, ltb-false, or_parts}
use Rattle.selection.specs.Refusals.{when}
use Rattle.selection.proofs.Objections.{none_each, when_none}

-- the least start that may stand at place k: where the run before it ends, or 0 at the first
abbrev pub least_start : List Run → ℕ → ℕ
least_start rs k = cond (ltb 0 k) (get_or rs (k - 1) no_run).«end» 0

pub least_after : (rs : List Run) (k : ℕ) → (get_or rs k no_run).«end» ≡ least_start rs (k + 1)
least_after rs k = let back : k + 1 - 1 ≡ k = omega arith in rw back (grind (arith, nat_tests))

-- what the check of an item says is its fault
pub run_says : (n : ℕ) (rs : List Run) (k least : ℕ) → least ≡ least_start rs k → item_fault (get_or rs k no_run) k least n ≡ run_fault n rs k
run_says n rs k least is = grind (arith, nat_tests)

-- a sound item
pub run_fine : (n : ℕ) (rs : List Run) (k least : ℕ) → least ≡ least_start rs k → run_fault n rs k ≡ None → (least ≤ (get_or rs k no_run).start) × ((get_or rs k no_run).start < (get_or rs k no_run).«end») × ((get_or rs k no_run).«end» ≤ n)
run_fine n rs k least is e =
    let r = get_or rs k no_run in
    let h = none_each (when (ltb r.start least || leb r.«end» r.start) (Order k) ∷ when (ltb n r.«end») (Past k) ∷ []) (run_says n rs k least is ∙ e) in
    let o = or_parts (ltb r.start least) (leb r.«end» r.start) (when_none _ _ h.0) in
    (ltb-false _ _ o.0, leb-false _ _ o.1, ltb-false _ _ (when_none _ _ h.1.0))

-- a well formed window lies within its bytes
pub window_within : (w : Window) → window_fault w ≡ None → (w.len ≤ 16777216) × (w.start + w.len ≤ 8 * length w.bytes.now)
window_within w e =
    let h = none_each (long w.len ∷ short w ∷ []) e in
    (ltb-false 16777216 w.len (when_none _ _ h.0), ltb-false (8 * length w.bytes.now) (w.start + w.len) (when_none _ _ h.1.0))
