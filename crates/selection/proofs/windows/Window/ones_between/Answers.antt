use Rattle.std.proofs.Common.{◌≡◌, ◌+◌, ◌-◌, ◌^◌, ◌<◌, min, length, filter, ap, ◌∙◌, ap₂, arith, rules}
use lib.Count.{ones}
use Rattle.std.specs.List.{range_with_len}
use Rattle.std.proofs.lemmas.List.FromFn.{length-range_with_len}
use Rattle.selection.specs.Selected.{set_between, window_bit}
use Rattle.selection.proofs.Filtered.{kept_fewer_all}
use Rattle.selection.proofs.Fields.{ones_parts}
use Rattle.selection.proofs.windows.Window.ones_between.Goals as goal

-- both parts together
both : (c : goal.After-ones_in_words) → c.from.result + c.ones_in_words.result ≡ length (filter (window_bit c.args.self) (range_with_len c.min-first.result c.saturating_sub-n.result))
both c =
    let w = c.args.self in
    let first = c.min-first.result in
    let n = c.saturating_sub-n.result in
    let head = c.min-head.result in
    let a = c.min-first.ensures in
    let b = c.min.ensures in
    let d = c.saturating_sub-n.ensures in
    let e = c.min-head.ensures in
    let all : head + (n - head) ≡ n = omega arith in
    ap₂ (λ x y. x + y) (c.from.ensures ∙ ap ones c.bits.ensures) c.ones_in_words.ensures
    ∙ ones_parts w first head (n - head) (omega arith) (omega arith)
    ∙ ap (λ m. length (filter (window_bit w) (range_with_len first m))) all

pub overflow_add-result : goal.overflow_add-result
overflow_add-result c =
    let first = c.min-first.result in
    let n = c.saturating_sub-n.result in
    let sum = both c in
    let most = kept_fewer_all (window_bit c.args.self) (range_with_len first n) in
    let size = length-range_with_len first n in
    let long : n < 2 ^ 64 = c.saturating_sub-n.type_inv in
    let fits : c.from.result + c.ones_in_words.result < 2 ^ 64 = omega arith in
    search rules

pub returns : goal.returns
unfolding set_between
returns c =
    let w = c.args.self in
    let a = c.min-first.ensures in
    let b = c.min.ensures in
    let d = c.saturating_sub-n.ensures in
    let size : c.saturating_sub-n.result ≡ min c.args.to w.len - min c.args.«from» w.len = omega arith in
    both c ∙ ap₂ (λ x m. length (filter (window_bit w) (range_with_len x m))) a size
