use Rattle.std.proofs.Common.{◌≡◌, ℕ, ◌/◌, false, List, ◌++◌, length, is_some, Some, None, Option, sym, refl, ap, ◌∙◌, arith}
use Rattle.std.specs.List.{AllByRecursion}
use Rattle.selection.specs.Refusals.{first}
use Rattle.settle.specs.Pushes.{past_source}
use Rattle.settle.specs.Tallies.{Tallied, beyond_fault}
use Rattle.settle.proofs.Tallying.{Turned, past_not, past_now, past_still, tallied_more, turned_next, turned_same, turned_weight}
use Rattle.settle.proofs.settle.Tally.take.Goals as goal
use Rattle.settle.proofs.settle.Tally.take.Goals.{then-chunk-self, else-chunk-self, else-chunk-terms-via-then-chunk-terms+else-is_none, else-chunk-terms-via-else-chunk-terms}

none_is : (o : Option ℕ) → is_some o ≡ false → o ≡ None
none_is None e = refl
none_is (Some x) e = let z : ◌≡◌ {A = ℕ} 0 1 = cc in absurd (omega arith)

pub returns-then-is_none : goal.returns-then-is_none
returns-then-is_none c =
    let t = c.args.terms.now in
    let y = c.args.self.now in
    let chunk = c.args.chunk in
    let n = c.args.n in
    let z = c.if-chunk-self.self in
    let turn : Turned t.limit y chunk z =
    elim c.if-chunk-self.branch [
      | then-chunk-self w ↦ turned_next t.limit y chunk w.chunk_price.result z c.requires.ahead w.if-chunk-self.true w.chunk_price.ensures w.self-is
      | else-chunk-self w ↦ turned_same t.limit y chunk z w.if-chunk-self.false w.self-is
    ] in
    record {
      tallied = λ ps ys h here size. tallied_more t y chunk n z turn ps ys h here size c.requires.ahead (Some chunk) (past_now t y ps ys chunk n h here size c.requires.ahead c.requires.some (sym turn.beyond ∙ none_is z.beyond c.if-is_none.ensures) c.if-chunk-terms.true);
      current = turn.chunk;
      weight = turned_weight t.limit y chunk n z turn;
    }

pub returns-else-chunk-terms : goal.returns-else-chunk-terms
returns-else-chunk-terms c =
    let t = c.args.terms.now in
    let y = c.args.self.now in
    let chunk = c.args.chunk in
    let n = c.args.n in
    let z = c.if-chunk-self.self in
    let turn : Turned t.limit y chunk z =
    elim c.if-chunk-self.branch [
      | then-chunk-self w ↦ turned_next t.limit y chunk w.chunk_price.result z c.requires.ahead w.if-chunk-self.true w.chunk_price.ensures w.self-is
      | else-chunk-self w ↦ turned_same t.limit y chunk z w.if-chunk-self.false w.self-is
    ] in
    let past : (ps ys : List ℕ) → Tallied t y ps → AllByRecursion (λ p. p / 1024 ≡ chunk) ys → length ys ≡ n → first (past_source t.chunks) (ps ++ ys) ≡ beyond_fault z.beyond =
    λ ps ys h here size. elim c.else-chunk-terms.branch [
      | else-chunk-terms-via-then-chunk-terms+else-is_none w ↦ past_still t y ps ys chunk n h here size c.requires.ahead z.beyond c.requires.some turn.beyond w.if-is_none.ensures
      | else-chunk-terms-via-else-chunk-terms w ↦ past_not t y ps ys chunk n h here size c.requires.ahead c.requires.some w.if-chunk-terms.false ∙ ap beyond_fault (sym turn.beyond)
    ] in
    record {
      tallied = λ ps ys h here size. tallied_more t y chunk n z turn ps ys h here size c.requires.ahead z.beyond (past ps ys h here size);
      current = turn.chunk;
      weight = turned_weight t.limit y chunk n z turn;
    }
