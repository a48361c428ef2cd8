use Rattle.std.proofs.Common.{◌≡◌, ℕ, ◌+◌, ◌-◌, ◌*◌, ◌/◌, ◌<◌, ◌≤◌, List, ◌++◌}
use Rattle.std.specs.List.{range_with_len}
use Rattle.settle.specs.Tallies.{Tallied}
use Rattle.settle.proofs.settle.Tally.take_parts.Given as goal

-- the places before `at`, which lies in the chunk that ends at `end`
abbrev pub invariant-loop-end : goal.invariant-loop-end
invariant-loop-end l = record {
  tallied : (ps : List ℕ) → Tallied l.terms l.initial.self ps → Tallied l.terms l.self (ps ++ range_with_len l.«from» (l.at - l.«from»));
  order : l.«from» ≤ l.at;
  more : l.at < l.to;
  here : l.chunk ≡ l.at / 1024;
  ends : l.end ≡ (l.chunk + 1) * 1024;
  current : l.self.chunk ≤ l.chunk;
  weight : l.self.fee + 1024 * l.self.count ≤ l.initial.self.fee + 1024 * (l.initial.self.count + (l.at - l.«from»));
}

abbrev pub decreases-loop-end : goal.decreases-loop-end
decreases-loop-end l = l.to - l.at
