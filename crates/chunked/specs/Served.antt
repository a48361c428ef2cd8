-- What a push leaves.
use Rattle.std.specs.Prelude.{ℕ, ◌+◌, ◌-◌, ◌*◌, ◌%◌, ◌^◌, ◌<◌, ◌≤◌, Bool, ◌&&◌, List, [], ◌∷◌, length, take, drop, Some, None, filter, Option, nat_lt}
use Rattle.std.specs.List.{range_with_len}
use Rattle.selection.specs.Refusals.{or_else, settled}
use Rattle.selection.specs.Selected.{Rising}
use Rattle.kernels.specs.Moved.{gather, splice}
use Rattle.source.specs.Fetched.{chunks_of}
use Rattle.settle.specs.declared.settle.Push.{Push}
use Rattle.settle.specs.declared.settle.Terms.{Terms}
use Rattle.chunked.specs.declared.filters.ChunkedFilter.{ChunkedFilter}
use Rattle.settle.specs.Prices.{chunk_places, fee_of, price}
use Rattle.settle.specs.Pushes.{places, refusal}

-- a chunk with n selected readings goes through scratch
abbrev pub compacted : ℕ → ℕ → Bool
compacted L n = nat_lt L n && nat_lt n 1024

abbrev pub compacts_chunk : ℕ → List ℕ → ℕ → Bool
compacts_chunk L ps c = compacted L (length (chunk_places ps c))

abbrev pub last_of : {X : Type 0} → List X → Option X
last_of [] = None
last_of (x ∷ xs) = or_else (last_of xs) (Some x)

-- the last chunk that goes through scratch
unfoldable pub last_compacted : ℕ → ℕ → List ℕ → Option ℕ
last_compacted L chunks ps = last_of (filter (compacts_chunk L ps) (range_with_len 0 chunks))

-- what a source, an output and a scratch hold
pub record Store (T : Type 0) : Type 0 where
  pub readings : List T
  pub allowance : ℕ
  pub output : List T
  pub scratch : List T

-- what a store offers to a push that writes from a place on, under the sparse limit L
abbrev pub offered : {T : Type 0} → ℕ → Store T → ℕ → Terms
offered L h at = record {
  limit = L;
  chunks = chunks_of h.readings;
  left = h.allowance;
  free = length h.output - at;
  scratch = length h.scratch;
}

-- scratch with a chunk over its first places, if there is one
abbrev pub overlaid : {T : Type 0} → List T → List T → Option ℕ → List T
overlaid xs aside None = aside
overlaid xs aside (Some c) = splice aside 0 (take 1024 (drop (1024 * c) xs))

-- the store after some places were served, with the output written from a place on
unfoldable pub serving : {T : Type 0} → ℕ → Store T → ℕ → List ℕ → Store T
serving L h at ps = record {
  readings = h.readings;
  allowance = h.allowance - fee_of L (chunks_of h.readings) ps;
  output = splice h.output at (gather h.readings ps);
  scratch = overlaid h.readings h.scratch (last_compacted L (chunks_of h.readings) ps);
}

-- ascending places of one chunk, at least one, that the terms allow
pub record Servable (t : Terms) (c : ℕ) (ps : List ℕ) : Type 0 where
  pub some : 0 < length ps
  pub chunk : c < t.chunks
  pub rising : Rising (1024 * c) (1024 * c + 1024) ps
  pub fits : length ps ≤ t.free
  pub payable : price t.limit (length ps) ≤ t.left
  pub room : 1024 ≤ t.scratch

abbrev pub storing : {T : Type 0} → List T → ℕ → List T → List T → Store T
storing xs left out aside = record { readings = xs; allowance = left; output = out; scratch = aside }

-- what a filter, its source, its output and its scratch hold
pub record State (T : Type 0) : Type 0 where
  pub readings : List T
  pub allowance : ℕ
  pub written : ℕ
  pub fees : ℕ
  pub output : List T
  pub scratch : List T

-- by what its source means, the state of a filter with an output and a scratch
abbrev pub state_of : {D T : Type 0} → (D → List T) → (D → ℕ) → ChunkedFilter D → List T → List T → State T
state_of readings allowance f out aside = record {
  readings = readings f.source;
  allowance = allowance f.source;
  written = f.written;
  fees = f.fees;
  output = out;
  scratch = aside;
}

abbrev pub store_of : {T : Type 0} → State T → Store T
store_of s = storing s.readings s.allowance s.output s.scratch

-- what a state offers to a push
abbrev pub terms_of : {T : Type 0} → ℕ → State T → Terms
terms_of L s = offered L (store_of s) s.written

-- the state with another store, so many more values written and so much more paid
abbrev pub more_written : {T : Type 0} → State T → Store T → ℕ → ℕ → State T
more_written s h count cost = record {
  readings = h.readings;
  allowance = h.allowance;
  written = (s.written + count) % 2 ^ 64;
  fees = (s.fees + cost) % 2 ^ 64;
  output = h.output;
  scratch = h.scratch;
}

-- the state after some places were served
unfoldable pub served : {T : Type 0} → ℕ → State T → List ℕ → State T
served L s ps = more_written s (serving L (store_of s) s.written ps) (length ps) (fee_of L (chunks_of s.readings) ps)

-- the state that a push leaves
unfoldable pub next : {T : Type 0} → ℕ → State T → Push → State T
next L s p = settled (refusal (terms_of L s) p) s (served L s (places p))
