-- What a delivery holds, and what serving places does to it.
use Rattle.std.specs.Prelude.{◌≡◌, ℕ, ◌+◌, ◌≤◌, List, length, None}
use Rattle.settle.specs.declared.settle.Terms.{Terms}
use Rattle.settle.specs.Pushes.{declined}
use Rattle.chunked.specs.declared.serve.Delivery.{Delivery}
use Rattle.chunked.specs.Served.{Store, offered, serving, storing}

-- by what its source means, what the source, the output and the scratch of a delivery hold
abbrev pub held : {D T : Type 0} → (D → List T) → (D → ℕ) → Delivery D T → Store T
held readings allowance d = storing (readings d.source.now) (allowance d.source.now) d.output.now d.scratch.now

-- what it offers, under the sparse limit L
abbrev pub offers : {D T : Type 0} → ℕ → (D → List T) → (D → ℕ) → Delivery D T → Terms
offers L readings allowance d = offered L (held readings allowance d) d.at

-- nothing stands against serving some places, and scratch has room for a chunk
pub record Granted {D T : Type 0} (L : ℕ) (readings : D → List T) (allowance : D → ℕ) (d : Delivery D T) (ps : List ℕ) : Type 0 where
  pub allowed : declined (offers L readings allowance d) ps ≡ None
  pub room : 1024 ≤ length d.scratch.now

-- two deliveries that go through the same references
pub record SameRefs {D T : Type 0} (d e : Delivery D T) : Type 0 where
  pub source : e.source.ghost_name ≡ d.source.ghost_name
  pub output : e.output.ghost_name ≡ d.output.ghost_name
  pub scratch : e.scratch.ghost_name ≡ d.scratch.ghost_name

-- a delivery before and after some places were served
pub record Delivered {D T : Type 0} (L : ℕ) (readings : D → List T) (allowance : D → ℕ) (d e : Delivery D T) (ps : List ℕ) : Type 0 where
  pub store : held readings allowance e ≡ serving L (held readings allowance d) d.at ps
  pub moved : e.at ≡ d.at + length ps
  pub same : SameRefs d e
