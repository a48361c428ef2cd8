-- What one push asks and leaves.
use Rattle.std.proofs.Common.{◌≡◌, ℕ, ◌+◌, ◌-◌, ◌*◌, ◌^◌, ◌<◌, ◌≤◌, List, ◌++◌, length, take, Ok, Err, sym, refl, ap, ◌∙◌, mod-eq_of_lt, arith}
use Rattle.std.specs.List.{range_with_len}
use Rattle.selection.specs.Selected.{Rising, extent, picks, positions}
use Rattle.selection.proofs.Rising.{rising_counting, rising_kept, rising_shifted}
use Rattle.kernels.specs.Moved.{gather, splice}
use Rattle.kernels.proofs.Gathered.{length_gather, length_splice, take_splice}
use Rattle.source.specs.Fetched.{Whole, chunks_of}
use Rattle.settle.specs.declared.settle.Push.{Push}
use Rattle.settle.specs.declared.settle.Receipt.{Receipt}
use Rattle.settle.specs.Prices.{fee_of}
use Rattle.settle.specs.Pushes.{Answer, answer, places}
use Rattle.chunked.specs.Served.{State, last_compacted, next, served, serving, terms_of}
use Rattle.settle.proofs.Settled.{roomy}
use Rattle.chunked.proofs.Accepted.{accepted, refused_next}
use Rattle.chunked.proofs.Serving.{granted, length_overlaid, places_inside}
use Rattle.runs.proofs.Fees.{fee_high, fee_low}

-- places ascend
pub places_rise : (p : Push) → Rising (p.offset + 0) (p.offset + extent p.selection) (places p)
unfolding places positions
places_rise p =
    let n = extent p.selection in
    rising_shifted p.offset 0 n (positions p.selection) (rising_kept (picks p.selection) 0 n (range_with_len 0 n) (rising_counting 0 n n (omega arith)))

-- a state between pushes
pub record Sound {T : Type 0} (s : State T) : Type 0 where
  pub whole : Whole s.readings
  pub room : length s.output < 2 ^ 64
  pub within : s.written ≤ length s.output
  pub small : s.fees + s.allowance < 2 ^ 64

-- what an accepted push does, from s to t
pub record Takes {T : Type 0} (L : ℕ) (s t : State T) (ps : List ℕ) (r : Receipt) : Type 0 where
  pub low : r.count ≤ r.fee
  pub high : (L + 1) * r.fee ≤ 1024 * r.count
  pub readings : t.readings ≡ s.readings
  pub spent : s.allowance ≡ t.allowance + r.fee
  pub counted : t.written ≡ s.written + r.count
  pub charged : t.fees ≡ s.fees + r.fee
  pub output : length t.output ≡ length s.output
  pub fits : t.written ≤ length t.output
  pub wrote : take t.written t.output ≡ take s.written s.output ++ gather s.readings ps

module _ {T : Type 0} (L : ℕ) (s : State T) (p : Push) where
  -- scratch keeps its length
  pub next_scratch : length (next L s p).scratch ≡ length s.scratch
  unfolding served serving
  next_scratch = go (answer (terms_of L s) p) refl
    where
      go : (a : Answer) → answer (terms_of L s) p ≡ a → length (next L s p).scratch ≡ length s.scratch
      go (Err e) h = ap (λ t. length t.scratch) (sym (refused_next L s p e h))
      go (Ok r) h =
          let ok = accepted L s p r h in
          ap (λ t. length t.scratch) ok.after
          ∙ length_overlaid s.readings s.scratch (last_compacted L (chunks_of s.readings) (places p)) (roomy (length s.scratch) p.offset ok.roomy).1

  pub takes : (r : Receipt) → L + 1 ≤ 1024 → Sound s → answer (terms_of L s) p ≡ Ok r → Takes L s (next L s p) (places p) r
  unfolding served serving
  takes r small sound h =
      let ps = places p in
      let n = chunks_of s.readings in
      let ok = accepted L s p r h in
      let g = granted (terms_of L s) ps ok.allowed in
      let after = ok.after in
      let gives = ok.gives in
      let count : r.count ≡ length ps = ap (λ q. q.count) gives in
      let fee : r.fee ≡ fee_of L n ps = ap (λ q. q.fee) gives in
      let low = fee_low L n _ _ ps (places_rise p) g.inside in
      let high = fee_high L n _ _ ps (places_rise p) g.inside small in
      let values = length_gather s.readings ps (places_inside s.readings ps sound.whole g.inside) in
      let pay = g.payable in
      let fit = g.fits in
      let within = sound.within in
      let room = sound.room in
      let bound = sound.small in
      let out = splice s.output s.written (gather s.readings ps) in
      let kept : length out ≡ length s.output = length_splice s.output s.written (gather s.readings ps) (omega arith) in
      let front : take (s.written + length ps) out ≡ take s.written s.output ++ gather s.readings ps = take_splice s.output s.written (length ps) (gather s.readings ps) within values in
      let counted : (next L s p).written ≡ s.written + length ps = ap (λ t. t.written) after ∙ mod-eq_of_lt (omega arith) in
      let charged : (next L s p).fees ≡ s.fees + fee_of L n ps = ap (λ t. t.fees) after ∙ mod-eq_of_lt (omega arith) in
      let left : (next L s p).allowance ≡ s.allowance - fee_of L n ps = ap (λ t. t.allowance) after in
      let size : length (next L s p).output ≡ length s.output = ap (λ t. length t.output) after ∙ kept in
      let wrote : (next L s p).output ≡ out = ap (λ t. t.output) after in
      record {
        low = omega arith;
        high = rw (count, fee) high;
        readings = ap (λ t. t.readings) after;
        spent = omega arith;
        counted = omega arith;
        charged = omega arith;
        output = size;
        fits = omega arith;
        wrote = rw (counted, wrote) front;
      }
