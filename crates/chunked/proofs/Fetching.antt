-- What a fetch into a part of the output leaves.
use Rattle.std.proofs.Common.{◌≡◌, ℕ, ◌+◌, ◌-◌, List, ◌++◌, map, length, take, drop, None, ap, ◌∙◌, arith}
use borrow.Rule.Slice.PartMut.{put_mid}
use Rattle.std.proofs.lemmas.List.{append-nil, drop_all, drop-drop, length-drop, take_rest}
use Rattle.kernels.specs.Moved.{gather, splice}
use Rattle.source.specs.Fetched.{delivered, fetch_fault, fetched, holding, place_in}
use Rattle.source.proofs.Fetches.{fetched_ok}

-- a write from the first place of a part
pub splice_part : {T : Type 0} (out : List T) (at : ℕ) (vs : List T) → take at out ++ splice (drop at out) 0 vs ≡ splice out at vs
splice_part out at vs =
    let from_zero : 0 + length vs ≡ length vs = omega arith in
    ap (λ n. take at out ++ (vs ++ drop n (drop at out))) from_zero ∙ ap (λ zs. take at out ++ (vs ++ zs)) (drop-drop (length vs) at out)

-- a part that reaches to the end
pub put_rest : {T : Type 0} (out part : List T) (at : ℕ) → put_mid at (length out - at) out part ≡ take at out ++ part
put_rest out part at =
    let none = drop_all (length out - at) (drop at out) (let n = length-drop at out in omega arith) in
    ap (λ zs. take at out ++ (part ++ zs)) none ∙ ap (λ zs. take at out ++ zs) (append-nil part)

pub record Fetch {T : Type 0} (xs xs' : List T) (left left' : ℕ) (out out' : List T) (at c : ℕ) (is : List ℕ) : Type 0 where
  pub kept : xs' ≡ xs
  pub paid : left' ≡ left - length is
  pub wrote : out' ≡ splice out at (gather xs (map (place_in c) is))

pub fetched_part : {T : Type 0} (xs xs' : List T) (left left' : ℕ) (out part : List T) (at c : ℕ) (is : List ℕ) → fetch_fault (holding xs left (drop at out)) c is ≡ None → holding xs' left' part ≡ fetched (holding xs left (take (length out - at) (drop at out))) c is → Fetch xs xs' left left' out (put_mid at (length out - at) out part) at c is
fetched_part xs xs' left left' out part at c is clear e =
    let done : holding xs' left' part ≡ delivered (holding xs left (drop at out)) c is = e ∙ ap (λ zs. fetched (holding xs left zs) c is) (take_rest out at) ∙ fetched_ok (holding xs left (drop at out)) c is clear in
    record {
      kept = ap (λ h. h.readings) done;
      paid = ap (λ h. h.allowance) done;
      wrote = put_rest out part at ∙ ap (λ zs. take at out ++ zs) (ap (λ h. h.output) done) ∙ splice_part out at (gather xs (map (place_in c) is));
    }
