-- Bits in bytes, and what an accumulator adds to them.
use Rattle.std.proofs.Common.{◌≡◌, ℕ, zero, suc, ◌+◌, ◌-◌, ◌*◌, ◌/◌, ◌%◌, ◌^◌, ◌<◌, ◌≤◌, Bool, List, [], ◌∷◌, ◌++◌, length, take, drop, set, sym, refl, ap, ◌∙◌, subst, ap₂, lt_of_lt_of_le, add-zero, mod-eq_of_lt, mul_assoc, suc-add, arith, pow_pos, pow_mono, pow-add, shr-shr, shr_lt, MutBor}
use native.Mathlib.Nat.{div-div-eq-div-mul, mul-add-div_right}
use lib.Bits.{bit_or}
use lib.Pow.{high, low, mod-pow-add, shl-shr, split}
use Rattle.std.proofs.lemmas.Nat.{or_comm, or_shifted}
use Rattle.std.proofs.lemmas.List.{append_assoc, append-nil, drop-drop, length-append, take_at}
use Rattle.kernels.specs.Moved.{splice}
use Rattle.kernels.proofs.Gathered.{length_splice, splice_more, splice_none, splice_splice}
use Rattle.slices.specs.declared.accumulator.Accumulator.{Accumulator}
use Rattle.slices.specs.Bits.{bit_bytes, bytes_for, low_bytes, packed}
use Rattle.slices.specs.Accumulated.{Adds, Holds, Room}
use Rattle.slices.proofs.Packed.{packed_append, packed_lt}

pub length_low : (n x : ℕ) → length (low_bytes n x) ≡ n
length_low zero x = refl
length_low (suc n) x = ap suc (length_low n (x / 256))

pub low_split : (m n x : ℕ) → low_bytes (m + n) x ≡ low_bytes m x ++ low_bytes n (x / 2 ^ (8 * m))
low_split zero n x =
    let e : 0 + n ≡ n = omega arith in
    let f : x / 1 ≡ x = omega arith in
    rw (e, f) refl
low_split (suc m) n x =
    let e : 8 + 8 * m ≡ 8 * suc m = omega arith in
    ap (λ k. low_bytes k x) (suc-add m n) ∙ ap (λ ys. x % 256 ∷ ys) (low_split m n (x / 256) ∙ ap (λ t. low_bytes m (x / 256) ++ low_bytes n t) (shr-shr x 8 (8 * m) ∙ ap (λ t. x / 2 ^ t) e))

-- the low bytes do not see what is above them
pub low_above : (n y x : ℕ) → low_bytes n (y * 2 ^ (8 * n) + x) ≡ low_bytes n x
low_above zero y x = refl
low_above (suc n) y x =
    let q : ℕ = y * 2 ^ (8 * n) in
    let e : 8 * suc n ≡ 8 * n + 8 = omega arith in
    let p : y * 2 ^ (8 * suc n) ≡ q * 256 = ap (λ t. y * 2 ^ t) e ∙ ap (λ t. y * t) (pow-add 2 (8 * n) 8) ∙ sym (mul_assoc y (2 ^ (8 * n)) 256) in
    ap (λ t. low_bytes (suc n) (t + x)) p ∙ go q (low_above n y (x / 256))
  where
    go : (q : ℕ) → low_bytes n (q + x / 256) ≡ low_bytes n (x / 256) → low_bytes (suc n) (q * 256 + x) ≡ low_bytes (suc n) x
    go q rest =
        let a : (q * 256 + x) % 256 ≡ x % 256 = omega arith in
        let b : (q * 256 + x) / 256 ≡ q + x / 256 = omega arith in
        ap₂ (λ s t. s ∷ low_bytes n t) a b ∙ ap (λ ys. x % 256 ∷ ys) rest

pub low_mod : (n x : ℕ) → low_bytes n (x % 2 ^ (8 * n)) ≡ low_bytes n x
low_mod n x = sym (low_above n (x / 2 ^ (8 * n)) (x % 2 ^ (8 * n))) ∙ ap (low_bytes n) (split x (8 * n))

-- one byte more
pub low_more : (n x : ℕ) → low_bytes (n + 1) x ≡ low_bytes n x ++ (x / 2 ^ (8 * n) % 256 ∷ [])
low_more n x = low_split n 1 x

pub low_take : (n k x : ℕ) → n ≤ k → take n (low_bytes k x) ≡ low_bytes n x
low_take n k x h =
    let m : ℕ = k - n in
    let on : n + m ≡ k = omega arith in
    ap (λ j. take n (low_bytes j x)) (sym on) ∙ ap (take n) (low_split n m x) ∙ take_at (low_bytes n x) (low_bytes m (x / 2 ^ (8 * n))) n (length_low n x)

pub le_bytes : (x : ℕ) → (x % 256 ∷ x / 256 % 256 ∷ x / 65536 % 256 ∷ x / 16777216 % 256 ∷ x / 4294967296 % 256 ∷ x / 1099511627776 % 256 ∷ x / 281474976710656 % 256 ∷ x / 72057594037927936 % 256 ∷ []) ≡ low_bytes 8 x
le_bytes x = simp div-div-eq-div-mul

-- a part of a slice, replaced by as many bytes
pub put_low : (xs ys : List ℕ) (at n w : ℕ) → ys ≡ low_bytes n w → take at xs ++ (ys ++ drop (at + n - at) (drop at xs)) ≡ splice xs at (low_bytes n w)
put_low xs ys at n w e =
    let b : at + n - at ≡ n = omega arith in
    ap₂ (λ vs zs. take at xs ++ (vs ++ zs)) e (ap (λ k. drop k (drop at xs)) b ∙ drop-drop n at xs ∙ ap (λ k. drop (at + k) xs) (sym (length_low n w)))

-- bits put above those of a word
pub or_word : (low x f : ℕ) → f < 64 → low < 2 ^ f → bit_or low ((x * 2 ^ f) % 2 ^ 64) ≡ (x * 2 ^ f + low) % 2 ^ 64
or_word l x f h below =
    let s : ℕ = 64 - f in
    let on : s + f ≡ 64 = omega arith in
    subst (λ w. bit_or l ((x * 2 ^ f) % 2 ^ w) ≡ (x * 2 ^ f + l) % 2 ^ w) on (go s)
  where
    go : (s : ℕ) → bit_or l ((x * 2 ^ f) % 2 ^ (s + f)) ≡ (x * 2 ^ f + l) % 2 ^ (s + f)
    go s =
        let up : (x * 2 ^ f) % 2 ^ (s + f) ≡ x % 2 ^ s * 2 ^ f = mod-pow-add (x * 2 ^ f) s f ∙ ap₂ (λ a b. a % 2 ^ s * 2 ^ f + b) (shl-shr x f) (ap (λ t. t % 2 ^ f) (sym (add-zero (x * 2 ^ f))) ∙ low x f (pow_pos f)) ∙ add-zero _ in
        let right : (x * 2 ^ f + l) % 2 ^ (s + f) ≡ x % 2 ^ s * 2 ^ f + l = mod-pow-add (x * 2 ^ f + l) s f ∙ ap₂ (λ a b. a % 2 ^ s * 2 ^ f + b) (high x f below) (low x f below) in
        ap (bit_or l) up ∙ or_comm l (x % 2 ^ s * 2 ^ f) ∙ or_shifted (x % 2 ^ s) f l below ∙ sym right

-- the bits of a step that do not fit
pub past_word : (low x f : ℕ) → f < 64 → low < 2 ^ f → x / 2 / 2 ^ (63 - f) ≡ (x * 2 ^ f + low) / 2 ^ 64
past_word l x f h below =
    let s : ℕ = 64 - f in
    let on : f + s ≡ 64 = omega arith in
    let one : 1 + (63 - f) ≡ s = omega arith in
    shr-shr x 1 (63 - f) ∙ ap (λ t. x / 2 ^ t) one ∙ ap (λ t. t / 2 ^ s) (sym (high x f below)) ∙ shr-shr (x * 2 ^ f + l) f s ∙ ap (λ t. (x * 2 ^ f + l) / 2 ^ t) on

-- bits xs, which make x, come after those that are held
module _ (bs xs : List Bool) (before : List ℕ) (acc : Accumulator) (x n : ℕ) (h : Holds bs before acc) (size : length xs ≡ n) (is : packed xs ≡ x) where
  both : packed (bs ++ xs) ≡ x * 2 ^ acc.fill * 2 ^ (8 * acc.at) + packed bs
  both =
      let turn : length bs ≡ acc.fill + 8 * acc.at = let e = h.count in omega arith in
      packed_append bs xs ∙ ap₂ (λ s t. s * t + packed bs) is (ap (λ t. 2 ^ t) turn ∙ pow-add 2 acc.fill (8 * acc.at)) ∙ ap (λ t. t + packed bs) (sym (mul_assoc x (2 ^ acc.fill) (2 ^ (8 * acc.at))))

  total : packed (bs ++ xs) / 2 ^ (8 * acc.at) ≡ x * 2 ^ acc.fill + acc.low
  total = ap (λ t. t / 2 ^ (8 * acc.at)) both ∙ mul-add-div_right (pow_pos (8 * acc.at)) (x * 2 ^ acc.fill) (packed bs) ∙ ap (λ t. x * 2 ^ acc.fill + t) (sym h.low)

  few : acc.low < 2 ^ acc.fill
  few =
      let turn : length bs ≡ acc.fill + 8 * acc.at = let e = h.count in omega arith in
      rw h.low (shr_lt acc.fill (8 * acc.at) (subst (λ t. packed bs < 2 ^ t) turn (packed_lt bs)))

  size_both : length (bs ++ xs) ≡ acc.fill + n + 8 * acc.at
  size_both = let e = h.count in length-append bs xs ∙ omega arith

  less : x * 2 ^ acc.fill + acc.low < 2 ^ (acc.fill + n)
  less = rw (← total) (shr_lt (acc.fill + n) (8 * acc.at) (subst (λ t. packed (bs ++ xs) < 2 ^ t) size_both (packed_lt (bs ++ xs))))

  same_bytes : low_bytes acc.at (packed (bs ++ xs)) ≡ low_bytes acc.at (packed bs)
  same_bytes = ap (low_bytes acc.at) both ∙ low_above acc.at (x * 2 ^ acc.fill) (packed bs)

  -- they fit
  pub adds_within : acc.fill + n < 64 → Holds (bs ++ xs) before (record { out = acc.out; low = bit_or acc.low ((x * 2 ^ acc.fill) % 2 ^ 64); fill = acc.fill + n; at = acc.at })
  adds_within l =
      let c = size_both in
      record {
        fill = l;
        count = omega arith;
        inside = h.inside;
        written = h.written ∙ ap (splice before 0) (sym same_bytes);
        low = or_word acc.low x acc.fill h.fill few ∙ mod-eq_of_lt (lt_of_lt_of_le less (pow_mono {j = 64} (omega arith))) ∙ sym total;
      }

  held_length : length acc.out.now ≡ length before
  held_length =
      let i = h.inside in
      let e = length_low acc.at (packed bs) in
      ap length h.written ∙ length_splice before 0 (low_bytes acc.at (packed bs)) (omega arith)

  -- 64 are full
  pub adds_past : (out : MutBor (List ℕ)) → n ≤ 64 → 64 ≤ acc.fill + n → 8 * acc.at + acc.fill + n ≤ 8 * length acc.out.now → out.now ≡ splice acc.out.now acc.at (low_bytes 8 (bit_or acc.low ((x * 2 ^ acc.fill) % 2 ^ 64))) → Holds (bs ++ xs) before (record { out = out; low = x / 2 / 2 ^ (63 - acc.fill); fill = acc.fill + n - 64; at = acc.at + 8 })
  adds_past out m l room e =
      let c = size_both in
      let f = h.fill in
      let long = held_length in
      let a = acc.at in
      let word : low_bytes 8 (bit_or acc.low ((x * 2 ^ acc.fill) % 2 ^ 64)) ≡ low_bytes 8 (packed (bs ++ xs) / 2 ^ (8 * a)) = ap (low_bytes 8) (or_word acc.low x acc.fill h.fill few) ∙ low_mod 8 (x * 2 ^ acc.fill + acc.low) ∙ ap (low_bytes 8) (sym total) in
      let next : 8 * a + 64 ≡ 8 * (a + 8) = omega arith in
      let here : a ≡ 0 + a = omega arith in
      record {
        fill = omega arith;
        count = omega arith;
        inside = omega arith;
        written = e
            ∙ ap₂ (λ zs ws. splice zs a ws) (h.written ∙ ap (splice before 0) (sym same_bytes)) word
            ∙ ap (λ t. splice (splice before 0 (low_bytes a (packed (bs ++ xs)))) t (low_bytes 8 (packed (bs ++ xs) / 2 ^ (8 * a)))) here
            ∙ splice_splice before 0 a (low_bytes a (packed (bs ++ xs))) (low_bytes 8 (packed (bs ++ xs) / 2 ^ (8 * a))) (length_low a (packed (bs ++ xs))) (omega arith)
            ∙ ap (splice before 0) (sym (low_split a 8 (packed (bs ++ xs))));
        low = past_word acc.low x acc.fill h.fill few ∙ ap (λ t. t / 2 ^ 64) (sym total) ∙ shr-shr (packed (bs ++ xs)) (8 * a) 64 ∙ ap (λ t. packed (bs ++ xs) / 2 ^ t) next;
      }

-- what is left of the bits that are held is written
pub ends_all : (bs : List Bool) (before out : List ℕ) (acc : Accumulator) → Holds bs before acc → out ≡ splice acc.out.now acc.at (low_bytes (bytes_for acc.fill) acc.low) → out ≡ splice before 0 (bit_bytes bs)
unfolding bit_bytes
ends_all bs before out acc h e =
    let a = acc.at in
    let p = packed bs in
    let c = h.count in
    let here : a ≡ 0 + a = omega arith in
    let all : a + bytes_for acc.fill ≡ bytes_for (length bs) = omega arith in
    e
    ∙ ap₂ (λ zs t. splice zs a (low_bytes (bytes_for acc.fill) t)) h.written h.low
    ∙ ap (λ t. splice (splice before 0 (low_bytes a p)) t (low_bytes (bytes_for acc.fill) (p / 2 ^ (8 * a)))) here
    ∙ splice_splice before 0 a (low_bytes a p) (low_bytes (bytes_for acc.fill) (p / 2 ^ (8 * a))) (length_low a p) (omega arith)
    ∙ ap (splice before 0) (sym (low_split a (bytes_for acc.fill) p) ∙ ap (λ n. low_bytes n p) all)

-- one byte more of what is left
pub end_more : (out : List ℕ) (at k low : ℕ) → at + k < length out → set (splice out at (low_bytes k low)) (at + k) (low / 2 ^ (8 * k) % 256) ≡ splice out at (low_bytes (k + 1) low)
end_more out at k low h = splice_more out at k (low_bytes k low) (low / 2 ^ (8 * k) % 256) (length_low k low) h ∙ ap (splice out at) (sym (low_more k low))

-- nothing is held at first
pub holds_none : (before : List ℕ) (acc : Accumulator) → acc.out.now ≡ before → acc.low ≡ 0 → acc.fill ≡ 0 → acc.at ≡ 0 → Holds [] before acc
holds_none before acc o l f a =
    let e : acc.low ≡ 0 / 2 ^ (8 * acc.at) = l ∙ ap (λ t. 0 / 2 ^ (8 * t)) (sym a) in
    record { fill = omega arith; count = omega arith; inside = omega arith; written = o ∙ sym (splice_none before 0) ∙ ap (λ n. splice before 0 (low_bytes n 0)) (sym a); low = e }

pub adds_none : (acc : Accumulator) → acc.fill < 64 → Adds [] acc acc
adds_none acc h = record { same = refl; fill = h; count = omega arith; long = refl; holds = λ bs before e. subst (λ t. Holds t before acc) (sym (append-nil bs)) e }

pub adds_both : (xs ys : List Bool) (acc₀ acc₁ acc₂ : Accumulator) → Adds xs acc₀ acc₁ → Adds ys acc₁ acc₂ → Adds (xs ++ ys) acc₀ acc₂
adds_both xs ys acc₀ acc₁ acc₂ a b =
    let m = a.count in
    let n = b.count in
    let s = length-append xs ys in
    record { same = b.same ∙ a.same; fill = b.fill; count = omega arith; long = b.long ∙ a.long; holds = λ bs before h. subst (λ t. Holds t before acc₂) (append_assoc bs xs ys) (b.holds (bs ++ xs) before (a.holds bs before h)) }

-- of the bits to add, some have been added and the rest are left
pub record Going (all rest : List Bool) (acc₀ acc : Accumulator) : Type 0 where
  pub so_far : List Bool
  pub adds : Adds so_far acc₀ acc
  pub whole : so_far ++ rest ≡ all

pub going_start : (all rest : List Bool) (acc : Accumulator) → acc.fill < 64 → rest ≡ all → Going all rest acc acc
going_start all rest acc h e = record { so_far = []; adds = adds_none acc h; whole = e }

pub going_same : {all rest : List Bool} {acc₀ acc : Accumulator} (rest' : List Bool) → rest ≡ rest' → Going all rest acc₀ acc → Going all rest' acc₀ acc
going_same rest' e g = record { so_far = g.so_far; adds = g.adds; whole = ap (λ t. g.so_far ++ t) (sym e) ∙ g.whole }

pub going_room : {all : List Bool} {acc₀ acc : Accumulator} (xs rest : List Bool) → Going all (xs ++ rest) acc₀ acc → Room acc₀ (length all) → Room acc (length xs)
going_room {all = all} xs rest g r =
    let a = length-append g.so_far (xs ++ rest) in
    let b = length-append xs rest in
    let e = ap length g.whole in
    let c = g.adds.count in
    let l = g.adds.long in
    let m = r.enough in
    record { fill = g.adds.fill; enough = omega arith }

pub going_turn : {all : List Bool} {acc₀ acc : Accumulator} (xs rest : List Bool) (acc' : Accumulator) → Going all (xs ++ rest) acc₀ acc → Adds xs acc acc' → Going all rest acc₀ acc'
going_turn {acc₀ = acc₀} {acc = acc} xs rest acc' g a = record { so_far = g.so_far ++ xs; adds = adds_both g.so_far xs acc₀ acc acc' g.adds a; whole = append_assoc g.so_far xs rest ∙ g.whole }

pub going_done : {all : List Bool} {acc₀ acc : Accumulator} → Going all [] acc₀ acc → Adds all acc₀ acc
going_done {acc₀ = acc₀} {acc = acc} g = subst (λ t. Adds t acc₀ acc) (sym (append-nil g.so_far) ∙ g.whole) g.adds
