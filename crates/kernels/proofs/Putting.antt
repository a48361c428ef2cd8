-- Places that are taken one part after another.
use Rattle.std.proofs.Common.{◌≡◌, ℕ, ◌-◌, ◌^◌, List, [], ◌++◌, sym, refl, ◌∙◌, subst, append_assoc}
use Rattle.std.proofs.lemmas.List.{append-nil}
use Rattle.kernels.specs.Masks.{Inside}
use Rattle.kernels.specs.Ordered.{InOrder}

-- of all places, some have been taken and the rest are left
pub record Left {S : Type 0} (can : S → List ℕ → Type 0) (took : S → List ℕ → S → Type 0) (first now : S) (all rest : List ℕ) : Type 0 where
  pub taken : List ℕ
  pub whole : taken ++ rest ≡ all
  pub so_far : took first taken now
  pub able : can now rest

pub left_same : {S : Type 0} {can : S → List ℕ → Type 0} {took : S → List ℕ → S → Type 0} {first now : S} {all rest : List ℕ} (others : List ℕ) → rest ≡ others → Left can took first now all rest → Left can took first now all others
left_same {can = can} {took = took} {first = first} {now = now} {all = all} others e l = subst (Left can took first now all) e l

pub left_done : {S : Type 0} {can : S → List ℕ → Type 0} {took : S → List ℕ → S → Type 0} {first now : S} {all : List ℕ} → Left can took first now all [] → took first all now
left_done {took = took} {first = first} {now = now} l = subst (λ ps. took first ps now) (sym (append-nil l.taken) ∙ l.whole) l.so_far

module _ {S : Type 0} {can : S → List ℕ → Type 0} {took : S → List ℕ → S → Type 0} (laws : InOrder can took) where
  pub left_all : (s : S) (all : List ℕ) → can s all → Left can took s s all all
  left_all s all h = record { taken = []; whole = refl; so_far = laws.none s; able = h }

  -- the first of what is left can be taken
  pub left_first : {first now : S} {all : List ℕ} (ps qs : List ℕ) → Left can took first now all (ps ++ qs) → can now ps
  left_first {now = now} ps qs l = laws.first now ps qs l.able

  -- and is taken
  pub left_turn : {first now : S} {all : List ℕ} (ps qs : List ℕ) (next : S) → can first all → Left can took first now all (ps ++ qs) → took now ps next → Left can took first next all qs
  left_turn {first = first} {now = now} ps qs next h l put =
      let whole = append_assoc l.taken ps qs ∙ l.whole in
      record {
        taken = l.taken ++ ps;
        whole = whole;
        so_far = laws.both first now next l.taken ps (laws.first first (l.taken ++ ps) qs (subst (can first) (sym whole) h)) l.so_far put;
        able = laws.rest now next ps qs l.able put;
      }

  pub left_small : {first now : S} {all ps : List ℕ} → Left can took first now all ps → Inside (2 ^ 64 - 1) ps
  left_small {now = now} {ps = ps} l = laws.small now ps l.able
