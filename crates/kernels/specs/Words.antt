-- The words of a mask, one after another.
use Rattle.std.specs.Prelude.{◌≡◌, ℕ, ◌+◌, ◌<◌, ◌≤◌, Option}
use Rattle.std.specs.Option.{MatchOption}
use Rattle.kernels.specs.declared.slice.MaskWords.{MaskWords}
use Rattle.kernels.specs.Masks.{WordAt, count_of_words}

-- a step gives the next place and the word there, or nothing at the end
abbrev pub TakesWord : MaskWords → Option (ℕ × ℕ) → MaskWords → Type 0
TakesWord s r t = MatchOption r ((count_of_words s.bits ≤ s.next) × (t ≡ s)) (λ p. (p.0 ≡ s.next) × (s.next < count_of_words s.bits) × WordAt s.bits s.next p.1 × (t ≡ record { bits = s.bits; next = s.next + 1 }))
