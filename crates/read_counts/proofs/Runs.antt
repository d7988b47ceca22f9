-- A value's bytes that are plain, after its first: each makes the open value longer. Assumes nothing.
use Prim.Native.Nat.{ℕ, ◌+◌}
use mathlib.Core.Path.{◌≡◌, ap, ◌∙◌}
use native.Mathlib.Omega.{arith}
use Rattle.emission_laws.specs.declared.Held.{Held}
use Rattle.emission_laws.specs.Emission.{nothing, waiting}
use Rattle.read_counts.specs.declared.Listing.{Listing}
use Rattle.read_counts.specs.Tally.{listing, grown, longer, after_byte}
use Rattle.read_counts.proofs.Steps.{held_none}

-- after a byte of a value nothing is held back
module _ (l : Listing) (h : l.held ≡ nothing) where
  pub none_waits : waiting l.held ≡ 0
  none_waits = ap waiting h

  pub longer_none : (n : ℕ) → n ≡ 0 → l ≡ longer n l
  longer_none n e = ap (λ (size : ℕ). listing l.records (record { kind = l.kind; start = l.start; size = size }) l.held) (omega arith)

  pub longer_byte : (n : ℕ) {more : ℕ} → more ≡ n + 1 → longer more l ≡ after_byte (longer n l)
  longer_byte n {more} e =
      ap (λ (held : Held). listing l.records (record { kind = l.kind; start = l.start; size = l.size + more }) held) h
      ∙ ap (λ (size : ℕ). listing l.records (record { kind = l.kind; start = l.start; size = size }) nothing) (omega arith)
      ∙ ap (λ (x : Listing). grown x) (held_none (longer n l) none_waits)
