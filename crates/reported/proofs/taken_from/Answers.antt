-- `reported::taken_from` meets its contract: the reference, the sender or the recipient is not as asked, or all are taken. Assumes nothing.
use Rattle.std.proofs.Common.{rules}
use mathlib.Core.Path.{◌≡◌, refl, ap, ◌∙◌}
use mathlib.Core.Bool.{true, false, not}
use native.Mathlib.Omega.{arith}
use Rattle.reported.specs.declared.Standing.{Standing}
use Rattle.reported.proofs.Pieces.{reference_tells, empty_tells, all_taken, by_reference, unreportable_by}
use Rattle.reported.proofs.taken_from.Goals.{then-not-is_reference-via-then-not-is_reference, then-not-is_reference-via-else-not-is_reference+then-not-holds_byte, then-not-is_reference-via-else-not-is_reference+else-not-holds_byte+then-not-holds_byte-2}
use Rattle.reported.proofs.taken_from.Goals as goal

pub returns-then-not-is_reference : goal.returns-then-not-is_reference
returns-then-not-is_reference c =
    let s = c.args.s.now in
    let known = c.requires in
    let ours = ap (λ (x : Standing). x.characters) known.1 in
    let begins = ap (λ (x : Standing). x.start) known.1 in
    let asked = reference_tells s ours begins c.element_at-reference.ensures c.field_at.ensures c.is_reference.ensures in
    elim c.then-not-is_reference.branch [
      | then-not-is_reference-via-then-not-is_reference w ↦
          let other : c.is_reference.result ≡ false = search rules in
          by_reference s known.0 (asked ∙ other)
      | then-not-is_reference-via-else-not-is_reference+then-not-holds_byte w ↦
          let named : c.is_reference.result ≡ true = search rules in
          let empty : w.holds_byte.result ≡ false = search rules in
          unreportable_by s known.0 (asked ∙ named) (empty_tells s ours begins (asked ∙ named) 2 (omega arith) c.element_at-sender.ensures w.holds_byte.ensures ∙ ap not empty) refl
      | then-not-is_reference-via-else-not-is_reference+else-not-holds_byte+then-not-holds_byte-2 w ↦
          let named : c.is_reference.result ≡ true = search rules in
          let some : w.holds_byte.result ≡ true = search rules in
          let empty : w.holds_byte-else-not-holds_byte.result ≡ false = search rules in
          unreportable_by s known.0 (asked ∙ named)
          (empty_tells s ours begins (asked ∙ named) 2 (omega arith) c.element_at-sender.ensures w.holds_byte.ensures ∙ ap not some)
          (empty_tells s ours begins (asked ∙ named) 3 (omega arith) c.element_at-recipient.ensures w.holds_byte-else-not-holds_byte.ensures ∙ ap not empty)
    ]

pub returns : goal.returns
returns c =
    let s = c.args.s.now in
    let known = c.requires in
    let ours = ap (λ (x : Standing). x.characters) known.1 in
    let begins = ap (λ (x : Standing). x.start) known.1 in
    let is_named : c.is_reference.result ≡ true = search rules in
    let sent : c.holds_byte.result ≡ true = search rules in
    let received : c.holds_byte-else-not-holds_byte.result ≡ true = search rules in
    let named = reference_tells s ours begins c.element_at-reference.ensures c.field_at.ensures c.is_reference.ensures ∙ is_named in (
      unreportable_by s known.0 named
          (empty_tells s ours begins named 2 (omega arith) c.element_at-sender.ensures c.holds_byte.ensures ∙ ap not sent)
          (empty_tells s ours begins named 3 (omega arith) c.element_at-recipient.ensures c.holds_byte-else-not-holds_byte.ensures ∙ ap not received),
      all_taken s ours begins c.element_at-level.ensures c.component_at.ensures c.element_at-sender.ensures c.element_at-recipient.ensures c.element_at-reference.ensures (ap (λ (x : Standing). x.action) known.1),
    )
