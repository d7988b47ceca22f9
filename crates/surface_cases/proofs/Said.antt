-- What the surface promises, with any answer that the operation's own promise allows: the parts, and the morning figures. Assumes nothing.
use Rattle.std.specs.Prelude.{if◌then◌else◌}
use Prim.Native.Nat.{ℕ, ◌≤◌, ◌<◌}
use mathlib.Core.Path.{◌≡◌, sym, ap, ap₂, ◌∙◌}
use mathlib.Core.Bool.{Bool, true, ◌&&◌}
use mathlib.Core.List.{List, [], ◌∷◌, map}
use mathlib.Core.Option.{some}
use borrow.Author.Tests.{lt-ltb}
use lib.Dec.{eqb}
use lib.ListN.{length}
use Rattle.lists.proofs.Texts.{if_false}
use Rattle.refusals.specs.declared.Refusal.{Refusal}
use Rattle.refusals.specs.Refusals.{number}
use Rattle.answers.specs.Answers.{Answer, given, refused}
use Rattle.operations.specs.Compare.{Part, keep}
use Rattle.operations.proofs.Located.{part_is, part_none}
use Rattle.shelves.specs.Layout.{version_two}
use Rattle.shelves.specs.Operations.{got_offset, got_length, length_answer}
use Rattle.shelves.proofs.Answered.{slot_there, slot_given, slot_refused}
use Rattle.mailbox_files.specs.Pieces.{pieces}
use Rattle.mailbox_files.specs.Report.{most_file, numbers, refused_under, report_over, listed, no_figures, with_figures, report}
use Rattle.mailbox_files.proofs.Answers.{report-long, report-given}
use Rattle.surface.specs.declared.Got.{Got}
use Rattle.surface.specs.declared.Kept.{Kept}
use Rattle.surface.specs.declared.Part.{Part as PartOfOne}
use Rattle.surface.specs.declared.MorningFigures.{MorningFigures}
use Rattle.surface.specs.Verdicts.{value}
use Rattle.surface.specs.Parts.{kept_of, part_of}
use Rattle.surface.specs.OfShelf.{got_of}
use Rattle.surface.specs.OfMailbox.{figures_from, morning_of}
use Rattle.surface.proofs.Laid.{refusal_numbered}
use Rattle.surface_cases.specs.Structs.{morning, no_morning}
use Rattle.surface_cases.specs.Says.{SaysKept, SaysPart, SaysGot, SaysReported}

pub kept_said : (first second : List ℕ) (r : Kept) → r ≡ kept_of (keep first second) → SaysKept first second r
unfolding kept_of
kept_said first second r h = (λ offset size e. h ∙ ap kept_of e, λ offset size e. h ∙ ap kept_of e)

pub part_said : (s : List ℕ) (segment element repeat component : ℕ) (r : PartOfOne) → r ≡ part_of s segment element repeat component
    → SaysPart s segment element repeat component r
unfolding part_of
part_said s segment element repeat component r h = (
  λ offset size e.
      let told = part_is s segment element repeat component offset size e in
      h ∙ ap₂ (λ (n m : ℕ). record { offset = n; length = m }) told.0 told.1,
  λ no.
      let told = part_none s segment element repeat component no in
      h ∙ ap₂ (λ (n m : ℕ). record { offset = n; length = m }) told.0 told.1,
)

pub got_said : (s : List ℕ) (slot : ℕ) (r : Got)
    → r ≡ got_of (length_answer version_two s slot) (got_offset version_two s slot) (got_length version_two s slot) → SaysGot s slot r
unfolding got_of value given refused
got_said s slot r h = (
  λ sane o.
      let told = slot_given version_two s slot (slot_there version_two s slot sane (ap₂ (λ (a b : Bool). a && b) (lt-ltb slot 64 o.0) o.1)) in
      laid told.0 told.1 told.2,
  λ q e.
      let told = slot_refused version_two s slot e in
      laid told.0 told.1 told.2
      ∙ ap (λ (n : ℕ). record { number = number q.fault; place = n; offset = 0; length = 0 })
      (if_false (eqb (number q.fault) 0) 0 q.place (refusal_numbered q.fault)),
)
  where
    laid : {a : Answer} {offset size : ℕ} → length_answer version_two s slot ≡ a → got_offset version_two s slot ≡ offset → got_length version_two s slot ≡ size
        → r ≡ got_of a offset size
    laid {a} {offset} {size} e d f =
        h
        ∙ ap (λ (x : Answer). got_of x (got_offset version_two s slot) (got_length version_two s slot)) e
        ∙ ap₂ (λ (n m : ℕ). got_of a n m) d f

pub reported_said : (file : List ℕ) (r : MorningFigures) → r ≡ morning_of (report file) → SaysReported file r
unfolding morning_of figures_from value with_figures given refused listed no_figures report_over morning no_morning
reported_said file r h = (λ l. h ∙ ap morning_of (report-given file l), λ l. h ∙ ap morning_of (report-long file l))
