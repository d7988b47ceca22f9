-- `scanner::role_of` meets its contract: it asks the definition's tests in the definition's order. Assumes nothing.
-- the byte is another than the first three
use Rattle.std.specs.Prelude.{if◌then◌else◌}
use Prim.Native.Nat.{ℕ}
use mathlib.Core.Path.{◌≡◌, sym, ◌∙◌}
use mathlib.Core.Bool.{◌&&◌, and-false}
use mathlib.Core.Logic.{◌⊎◌, inl, inr}
use lib.Dec.{eqb}
use borrow.Author.Tests.{eq-eqb, ne_eqb}
use Rattle.characters.specs.declared.Characters.{Characters}
use Rattle.characters.specs.declared.Role.TheVariants.{Separator, Release, Plain}
use Rattle.characters.specs.Characters.{role, has_release, has_repetition}
use Rattle.scanner.proofs.role_of.Goals.{else-c-ne32-via-then-c-ne32+else-b-c-3, else-c-ne32-via-else-c-ne32, else-c-ne32-2-via-then-c-ne32-2+else-b-c-5, else-c-ne32-2-via-else-c-ne32-2}
use Rattle.scanner.proofs.role_of.Goals as goal

module _ (c : Characters) (b : ℕ) (no_terminator : b ≡ c.terminator → ⊥) (no_element : b ≡ c.element → ⊥) where
  within : (c.repetition ≡ 32) ⊎ (b ≡ c.repetition → ⊥)
      → role c b ≡ (if eqb b c.component then Separator 3 else (if has_release c && eqb b c.release then Release else Plain))
  unfolding role has_repetition
  within (inl none) = simp (ne_eqb _ _ no_terminator, ne_eqb _ _ no_element, eq-eqb _ _ none)
  within (inr other) = simp (ne_eqb _ _ no_terminator, ne_eqb _ _ no_element, ne_eqb _ _ other, and-false)

pub returns-then-b-c : goal.returns-then-b-c
unfolding role
returns-then-b-c c = simp (eq-eqb _ _ c.if-b-c.true)

pub returns-then-b-c-2 : goal.returns-then-b-c-2
unfolding role
returns-then-b-c-2 c = simp (ne_eqb _ _ c.if-b-c.false, eq-eqb _ _ c.if-b-c-2.true)

pub returns-then-b-c-3 : goal.returns-then-b-c-3
unfolding role has_repetition
returns-then-b-c-3 c =
    simp (
      ne_eqb _ _ c.if-b-c.false,
      ne_eqb _ _ c.if-b-c-2.false,
      ne_eqb _ _ c.if-c-ne32.true,
      eq-eqb _ _ c.if-b-c-3.true,
    )

pub returns-then-b-c-4 : goal.returns-then-b-c-4
returns-then-b-c-4 c =
    let chars = c.args.c in
    let b = c.args.b in
    sym
    (within chars b c.if-b-c.false c.if-b-c-2.false
    (elim c.else-c-ne32.branch [
      | else-c-ne32-via-then-c-ne32+else-b-c-3 w ↦ inr w.if-b-c-3.false
      | else-c-ne32-via-else-c-ne32 w ↦ inl w.if-c-ne32.false
    ])
    ∙ simp (eq-eqb _ _ c.if-b-c-4.true))

pub returns-then-b-c-5 : goal.returns-then-b-c-5
unfolding has_release
returns-then-b-c-5 c =
    let chars = c.args.c in
    let b = c.args.b in
    sym
    (within chars b c.if-b-c.false c.if-b-c-2.false
    (elim c.else-c-ne32.branch [
      | else-c-ne32-via-then-c-ne32+else-b-c-3 w ↦ inr w.if-b-c-3.false
      | else-c-ne32-via-else-c-ne32 w ↦ inl w.if-c-ne32.false
    ])
    ∙ simp (ne_eqb _ _ c.if-b-c-4.false, ne_eqb _ _ c.if-c-ne32-2.true, eq-eqb _ _ c.if-b-c-5.true))

pub returns : goal.returns
unfolding has_release
returns c =
    let chars = c.args.c in
    let b = c.args.b in
    sym
    (within chars b c.if-b-c.false c.if-b-c-2.false
    (elim c.else-c-ne32.branch [
      | else-c-ne32-via-then-c-ne32+else-b-c-3 w ↦ inr w.if-b-c-3.false
      | else-c-ne32-via-else-c-ne32 w ↦ inl w.if-c-ne32.false
    ])
    ∙ elim c.else-c-ne32-2.branch [
      | else-c-ne32-2-via-then-c-ne32-2+else-b-c-5 w ↦ simp (ne_eqb _ _ c.if-b-c-4.false, ne_eqb _ _ w.if-c-ne32-2.true, ne_eqb _ _ w.if-b-c-5.false)
      | else-c-ne32-2-via-else-c-ne32-2 w ↦ simp (ne_eqb _ _ c.if-b-c-4.false, eq-eqb _ _ w.if-c-ne32-2.false)
    ])
