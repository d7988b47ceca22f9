-- What the scanner says at a place is the token that `values` has there. Assumes nothing.
use Rattle.std.specs.Prelude.{if◌then◌else◌}
use Prim.Native.Nat.{ℕ, zero, suc, ◌+◌, ◌≤◌, ◌<◌}
use native.Mathlib.Omega.{arith}
use native.Mathlib.Decide.{dec_le}
use native.Mathlib.Nat.{lt_of_not-le}
use mathlib.Core.Path.{◌≡◌, refl, sym, ap, ◌∙◌, subst}
use mathlib.Core.List.{List, [], ◌∷◌}
use lib.ListN.{length, get_or}
use mathlib.Core.Bool.{Bool, true, false, ◌&&◌}
use lib.Dec.{ltb, eqb, lit≤}
use borrow.Author.Tests.{lt-ltb, le-ltb}
use Rattle.lists.proofs.Texts.{if_true, if_false}
use Rattle.characters.specs.declared.Characters.{Characters}
use Rattle.characters.specs.declared.Role.{Role}
use Rattle.characters.specs.declared.Role.TheVariants as role
use Rattle.characters.specs.Characters.{role as role_in, has_release, has_repetition, after_breaks}
use Rattle.values.specs.Tokens.{Token, byte, separator, fault, tokens_at}
use Rattle.values.proofs.Steps.{at_end, at_plain, at_terminator, at_separator, at_last_release, at_stray_release, at_released_release, at_released_separator}
use Rattle.scanner.specs.declared.Lexed.{Lexed}
use Rattle.scanner.specs.declared.Lexed.TheVariants.{Byte, Separator, Stray, End}
use Rattle.line_breaks.proofs.Passing.{after_least, after_most}
use Rattle.scanner.specs.Scanner.{lex_separator, lex_taken, lex_role, lex_at}

-- there are four ranks of separators
abbrev Known : Role → Type 0
Known (role.Separator rank) = rank ≤ 3
Known role.Release = Unit {0}
Known role.Plain = Unit {0}

role_known : (c : Characters) (b : ℕ) → Known (role_in c b)
unfolding role_in
role_known c b =
    either (eqb b c.terminator) (role.Separator 0) _ (lit≤ tt)
    (either (eqb b c.element) (role.Separator 1) _ (lit≤ tt)
    (either (has_repetition c && eqb b c.repetition) (role.Separator 2) _ (lit≤ tt)
    (either (eqb b c.component) (role.Separator 3) _ (lit≤ tt)
    (either (has_release c && eqb b c.release) role.Release role.Plain tt tt))))
  where
    either : (t : Bool) (a o : Role) → Known a → Known o → Known (if t then a else o)
    either true a o k l = k
    either false a o k l = l

-- a separator that is not released, by its rank
module _ (s : List ℕ) (next rank : ℕ) where
  pub terminator_is : rank ≡ 0 → Separator rank (after_breaks s next) ≡ lex_separator s next rank
  unfolding lex_separator
  terminator_is e = ap (λ (n : ℕ). Separator n (after_breaks s next)) e ∙ ap (lex_separator s next) (sym e)

  pub separator_is : (rank ≡ 0 → ⊥) → Separator rank next ≡ lex_separator s next rank
  unfolding lex_separator
  separator_is h = step rank h
    where
      step : (n : ℕ) → (n ≡ 0 → ⊥) → Separator n next ≡ lex_separator s next n
      step zero k = absurd (k refl)
      step (suc n) k = refl

module _ (c : Characters) (s : List ℕ) (at : ℕ) where
  -- after the last byte is the end
  pub lex_end : length s ≤ at → End ≡ lex_at c s at
  unfolding lex_at
  lex_end h = sym (if_false (ltb at (length s)) (lex_role c s at (role_in c (get_or s at 0))) End (le-ltb at (length s) h))

  -- elsewhere the byte's part decides
  pub lex_role_lem : (o : Role) → at < length s → role_in c (get_or s at 0) ≡ o → lex_role c s at o ≡ lex_at c s at
  unfolding lex_at
  lex_role_lem o h e =
      ap (lex_role c s at) (sym e)
      ∙ sym (if_true (ltb at (length s)) (lex_role c s at (role_in c (get_or s at 0))) End (lt-ltb at (length s) h))

  -- a separator, by its rank
  pub lex_separator_lem : (rank : ℕ) → at < length s → role_in c (get_or s at 0) ≡ role.Separator rank → lex_separator s (at + 1) rank ≡ lex_at c s at
  unfolding lex_role
  lex_separator_lem rank h e = lex_role_lem (role.Separator rank) h e

  -- a release character with nothing after it
  pub lex_last : at < length s → length s ≤ at + 1 → role_in c (get_or s at 0) ≡ role.Release → Stray (at + 1) ≡ lex_at c s at
  unfolding lex_role
  lex_last h k e =
      sym
      (if_false
      (ltb (at + 1) (length s))
      (lex_taken (role_in c (get_or s (at + 1) 0)) (get_or s (at + 1) 0) (at + 1) (at + 1 + 1))
      (Stray (at + 1))
      (le-ltb (at + 1) (length s) k))
      ∙ lex_role_lem role.Release h e

  -- a release character with a byte after it
  pub lex_taken_lem : (o : Role) → at < length s → at + 1 < length s → role_in c (get_or s at 0) ≡ role.Release
      → role_in c (get_or s (at + 1) 0) ≡ o → lex_taken o (get_or s (at + 1) 0) (at + 1) (at + 1 + 1) ≡ lex_at c s at
  unfolding lex_role
  lex_taken_lem o h k e d =
      ap (λ (q : Role). lex_taken q (get_or s (at + 1) 0) (at + 1) (at + 1 + 1)) (sym d)
      ∙ sym
      (if_true
      (ltb (at + 1) (length s))
      (lex_taken (role_in c (get_or s (at + 1) 0)) (get_or s (at + 1) 0) (at + 1) (at + 1 + 1))
      (Stray (at + 1))
      (lt-ltb (at + 1) (length s) k))
      ∙ lex_role_lem role.Release h e

  -- The token that stands there and the tokens after it, as the scanner says them. Every caller goes by this alone.
  abbrev pub Lexes : Lexed → Type 0
  Lexes (Byte b place next) = (tokens_at c s at ≡ byte b at place ∷ tokens_at c s next) × (at < next) × (next ≤ length s)
  Lexes (Separator rank next) =
      (tokens_at c s at ≡ separator rank at ∷ tokens_at c s next) × (at < next) × (next ≤ length s) × (rank ≤ 3)
  Lexes (Stray next) = (tokens_at c s at ≡ fault at ∷ tokens_at c s next) × (at < next) × (next ≤ length s)
  Lexes End = (tokens_at c s at ≡ []) × (length s ≤ at)

  -- after a release character
  lexes_taken : (o : Role) → at + 1 < length s → role_in c (get_or s at 0) ≡ role.Release → role_in c (get_or s (at + 1) 0) ≡ o
      → Lexes (lex_taken o (get_or s (at + 1) 0) (at + 1) (at + 1 + 1))
  lexes_taken (role.Separator rank) h e d = (at_released_separator c s at rank h e d, omega arith, omega arith)
  lexes_taken role.Release h e d = (at_released_release c s at h e d, omega arith, omega arith)
  lexes_taken role.Plain h e d = (at_stray_release c s at h e d, omega arith, omega arith)

  lexes_release : at < length s → role_in c (get_or s at 0) ≡ role.Release → Lexes (lex_role c s at role.Release)
  unfolding lex_role
  lexes_release h e = elim (dec_le (length s) (at + 1)) [ yes k ↦ last k | no k ↦ more (lt_of_not-le k) ]
    where
      last : length s ≤ at + 1 → Lexes (lex_role c s at role.Release)
      last k =
          subst Lexes (lex_last h k e ∙ sym (lex_role_lem role.Release h e)) (
            at_last_release c s at (omega arith) e
                ∙ ap (λ (ts : List Token). fault at ∷ ts) (sym (at_end c s (at + 1) k)),
            omega arith,
            omega arith,
          )

      more : at + 1 < length s → Lexes (lex_role c s at role.Release)
      more k =
          subst Lexes (lex_taken_lem (role_in c (get_or s (at + 1) 0)) h k e refl ∙ sym (lex_role_lem role.Release h e))
          (lexes_taken (role_in c (get_or s (at + 1) 0)) k e refl)

  -- after a terminator reading goes on past the breaks
  lexes_separator : (rank : ℕ) → at < length s → role_in c (get_or s at 0) ≡ role.Separator rank → Lexes (lex_separator s (at + 1) rank)
  unfolding lex_separator
  lexes_separator zero h e = (
    at_terminator c s at h e,
    omega (arith, after_least s (at + 1)),
    after_most s (at + 1) (omega arith),
    omega arith,
  )
  lexes_separator (suc rank) h e =
      (at_separator c s at rank h e, omega arith, omega arith, subst Known e (role_known c (get_or s at 0)))

  lexes_role : (o : Role) → at < length s → role_in c (get_or s at 0) ≡ o → Lexes (lex_role c s at o)
  unfolding lex_role
  lexes_role (role.Separator rank) h e = lexes_separator rank h e
  lexes_role role.Release h e = lexes_release h e
  lexes_role role.Plain h e = (at_plain c s at h e, omega arith, omega arith)

  pub lexes : Lexes (lex_at c s at)
  lexes = elim (dec_le (length s) at) [ yes k ↦ ended k | no k ↦ inside (lt_of_not-le k) ]
    where
      ended : length s ≤ at → Lexes (lex_at c s at)
      ended k = subst Lexes (lex_end k) (at_end c s at k, k)

      inside : at < length s → Lexes (lex_at c s at)
      inside k = subst Lexes (lex_role_lem (role_in c (get_or s at 0)) k refl) (lexes_role (role_in c (get_or s at 0)) k refl)

  -- what a match on the scanner's answer shows
  pub lexes_as : {r answer : Lexed} → answer ≡ lex_at c s at → answer ≡ r → Lexes r
  lexes_as e d = subst Lexes (sym e ∙ d) lexes
