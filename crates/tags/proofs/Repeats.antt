-- Whether an element ends with its first repeat: step by step, and from what ended its first value. Assumes nothing.
use Rattle.std.specs.Prelude.{if◌then◌else◌}
use Prim.Native.Nat.{ℕ, ◌≤◌, ◌<◌}
use mathlib.Core.Path.{◌≡◌, refl, sym, ap, ap₂, ◌∙◌}
use mathlib.Core.Bool.{Bool, true, false, true≢false}
use mathlib.Core.List.{List, [], ◌∷◌}
use lib.Dec.{leb, lit≤}
use borrow.Author.Tests.{le-leb, lt-leb}
use Rattle.lists.specs.Lists.{through, last_or, beyond}
use Rattle.lists.proofs.Texts.{if_true, if_false}
use Rattle.lists.proofs.Pieces.{beyond_hit, beyond_miss}
use Rattle.characters.specs.declared.Characters.{Characters}
use Rattle.values.specs.Tokens.{Token, ends, tokens_at}
use Rattle.values.specs.Values.{ended_by}
use Rattle.values.proofs.Ends.{ends_more, ended_after}
use Rattle.values.proofs.Steps.{ends_yes, ends_no}
use Rattle.scanner.specs.declared.Lexed.TheVariants.{Byte, Separator, Stray, End}
use Rattle.scanner.proofs.Lexing.{Lexes}
use Rattle.tags.specs.declared.Word.{Word}
use Rattle.tags.specs.Words.{repeat_at, Words}
use Rattle.tags.proofs.Reading.{through_hit, through_miss}

-- a token that does not end one thing ends no larger thing
ends_less : (low high : ℕ) → low ≤ high → (t : Token) → ends high t ≡ false → ends low t ≡ false
ends_less low high h t n = step (ends low t) refl
  where
    step : (b : Bool) → ends low t ≡ b → b ≡ false
    step true e = absurd (true≢false (sym (ends_more low high h t e) ∙ n))
    step false e = refl

-- ---- step by step

-- a token that ends no repeat is followed by the rest of it
repeat_more : {ts us : List Token} {t : Token} → ts ≡ t ∷ us → ends 2 t ≡ false
    → ended_by 1 (through (ends 2) ts) ≡ ended_by 1 (through (ends 2) us)
repeat_more {ts} {us} {t} e n =
    ap (ended_by 1) (through_miss (ends 2) e n) ∙ ended_after 1 t (through (ends 2) us) (ends_less 1 2 (lit≤ tt) t n)

module _ (c : Characters) (s : List ℕ) (at : ℕ) where
  pub repeat_byte : {b place next : ℕ} → Lexes c s at (Byte b place next) → ended_by 1 (repeat_at c s at) ≡ ended_by 1 (repeat_at c s next)
  unfolding ends
  repeat_byte l = repeat_more l.0 refl

  pub repeat_stray : {next : ℕ} → Lexes c s at (Stray next) → ended_by 1 (repeat_at c s at) ≡ ended_by 1 (repeat_at c s next)
  unfolding ends
  repeat_stray l = repeat_more l.0 refl

  pub repeat_component : {rank next : ℕ} → Lexes c s at (Separator rank next) → 2 < rank
      → ended_by 1 (repeat_at c s at) ≡ ended_by 1 (repeat_at c s next)
  repeat_component l h = repeat_more l.0 (ends_no 2 at h)

  pub repeat_separator : {rank next : ℕ} → Lexes c s at (Separator rank next) → rank ≤ 2 → ended_by 1 (repeat_at c s at) ≡ leb rank 1
  unfolding ends ended_by last_or
  repeat_separator l h = ap (ended_by 1) (through_hit (ends 2) l.0 (ends_yes 2 at h))

  pub repeat_end : Lexes c s at End → ended_by 1 (repeat_at c s at) ≡ false
  unfolding through ended_by
  repeat_end l = ap (λ (ts : List Token). ended_by 1 (through (ends 2) ts)) l.0

-- ---- from the first value

-- what ends the first value ends the repeat, or the repeat goes on behind it
first_value_lem : (ts : List Token) → let value = through (ends 3) ts in
    ended_by 1 (through (ends 2) ts) ≡ (if ended_by 2 value then ended_by 1 value else ended_by 1 (through (ends 2) (beyond (ends 3) ts)))
unfolding through beyond ended_by last_or
first_value_lem [] = refl
first_value_lem (t ∷ ts) = step (ends 3 t) (ends 2 t) refl refl (first_value_lem ts)
  where
    value : List Token
    value = through (ends 3) (t ∷ ts)

    after : Bool
    after = ended_by 1 (through (ends 2) (beyond (ends 3) (t ∷ ts)))

    rest : List Token
    rest = through (ends 3) ts

    rest_after : Bool
    rest_after = ended_by 1 (through (ends 2) (beyond (ends 3) ts))

    -- the token ends nothing
    more : ends 3 t ≡ false → (rank : ℕ) → rank ≤ 3 → ended_by rank value ≡ ended_by rank rest
    more p rank h = ap (ended_by rank) (through_miss (ends 3) {rest = ts} refl p) ∙ ended_after rank t rest (ends_less rank 3 h t p)

    step : (a b : Bool) → ends 3 t ≡ a → ends 2 t ≡ b
        → ended_by 1 (through (ends 2) ts) ≡ (if ended_by 2 rest then ended_by 1 rest else rest_after)
        → ended_by 1 (through (ends 2) (t ∷ ts)) ≡ (if ended_by 2 value then ended_by 1 value else after)
    step true true p q ih =
        ap (ended_by 1) (through_hit (ends 2) {rest = ts} refl q)
        ∙ sym
        (ap (λ (v : List Token). if ended_by 2 v then ended_by 1 v else after) (through_hit (ends 3) {rest = ts} refl p)
        ∙ if_true (ends 2 t) (ends 1 t) after q)
    step true false p q ih =
        repeat_more {us = ts} refl q
        ∙ sym
        (ap (λ (v : List Token). if ended_by 2 v then ended_by 1 v else after) (through_hit (ends 3) {rest = ts} refl p)
        ∙ if_false (ends 2 t) (ends 1 t) after q
        ∙ ap (λ (ts : List Token). ended_by 1 (through (ends 2) ts)) (beyond_hit (ends 3) {rest = ts} refl p))
    step false true p q ih = absurd (true≢false (sym (ends_more 2 3 (lit≤ tt) t q) ∙ p))
    step false false p q ih =
        repeat_more {us = ts} refl q
        ∙ ih
        ∙ sym
        (ap (λ (b : Bool). if b then ended_by 1 value else after) (more p 2 (lit≤ tt))
        ∙ ap₂ (λ (x y : Bool). if ended_by 2 rest then x else y) (more p 1 (lit≤ tt))
        (ap (λ (us : List Token). ended_by 1 (through (ends 2) us)) (beyond_miss (ends 3) {rest = ts} refl p)))

module _ (c : Characters) (s : List ℕ) (at : ℕ) (w : Word) (h : Words c s at w) where
  by_value : ended_by 1 (repeat_at c s at)
      ≡ (if leb w.rank 2 then leb w.rank 1 else ended_by 1 (repeat_at c s w.next))
  by_value =
      first_value_lem (tokens_at c s at)
      ∙ ap₂ (λ (x y : Bool). if x then y else ended_by 1 (through (ends 2) (beyond (ends 3) (tokens_at c s at)))) (h.ended 2 (lit≤ tt))
      (h.ended 1 (lit≤ tt))
      ∙ ap (λ (ts : List Token). if leb w.rank 2 then leb w.rank 1 else ended_by 1 (through (ends 2) ts)) (sym h.after.0)

  -- the first value is the repeat
  pub repeat_with_value : w.rank ≤ 2 → ended_by 1 (repeat_at c s at) ≡ leb w.rank 1
  repeat_with_value k = by_value ∙ if_true (leb w.rank 2) (leb w.rank 1) (ended_by 1 (repeat_at c s w.next)) (le-leb w.rank 2 k)

  -- the repeat goes on behind it
  pub repeat_after_value : 2 < w.rank → ended_by 1 (repeat_at c s at) ≡ ended_by 1 (repeat_at c s w.next)
  repeat_after_value k =
      by_value ∙ if_false (leb w.rank 2) (leb w.rank 1) (ended_by 1 (repeat_at c s w.next)) (lt-leb w.rank 2 k)
