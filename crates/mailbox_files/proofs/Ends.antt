-- Where a segment ends that has its terminator: what follows that, and the breaks behind it, is what is read next. Assumes nothing.
use Rattle.std.specs.Prelude.{if◌then◌else◌}
use Prim.Native.Nat.{ℕ, zero, suc, ◌+◌, ◌≤◌, ◌<◌}
use mathlib.Core.Path.{◌≡◌, refl, sym, ap, ap₂, ◌∙◌}
use mathlib.Core.Bool.{Bool, true, false, false≢true}
use mathlib.Core.List.{List, [], ◌∷◌}
use native.Mathlib.Omega.{arith}
use lib.ListN.{length, drop, length-drop}
use lib.Seq.{drop-drop}
use Rattle.lists.specs.Lists.{through, beyond, last_or}
use Rattle.lists.proofs.Pieces.{beyond_miss}
use Rattle.lists.proofs.Texts.{if_false}
use Rattle.characters.specs.declared.Characters.{Characters}
use Rattle.characters.specs.declared.Role.{Role}
use Rattle.characters.specs.declared.Role.TheVariants.{Separator, Release, Plain}
use Rattle.characters.specs.Characters.{role, is_break, breaks, after_breaks}
use Rattle.values.specs.Tokens.{Token, byte, separator, fault, Reading, inside, released, passing, unreleased, reading, taken, tokens_from, tokens, ends, place_of, Segment, tokens_at}
use Rattle.values.specs.Values.{end_place, ended_by}
use Rattle.values.proofs.Ends.{ended_after}
use Rattle.values.proofs.Steps.{ends_no, tokens_passing}
use Rattle.mailbox_files.specs.Pieces.{end_behind}

-- ---- the end of the first segment, in the bytes

-- The first segment of these tokens has its terminator n bytes behind the place, and what follows it is read on from there.
pub record Ending (c : Characters) (place : ℕ) (bs : List ℕ) (ts : List Token) : Type 0 where
  pub n : ℕ
  pub within : n < length bs
  pub stands : end_place (through (ends 0) ts) ≡ place + n
  pub follows : beyond (ends 0) ts ≡ tokens_from c passing (place + n + 1) (drop (suc n) bs)

-- the last of several is the last of those after the first
end_after : (t : Token) (ts : List Token) → ended_by 0 ts ≡ true → end_place (t ∷ ts) ≡ end_place ts
unfolding end_place ended_by last_or
end_after t [] h = absurd (false≢true h)
end_after t (u ∷ us) h = refl

-- a token that ends no segment, in front of others
module _ (t : Token) (ts : List Token) (n : ends 0 t ≡ false) where
  pub through_more : through (ends 0) (t ∷ ts) ≡ t ∷ through (ends 0) ts
  unfolding through
  through_more = ap (λ (l : List Token). t ∷ l) (if_false (ends 0 t) [] (through (ends 0) ts) n)

  module _ (h : ended_by 0 (through (ends 0) (t ∷ ts)) ≡ true) where
    pub ended_more : ended_by 0 (through (ends 0) ts) ≡ true
    ended_more = sym (ended_after 0 t (through (ends 0) ts) n) ∙ ap (ended_by 0) (sym through_more) ∙ h

    pub end_more : end_place (through (ends 0) (t ∷ ts)) ≡ end_place (through (ends 0) ts)
    end_more = ap end_place through_more ∙ end_after t (through (ends 0) ts) ended_more

    ending_more : (c : Characters) (place b : ℕ) (bs : List ℕ) → (ended_by 0 (through (ends 0) ts) ≡ true → Ending c (place + 1) bs ts)
        → Ending c place (b ∷ bs) (t ∷ ts)
    ending_more c place b bs rest =
        let e = rest ended_more in
        record {
          n = suc e.n;
          within = omega arith;
          stands = end_more ∙ e.stands ∙ omega arith;
          follows = beyond_miss (ends 0) {x = t} refl n
              ∙ e.follows
              ∙ ap (λ (k : ℕ). tokens_from c passing k (drop (suc e.n) bs)) (omega arith);
        }

module _ (c : Characters) where
  -- a byte in front that brings no token
  ending_on : (place b : ℕ) (bs : List ℕ) (ts : List Token) → Ending c (place + 1) bs ts → Ending c place (b ∷ bs) ts
  ending_on place b bs ts e =
      record {
        n = suc e.n;
        within = omega arith;
        stands = e.stands ∙ omega arith;
        follows = e.follows ∙ ap (λ (k : ℕ). tokens_from c passing k (drop (suc e.n) bs)) (omega arith);
      }

  -- the terminator itself
  ending_here : (place b : ℕ) (bs : List ℕ) → Ending c place (b ∷ bs) (separator 0 place ∷ tokens_from c passing (place + 1) bs)
  unfolding through beyond ends end_place last_or place_of
  ending_here place b bs =
      record {
        n = 0;
        within = omega arith;
        stands = omega arith;
        follows = ap (λ (k : ℕ). tokens_from c passing k bs) (omega arith);
      }

  abbrev Ends : Reading → ℕ → List ℕ → Type 0
  Ends r place bs = ended_by 0 (through (ends 0) (tokens_from c r place bs)) ≡ true → Ending c place bs (tokens_from c r place bs)

  -- behind a release character in a segment, or elsewhere inside one
  pub ending_from_lem : (release : Bool) (from place : ℕ) (bs : List ℕ) → Ends (if release then released from else inside) place bs
  unfolding tokens_from through ended_by ends last_or unreleased reading taken
  ending_from_lem true from place [] h = absurd (false≢true h)
  ending_from_lem false from place [] h = absurd (false≢true h)
  ending_from_lem true from place (b ∷ bs) h = step (role c b) h (ending_from_lem false 0 (place + 1) bs)
    where
      step : (o : Role) → ended_by 0 (through (ends 0) (taken o b from place (tokens_from c inside (place + 1) bs))) ≡ true
          → Ends inside (place + 1) bs → Ending c place (b ∷ bs) (taken o b from place (tokens_from c inside (place + 1) bs))
      step (Separator rank) h k = ending_more (byte b from place) (tokens_from c inside (place + 1) bs) refl h c place b bs k
      step Release h k = ending_more (byte b from place) (tokens_from c inside (place + 1) bs) refl h c place b bs k
      step Plain h k = ending_more (fault from) (tokens_from c inside (place + 1) bs) refl h c place b bs k
  ending_from_lem false from place (b ∷ bs) h =
      step (role c b) h (ending_from_lem false 0 (place + 1) bs) (ending_from_lem true place (place + 1) bs)
    where
      step : (o : Role)
          → ended_by 0 (through (ends 0) (unreleased o b place (tokens_from c (reading o place) (place + 1) bs))) ≡ true
          → Ends inside (place + 1) bs → Ends (released place) (place + 1) bs
          → Ending c place (b ∷ bs) (unreleased o b place (tokens_from c (reading o place) (place + 1) bs))
      step (Separator zero) h k l = ending_here place b bs
      step (Separator (suc rank)) h k l =
          ending_more (separator (suc rank) place) (tokens_from c inside (place + 1) bs) (ends_no 0 place {k = suc rank} (omega arith)) h c place b bs k
      step Release h k l = ending_on place b bs (tokens_from c (released place) (place + 1) bs) (l h)
      step Plain h k l = ending_more (byte b place place) (tokens_from c inside (place + 1) bs) refl h c place b bs k

-- ---- the end of the segment that begins at a place

-- there are no more breaks than bytes
breaks_most : (bytes : List ℕ) → breaks bytes ≤ length bytes
unfolding breaks
breaks_most [] = omega arith
breaks_most (b ∷ bs) = step (is_break b) (breaks_most bs)
  where
    step : (t : Bool) → breaks bs ≤ length bs → (if t then suc (breaks bs) else zero) ≤ length (b ∷ bs)
    step true h = omega arith
    step false h = omega arith

-- breaks that stand inside a list end there too
pub after_within : (s : List ℕ) (at : ℕ) → at ≤ length s → after_breaks s at ≤ length s
unfolding after_breaks
after_within s at h = omega (arith, breaks_most (drop at s), length-drop at s)

-- the segment that begins at a place
abbrev pub segment_at : Characters → List ℕ → ℕ → Segment
segment_at c s at = through (ends 0) (tokens_at c s at)

-- where it has its terminator, reading goes on behind that and behind the breaks
pub record Ended (c : Characters) (s : List ℕ) (at : ℕ) : Type 0 where
  pub above : at ≤ end_place (segment_at c s at)
  pub within : end_place (segment_at c s at) < length s
  pub follows : beyond (ends 0) (tokens_at c s at) ≡ tokens_at c s (end_behind s (segment_at c s at))

pub ended : (c : Characters) (s : List ℕ) (at : ℕ) → ended_by 0 (segment_at c s at) ≡ true → Ended c s at
unfolding tokens_at tokens end_behind after_breaks
ended c s at h =
    let e = ending_from_lem c false 0 at (drop at s) h in
    let p : ℕ = end_place (through (ends 0) (tokens_from c inside at (drop at s))) in
    let left : List ℕ = drop (p + 1) s in
    let here : at + e.n + 1 ≡ p + 1 = omega (arith, e.stands) in
    let there : at + suc e.n ≡ p + 1 = omega (arith, e.stands) in
    record {
      above = omega (arith, e.stands);
      within = omega (arith, e.stands, e.within, length-drop at s);
      follows = e.follows
          ∙ ap₂ (tokens_from c passing) here (drop-drop (suc e.n) at s ∙ ap (λ (k : ℕ). drop k s) there)
          ∙ tokens_passing c (p + 1) left
          ∙ ap (tokens_from c inside (p + 1 + breaks left)) (drop-drop (breaks left) (p + 1) s);
    }
