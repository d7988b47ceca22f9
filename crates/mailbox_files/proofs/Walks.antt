-- The walk from segment to segment to the first UNZ, step by step. Assumes nothing.
use Rattle.std.specs.Prelude.{if◌then◌else◌}
use Prim.Native.Nat.{ℕ, zero, suc, ◌+◌, ◌≤◌, ◌<◌}
use mathlib.Core.Path.{◌≡◌, refl, sym, ap, ◌∙◌}
use mathlib.Core.Bool.{Bool, true, false, false≢true}
use mathlib.Core.List.{List, [], ◌∷◌}
use mathlib.Core.Option.{Option, none, some}
use native.Mathlib.Omega.{arith}
use lib.ListN.{length}
use Rattle.lists.specs.Lists.{cut, through, beyond}
use Rattle.lists.proofs.Pieces.{cut_first}
use Rattle.lists.proofs.Texts.{and_left}
use Rattle.characters.specs.declared.Characters.{Characters}
use Rattle.characters.specs.Characters.{after_breaks}
use Rattle.values.specs.Tokens.{Token, Segment, ends, segments, tokens_at}
use Rattle.values.specs.Values.{end_place, ended_by, finished}
use Rattle.values.proofs.Steps.{at_end}
use Rattle.segments.specs.declared.Kind.TheVariants.{Unz}
use Rattle.segments.specs.Kinds.{is}
use Rattle.segments.specs.Tags.{kind_of, tag_rule}
use Rattle.mailbox_files.specs.Pieces.{is_whole, first_unz, end_behind}
use Rattle.mailbox_files.proofs.Ends.{segment_at, ended}

-- a whole segment has its terminator
pub whole_ended : (g : Segment) → is_whole g ≡ true → ended_by 0 g ≡ true
unfolding is_whole finished
whole_ended g h = and_left (ended_by 0 g) _ (and_left (finished g) (tag_rule g) h)

module _ (c : Characters) (s : List ℕ) where
  -- the UNZ that the walk from a place on finds
  abbrev pub unz_from : ℕ → Option Segment
  unz_from at = first_unz (segments (tokens_at c s at))

  -- where it is found: the segment that begins there, or one that the walk finds from the next segment on
  pub data Found (at : ℕ) (g : Segment) : Type 0 where
    here : segment_at c s at ≡ g → is_whole g ≡ true → is Unz (kind_of g) ≡ true → Found at g
    on : is_whole (segment_at c s at) ≡ true → is Unz (kind_of (segment_at c s at)) ≡ false → unz_from (end_behind s (segment_at c s at)) ≡ some g → Found at g

  -- the walk over the segment that begins there, and over what follows it
  over : (at : ℕ) (ts : List Token) {g : Segment} → tokens_at c s at ≡ ts → unz_from at ≡ some g
      → (if is_whole (segment_at c s at) then (if is Unz (kind_of (segment_at c s at)) then some (segment_at c s at) else first_unz (segments (beyond (ends 0) (tokens_at c s at)))) else none)
      ≡ some g
  unfolding segments first_unz cut
  over at [] {g} e h = let z : none ≡ some g = sym (ap (λ (ts : List Token). first_unz (segments ts)) e) ∙ h in cc
  over at (t ∷ ts) {g} e h =
      ap (λ (us : List Token). first_unz (through (ends 0) us ∷ segments (beyond (ends 0) us))) e
      ∙ sym (ap first_unz (cut_first (ends 0) t ts))
      ∙ sym (ap (λ (us : List Token). first_unz (segments us)) e)
      ∙ h

  pub found : (at : ℕ) (g : Segment) → unz_from at ≡ some g → Found at g
  found at g h = whole (is_whole (segment_at c s at)) refl (over at (tokens_at c s at) refl h)
    where
      unz : (b : Bool) → is Unz (kind_of (segment_at c s at)) ≡ b → is_whole (segment_at c s at) ≡ true
          → (if b then some (segment_at c s at) else first_unz (segments (beyond (ends 0) (tokens_at c s at)))) ≡ some g → Found at g
      unz true e w k =
          let same : segment_at c s at ≡ g = cc in
          here same (ap is_whole (sym same) ∙ w) (ap (λ (x : Segment). is Unz (kind_of x)) (sym same) ∙ e)
      unz false e w k = on w e (ap (λ (ts : List Token). first_unz (segments ts)) (sym (ended c s at (whole_ended (segment_at c s at) w)).follows) ∙ k)

      whole : (b : Bool) → is_whole (segment_at c s at) ≡ b
          → (if b then (if is Unz (kind_of (segment_at c s at)) then some (segment_at c s at) else first_unz (segments (beyond (ends 0) (tokens_at c s at)))) else none)
          ≡ some g → Found at g
      whole true w k = unz (is Unz (kind_of (segment_at c s at))) refl w k
      whole false w k = let z : ◌≡◌ {A = ℕ} 0 1 = cc in absurd (omega arith)

  -- a whole segment, and what follows it and its breaks
  pub segments_whole : (at : ℕ) → is_whole (segment_at c s at) ≡ true
      → segments (tokens_at c s at) ≡ segment_at c s at ∷ segments (tokens_at c s (end_behind s (segment_at c s at)))
  unfolding segments cut through ended_by
  segments_whole at w = split (tokens_at c s at) refl
    where
      g : Segment
      g = segment_at c s at

      split : (ts : List Token) → tokens_at c s at ≡ ts → segments (tokens_at c s at) ≡ g ∷ segments (tokens_at c s (end_behind s g))
      split [] e = absurd (false≢true (sym (ap (λ (us : List Token). ended_by 0 (through (ends 0) us)) e) ∙ whole_ended g w))
      split (t ∷ ts) e =
          ap segments e
          ∙ cut_first (ends 0) t ts
          ∙ sym (ap (λ (us : List Token). through (ends 0) us ∷ segments (beyond (ends 0) us)) e)
          ∙ ap (λ (us : List Token). g ∷ segments us) (ended c s at (whole_ended g w)).follows

  -- over it the walk goes on to what follows it, unless it is the UNZ
  pub over_whole : (at : ℕ) → is_whole (segment_at c s at) ≡ true
      → unz_from at ≡ (if is Unz (kind_of (segment_at c s at)) then some (segment_at c s at) else unz_from (end_behind s (segment_at c s at)))
  unfolding first_unz
  over_whole at w =
      let g : Segment = segment_at c s at in
      ap first_unz (segments_whole at w)
      ∙ ap (λ (b : Bool). if b then (if is Unz (kind_of g) then some g else unz_from (end_behind s g)) else none) w

  -- it stands inside the input, from the place on
  pub unz_stands : (n at : ℕ) (g : Segment) → length s ≤ at + n → unz_from at ≡ some g → (at ≤ end_place g) × (end_place g < length s)
  unfolding segments cut first_unz end_behind after_breaks
  unz_stands zero at g l h =
      let z : none ≡ some g = sym (ap (λ (ts : List Token). first_unz (segments ts)) (at_end c s at (omega arith))) ∙ h in
      let w : ◌≡◌ {A = ℕ} 0 1 = cc in
      absurd (omega arith)
  unz_stands (suc n) at g l h = step (found at g h) (λ next m k. unz_stands n next g m k)
    where
      step : Found at g → ((next : ℕ) → length s ≤ next + n → unz_from next ≡ some g → (next ≤ end_place g) × (end_place g < length s))
          → (at ≤ end_place g) × (end_place g < length s)
      step (here e w k) rest =
          let f = ended c s at (ap (ended_by 0) e ∙ whole_ended g w) in
          omega (arith, ap end_place e, f.above, f.within)
      step (on w k m) rest =
          let f = ended c s at (whole_ended (segment_at c s at) w) in
          omega (arith, f.above, rest (end_behind s (segment_at c s at)) (omega (arith, f.above)) m)
