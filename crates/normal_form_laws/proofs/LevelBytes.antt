-- The bytes of tokens are the bytes of the values that they hold, so that refusal 8 is a test of values. Assumes nothing.
use Prim.Native.Nat.{ℕ}
use mathlib.Core.Path.{◌≡◌, refl, ap, ◌∙◌}
use mathlib.Core.Bool.{Bool, true, ◌&&◌}
use mathlib.Core.List.{List, [], ◌∷◌}
use mathlib.Core.Logic.{◌↔◌}
use Rattle.lists.specs.Lists.{all, gather}
use Rattle.lists.proofs.Texts.{and_left, and_both, all_append}
use Rattle.nesting_laws.proofs.Reading.{every_nested}
use Rattle.values.specs.Tokens.{Token, byte, separator, fault, ends_part}
use Rattle.values.specs.Values.{byte_of, bytes_of}
use Rattle.levels.specs.Levels.{in_level}
use Rattle.stages.specs.Contents.{body_tokens}
use Rattle.stages.specs.Places.{level, place_outside, outside_level}
use Rattle.spelling_laws.specs.Bodies.{listed, read_list}
use Rattle.spelling_laws.proofs.Listing.{listed_nested}
use Rattle.normal_form_laws.specs.Forms.{list_read}
use Rattle.normal_form_laws.proofs.Trimmed.{all_bytes}
use Rattle.refusals.proofs.Stages.{place_none_not}
use Rattle.normal_form_laws.proofs.Tests.{gather_none}

-- the bytes of the list that tokens hold are those of the tokens
pub all_listed : (p : ℕ → Bool) (ts : List Token) → all_bytes p (listed ts) ≡ all (λ t. all p (byte_of t)) ts
unfolding bytes_of all gather
all_listed p ts = ap (all_bytes p) (listed_nested ts) ∙ every_nested ends_part bytes_of (all p) (λ t. all p (byte_of t)) one 4 ts
  where
    one : (ts : List Token) → all p (bytes_of ts) ≡ all (λ t. all p (byte_of t)) ts
    one [] = refl
    one (t ∷ ts) = all_append p (byte_of t) (bytes_of ts) ∙ ap (λ (b : Bool). all p (byte_of t) && b) (one ts)

-- 8 is met nowhere exactly where every byte of every value that was read is in the level
pub level_bytes : (s : List ℕ) → (outside_level s ≡ []) ↔ (all_bytes (in_level (level s)) (list_read s) ≡ true)
unfolding outside_level read_list body_tokens place_outside all byte_of
level_bytes s =
    let inside : ℕ → Bool = in_level (level s) in
    rw (all_listed inside (body_tokens s)) (gather_none (place_outside s) (λ t. all inside (byte_of t)) token (body_tokens s))
  where
    token : (t : Token) → (place_outside s t ≡ []) ↔ (all (in_level (level s)) (byte_of t) ≡ true)
    token (byte b from place) =
        let inside : Bool = in_level (level s) b in
        let none = place_none_not inside place in
        (λ e. and_both inside true (none.0 e) refl, λ e. none.1 (and_left inside true e))
    token (separator kind place) = (λ e. refl, λ e. refl)
    token (fault place) = (λ e. refl, λ e. refl)
