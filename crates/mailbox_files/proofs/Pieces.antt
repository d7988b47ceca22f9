-- The pieces of a file, one after another. Assumes nothing.
use Rattle.std.specs.Prelude.{if◌then◌else◌}
use Prim.Native.Nat.{ℕ, zero, suc, ◌+◌, ◌≤◌, ◌<◌}
use mathlib.Core.Path.{◌≡◌, refl, ap, ◌∙◌}
use mathlib.Core.Bool.{Bool, true, false}
use mathlib.Core.List.{List, [], ◌∷◌, ◌++◌}
use mathlib.Core.Option.{Option, none, some}
use native.Mathlib.Omega.{arith}
use lib.ListN.{length, take, drop, length-drop, take-append-drop}
use Rattle.lists.specs.Lists.{maybe, gather}
use Rattle.characters.specs.Characters.{characters_of, body_start, body, after_breaks}
use Rattle.values.specs.Tokens.{Segment, tokens_at}
use Rattle.values.specs.Values.{end_place}
use Rattle.stages.specs.Contents.{body_tokens, segments_of}
use Rattle.mailbox_files.specs.Pieces.{first_unz, is_unopened, unz_of, end_behind, piece_end, pieces_up_to, pieces}
use Rattle.mailbox_files.proofs.Ends.{after_within}
use Rattle.mailbox_files.proofs.Walks.{unz_stands}

-- ---- where the first piece ends

-- its UNZ stands inside the rest
pub unz_within : (s : List ℕ) (g : Segment) → unz_of s ≡ some g → end_place g < length s
unfolding unz_of segments_of body_tokens tokens_at body
unz_within s g h = step (is_unopened s) h
  where
    step : (b : Bool) → (if b then none else first_unz (segments_of s)) ≡ some g → end_place g < length s
    step true k = let z : ◌≡◌ {A = ℕ} 0 1 = cc in absurd (omega arith)
    step false k = (unz_stands (characters_of s) s (length s) (body_start s) g (omega arith) k).1

-- the piece has a byte where the rest has one, and no more than the rest has
abbrev pub EndsWithin : List ℕ → ℕ → Type 0
EndsWithin s end = (end ≤ length s) × (0 < length s → 0 < end)

pub end_within : (s : List ℕ) → EndsWithin s (piece_end s)
unfolding piece_end end_behind after_breaks maybe
end_within s = step (unz_of s) refl
  where
    step : (o : Option Segment) → unz_of s ≡ o → EndsWithin s (maybe (length s) (end_behind s) o)
    step none e = (omega arith, λ h. h)
    step (some g) e = (after_within s (end_place g + 1) (omega (arith, unz_within s g e)), λ h. omega arith)

-- so less is left
less_left : (b : ℕ) (bs : List ℕ) (n : ℕ) → length (b ∷ bs) ≤ suc n → length (drop (piece_end (b ∷ bs)) (b ∷ bs)) ≤ n
less_left b bs n h =
    let positive : 0 < piece_end (b ∷ bs) = (end_within (b ∷ bs)).1 (omega arith) in
    omega (arith, length-drop (piece_end (b ∷ bs)) (b ∷ bs))

-- ---- the list of pieces

-- more cuts than there are bytes find no more pieces
enough : (n m : ℕ) (s : List ℕ) → length s ≤ n → length s ≤ m → pieces_up_to n s ≡ pieces_up_to m s
unfolding pieces_up_to
enough zero zero s h k = refl
enough zero (suc m) [] h k = refl
enough zero (suc m) (b ∷ bs) h k = absurd (omega arith)
enough (suc n) zero [] h k = refl
enough (suc n) zero (b ∷ bs) h k = absurd (omega arith)
enough (suc n) (suc m) [] h k = refl
enough (suc n) (suc m) (b ∷ bs) h k =
    ap (λ (rest : List (List ℕ)). take (piece_end (b ∷ bs)) (b ∷ bs) ∷ rest)
    (enough n m (drop (piece_end (b ∷ bs)) (b ∷ bs)) (less_left b bs n h) (less_left b bs m k))

-- "A file of no bytes has no pieces."
pub no_pieces : pieces [] ≡ []
unfolding pieces pieces_up_to
no_pieces = refl

-- any other is its first piece and the pieces of what is left
pub pieces_first : (s : List ℕ) → 0 < length s → pieces s ≡ take (piece_end s) s ∷ pieces (drop (piece_end s) s)
unfolding pieces pieces_up_to
pieces_first [] h = absurd (omega arith)
pieces_first (b ∷ bs) h =
    let left : List ℕ = drop (piece_end (b ∷ bs)) (b ∷ bs) in
    ap (λ (rest : List (List ℕ)). take (piece_end (b ∷ bs)) (b ∷ bs) ∷ rest)
    (enough (length bs) (length left) left (less_left b bs (length bs) (omega arith)) (omega arith))

-- the pieces joined are the file
joined_up : (n : ℕ) (s : List ℕ) → length s ≤ n → gather (λ piece. piece) (pieces_up_to n s) ≡ s
unfolding pieces_up_to gather
joined_up zero [] h = refl
joined_up zero (b ∷ bs) h = absurd (omega arith)
joined_up (suc n) [] h = refl
joined_up (suc n) (b ∷ bs) h =
    let end : ℕ = piece_end (b ∷ bs) in
    ap (λ (rest : List ℕ). take end (b ∷ bs) ++ rest) (joined_up n (drop end (b ∷ bs)) (less_left b bs n h))
    ∙ take-append-drop end (b ∷ bs)

pub pieces_joined : (s : List ℕ) → gather (λ piece. piece) (pieces s) ≡ s
unfolding pieces
pieces_joined s = joined_up (length s) s (omega arith)
