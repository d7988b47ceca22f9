-- The pieces of a file are the only list that is cut as the request says. Assumes nothing.
use Rattle.std.specs.Prelude.{if◌then◌else◌}
use Prim.Native.Nat.{ℕ, zero, suc, ◌≤◌, ◌<◌}
use mathlib.Core.Path.{◌≡◌, refl, sym, ap, ap₂, ◌∙◌, subst}
use mathlib.Core.Logic.{◌↔◌}
use mathlib.Core.Bool.{Bool, true, false, true≢false}
use mathlib.Core.List.{List, [], ◌∷◌, ◌++◌, append-nil, cons≢nil}
use mathlib.Core.Option.{Option, none, some}
use native.Mathlib.Omega.{arith}
use lib.ListN.{length, take, drop, length-append, length-drop, drop_of_length-le}
use lib.Seq.{take_all, take-append_seam, drop-append_seam}
use Rattle.lists.specs.Lists.{gather, maybe}
use Rattle.values.specs.Tokens.{Segment}
use Rattle.values.specs.Spelling.{leads_break}
use Rattle.stages.specs.Contents.{segments_of}
use Rattle.normal_form_laws.specs.Forms.{end_to_end}
use Rattle.mailbox_files.specs.Pieces.{is_unopened, first_unz, unz_of, piece_end, pieces}
use Rattle.mailbox_files.proofs.Pieces.{unz_within, end_within, no_pieces, pieces_first, pieces_joined}
use Rattle.mailbox_file_laws.specs.Cutting.{EndsInUnz, Unending, unopened, faulty, endless, Cut, nothing, rest, ended}
use Rattle.mailbox_file_laws.proofs.Openings.{opened_clear}
use Rattle.mailbox_file_laws.proofs.Firsts.{None, fault, nowhere, first_none, none_faulty, none_nowhere}
use Rattle.mailbox_file_laws.proofs.Ends.{end_followed, cut_unz, cut_end, cut_leads, ends_in_unz, unz_ends}

-- ---- a rest in which no UNZ is reached

pub unending : (s : List ℕ) → unz_of s ≡ none → Unending s
unfolding unz_of
unending s h = step (is_unopened s) refl h
  where
    walked : None (segments_of s) → Unending s
    walked (fault before g after split n f) = faulty before g after split n f
    walked (nowhere n) = endless n

    step : (b : Bool) → is_unopened s ≡ b → (if b then none else first_unz (segments_of s)) ≡ none → Unending s
    step true e k = unopened (λ w. true≢false (sym e ∙ (opened_clear s).1 w))
    step false e k = walked (first_none (segments_of s) k)

pub none_unending : (s : List ℕ) → Unending s → unz_of s ≡ none
unfolding unz_of
none_unending s u = step (is_unopened s) refl u
  where
    step : (b : Bool) → is_unopened s ≡ b → Unending s → (if b then none else first_unz (segments_of s)) ≡ none
    step true e w = refl
    step false e (unopened n) = absurd (n ((opened_clear s).0 e))
    step false e (faulty before g after split n f) = ap first_unz split ∙ none_faulty before g after n f
    step false e (endless n) = none_nowhere (segments_of s) n

-- ---- the first piece

-- of a rest in which no UNZ is reached it is the rest
module _ (s : List ℕ) (h : unz_of s ≡ none) where
  rest_end : piece_end s ≡ length s
  unfolding piece_end maybe
  rest_end = ap (maybe (length s) _) h

  pub rest_alone : 0 < length s → pieces s ≡ s ∷ []
  rest_alone k =
      pieces_first s k
      ∙ ap₂ (λ (x : List ℕ) (y : List ℕ). x ∷ pieces y)
      (ap (λ (n : ℕ). take n s) rest_end ∙ take_all (length s) s (omega arith))
      (ap (λ (n : ℕ). drop n s) rest_end ∙ drop_of_length-le s {i = length s} (omega arith))
      ∙ ap (λ (ps : List (List ℕ)). s ∷ ps) no_pieces

-- a piece that ends in its UNZ, in front of what does not begin with a break
pub piece_first : (p more : List ℕ) → EndsInUnz p → leads_break more ≡ false → pieces (p ++ more) ≡ p ∷ pieces more
piece_first p more e n =
    let (found, end) = unz_ends p e in
    let size : piece_end (p ++ more) ≡ length p = end_followed p more e.unz found end n in
    pieces_first (p ++ more) (omega (arith, unz_within p e.unz found, length-append p more))
    ∙ ap (λ (k : ℕ). take k (p ++ more) ∷ pieces (drop k (p ++ more))) size
    ∙ ap₂ (λ (x : List ℕ) (y : List ℕ). x ∷ pieces y) (take-append_seam p more) (drop-append_seam p more)

-- ---- the pieces are cut so

-- the pieces of what follows, joined, are what follows
joined : (s : List ℕ) → end_to_end (pieces s) ≡ s
unfolding end_to_end
joined s = pieces_joined s

-- where what is left behind the first piece is cut so, the whole is
cut_more : (s : List ℕ) → (length (drop (piece_end s) s) < length s → Cut (pieces (drop (piece_end s) s))) → Cut (pieces s)
cut_more [] others = subst Cut (sym no_pieces) nothing
cut_more (b ∷ bs) others = step (unz_of s) refl
  where
    s : List ℕ
    s = b ∷ bs

    positive : 0 < piece_end s
    positive = (end_within s).1 (omega arith)

    step : (o : Option Segment) → unz_of s ≡ o → Cut (pieces s)
    step none h = subst Cut (sym (rest_alone s h (omega arith))) (rest (λ e. cons≢nil e) (unending s h))
    step (some g) h =
        let p : List ℕ = take (piece_end s) s in
        let left : List ℕ = drop (piece_end s) s in
        subst Cut (sym (pieces_first s (omega arith)))
        (ended (ends_in_unz p g (cut_unz s g h) (cut_end s g h)) (ap leads_break (joined left) ∙ cut_leads s g h)
        (others (omega (arith, positive, length-drop (piece_end s) s))))

cut_from : (n : ℕ) (s : List ℕ) → length s ≤ n → Cut (pieces s)
cut_from zero s l = cut_more s (λ m. absurd (omega arith))
cut_from (suc n) s l = cut_more s (λ m. cut_from n (drop (piece_end s) s) (omega arith))

-- ---- and no other list is

only_cut : {ps : List (List ℕ)} → Cut ps → pieces (end_to_end ps) ≡ ps
unfolding end_to_end gather
only_cut nothing = no_pieces
only_cut (rest {piece = p} n u) = ap pieces (append-nil p) ∙ rest_alone p (none_unending p u) (some_byte p n)
  where
    some_byte : (s : List ℕ) → (s ≡ [] → ⊥) → 0 < length s
    some_byte [] k = absurd (k refl)
    some_byte (b ∷ bs) k = omega arith
only_cut (ended {piece = p} {others = ps} e l c) = piece_first p (end_to_end ps) e l ∙ ap (λ (qs : List (List ℕ)). p ∷ qs) (only_cut c)

pub cut_exactly : (file : List ℕ) (ps : List (List ℕ)) → (pieces file ≡ ps) ↔ ((end_to_end ps ≡ file) × Cut ps)
cut_exactly file ps = (
  λ e. (ap end_to_end (sym e) ∙ joined file, subst Cut e (cut_from (length file) file (omega arith))),
  λ h. ap pieces (sym h.0) ∙ only_cut h.1,
)
