-- The opening: refusals 2 and 3 are not met exactly where the input begins as an interchange does. Assumes nothing.
use Rattle.std.specs.Prelude.{if◌then◌else◌}
use Prim.Native.Nat.{ℕ, suc, ◌+◌, ◌≤◌}
use mathlib.Core.Path.{◌≡◌, refl, sym, ap, ap₂, ◌∙◌}
use mathlib.Core.Logic.{◌↔◌}
use mathlib.Core.Bool.{Bool, true, false, not, ◌&&◌, ◌||◌, false≢true}
use mathlib.Core.List.{List, [], ◌∷◌, ◌++◌}
use native.Mathlib.Omega.{arith}
use lib.ListN.{length, take, drop, length-drop, take-append-drop}
use lib.Seq.{drop-drop}
use lib.Dec.{eqb, ltb}
use borrow.Author.Tests.{eqb-true, eq-eqb, ltb-false, not-false}
use Rattle.lists.specs.Lists.{text, begins, member, all, at, maybe}
use Rattle.lists.proofs.Texts.{and_left, and_right, and_both, or_none_left, or_none_right, if_true}
use Rattle.characters.specs.declared.Characters.{Characters}
use Rattle.characters.specs.Characters.{usable, six_bytes, spelled_out, advised, advice_of, plus_characters, star_characters, begins_version4, control_characters, characters_of, is_break, breaks, after_breaks, body_start, body, bad_advice, opens}
use Rattle.values.specs.Spelling.{leads_break}
use Rattle.stages.specs.Places.{unusable_advice, no_opening}
use Rattle.refusals.proofs.Stages.{place_none, place_none_not}
use Rattle.characters.proofs.Words.{version4_plus}
use Rattle.normal_form_laws.proofs.Openings.{advice_characters, advice_good, apart_body}
use Rattle.acceptance_laws.specs.Allowed.{WellOpened, advice, plus, control}

-- an input that begins with a text is the text and a rest
begins_split : (ps xs : List ℕ) → begins ps xs ≡ true → xs ≡ ps ++ drop (length ps) xs
unfolding begins
begins_split [] xs h = refl
begins_split (p ∷ ps) [] h = absurd (false≢true h)
begins_split (p ∷ ps) (x ∷ xs) h =
    ap (λ (y : ℕ). y ∷ xs) (sym (eqb-true p x (and_left (eqb p x) (begins ps xs) h)))
    ∙ ap (λ (l : List ℕ). p ∷ l) (begins_split ps xs (and_right (eqb p x) (begins ps xs) h))

begins_own : (ps rest : List ℕ) → begins ps (ps ++ rest) ≡ true
unfolding begins
begins_own [] rest = refl
begins_own (p ∷ ps) rest = and_both (eqb p p) (begins ps (ps ++ rest)) (eq-eqb p p refl) (begins_own ps rest)

-- six bytes or more are six bytes and a rest
six_split : (xs : List ℕ) → 6 ≤ length xs → xs ≡ spelled_out (six_bytes xs) ++ drop 6 xs
unfolding spelled_out six_bytes
six_split [] h = absurd (omega arith)
six_split (a ∷ []) h = absurd (omega arith)
six_split (a ∷ b ∷ []) h = absurd (omega arith)
six_split (a ∷ b ∷ c ∷ []) h = absurd (omega arith)
six_split (a ∷ b ∷ c ∷ d ∷ []) h = absurd (omega arith)
six_split (a ∷ b ∷ c ∷ d ∷ e ∷ []) h = absurd (omega arith)
six_split (a ∷ b ∷ c ∷ d ∷ e ∷ f ∷ xs) h = refl

-- what stands in front of the body are breaks
breaks_only : (bs : List ℕ) → all is_break (take (breaks bs) bs) ≡ true
unfolding breaks all
breaks_only [] = refl
breaks_only (b ∷ bs) = step (is_break b) refl (breaks_only bs)
  where
    step : (t : Bool) → is_break b ≡ t → all is_break (take (breaks bs) bs) ≡ true
        → all is_break (take (if t then suc (breaks bs) else 0) (b ∷ bs)) ≡ true
    step true e h = and_both (is_break b) (all is_break (take (breaks bs) bs)) e h
    step false e h = refl

module _ (s : List ℕ) where
  -- ---- where neither refusal is met

  body_opens : opens s ≡ true → body s ≡ text "UNB" ++ (characters_of s).element ∷ drop 4 (body s)
  unfolding opens
  body_opens = begins_split (text "UNB" ++ (characters_of s).element ∷ []) (body s)

  opening_advice : advised s ≡ true → bad_advice s ≡ false → opens s ≡ true → WellOpened s
  unfolding advised bad_advice characters_of body body_start after_breaks advice_of
  opening_advice e bad o =
      let fit : (short || unusable) ≡ false = sym (ap (λ (t : Bool). t && (short || unusable)) e) ∙ bad in
      let long : 9 ≤ length s = ltb-false (length s) 9 (or_none_left short unusable fit) in
      let six : characters_of s ≡ six_bytes (drop 3 s) = simp e in
      let gap : List ℕ = take (breaks (drop 9 s)) (drop 9 s) in
      let follows : body s ≡ drop (breaks (drop 9 s)) (drop 9 s) =
      ap (λ (n : ℕ). drop n s) (if_true (advised s) (9 + breaks (drop 9 s)) 0 e) ∙ sym (drop-drop (breaks (drop 9 s)) 9 s) in
      advice (characters_of s) gap (drop 4 (body s))
      (not-false (usable (characters_of s)) (or_none_right short unusable fit))
      (breaks_only (drop 9 s))
      (begins_split (text "UNA") s e
      ∙ ap (λ (l : List ℕ). text "UNA" ++ l) (six_split (drop 3 s) (omega (arith, length-drop 3 s)))
      ∙ ap (λ (c : Characters). advice_of c ++ drop 6 (drop 3 s)) (sym six)
      ∙ ap (λ (l : List ℕ). advice_of (characters_of s) ++ l)
      (drop-drop 6 3 s
      ∙ sym (take-append-drop (breaks (drop 9 s)) (drop 9 s))
      ∙ ap (λ (l : List ℕ). gap ++ l) (sym follows ∙ body_opens o)))
    where
      short : Bool
      short = ltb (length s) 9

      unusable : Bool
      unusable = not (usable (characters_of s))

  opening_none : advised s ≡ false → opens s ≡ true → WellOpened s
  unfolding characters_of body body_start control_characters six_bytes
  opening_none e o = fourth (begins_version4 s) refl
    where
      whole : body s ≡ s
      whole = simp e

      step : begins_version4 s ≡ false → (t : Bool) → begins (text "UNB+") s ≡ t → WellOpened s
      step v true b = plus (drop 4 s) (begins_split (text "UNB+") s b)
      step v false b =
          let c : characters_of s ≡ control_characters = simp (e, v, b) in
          control (drop 4 (body s))
          (sym whole ∙ body_opens o ∙ ap (λ (d : Characters). text "UNB" ++ d.element ∷ drop 4 (body s)) c)

      fourth : (t : Bool) → begins_version4 s ≡ t → WellOpened s
      fourth true v = let (rest, shape) = version4_plus s v in plus rest shape
      fourth false v = step v (begins (text "UNB+") s) refl

-- ---- where the input begins so

good_advice : {s : List ℕ} → WellOpened s → bad_advice s ≡ false
unfolding bad_advice advised begins
good_advice (advice c gap rest u only e) = ap bad_advice e ∙ advice_good c (gap ++ (text "UNB" ++ c.element ∷ rest)) u
good_advice (plus rest e) = ap bad_advice e
good_advice (control rest e) = ap bad_advice e

opens_opening : {s : List ℕ} → WellOpened s → opens s ≡ true
unfolding opens advised begins characters_of begins_version4 six_bytes body body_start plus_characters star_characters control_characters leads_break at maybe is_break member
opens_opening (advice c gap rest u only e) =
    let opening : List ℕ = text "UNB" ++ c.element ∷ rest in
    ap opens e
    ∙ ap₂ (λ (d : Characters) (l : List ℕ). begins (text "UNB" ++ d.element ∷ []) l)
    (advice_characters c (gap ++ opening))
    (apart_body c gap opening only refl)
    ∙ begins_own (text "UNB" ++ c.element ∷ []) rest
opens_opening (plus rest e) = ap opens e ∙ step (begins (text "UNOA:4") rest || begins (text "UNOB:4") rest)
  where
    step : (v : Bool) → begins (text "UNB" ++ (if v then star_characters else plus_characters).element ∷ []) (text "UNB+" ++ rest) ≡ true
    step true = refl
    step false = refl
opens_opening (control rest e) = ap opens e

-- neither refusal 2 nor refusal 3 is met exactly where the input begins so
pub opening_clear : (s : List ℕ) → (unusable_advice s ≡ []) × (no_opening s ≡ []) ↔ WellOpened s
unfolding unusable_advice no_opening
opening_clear s = (
  λ h. step (advised s) refl ((place_none (bad_advice s) 0).0 h.0) ((place_none_not (opens s) (body_start s)).0 h.1),
  λ o. ((place_none (bad_advice s) 0).1 (good_advice o), (place_none_not (opens s) (body_start s)).1 (opens_opening o)),
)
  where
    step : (t : Bool) → advised s ≡ t → bad_advice s ≡ false → opens s ≡ true → WellOpened s
    step true e h o = opening_advice s e h o
    step false e h o = opening_none s e o
