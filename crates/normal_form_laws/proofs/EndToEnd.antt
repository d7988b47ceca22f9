-- Where a normal form ends that is followed by others, and how often a file is cut. Assumes nothing.
use Prim.Native.Nat.{ℕ, zero, suc, ◌+◌, ◌≤◌}
use mathlib.Core.Path.{◌≡◌, refl, sym, ap, ap₂, ◌∙◌}
use mathlib.Core.Bool.{true, false}
use mathlib.Core.List.Memᴰ
use mathlib.Core.List.{List, [], ◌∷◌, ◌++◌, map, append_assoc, append-nil}
use mathlib.Core.Option.{none}
use native.Mathlib.Omega.{arith}
use lib.ListN.{length, take, drop, length-append}
use lib.Seq.{take-append_seam, drop-append_seam}
use Rattle.lists.specs.Lists.{member, all, cut, through, gather, at, maybe}
use Rattle.lists.proofs.Pieces.{cut_first}
use Rattle.characters.specs.declared.Characters.{Characters}
use Rattle.characters.specs.declared.Role.{Role}
use Rattle.characters.specs.declared.Role.TheVariants.{Separator, Release, Plain}
use Rattle.characters.specs.Characters.{role, usable, is_break, advice_of, spelled_out}
use Rattle.values.specs.Tokens.{Token, byte, separator, fault, inside, passing, unreleased, reading, taken, tokens_from, tokens, ends, place_of, Segment, segments, start}
use Rattle.values.specs.Spelling.{Bytes, SegmentList, spell, leads_break}
use Rattle.segments.specs.Tags.{kind_of}
use Rattle.stages.specs.Contents.{body_tokens, segments_of, contents, kinds_of, interchange, normal_form}
use Rattle.stages.specs.Stages.{refusal_of}
use Rattle.spelling_laws.specs.Bodies.{Sound, Passes, Shaped, Spellable, Unbroken}
use Rattle.spelling_laws.proofs.Listing.{segments_append}
use Rattle.spelling_laws.proofs.Laws.{spelling_passes, spelling_leads, tokens_append}
use Rattle.normal_form_laws.specs.Forms.{form_characters, NormalForm, NormalForms, end_to_end, after_trailer, form_end, cut_up_to}
use Rattle.normal_form_laws.proofs.Openings.{advice_characters, apart_start, apart_body}
use Rattle.normal_form_laws.proofs.Accepted.{accepted_exactly, order_accepted}
use Rattle.normal_form_laws.proofs.Normal.{normal_spellable, contents_shaped, contents_unbroken, normal_usable}
use Rattle.normal_form_laws.proofs.Accepting.{normal_accepted}
use Rattle.normal_form_laws.proofs.Trailers.{complete_any, trailer_last}

-- ---- segments one after another

module _ (end : ℕ) where
  -- where the first segment begins, or the end where there is none
  abbrev first_start : List Token → ℕ
  first_start ts = maybe end start (at (segments ts) 0)

  -- it begins at the first token
  first_token : (t : Token) (ts : List Token) → first_start (t ∷ ts) ≡ place_of t
  unfolding maybe at segments start through
  first_token t ts = rw (cut_first (ends 0) t ts) refl

  -- which begins where the bytes do
  first_byte : (c : Characters) (place b : ℕ) (bs : Bytes) → first_start (tokens c place (b ∷ bs)) ≡ place
  unfolding tokens tokens_from unreleased reading taken place_of
  first_byte c place b bs = step (role c b) bs
    where
      after_release_lem : (o : Role) (b from place : ℕ) (ts : List Token) → first_start (taken o b from place ts) ≡ from
      after_release_lem (Separator kind) b from place ts = first_token (byte b from place) ts
      after_release_lem Release b from place ts = first_token (byte b from place) ts
      after_release_lem Plain b from place ts = first_token (fault from) ts

      step : (o : Role) (bs : Bytes) → first_start (unreleased o b place (tokens_from c (reading o place) (place + 1) bs)) ≡ place
      step (Separator zero) bs = first_token (separator 0 place) (tokens_from c passing (place + 1) bs)
      step (Separator (suc rank)) bs = first_token (separator (suc rank) place) (tokens_from c inside (place + 1) bs)
      step Plain bs = first_token (byte b place place) (tokens_from c inside (place + 1) bs)
      step Release [] = first_token (fault place) []
      step Release (d ∷ ds) = after_release_lem (role c d) d place (place + 1) (tokens_from c inside (place + 1 + 1) ds)

-- ---- where a normal form ends

-- the segments after an advice, where no break follows it
segments_advised : (c : Characters) (bs : Bytes) → leads_break bs ≡ false → segments_of (advice_of c ++ bs) ≡ segments (tokens c 9 bs)
unfolding segments_of body_tokens all
segments_advised c bs n = rw (advice_characters c bs, apart_start c [] bs refl n, apart_body c [] bs refl n)

-- neither of two begins with a break
leads_append : (xs ys : Bytes) → leads_break xs ≡ false → leads_break ys ≡ false → leads_break (xs ++ ys) ≡ false
unfolding leads_break at maybe
leads_append [] ys h k = k
leads_append (x ∷ xs) ys h k = h

-- the segments of an interchange, and of what follows it
segments_more : (c : Characters) (list : SegmentList) (more : Bytes) → usable c ≡ true → Shaped list → Spellable c list → Unbroken list
    → leads_break more ≡ false
    → segments_of (interchange c list ++ more) ≡ segments_of (interchange c list) ++ segments (tokens c (length (interchange c list)) more)
unfolding interchange Passes Sound advice_of spelled_out
segments_more c list more u s r n k =
    let bs : Bytes = spell c list in
    let passes : Passes c 9 bs = spelling_passes c u 9 list s r n in
    let leads : leads_break bs ≡ false = spelling_leads c u 9 list s r n in
    ap segments_of (append_assoc (advice_of c) bs more)
    ∙ segments_advised c (bs ++ more) (leads_append bs more leads k)
    ∙ ap segments (tokens_append c u 9 bs passes more k)
    ∙ segments_append (tokens c 9 bs) (tokens c (9 + length bs) more) passes.1
    ∙ ap₂ (λ (gs : List Segment) (n : ℕ). gs ++ segments (tokens c n more)) (sym (segments_advised c bs leads)) (omega arith)

module _ (s : List ℕ) (accepted : refusal_of s ≡ none) (more : List ℕ) (unled : leads_break more ≡ false) where
  -- after the first UNZ stands what follows the normal form
  after_form : after_trailer (segments_of (normal_form s ++ more))
      ≡ segments (tokens (form_characters s) (length (normal_form s)) more)
  unfolding kinds_of normal_form
  after_form =
      let n : List ℕ = normal_form s in
      let c : Characters = form_characters s in
      let list : SegmentList = contents s in
      let order = (order_accepted n).0 ((accepted_exactly n).0 (normal_accepted s accepted)).order in
      ap after_trailer
      (segments_more c list more (normal_usable s accepted) (contents_shaped s accepted) (normal_spellable s accepted)
      (contents_unbroken s accepted) unled)
      ∙ trailer_last [] (segments_of n) (segments (tokens c (length n) more)) order.0
      (complete_any (map kind_of (segments_of n)) order.1)

  -- so the file is cut there
  form_end_lem : form_end (normal_form s ++ more) ≡ length (normal_form s)
  unfolding form_end maybe at segments cut tokens tokens_from
  form_end_lem = ap (λ (gs : List Segment). maybe (length (normal_form s ++ more)) start (at gs 0)) after_form ∙ step more
    where
      step : (more : List ℕ)
          → first_start (length (normal_form s ++ more)) (tokens (form_characters s) (length (normal_form s)) more)
          ≡ length (normal_form s)
      step [] = ap length (append-nil (normal_form s))
      step (b ∷ bs) = first_byte (length (normal_form s ++ b ∷ bs)) (form_characters s) (length (normal_form s)) b bs

-- ---- cutting

-- the first normal form of a file ends where the file is cut
form_next : (form more : List ℕ) → NormalForm form → leads_break more ≡ false → form_end (form ++ more) ≡ length form
form_next form more f n = rw (← f.made) (form_end_lem f.input f.accepted more n)

-- a normal form has its advice's bytes
form_length : (form : List ℕ) → NormalForm form → 9 ≤ length form
unfolding normal_form interchange advice_of spelled_out
form_length form f = omega (arith, ap length f.made)

-- and begins with one, so that no file of forms begins with a break
file_leads : (forms : List (List ℕ)) → NormalForms forms → leads_break (end_to_end forms) ≡ false
unfolding end_to_end gather leads_break at maybe normal_form interchange advice_of spelled_out is_break member
file_leads [] f = refl
file_leads (form ∷ forms) f =
    let first = f form (Memᴰ.head refl) in
    ap (λ (text : List ℕ). leads_break (text ++ end_to_end forms)) (sym first.made)

-- so a file has a byte for each of its forms
pub file_length : (forms : List (List ℕ)) → NormalForms forms → length forms ≤ length (end_to_end forms)
unfolding end_to_end gather
file_length [] f = omega arith
file_length (form ∷ forms) f =
    omega (
      arith,
      file_length forms (λ g m. f g (Memᴰ.tail m)),
      form_length form (f form (Memᴰ.head refl)),
      length-append form (end_to_end forms),
    )

-- as many cuts as there are forms, or more, find them all
pub cut_enough : (n : ℕ) (forms : List (List ℕ)) → NormalForms forms → length forms ≤ n → cut_up_to n (end_to_end forms) ≡ forms
unfolding cut_up_to end_to_end gather
cut_enough zero [] f h = refl
cut_enough zero (form ∷ forms) f h = absurd (omega arith)
cut_enough (suc n) [] f h = refl
cut_enough (suc n) ([] ∷ forms) f h = absurd (omega (arith, form_length [] (f [] (Memᴰ.head refl))))
cut_enough (suc n) ((b ∷ bs) ∷ forms) f h =
    let form : List ℕ = b ∷ bs in
    let file : List ℕ = form ++ end_to_end forms in
    ap (λ (k : ℕ). take k file ∷ cut_up_to n (drop k file)) (form_next form (end_to_end forms) (f form (Memᴰ.head refl)) (file_leads forms (λ g m. f g (Memᴰ.tail m))))
    ∙ ap₂ (λ (first rest : List ℕ). first ∷ cut_up_to n rest)
    (take-append_seam form (end_to_end forms))
    (drop-append_seam form (end_to_end forms))
    ∙ ap (λ (rest : List (List ℕ)). form ∷ rest) (cut_enough n forms (λ g m. f g (Memᴰ.tail m)) (omega arith))
