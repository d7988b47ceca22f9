-- Accepted interchanges end in their UNZ, so that a file of them is cut into them. Assumes nothing.
use Rattle.std.specs.Prelude.{if◌then◌else◌}
use Prim.Native.Nat.{ℕ, zero, suc, ◌+◌, ◌≤◌, ◌<◌}
use mathlib.Core.Path.{◌≡◌, refl, sym, ap, ◌∙◌, subst}
use mathlib.Core.Bool.{Bool, true, false, not, ◌&&◌, ◌||◌, false≢true}
use mathlib.Core.List.Memᴰ
use mathlib.Core.List.{List, [], ◌∷◌, ◌++◌, map, append-nil, append-eq-nil_iff, cons≢nil, Memᴰ}
use mathlib.Core.Logic.{⊎_elim}
use mathlib.Core.Option.{Option, none, some}
use native.Mathlib.Omega.{arith}
use native.Mathlib.Decide.{dec_le}
use native.Mathlib.Nat.{lt_of_not-le}
use lib.ListN.{length, get_or, drop}
use borrow.Author.Tests.{not-false}
use Rattle.lists.specs.Lists.{member, any, cut, gather, at, maybe}
use Rattle.lists.proofs.Numbers.{drop_next}
use Rattle.lists.proofs.Pieces.{cut_first}
use Rattle.lists.proofs.Tests.{fails}
use Rattle.lists.proofs.Texts.{if_true, if_false}
use Rattle.characters.specs.declared.Characters.{Characters}
use Rattle.characters.specs.declared.Role.{Role}
use Rattle.characters.specs.declared.Role.TheVariants.{Separator, Release, Plain}
use Rattle.characters.specs.Characters.{role, is_break, advice_of, spelled_out, characters_of, body_start}
use Rattle.refusals.specs.Refusals.{place_if}
use Rattle.refusals.proofs.Stages.{place_none}
use Rattle.values.specs.Tokens.{Token, inside, unreleased, reading, taken, tokens_from, tokens, ends, Segment, segments, start, tokens_at}
use Rattle.values.specs.Values.{finished}
use Rattle.values.specs.Spelling.{leads_break}
use Rattle.segments.specs.declared.Kind.TheVariants.{Unz}
use Rattle.segments.specs.Kinds.{is}
use Rattle.segments.specs.Tags.{kind_of, tag_rule}
use Rattle.segments.proofs.Words.{is_says}
use Rattle.stages.specs.Contents.{body_tokens, segments_of, kinds_of}
use Rattle.stages.specs.Places.{starts_where, broken_tag, broken_tags}
use Rattle.stages.specs.Stages.{refusal_of}
use Rattle.spelling_laws.specs.Bodies.{Passes}
use Rattle.normal_form_laws.specs.Forms.{NormalForms, end_to_end, after_trailer}
use Rattle.normal_form_laws.proofs.Accepted.{Accepted, accepted_exactly, passes_accepted, order_accepted}
use Rattle.normal_form_laws.proofs.Accepting.{normal_accepted}
use Rattle.normal_form_laws.proofs.Tags.{all_finished}
use Rattle.normal_form_laws.proofs.Trailers.{complete_any, trailer_last}
use Rattle.acceptance_laws.specs.Allowed.{WellOpened, advice, plus, control}
use Rattle.acceptance_laws.proofs.Each.{all_each}
use Rattle.acceptance_laws.proofs.Opening.{opening_clear}
use Rattle.mailbox_files.specs.Pieces.{is_whole, first_unz, unz_of, end_behind, pieces}
use Rattle.mailbox_files.proofs.Pieces.{end_within}
use Rattle.mailbox_file_laws.specs.Cutting.{Faultless, NoUnz, EndsInUnz, Cut, nothing, ended}
use Rattle.mailbox_file_laws.proofs.Openings.{opened_clear}
use Rattle.mailbox_file_laws.proofs.Firsts.{whole_says}
use Rattle.mailbox_file_laws.proofs.Ends.{end_is, walk_first, segments_walked, unz_opened, ends_in_unz}
use Rattle.mailbox_file_laws.proofs.Cuts.{cut_exactly}

-- ---- none of 4 to 6 is met in a segment of an accepted interchange

-- where 6 is met nowhere, each finished segment keeps the rule for tags
tags_kept : (past gs : List Segment) → starts_where broken_tag past gs ≡ [] → (g : Segment) → Memᴰ g gs → finished g ≡ true → tag_rule g ≡ true
unfolding starts_where
tags_kept past [] h g m f = absurd (Memᴰ.not-nil m)
tags_kept past (q ∷ gs) h g m f =
    let parts = (append-eq-nil_iff {p = place_if (finished q && not (tag_rule q)) (start q)} {q = starts_where broken_tag (q ∷ past) gs}).0 h in
    let own : (finished q && not (tag_rule q)) ≡ false = (place_none (finished q && not (tag_rule q)) (start q)).0 parts.0 in
    ⊎_elim (λ e. subst (λ (x : Segment). tag_rule x ≡ true) (sym e) (not-false (tag_rule q) (kept (finished q) (ap finished (sym e) ∙ f) own)))
    (λ i. tags_kept (q ∷ past) gs parts.1 g i f)
    (Memᴰ.cases_cons m)
  where
    kept : (b : Bool) {t : Bool} → b ≡ true → (b && t) ≡ false → t ≡ false
    kept true e k = k
    kept false e k = absurd (false≢true e)

module _ (s : List ℕ) (a : Accepted s) where
  faultless : (g : Segment) → Memᴰ g (segments_of s) → Faultless g
  unfolding segments_of body_tokens Passes broken_tags
  faultless g m =
      let ends-well : finished g ≡ true =
      (all_each finished (segments_of s)).0 (all_finished (body_tokens s) ((passes_accepted s).0 (a.releases, a.ending))) g m in
      (ends-well, tags_kept [] (segments_of s) a.tags g m ends-well)

-- ---- its UNZ is the last

-- the walk finds one
unz_somewhere : (gs : List Segment) → ((g : Segment) → Memᴰ g gs → Faultless g) → any (is Unz) (map kind_of gs) ≡ true
    → (unz : Segment) × (first_unz gs ≡ some unz)
unfolding any first_unz
unz_somewhere [] f h = absurd (false≢true h)
unz_somewhere (g ∷ gs) f h = step (is_whole g) ((whole_says g).1 (f g (Memᴰ.head refl))) (is Unz (kind_of g)) h (unz_somewhere gs (λ q m. f q (Memᴰ.tail m)))
  where
    Somewhere : Option Segment → Type 0
    Somewhere o = (unz : Segment) × (o ≡ some unz)

    step : (w : Bool) → w ≡ true → (u : Bool) → (u || any (is Unz) (map kind_of gs)) ≡ true
        → (any (is Unz) (map kind_of gs) ≡ true → Somewhere (first_unz gs)) → Somewhere (if w then (if u then some g else first_unz gs) else none)
    step true w true k rest = (g, refl)
    step true w false k rest = rest k
    step false w u k rest = absurd (false≢true w)

-- what stands behind the first is what stands behind it
after_unz : (before : List Segment) (unz : Segment) (after : List Segment) → NoUnz before → kind_of unz ≡ Unz → after_trailer (before ++ unz ∷ after) ≡ after
unfolding after_trailer
after_unz [] unz after n k = if_true (is Unz (kind_of unz)) after (after_trailer after) ((is_says Unz (kind_of unz)).1 k)
after_unz (g ∷ before) unz after n k =
    if_false (is Unz (kind_of g)) (before ++ unz ∷ after) (after_trailer (before ++ unz ∷ after))
    ((fails (is Unz (kind_of g)) (is_says Unz (kind_of g))).1 (n g (Memᴰ.head refl)))
    ∙ after_unz before unz after (λ q m. n q (Memᴰ.tail m)) k

-- ---- bytes bring tokens

tokens_some : (c : Characters) (place b : ℕ) (bs : List ℕ) → tokens c place (b ∷ bs) ≡ [] → ⊥
unfolding tokens tokens_from unreleased reading taken
tokens_some c place b bs = step (role c b) bs
  where
    after_release_lem : (o : Role) (d : ℕ) (ts : List Token) → taken o d place (place + 1) ts ≡ [] → ⊥
    after_release_lem (Separator rank) d ts e = cons≢nil e
    after_release_lem Release d ts e = cons≢nil e
    after_release_lem Plain d ts e = cons≢nil e

    step : (o : Role) (bs : List ℕ) → unreleased o b place (tokens_from c (reading o place) (place + 1) bs) ≡ [] → ⊥
    step (Separator zero) bs e = cons≢nil e
    step (Separator (suc rank)) bs e = cons≢nil e
    step Plain bs e = cons≢nil e
    step Release [] e = cons≢nil e
    step Release (d ∷ ds) e = after_release_lem (role c d) d (tokens_from c inside (place + 1 + 1) ds) e

-- where no segment follows a place, no byte does
none_left : (c : Characters) (s : List ℕ) (at : ℕ) → segments (tokens_at c s at) ≡ [] → length s ≤ at
unfolding tokens_at segments cut
none_left c s at h = elim (dec_le (length s) at) [ yes k ↦ k | no k ↦ absurd (some_left (lt_of_not-le k)) ]
  where
    none_cut : (ts : List Token) → segments ts ≡ [] → ts ≡ []
    none_cut [] e = refl
    none_cut (t ∷ ts) e = absurd (cons≢nil (sym (cut_first (ends 0) t ts) ∙ e))

    some_left : at < length s → ⊥
    some_left k =
        tokens_some c at (get_or s at 0) (drop (at + 1) s) (ap (tokens c at) (sym (drop_next s at k)) ∙ none_cut (tokens_at c s at) h)

-- ---- an accepted interchange

module _ (s : List ℕ) (accepted : refusal_of s ≡ none) where
  told : Accepted s
  told = (accepted_exactly s).0 accepted

  pub accepted_opens : WellOpened s
  accepted_opens = (opening_clear s).0 (told.advice, told.opening)

  -- nothing stands behind its UNZ
  pub accepted_ends : EndsInUnz s
  unfolding kinds_of
  accepted_ends =
      let gs : List Segment = segments_of s in
      let order = (order_accepted s).0 told.order in
      let some-unz = complete_any (map kind_of gs) order.1 in
      let (unz, h) = unz_somewhere gs (faultless s told) some-unz in
      let found : unz_of s ≡ some unz = unz_opened s ((opened_clear s).1 accepted_opens) h in
      let f = walk_first (characters_of s) s (length s) (body_start s) unz (omega arith) (ap first_unz (sym (segments_walked s)) ∙ h) in
      let after : List Segment = segments (tokens_at (characters_of s) s (end_behind s unz)) in
      let nothing-more : after ≡ [] =
      sym (after_unz f.before unz after f.none_before f.kind)
      ∙ ap after_trailer (sym (segments_walked s ∙ f.split) ∙ sym (append-nil gs))
      ∙ trailer_last [] gs [] order.0 some-unz in
      ends_in_unz s unz found (omega (arith, end_is s unz found, (end_within s).0, none_left (characters_of s) s (end_behind s unz) nothing-more))

-- it does not begin with a break, whatever follows it
opened_leads : (s more : List ℕ) → WellOpened s → leads_break (s ++ more) ≡ false
unfolding leads_break at maybe is_break member advice_of spelled_out
opened_leads s more (advice c gap rest u only e) = ap (λ (t : List ℕ). leads_break (t ++ more)) e
opened_leads s more (plus rest e) = ap (λ (t : List ℕ). leads_break (t ++ more)) e
opened_leads s more (control rest e) = ap (λ (t : List ℕ). leads_break (t ++ more)) e

-- ---- a file of them

abbrev pub AllAccepted : List (List ℕ) → Type 0
AllAccepted ss = (s : List ℕ) → Memᴰ s ss → refusal_of s ≡ none

file_leads : (ss : List (List ℕ)) → AllAccepted ss → leads_break (end_to_end ss) ≡ false
unfolding end_to_end gather leads_break at maybe
file_leads [] a = refl
file_leads (s ∷ ss) a = opened_leads s (end_to_end ss) (accepted_opens s (a s (Memᴰ.head refl)))

cut_accepted : (ss : List (List ℕ)) → AllAccepted ss → Cut ss
cut_accepted [] a = nothing
cut_accepted (s ∷ ss) a =
    let others : AllAccepted ss = λ t m. a t (Memᴰ.tail m) in
    ended (accepted_ends s (a s (Memᴰ.head refl))) (file_leads ss others) (cut_accepted ss others)

-- they are found again
pub accepted_again : (ss : List (List ℕ)) → AllAccepted ss → pieces (end_to_end ss) ≡ ss
accepted_again ss a = (cut_exactly (end_to_end ss) ss).1 (refl, cut_accepted ss a)

-- and so are normal forms
pub forms_again : (forms : List (List ℕ)) → NormalForms forms → pieces (end_to_end forms) ≡ forms
forms_again forms f =
    accepted_again forms (λ form m. let g = f form m in subst (λ (t : List ℕ). refusal_of t ≡ none) g.made (normal_accepted g.input g.accepted))
