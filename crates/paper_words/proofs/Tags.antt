-- The tag of a segment: its kind, its rule in the paper's words, and where 4, 5 and 6 are met. Assumes nothing.
use Prim.Native.Nat.{ℕ, ◌≤◌}
use mathlib.Core.Path.{◌≡◌, refl, sym, ap, subst, ◌∙◌}
use mathlib.Core.Bool.{Bool, true, false, not, ◌&&◌, ◌||◌, false≢true}
use mathlib.Core.Logic.{◌⊎◌, inl, inr, ⊎_elim, ◌↔◌}
use mathlib.Core.List.Memᴰ
use mathlib.Core.List.{List, [], ◌∷◌, ◌++◌, map, cons-ne-nil, Memᴰ}
use native.Mathlib.Omega.{arith}
use lib.ListN.{length}
use Rattle.lists.specs.Lists.{text, same, begins, is_empty, is_single, all, any, last_or}
use Rattle.lists.proofs.Texts.{and_left, and_right, and_both}
use Rattle.lists.proofs.Tests.{Says, says_both, says_either, says_not, says_as, says_same, says_begins, says_any, decides, last_stands, last_is, never_empty}
use Rattle.refusals.specs.declared.Fault.TheVariants.{UnendedSegment, BrokenTag}
use Rattle.refusals.specs.Refusals.{place_if}
use Rattle.values.specs.Tokens.{Token, separator, Segment, start}
use Rattle.values.specs.Values.{finished}
use Rattle.values.specs.Spelling.{Bytes}
use Rattle.values.proofs.Words.{finished_says}
use Rattle.segments.specs.declared.Kind.{Kind}
use Rattle.segments.specs.declared.Kind.TheVariants.{User}
use Rattle.segments.specs.Kinds.{index, is, kind_named}
use Rattle.segments.specs.Tags.{is_tag, tag_rule}
use Rattle.segments.proofs.Words.{kinds_are, user_kind, is_says, tag_says}
use Rattle.spelling_laws.specs.Bodies.{words_of}
use Rattle.normal_form_laws.proofs.Tags.{foremost, first_value, tag_stands, tags_words}
use Rattle.stages.specs.Contents.{body_tokens}
use Rattle.stages.specs.Places.{starts_where, unended_segment, broken_tags}
use Rattle.stages.proofs.Words.{five_at, six_at}
use Rattle.paper_words.specs.PaperWords.{Elements, Begins, service_tags, Tagged}
use Rattle.paper_words.proofs.Meanings.{TagFails, Meant}

-- ---- 5

-- the last of a list
same_last : (ts before others : List Token) (t u : Token) → ts ≡ before ++ t ∷ [] → ts ≡ others ++ u ∷ [] → t ≡ u
same_last [] before others t u e k = absurd (never_empty before t e)
same_last (x ∷ xs) before others t u e k = sym (last_is before t x xs e) ∙ last_is others u x xs k

pub five_met : (s : List ℕ) (p : ℕ) → Memᴰ p (unended_segment s) ↔ Meant s UnendedSegment p
five_met s p =
    let exactly = five_at s p in (
      λ m. let h = exactly.0 m in (there (body_tokens s) h.0.0 h.0.1, h.1),
      λ h.
          let (before, t, e, n) = h.0 in
          exactly.1 (
            (λ none. never_empty before t (sym none ∙ e), λ others q k. n q (same_last (body_tokens s) before others t (separator 0 q) e k)),
            h.1,
          ),
    )
  where
    there : (ts : List Token) → (ts ≡ [] → ⊥) → ((before : List Token) (q : ℕ) → ts ≡ before ++ separator 0 q ∷ [] → ⊥)
        → (before : List Token) × (t : Token) × (ts ≡ before ++ t ∷ []) × ((q : ℕ) → t ≡ separator 0 q → ⊥)
    there [] some ended = absurd (some refl)
    there (x ∷ xs) some ended =
        let (before, e) = last_stands x xs in
        (before, last_or x xs, e, λ q k. ended before q (e ∙ ap (λ (l : Token). before ++ l ∷ []) k))

-- ---- the kind that a tag names

-- what holds for each of the seven tags
each_tag : (P : Bytes → Type 0) → P (text "UNB") → P (text "UNG") → P (text "UNH") → P (text "UNS") → P (text "UNT") → P (text "UNE")
    → P (text "UNZ") → (tag : Bytes) → Memᴰ tag service_tags → P tag
each_tag P b g h s t e z tag m =
    one (text "UNB") b (one (text "UNG") g (one (text "UNH") h (one (text "UNS") s (one (text "UNT") t (one (text "UNE") e
    (one (text "UNZ") z (λ k. absurd (Memᴰ.not-nil k)))))))) m
  where
    one : (name : Bytes) {names : List Bytes} → P name → (Memᴰ tag names → P tag) → Memᴰ tag (name ∷ names) → P tag
    one name p rest k = ⊎_elim (λ q. subst P (sym q) p) rest (Memᴰ.cases_cons k)

-- no service tag names a user segment
no_user : {kind : Kind} → kind ≡ User → (index kind ≡ 7)
no_user e = ap index e

service_kind : (tag : Bytes) → Memᴰ tag service_tags → kind_named tag ≡ User → ⊥
service_kind =
    let (b, g, h, s, t, e, z) = kinds_are in
    each_tag (λ tag. kind_named tag ≡ User → ⊥)
    (λ u. omega (arith, no_user (sym b ∙ u)))
    (λ u. omega (arith, no_user (sym g ∙ u)))
    (λ u. omega (arith, no_user (sym h ∙ u)))
    (λ u. omega (arith, no_user (sym s ∙ u)))
    (λ u. omega (arith, no_user (sym t ∙ u)))
    (λ u. omega (arith, no_user (sym e ∙ u)))
    (λ u. omega (arith, no_user (sym z ∙ u)))

pub other_kind : (tag : Bytes) → (Memᴰ tag service_tags → ⊥) → kind_named tag ≡ User
other_kind tag n = user_kind tag (λ last m e. n (subst (λ (l : Bytes). Memᴰ l service_tags) (sym e) (named last m)))
  where
    named : (last : ℕ) → Memᴰ last (text "BGHSTEZ") → Memᴰ (text "UN" ++ last ∷ []) service_tags
    named last m = among (text "BGHSTEZ") m
      where
        among : (letters : Bytes) → Memᴰ last letters → Memᴰ (text "UN" ++ last ∷ []) (map (λ l. text "UN" ++ l ∷ []) letters)
        among [] m = elim m [ ]
        among (l ∷ letters) (Memᴰ.head e) = Memᴰ.head (ap (λ (x : ℕ). text "UN" ++ x ∷ []) e)
        among (l ∷ letters) (Memᴰ.tail k) = Memᴰ.tail (among letters k)

-- a tag names a service segment exactly where it is one of the seven
service_says : (tag : Bytes) → Says (not (is User (kind_named tag))) (Memᴰ tag service_tags)
service_says tag =
    let user : Bool = is User (kind_named tag) in
    says_as (says_not user (is_says User (kind_named tag)))
    (λ n. ⊎_elim (λ m. m) (λ k. absurd (n (other_kind tag k))) (decides (any (same tag) service_tags) one_of))
    (service_kind tag)
  where
    one_of : Says (any (same tag) service_tags) (Memᴰ tag service_tags)
    one_of =
        says_as (says_any (same tag) (says_same tag) service_tags)
        (λ h. subst (λ (l : Bytes). Memᴰ l service_tags) (sym h.2) h.1)
        (λ m. (tag, m, refl))

-- ---- the rule

empty_says : {A : Type 0} (xs : List A) → Says (is_empty xs) (xs ≡ [])
unfolding is_empty
empty_says [] = (λ h. refl, λ e. refl)
empty_says (x ∷ xs) = (λ h. absurd (false≢true h), ap is_empty)

-- what is asked of a tag and its repetition figures
abbrev Asked : Bytes → List Bytes → Type 0
Asked tag figures =
    ((length tag ≡ 3) × ((b : ℕ) → Memᴰ b tag → ((65 ≤ b) × (b ≤ 90)) ⊎ ((48 ≤ b) × (b ≤ 57))))
    × (Begins (text "UN") tag → Memᴰ tag service_tags × (figures ≡ []))

apart : {words : Elements} → Tagged words
    → (tag : Bytes) × (figures : List Bytes) × (elements : Elements) × (words ≡ ((tag ∷ figures) ∷ []) ∷ elements) × Asked tag figures
apart (Tagged.tagged tag figures elements size bytes service) = (tag, figures, elements, refl, ((size, bytes), service))

-- of a tag element of one repeat
asked_says : (tag : Bytes) (figures : List Bytes) (elements : Elements)
    → Says (tag_stands (((tag ∷ figures) ∷ []) ∷ elements)) (Asked tag figures)
unfolding tag_stands first_value foremost is_single is_empty
asked_says tag figures elements =
    let un : Bool = begins (text "UN") tag in
    let service : Bool = not (is User (kind_named tag)) in
    says_both (is_tag tag && true) (not un || (service && is_empty figures))
    (λ e. (tag_says tag).0 (and_left (is_tag tag) true e), λ h. and_both (is_tag tag) true ((tag_says tag).1 h) refl)
    (says_as
    (says_either (not un) (service && is_empty figures) (says_not un (says_begins (text "UN") tag))
    (says_both service (is_empty figures) (service_says tag) (empty_says figures)))
    (λ h b. ⊎_elim (λ n. absurd (n b)) (λ k. k) h)
    (λ h. ⊎_elim (λ b. inr (h b)) inl (decides un (says_begins (text "UN") tag))))

stands_tagged : (words : Elements) → (tag_stands words ≡ true) ↔ Tagged words
unfolding tag_stands first_value foremost is_single is_empty is_tag
stands_tagged words = (
  there words,
  λ h. let (tag, figures, elements, e, asked) = apart h in ap tag_stands e ∙ (asked_says tag figures elements).1 asked,
)
  where
    -- the rule asks for one repeat
    single : (tag other : Bool) → (tag && false && other) ≡ true → ⊥
    single true other h = false≢true h
    single false other h = false≢true h

    there : (ws : Elements) → tag_stands ws ≡ true → Tagged ws
    there [] h = absurd (false≢true h)
    there ([] ∷ elements) h = absurd (false≢true h)
    there (([] ∷ repeats) ∷ elements) h = absurd (false≢true h)
    there (((tag ∷ figures) ∷ []) ∷ elements) h =
        let ((size, bytes), service) = (asked_says tag figures elements).0 h in Tagged.tagged tag figures elements size bytes service
    there (((tag ∷ figures) ∷ next ∷ repeats) ∷ elements) h = absurd (single (is_tag tag) _ h)

-- a finished segment keeps the rule exactly where its values are tagged
rule_tagged : (g : Segment) → finished g ≡ true → (tag_rule g ≡ true) ↔ Tagged (words_of g)
unfolding starts_where all place_if
rule_tagged g h =
    let words = tags_words [] (g ∷ []) (and_both (finished g) true h refl) in
    let stands = stands_tagged (words_of g) in (
      λ e. stands.0 (and_left (tag_stands (words_of g)) true (words.0 (none (finished g) (tag_rule g) e))),
      λ k. kept (finished g) (tag_rule g) h (words.1 (and_both (tag_stands (words_of g)) true (stands.1 k) refl)),
    )
  where
    none : (f t : Bool) → t ≡ true → place_if (f && not t) (start g) ++ [] ≡ []
    none true true e = refl
    none true false e = absurd (false≢true e)
    none false true e = refl
    none false false e = refl

    kept : (f t : Bool) → f ≡ true → place_if (f && not t) (start g) ++ [] ≡ [] → t ≡ true
    kept true true e k = refl
    kept true false e k = absurd (cons-ne-nil (start g) [] k)
    kept false t e k = absurd (false≢true e)

-- ---- 6

tag_fails : (before : List Segment) (g : Segment) → Says (finished g && not (tag_rule g)) (TagFails before g)
tag_fails before g = (
  λ e.
      let ended : finished g ≡ true = and_left (finished g) (not (tag_rule g)) e in
      let (stands, clear) = (finished_says g).0 ended in
      (stands, clear, (says_not (tag_rule g) (rule_tagged g ended)).0 (and_right (finished g) (not (tag_rule g)) e)),
  λ h.
      let ended : finished g ≡ true = (finished_says g).1 (h.0, h.1) in
      and_both (finished g) (not (tag_rule g)) ended ((says_not (tag_rule g) (rule_tagged g ended)).1 h.2),
)

pub six_met : (s : List ℕ) (p : ℕ) → Memᴰ p (broken_tags s) ↔ Meant s BrokenTag p
six_met s p =
    let exactly = six_at s p in (
      λ m. let (before, g, after, e, h, q) = exactly.0 m in (before, g, after, e, (tag_fails before g).0 h, q),
      λ (before, g, after, e, h, q). exactly.1 (before, g, after, e, (tag_fails before g).1 h, q),
    )
