-- The rule for tags: the test of refusal 6, of a segment's values, is passed exactly where they are tagged. Assumes nothing.
use Rattle.std.specs.Prelude.{if◌then◌else◌}
use Prim.Native.Nat.{ℕ}
use mathlib.Core.Path.{◌≡◌, refl, sym, ap, ap₂, subst, ◌∙◌}
use mathlib.Core.Logic.{◌↔◌, ⊎_elim}
use mathlib.Core.Bool.{Bool, true, false, not, ◌&&◌, ◌||◌, or-true, false≢true}
use mathlib.Core.List.{List, [], ◌∷◌, ◌++◌, Memᴰ}
use native.Mathlib.Omega.{arith}
use lib.ListN.{length}
use lib.Dec.{eqb, leb}
use borrow.Author.Tests.{eqb-true, leb-true, le-leb}
use Rattle.lists.specs.Lists.{text, same, begins, member, is_empty, is_single, all}
use Rattle.lists.proofs.Texts.{and_left, and_right, and_both, or_cases}
use Rattle.characters.specs.Characters.{between, upper, digit}
use Rattle.values.specs.Spelling.{Bytes}
use Rattle.segments.specs.declared.Kind.TheVariants.{Unb, Ung, Unh, Uns, Unt, Une, Unz, User}
use Rattle.segments.specs.Kinds.{is, kind_named}
use Rattle.segments.specs.Tags.{is_tag}
use Rattle.stages.specs.Contents.{body_tokens, segments_of}
use Rattle.stages.specs.Places.{broken_tags}
use Rattle.spelling_laws.specs.Bodies.{listed, read_list, Passes}
use Rattle.normal_form_laws.specs.Forms.{BodyPasses, list_read}
use Rattle.normal_form_laws.proofs.Tags.{foremost, first_value, tag_stands, all_finished, tags_words}
use Rattle.acceptance_laws.specs.Allowed.{TagByte, letter, figure, Tagged}
use Rattle.acceptance_laws.proofs.Each.{all_each}

-- ---- the bytes of a tag

third_byte : (c : ℕ) → not (is User (kind_named (text "UN" ++ c ∷ []))) ≡ member c (text "BGHSTEZ")
unfolding is kind_named same member
third_byte c = step (eqb c 66) (eqb c 71) (eqb c 72) (eqb c 83) (eqb c 84) (eqb c 69) (eqb c 90)
  where
    step : (b g h s t e z : Bool)
        → not (is User (if b && true then Unb else (if g && true then Ung else (if h && true then Unh else (if s && true then Uns
        else (if t && true then Unt else (if e && true then Une else (if z && true then Unz else User))))))))
        ≡ (b || (g || (h || (s || (t || (e || (z || false)))))))
    step true g h s t e z = refl
    step false true h s t e z = refl
    step false false true s t e z = refl
    step false false false true t e z = refl
    step false false false false true e z = refl
    step false false false false false true z = refl
    step false false false false false false true = refl
    step false false false false false false false = refl

tag_byte : (b : ℕ) → ((upper b || digit b) ≡ true) ↔ TagByte b
unfolding upper digit between
tag_byte b = (
  λ h.
      ⊎_elim (λ e. letter (leb-true 65 b (and_left (leb 65 b) (leb b 90) e)) (leb-true b 90 (and_right (leb 65 b) (leb b 90) e)))
      (λ e. figure (leb-true 48 b (and_left (leb 48 b) (leb b 57) e)) (leb-true b 57 (and_right (leb 48 b) (leb b 57) e)))
      (or_cases (upper b) (digit b) h),
  back,
)
  where
    back : TagByte b → (upper b || digit b) ≡ true
    back (letter l h) = ap (λ (t : Bool). t || digit b) (and_both (leb 65 b) (leb b 90) (le-leb 65 b l) (le-leb b 90 h))
    back (figure l h) =
        ap (λ (t : Bool). upper b || t) (and_both (leb 48 b) (leb b 57) (le-leb 48 b l) (le-leb b 57 h)) ∙ or-true (upper b)

-- ---- the rule

abbrev is_byte : ℕ → Bool
is_byte b = upper b || digit b

-- the test of refusal 6 for a tag that begins `UN`, given whether its element ends after it
abbrev served : Bytes → Bool → Bool
served tag alone = not (begins (text "UN") tag) || (not (is User (kind_named tag)) && alone)

module _ (a b c : ℕ) where
  abbrev tag : Bytes
  tag = a ∷ b ∷ c ∷ []

  bytes_kept : (is_tag tag ≡ true) ↔ (TagByte a × TagByte b × TagByte c)
  unfolding is_tag all
  bytes_kept = (
    λ h.
        let rest : (is_byte b && (is_byte c && true)) ≡ true = and_right (is_byte a) (is_byte b && (is_byte c && true)) h in (
          (tag_byte a).0 (and_left (is_byte a) (is_byte b && (is_byte c && true)) h),
          (tag_byte b).0 (and_left (is_byte b) (is_byte c && true) rest),
          (tag_byte c).0 (and_left (is_byte c) true (and_right (is_byte b) (is_byte c && true) rest)),
        ),
    λ k.
        and_both (is_byte a) (is_byte b && (is_byte c && true)) ((tag_byte a).1 k.0)
        (and_both (is_byte b) (is_byte c && true) ((tag_byte b).1 k.1) (and_both (is_byte c) true ((tag_byte c).1 k.2) refl)),
  )

  -- after `UN`, the test asks for the third byte
  third_kept : a ∷ b ∷ [] ≡ text "UN" → not (is User (kind_named tag)) ≡ member c (text "BGHSTEZ")
  third_kept e = ap (λ (l : Bytes). not (is User (kind_named (l ++ c ∷ [])))) e ∙ third_byte c

  begins_un : (begins (text "UN") tag ≡ true) ↔ (a ∷ b ∷ [] ≡ text "UN")
  unfolding begins
  begins_un = (
    λ h.
        ap₂ (λ (x y : ℕ). x ∷ y ∷ []) (sym (eqb-true 85 a (and_left (eqb 85 a) (eqb 78 b && true) h)))
        (sym (eqb-true 78 b (and_left (eqb 78 b) true (and_right (eqb 85 a) (eqb 78 b && true) h)))),
    λ e. ap (λ (l : Bytes). begins (text "UN") (l ++ c ∷ [])) e,
  )

  service_kept : (alone : Bool)
      → (served tag alone ≡ true) ↔ (a ∷ b ∷ [] ≡ text "UN" → (member c (text "BGHSTEZ") ≡ true) × (alone ≡ true))
  service_kept alone = (
    λ h e.
        let asked : (service && alone) ≡ true = sym (ap (λ (t : Bool). not t || (service && alone)) (begins_un.1 e)) ∙ h in
        (sym (third_kept e) ∙ and_left service alone asked, and_right service alone asked),
    λ k. step (begins (text "UN") tag) refl k,
  )
    where
      service : Bool
      service = not (is User (kind_named tag))

      step : (t : Bool) → begins (text "UN") tag ≡ t
          → (a ∷ b ∷ [] ≡ text "UN" → (member c (text "BGHSTEZ") ≡ true) × (alone ≡ true)) → (not t || (service && alone)) ≡ true
      step true h k = let e = begins_un.0 h in and_both service alone (third_kept e ∙ (k e).0) (k e).1
      step false h k = refl

three : (tag : Bytes) → is_tag tag ≡ true → (a : ℕ) × (b : ℕ) × (c : ℕ) × (tag ≡ a ∷ b ∷ c ∷ [])
unfolding is_tag
three tag h = split tag (eqb-true (length tag) 3 (and_left (eqb (length tag) 3) (all is_byte tag) h))
  where
    split : (l : Bytes) → length l ≡ 3 → (a : ℕ) × (b : ℕ) × (c : ℕ) × (l ≡ a ∷ b ∷ c ∷ [])
    split [] e = absurd (omega arith)
    split (a ∷ []) e = absurd (omega arith)
    split (a ∷ b ∷ []) e = absurd (omega arith)
    split (a ∷ b ∷ c ∷ []) e = (a, b, c, refl)
    split (a ∷ b ∷ c ∷ d ∷ l) e = absurd (omega arith)

empty_nil : {A : Type 0} (xs : List A) → (is_empty xs ≡ true) ↔ (xs ≡ [])
unfolding is_empty
empty_nil [] = (λ h. refl, λ e. refl)
empty_nil (x ∷ xs) = (λ h. absurd (false≢true h), ap is_empty)

-- the values of a segment pass the test exactly where they are tagged
tag_stands_lem : (segment : List (List (List Bytes))) → (tag_stands segment ≡ true) ↔ Tagged segment
unfolding tag_stands first_value foremost is_single is_empty is_tag all
tag_stands_lem segment = (there segment, back)
  where
    there : (g : List (List (List Bytes))) → tag_stands g ≡ true → Tagged g
    there [] h = absurd (false≢true h)
    there ([] ∷ es) h = absurd (false≢true h)
    there (([] ∷ rs) ∷ es) h = absurd (false≢true h)
    there (((v ∷ vs) ∷ r ∷ rs) ∷ es) h =
        absurd (false≢true (and_right (is_tag v) false (and_left (is_tag v && false) (served v (is_empty vs)) h)))
    there (((v ∷ vs) ∷ []) ∷ es) h =
        let good : is_tag v ≡ true = and_left (is_tag v) true (and_left (is_tag v && true) (served v (is_empty vs)) h) in
        let (a, b, c, e) = three v good in
        let asked = (service_kept a b c (is_empty vs)).0
        (subst (λ (l : Bytes). served l (is_empty vs) ≡ true) e (and_right (is_tag v && true) (served v (is_empty vs)) h)) in
        record {
          first = a;
          second = b;
          third = c;
          figures = vs;
          elements = es;
          shape = ap (λ (l : Bytes). ((l ∷ vs) ∷ []) ∷ es) e;
          bytes = (bytes_kept a b c).0 (subst (λ (l : Bytes). is_tag l ≡ true) e good);
          service = λ u. ((asked u).0, (empty_nil vs).0 (asked u).1);
        }

    back : Tagged segment → tag_stands segment ≡ true
    back d =
        let named : Bytes = d.first ∷ d.second ∷ d.third ∷ [] in
        let alone : Bool = is_empty d.figures in
        ap tag_stands d.shape
        ∙ and_both (is_tag named && true) (served named alone)
        (and_both (is_tag named) true ((bytes_kept d.first d.second d.third).1 d.bytes) refl)
        ((service_kept d.first d.second d.third alone).1
        (λ u. ((d.service u).0, (empty_nil d.figures).1 (d.service u).1)))

-- where neither 4 nor 5 is met, 6 is not met exactly where every segment is tagged
pub tags_clear : (s : List ℕ) → BodyPasses s
    → (broken_tags s ≡ []) ↔ ((segment : List (List (List Bytes))) → Memᴰ segment (list_read s) → Tagged segment)
unfolding broken_tags segments_of body_tokens listed read_list Passes
tags_clear s passes =
    let stand = tags_words [] (segments_of s) (all_finished (body_tokens s) passes) in
    let each = all_each tag_stands (list_read s) in (
      λ h segment m. (tag_stands_lem segment).0 (each.0 (stand.0 h) segment m),
      λ tagged. stand.1 (each.1 (λ segment m. (tag_stands_lem segment).1 (tagged segment m))),
    )
