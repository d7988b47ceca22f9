-- "Contents and normal form hold no breaks": no byte of an accepted input's contents is one, and no byte of its normal form. Assumes
-- nothing.
use Rattle.std.specs.Prelude.{if◌then◌else◌}
use Prim.Native.Nat.{ℕ, zero, suc, ◌≤◌}
use mathlib.Core.Path.{◌≡◌, refl, sym, ap, ◌∙◌}
use mathlib.Core.Bool.{Bool, true, false, not, ◌&&◌}
use mathlib.Core.List.{List, [], ◌∷◌, ◌++◌, map}
use mathlib.Core.Logic.{inl, inr, ⊎_elim}
use native.Mathlib.Omega.{arith}
use Rattle.lists.specs.Lists.{member, all, gather, each_led_by, joined}
use Rattle.lists.proofs.Texts.{and_left, and_right, and_both, all_append, all_map}
use Rattle.lists.proofs.Tests.{fails}
use Rattle.nesting.specs.Nesting.{Nest, every, spelled}
use Rattle.characters.specs.declared.Characters.{Characters}
use Rattle.characters.specs.Characters.{is_service, is_break, six_bytes, advice_of, spelled_out, characters_of}
use Rattle.characters.proofs.Words.{usable_says, break_says}
use Rattle.values.specs.Spelling.{Bytes, SegmentList, separator_of, spell_byte, spell_value, spell_repeat, spell_element, spell_segment, spell}
use Rattle.levels.specs.Levels.{has_version4}
use Rattle.levels.proofs.Words.{LevelA, level_a_says, level_b_says}
use Rattle.stages.specs.Contents.{contents, normal_characters, normal_repetition, interchange, normal_form}
use Rattle.normal_form_laws.specs.Forms.{mark_of, list_read}
use Rattle.normal_form_laws.proofs.Trimmed.{contents_read, trim_bytes}
use Rattle.normal_form_laws.proofs.Normal.{accepted_usable}
use Rattle.acceptance_laws.specs.Allowed.{Level, level_a, level_b, holds, Allowed}
use Rattle.acceptance_laws.proofs.Acceptance.{allowed_exactly, list_read_lem}

-- no break
abbrev solid : ℕ → Bool
solid b = not (is_break b)

-- ---- what every byte passes

module _ {A : Type 0} (p : A → Bool) where
  -- each piece after a mark
  all_led : (mark : A) → p mark ≡ true → (pieces : List (List A)) → all (all p) pieces ≡ true → all p (each_led_by mark pieces) ≡ true
  unfolding each_led_by all
  all_led mark h [] k = refl
  all_led mark h (piece ∷ pieces) k =
      and_both (p mark) (all p (piece ++ each_led_by mark pieces)) h
      (all_append p piece (each_led_by mark pieces)
      ∙ and_both (all p piece) (all p (each_led_by mark pieces)) (and_left (all p piece) (all (all p) pieces) k)
      (all_led mark h pieces (and_right (all p piece) (all (all p) pieces) k)))

  -- pieces with a mark between them
  all_joined : (mark : A) → p mark ≡ true → (pieces : List (List A)) → all (all p) pieces ≡ true → all p (joined mark pieces) ≡ true
  unfolding joined all
  all_joined mark h [] k = refl
  all_joined mark h (piece ∷ pieces) k =
      all_append p piece (each_led_by mark pieces)
      ∙ and_both (all p piece) (all p (each_led_by mark pieces)) (and_left (all p piece) (all (all p) pieces) k)
      (all_led mark h pieces (and_right (all p piece) (all (all p) pieces) k))

  -- what is gathered
  all_gather : {B : Type 0} (q : B → Bool) (f : B → List A) → ((x : B) → q x ≡ true → all p (f x) ≡ true) → (xs : List B) → all q xs ≡ true
      → all p (gather f xs) ≡ true
  unfolding gather all
  all_gather q f h [] k = refl
  all_gather q f h (x ∷ xs) k =
      all_append p (f x) (gather f xs)
      ∙ and_both (all p (f x)) (all p (gather f xs)) (h x (and_left (q x) (all q xs) k)) (all_gather q f h xs (and_right (q x) (all q xs) k))

-- a list whose bytes pass is spelled with bytes that pass, where the service characters do
module _ (p : ℕ → Bool) (c : Characters) (marks : (depth : ℕ) → p (separator_of c depth) ≡ true) (release : p c.release ≡ true) where
  byte_spelled : (b : ℕ) → p b ≡ true → all p (spell_byte c b) ≡ true
  unfolding spell_byte all
  byte_spelled b h = step (is_service c b)
    where
      step : (t : Bool) → all p (if t then c.release ∷ b ∷ [] else b ∷ []) ≡ true
      step true = and_both (p c.release) (p b && true) release (and_both (p b) true h refl)
      step false = and_both (p b) true h refl

  part_spelled : (n : ℕ) (x : Nest Bytes n) → every (all p) n x ≡ true → all p (spelled (separator_of c) (spell_value c) n x) ≡ true
  unfolding spell_value
  part_spelled zero v h = all_gather p p (spell_byte c) byte_spelled v h
  part_spelled (suc n) xs h =
      all_joined p (separator_of c n) (marks n) (map (spelled (separator_of c) (spell_value c) n) xs)
      (all_map (spelled (separator_of c) (spell_value c) n) (every (all p) n) (all p) (part_spelled n) xs h)

  segment_spelled : (g : List (List (List Bytes))) → all (all (all (all p))) g ≡ true → all p (spell_segment c g) ≡ true
  unfolding spell_segment spell_element spell_repeat all
  segment_spelled g h =
      let inner : Bytes = spelled (separator_of c) (spell_value c) 3 g in
      all_append p inner (c.terminator ∷ [])
      ∙ and_both (all p inner) (p c.terminator && true) (part_spelled 3 g h) (and_both (p c.terminator) true (marks 3) refl)

  list_spelled : (list : SegmentList) → all (all (all (all (all p)))) list ≡ true → all p (spell c list) ≡ true
  unfolding spell
  list_spelled list h = all_gather p (all (all (all (all p)))) (spell_segment c) segment_spelled list h

-- ---- of an accepted input

-- no byte of a level is a break
solid_says : (b : ℕ) → 32 ≤ b → solid b ≡ true
solid_says b low =
    ap not ((fails (is_break b) (break_says b)).1 (⊎_elim (λ (e : b ≡ 13). omega arith) (λ (e : b ≡ 10). omega arith)))

level_low : (b : ℕ) → LevelA b → 32 ≤ b
level_low b (inl k) = k.0
level_low b (inr (inl k)) = omega arith
level_low b (inr (inr k)) = omega arith

-- every byte of a level is 32 or above
level_least : (l : Level) (b : ℕ) → holds l b ≡ true → 32 ≤ b
level_least level_a b h = level_low b ((level_a_says b).0 h)
level_least level_b b h = ⊎_elim (level_low b) (λ (k : (97 ≤ b) × (b ≤ 122)). omega arith) ((level_b_says b).0 h)

all_implies : {A : Type 0} (p q : A → Bool) → ((x : A) → p x ≡ true → q x ≡ true) → (xs : List A) → all p xs ≡ true → all q xs ≡ true
unfolding all
all_implies p q h [] k = refl
all_implies p q h (x ∷ xs) k = and_both (q x) (all q xs) (h x (and_left (p x) (all p xs) k)) (all_implies p q h xs (and_right (p x) (all p xs) k))

module _ (s : List ℕ) (a : Allowed s) where
  -- what every byte of 32 or above passes, every byte of the contents passes
  pub contents_pass : (p : ℕ → Bool) → ((b : ℕ) → 32 ≤ b → p b ≡ true) → all (all (all (all (all p)))) (contents s) ≡ true
  contents_pass p low =
      let level : Level = a.level in
      rw (contents_read s)
      (trim_bytes p (list_read s)
      (all_implies (all (all (all (all (holds level))))) (all (all (all (all p))))
      (all_implies (all (all (all (holds level)))) (all (all (all p)))
      (all_implies (all (all (holds level))) (all (all p))
      (all_implies (all (holds level)) (all p) (all_implies (holds level) p (λ b h. low b (level_least level b h))))))
      (list_read s)
      (ap (all (all (all (all (all (holds level)))))) (sym (list_read_lem s a)) ∙ a.inside)))

  pub contents_solid : all (all (all (all (all solid)))) (contents s) ≡ true
  contents_solid = contents_pass solid solid_says

  -- the normal form's fifth byte is a space or `*`
  fifth_solid : (list : SegmentList) → solid (normal_repetition list) ≡ true
  unfolding normal_repetition is_break member
  fifth_solid list = step (has_version4 list)
    where
      step : (v : Bool) → solid (if v then 42 else 32) ≡ true
      step true = refl
      step false = refl

  pub normal_solid : all solid (normal_form s) ≡ true
  unfolding normal_form interchange advice_of spelled_out normal_characters six_bytes all is_break member
  normal_solid =
      let mark : ℕ = mark_of s in
      let c : Characters = normal_characters mark (normal_repetition (contents s)) in
      let marked : solid mark ≡ true = ⊎_elim (ap solid) (ap solid) ((usable_says (characters_of s)).0 (accepted_usable s ((allowed_exactly s).1 a))).0 in
      rw (marked, fifth_solid (contents s)) (list_spelled solid c marks refl (contents s) contents_solid)
    where
      marks : (depth : ℕ) → solid (separator_of (normal_characters (mark_of s) (normal_repetition (contents s))) depth) ≡ true
      marks zero = refl
      marks (suc zero) = fifth_solid (contents s)
      marks (suc (suc zero)) = refl
      marks (suc (suc (suc depth))) = refl
