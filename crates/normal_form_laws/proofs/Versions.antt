-- The level and the version that the contents name: refusal 7 goes by the contents, and by whether there is a repetition separator.
-- Assumes nothing.
use Rattle.std.specs.Prelude.{if◌then◌else◌}
use Prim.Native.Nat.{ℕ}
use mathlib.Core.Path.{◌≡◌, refl, sym, ◌∙◌}
use mathlib.Core.Bool.{Bool, true, false, not, ◌&&◌, ◌||◌, false≢true}
use mathlib.Core.List.{List, [], ◌∷◌, map, reverse, nil≢cons, cons≢nil, head-eq_of_cons-eq}
use mathlib.Core.Option.{Option, none, some, none-ne-some}
use Rattle.lists.specs.Lists.{at, maybe}
use Rattle.characters.specs.declared.Characters.{Characters}
use Rattle.characters.specs.Characters.{has_repetition, characters_of, six_bytes}
use Rattle.values.specs.Tokens.{Segment, start}
use Rattle.values.specs.Trimming.{contents_of}
use Rattle.values.specs.Spelling.{SegmentList}
use Rattle.levels.specs.Levels.{level_named, syntax_identifier, is_version4, is_old_version, is_our_version, level_in, level_of, has_version4}
use Rattle.segments.specs.Tags.{kind_of}
use Rattle.segments.specs.Order.{is_open, is_complete}
use Rattle.stages.specs.Contents.{segments_of, contents, kinds_of, normal_characters, normal_repetition}
use Rattle.stages.specs.Places.{foreign_level, misplaced_segments, level}
use Rattle.normal_form_laws.specs.Forms.{Suits}
use Rattle.normal_form_laws.proofs.Accepted.{Accepted, order_accepted}

-- the contents of a segment name version 4
abbrev names4 : List (List (List (List ℕ))) → Bool
names4 unb = maybe false is_version4 (syntax_identifier unb)

module _ (c : Characters) (identifier : List (List ℕ)) (l : ℕ) (named : level_in c identifier ≡ some l) where
  -- where there is a repetition separator, a version that is ours is 4
  named_four : has_repetition c ≡ true → is_version4 identifier ≡ true
  unfolding level_in is_our_version
  named_four p = step (is_version4 identifier) (has_repetition c) p named
    where
      step : (v q : Bool) → q ≡ true
          → (if v || (not q && is_old_version identifier) then maybe none level_named (at identifier 0) else none) ≡ some l → v ≡ true
      step true q e h = refl
      step false true e h = absurd (none-ne-some l h)
      step false false e h = absurd (false≢true e)

  -- a level that is named under some characters is named under any, where there is a repetition separator only in version 4
  named_under : (d : Characters) → (has_repetition d ≡ true → is_version4 identifier ≡ true) → level_in d identifier ≡ some l
  unfolding level_in is_our_version
  named_under d f = step (is_version4 identifier) (has_repetition c) (has_repetition d) f named
    where
      step : (v p q : Bool) → (q ≡ true → v ≡ true)
          → (if v || (not p && is_old_version identifier) then maybe none level_named (at identifier 0) else none) ≡ some l
          → (if v || (not q && is_old_version identifier) then maybe none level_named (at identifier 0) else none) ≡ some l
      step true p q f h = h
      step false p true f h = absurd (false≢true (f refl))
      step false true false f h = absurd (none-ne-some l h)
      step false false false f h = h

-- the same of a segment
segment_four : (c : Characters) (g : Segment) (l : ℕ) → level_of c g ≡ some l → has_repetition c ≡ true → names4 (contents_of g) ≡ true
unfolding level_of maybe
segment_four c g l = step (syntax_identifier (contents_of g))
  where
    step : (o : Option (List (List ℕ))) → maybe none (level_in c) o ≡ some l → has_repetition c ≡ true → maybe false is_version4 o ≡ true
    step none h = absurd (none-ne-some l h)
    step (some identifier) h = named_four c identifier l h

segment_under : (c d : Characters) (g h : Segment) (l : ℕ) → contents_of g ≡ contents_of h → level_of c g ≡ some l
    → (has_repetition d ≡ true → names4 (contents_of g) ≡ true) → level_of d h ≡ some l
unfolding level_of maybe
segment_under c d g h l e n f = rw (← e) (step (syntax_identifier (contents_of g)) n f)
  where
    step : (o : Option (List (List ℕ))) → maybe none (level_in c) o ≡ some l → (has_repetition d ≡ true → maybe false is_version4 o ≡ true)
        → maybe none (level_in d) o ≡ some l
    step none n f = absurd (none-ne-some l n)
    step (some identifier) n f = named_under c identifier l n d f

-- ---- of the first segment

module _ (c : Characters) where
  -- where 7 is met, and which level there is
  abbrev foreign_in : List Segment → List ℕ
  foreign_in gs = maybe [] (λ unb. maybe (start unb ∷ []) (λ n. []) (level_of c unb)) (at gs 0)

  abbrev level_at : List Segment → ℕ
  level_at gs = maybe 0 (λ unb. maybe 0 (λ n. n) (level_of c unb)) (at gs 0)

  -- where it is not met, a level is named
  first_named : (g : Segment) (gs : List Segment) → foreign_in (g ∷ gs) ≡ [] → (l : ℕ) × (level_of c g ≡ some l)
  unfolding at maybe
  first_named g gs = step (level_of c g) refl
    where
      step : (o : Option ℕ) → level_of c g ≡ o → maybe (start g ∷ []) (λ n. []) o ≡ [] → (l : ℕ) × (level_of c g ≡ some l)
      step none e h = absurd (cons≢nil h)
      step (some l) e h = (l, e)

-- rows of segments with equal contents, under any characters that suit them
first_alike : (c d : Characters) (gs hs : List Segment) → map contents_of gs ≡ map contents_of hs → foreign_in c gs ≡ []
    → Suits d (map contents_of gs) → (foreign_in d hs ≡ []) × (level_at c gs ≡ level_at d hs)
unfolding at maybe has_version4
first_alike c d [] [] e h f = (refl, refl)
first_alike c d [] (k ∷ hs) e h f = absurd (nil≢cons e)
first_alike c d (g ∷ gs) [] e h f = absurd (cons≢nil e)
first_alike c d (g ∷ gs) (k ∷ hs) e h f =
    let (l, named) = first_named c g gs h in
    let again : level_of d k ≡ some l = segment_under c d g k l (head-eq_of_cons-eq e) named f in
    (rw again refl, rw (named, again) refl)

-- ---- of an input

module _ (s t : List ℕ) (alike : map contents_of (segments_of s) ≡ map contents_of (segments_of t)) (named : foreign_level s ≡ [])
    (suits : Suits (characters_of t) (contents s)) where
  -- 7 is not met in an input with equal contents either, and it names the same level
  pub same_named : foreign_level t ≡ []
  unfolding foreign_level contents
  same_named = (first_alike (characters_of s) (characters_of t) (segments_of s) (segments_of t) alike named suits).0

  pub same_level : level s ≡ level t
  unfolding foreign_level level contents
  same_level = (first_alike (characters_of s) (characters_of t) (segments_of s) (segments_of t) alike named suits).1

first_suits : (c : Characters) (gs : List Segment) → is_complete (reverse (map kind_of gs)) ≡ true → foreign_in c gs ≡ []
    → Suits c (map contents_of gs)
unfolding is_complete is_open at maybe has_version4
first_suits c [] o h p = absurd (false≢true o)
first_suits c (g ∷ gs) o h p = let (l, named) = first_named c g gs h in segment_four c g l named p

-- the characters of an input that 7 and 9 do not refuse suit its contents
pub named_suits : (s : List ℕ) → misplaced_segments s ≡ [] → foreign_level s ≡ [] → Suits (characters_of s) (contents s)
unfolding kinds_of foreign_level contents
named_suits s order named = first_suits (characters_of s) (segments_of s) ((order_accepted s).0 order).1 named

pub own_suits : (s : List ℕ) → Accepted s → Suits (characters_of s) (contents s)
own_suits s a = named_suits s a.order a.level

-- ---- the normal form's characters

-- they have a repetition separator exactly in version 4
pub form_repetition : (mark : ℕ) (list : SegmentList) → has_repetition (normal_characters mark (normal_repetition list)) ≡ has_version4 list
unfolding normal_repetition normal_characters six_bytes has_repetition
form_repetition mark list = step (has_version4 list)
  where
    step : (v : Bool) → has_repetition (normal_characters mark (if v then 42 else 32)) ≡ v
    step true = refl
    step false = refl

pub form_suits : (mark : ℕ) (list : SegmentList) → Suits (normal_characters mark (normal_repetition list)) list
form_suits mark list h = sym (form_repetition mark list) ∙ h
