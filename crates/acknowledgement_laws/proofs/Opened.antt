-- What UNB of an accepted interchange has: a reference, since 10 is not met, and level and version, since 7 is not. So nothing of UNB's end
-- was trimmed that stands behind them. Assumes nothing.
use Prim.Native.Nat.{ℕ, ◌≤◌}
use mathlib.Core.Path.{◌≡◌, refl, sym, ap, subst, ◌∙◌}
use mathlib.Core.Bool.{Bool, true, false, not}
use mathlib.Core.Logic.{⊎_elim}
use mathlib.Core.List.Memᴰ
use mathlib.Core.List.{List, [], ◌∷◌, map, cons≢nil, head-eq_of_cons-eq, Memᴰ}
use mathlib.Core.Option.{Option, none, some, none-ne-some, some-injective}
use native.Mathlib.Omega.{arith}
use lib.ListN.{length}
use Rattle.lists.specs.Lists.{is_empty, at, maybe, trim_end, drop_end, unless_idle}
use Rattle.nesting_laws.proofs.Positions.{at_trimmed}
use Rattle.characters.specs.Characters.{characters_of}
use Rattle.values.specs.Tokens.{Segment, start}
use Rattle.values.specs.Trimming.{is_idle, trim_repeat, trim_element, contents_of}
use Rattle.values.specs.Spelling.{Bytes}
use Rattle.levels.specs.Levels.{level_of}
use Rattle.levels.specs.Notions.{Names}
use Rattle.levels.proofs.Words.{level_names}
use Rattle.segments.specs.declared.Kind.TheVariants.{Unb}
use Rattle.segments.specs.Kinds.{kind_named}
use Rattle.segments.specs.Tags.{kind_of}
use Rattle.control_elements.specs.Control.{control_rule}
use Rattle.control_elements.specs.Notions.{Reference}
use Rattle.control_elements.proofs.Words.{unb_control}
use Rattle.stages.specs.Contents.{segments_of, contents}
use Rattle.stages.specs.Places.{foreign_level, bad_controls}
use Rattle.stages.specs.Stages.{refusal_of}
use Rattle.stages.proofs.Words.{ten_at}
use Rattle.normal_form_laws.proofs.Accepted.{accepted_exactly}
use Rattle.normal_form_laws.proofs.Tags.{first_value, tag_first}

-- a value that is not empty stands second in the first repeat
abbrev pub Second : List (List (List Bytes)) → Type 0
Second unb = (values : List Bytes) × (at unb 1 ≡ some (values ∷ [])) × (value : Bytes) × (at values 1 ≡ some value)

module _ (s : List ℕ) (h : refusal_of s ≡ none) (unb : List (List (List Bytes))) (e : at (contents s) 0 ≡ some unb) where
  -- the segment that it is
  first_segment : (g : Segment) × (gs : List Segment) × (segments_of s ≡ g ∷ gs) × (contents_of g ≡ unb)
  unfolding contents at
  first_segment = step (segments_of s) refl e
    where
      step : (list : List Segment) → segments_of s ≡ list → at (map contents_of list) 0 ≡ some unb
          → (g : Segment) × (gs : List Segment) × (segments_of s ≡ g ∷ gs) × (contents_of g ≡ unb)
      step [] d k = absurd (none-ne-some unb k)
      step (g ∷ gs) d k = (g, gs, d, some-injective (contents_of g) unb k)

  -- 10 is not met
  pub has_reference : kind_named (first_value unb) ≡ Unb → Reference unb 5
  unfolding kind_of
  has_reference k =
      let (g, gs, d, same) = first_segment in
      let kind : kind_of g ≡ Unb = ap kind_named (tag_first g ∙ ap first_value same) ∙ k in
      let none_met : bad_controls s ≡ [] = ((accepted_exactly s).0 h).controls in
      let step : (b : Bool) → control_rule g ≡ b → control_rule g ≡ true =
      λ b. ruled b g gs d none_met in
      subst (λ (parts : List (List (List Bytes))). Reference parts 5) same ((unb_control g kind).0 (step (control_rule g) refl))
    where
      ruled : (b : Bool) (g : Segment) (gs : List Segment) → segments_of s ≡ g ∷ gs → bad_controls s ≡ [] → control_rule g ≡ b → control_rule g ≡ true
      ruled true g gs d n r = r
      ruled false g gs d n r =
          absurd (Memᴰ.not-nil (subst (Memᴰ (start g)) n ((ten_at s (start g)).1 ([], g, gs, d, ap not r, refl))))

  -- 7 is not met
  pub has_version : Second unb
  unfolding foreign_level maybe at
  has_version =
      let (g, gs, d, same) = first_segment in
      let levelled : maybe [] (λ unb. maybe (start unb ∷ []) (λ level. []) (level_of (characters_of s) unb)) (at (g ∷ gs) 0) ≡ [] =
      ap (λ (list : List Segment). maybe [] (λ unb. maybe (start unb ∷ []) (λ level. []) (level_of (characters_of s) unb)) (at list 0)) (sym d)
      ∙ ((accepted_exactly s).0 h).level in
      subst Second same (step g (level_of (characters_of s) g) refl levelled)
    where
      second : (g : Segment) (letter : ℕ) → Names (characters_of s) (contents_of g) letter → Second (contents_of g)
      second g letter n =
          let at_second : (value : Bytes) → at n.0 1 ≡ some value → Second (contents_of g) = λ value k. (n.0, n.1, value, k) in
          ⊎_elim (at_second (52 ∷ [])) (λ k. ⊎_elim (at_second (49 ∷ [])) (at_second (50 ∷ [])) k.1) n.3

      step : (g : Segment) (o : Option ℕ) → level_of (characters_of s) g ≡ o → maybe (start g ∷ []) (λ level. []) o ≡ [] → Second (contents_of g)
      step g none d k = absurd (cons≢nil k)
      step g (some l) d k =
          ⊎_elim (λ n. second g 65 n.1) (λ n. second g 66 n.1) (level_names (characters_of s) g l d)

-- ---- nothing is trimmed

-- an element that is a reference is not one empty value
pub reference_stays : (segment : List (List (List Bytes))) (position : ℕ) (element : List (List Bytes))
    → Reference (trim_end (is_idle (is_idle is_empty)) segment) position → at segment position ≡ some element → is_idle (is_idle is_empty) element ≡ false
unfolding is_idle is_empty
reference_stays segment position element r e =
    let same : (r.0 ∷ []) ∷ [] ≡ element =
    some-injective ((r.0 ∷ []) ∷ []) element (sym (at_trimmed (is_idle (is_idle is_empty)) segment position ((r.0 ∷ []) ∷ []) r.1) ∙ e) in
    ap (is_idle (is_idle is_empty)) (sym same) ∙ filled r.0 r.2
  where
    filled : (value : Bytes) → 1 ≤ length value → is_empty value ≡ false
    filled [] k = absurd (omega arith)
    filled (b ∷ bs) k = refl

-- two values of which the second was read are the element
pub two_stay : (first second : Bytes) (values : List Bytes) (value : Bytes)
    → trim_element is_empty ((first ∷ second ∷ []) ∷ []) ≡ values ∷ [] → at values 1 ≡ some value
    → trim_element is_empty ((first ∷ second ∷ []) ∷ []) ≡ (first ∷ second ∷ []) ∷ []
unfolding trim_element trim_repeat trim_end drop_end unless_idle is_idle is_empty at
two_stay first [] values value e k = absurd (none-ne-some value (ap (λ (vs : List Bytes). at vs 1) (head-eq_of_cons-eq e) ∙ k))
two_stay first (b ∷ bs) values value e k = refl
