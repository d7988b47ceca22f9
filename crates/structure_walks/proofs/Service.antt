-- UNH and UNT never stand in a sound table, so that no walk takes them. Assumes nothing.
use Rattle.std.specs.Prelude.{if◌then◌else◌}
use Prim.Native.Nat.{ℕ}
use mathlib.Core.Path.{◌≡◌, refl, ap, subst}
use mathlib.Core.Bool.{Bool, true, false}
use mathlib.Core.List.{List, Memᴰ}
use native.Mathlib.Omega.{arith}
use Rattle.lists.specs.Lists.{text, same, begins, all}
use Rattle.lists.proofs.Texts.{same_eq}
use Rattle.characters.specs.Characters.{between, upper, digit}
use Rattle.values.specs.Tokens.{Segment}
use Rattle.segments.specs.declared.Kind.{Kind}
use Rattle.segments.specs.declared.Kind.TheVariants.{Unb, Ung, Unh, Uns, Unt, Une, Unz, User}
use Rattle.segments.specs.Kinds.{index, kind_named}
use Rattle.segments.specs.Tags.{tag_of, kind_of, is_tag}
use Rattle.message_tables.specs.Soundness.{is_table_tag, is_sound}
use Rattle.message_tables.specs.Structure.{structure_of, tags_in}
use Rattle.message_table_laws.proofs.Tags.{never_tagged}

-- the kind that seven tests name, in their order
abbrev picked : (b g h s t e z : Bool) → Kind
picked b g h s t e z =
    if b then Unb else (if g then Ung else (if h then Unh else (if s then Uns else (if t then Unt else (if e then Une else (if z then Unz else User))))))

header_picked : (b g h s t e z : Bool) → picked b g h s t e z ≡ Unh → h ≡ true
header_picked true g h s t e z q = absurd (omega (arith, ap index q))
header_picked false true h s t e z q = absurd (omega (arith, ap index q))
header_picked false false true s t e z q = refl
header_picked false false false true t e z q = absurd (omega (arith, ap index q))
header_picked false false false false true e z q = absurd (omega (arith, ap index q))
header_picked false false false false false true z q = absurd (omega (arith, ap index q))
header_picked false false false false false false true q = absurd (omega (arith, ap index q))
header_picked false false false false false false false q = absurd (omega (arith, ap index q))

trailer_picked : (b g h s t e z : Bool) → picked b g h s t e z ≡ Unt → t ≡ true
trailer_picked true g h s t e z q = absurd (omega (arith, ap index q))
trailer_picked false true h s t e z q = absurd (omega (arith, ap index q))
trailer_picked false false true s t e z q = absurd (omega (arith, ap index q))
trailer_picked false false false true t e z q = absurd (omega (arith, ap index q))
trailer_picked false false false false true e z q = refl
trailer_picked false false false false false true z q = absurd (omega (arith, ap index q))
trailer_picked false false false false false false true q = absurd (omega (arith, ap index q))
trailer_picked false false false false false false false q = absurd (omega (arith, ap index q))

module _ (g : Segment) where
  pub header_tag : kind_of g ≡ Unh → tag_of g ≡ text "UNH"
  unfolding kind_of kind_named
  header_tag e =
      same_eq (tag_of g) (text "UNH")
      (header_picked (same (tag_of g) (text "UNB")) (same (tag_of g) (text "UNG")) (same (tag_of g) (text "UNH"))
      (same (tag_of g) (text "UNS")) (same (tag_of g) (text "UNT")) (same (tag_of g) (text "UNE")) (same (tag_of g) (text "UNZ")) e)

  pub trailer_tag : kind_of g ≡ Unt → tag_of g ≡ text "UNT"
  unfolding kind_of kind_named
  trailer_tag e =
      same_eq (tag_of g) (text "UNT")
      (trailer_picked (same (tag_of g) (text "UNB")) (same (tag_of g) (text "UNG")) (same (tag_of g) (text "UNH"))
      (same (tag_of g) (text "UNS")) (same (tag_of g) (text "UNT")) (same (tag_of g) (text "UNE")) (same (tag_of g) (text "UNZ")) e)

module _ (table : List ℕ) (sound : is_sound table ≡ true) (g : Segment) where
  pub header_never : kind_of g ≡ Unh → Memᴰ (tag_of g) (tags_in (structure_of table)) → ⊥
  unfolding is_table_tag is_tag begins same all upper digit between
  header_never e m =
      never_tagged table sound (text "UNH") refl (subst (λ (tag : List ℕ). Memᴰ tag (tags_in (structure_of table))) (header_tag g e) m)

  pub trailer_never : kind_of g ≡ Unt → Memᴰ (tag_of g) (tags_in (structure_of table)) → ⊥
  unfolding is_table_tag is_tag begins same all upper digit between
  trailer_never e m =
      never_tagged table sound (text "UNT") refl (subst (λ (tag : List ℕ). Memᴰ tag (tags_in (structure_of table))) (trailer_tag g e) m)
