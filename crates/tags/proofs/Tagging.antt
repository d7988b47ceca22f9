-- Tags by their bytes, and the tag of the segment that begins at a place. Assumes nothing.
use Prim.Native.Nat.{ℕ}
use mathlib.Core.Path.{◌≡◌, refl, sym, ap, ap₂, ◌∙◌}
use mathlib.Core.Bool.{Bool, true, false, ◌&&◌, and_comm}
use mathlib.Core.List.{List, [], ◌∷◌}
use native.Mathlib.Omega.{arith}
use lib.ListN.{length}
use lib.Dec.{leb, lit≤}
use borrow.Author.Tests.{ne_eqb}
use Rattle.lists.specs.Lists.{text, same}
use Rattle.lists.proofs.Texts.{same_length}
use Rattle.characters.specs.declared.Characters.{Characters}
use Rattle.values.specs.Tokens.{Token, tokens_at}
use Rattle.values.specs.Values.{bytes_of, ended_by}
use Rattle.values.proofs.Ends.{through_ends}
use Rattle.segments.specs.declared.Kind.{Kind}
use Rattle.segments.specs.declared.Kind.TheVariants.{Unb, Ung, Unh, Uns, Unt, Une, Unz, User}
use Rattle.segments.specs.Kinds.{is, kind_named}
use Rattle.segments.specs.Tags.{tag_piece, tag_repeat, tag_of, kind_of, is_tag, tag_rule}
use Rattle.scanner.specs.Scan.{segment_at}
use Rattle.scanner.specs.declared.Lexed.TheVariants.{Byte}
use Rattle.scanner.proofs.Lexing.{Lexes}
use Rattle.tags.specs.declared.Word.{Word}
use Rattle.tags.specs.Words.{moved_on, last_four, piece_at, repeat_at, value_at, Words}
use Rattle.tags.specs.Naming.{well_named, is_user}
use Rattle.tags.proofs.Reading.{value_byte_lem}

-- ---- tags by their bytes

-- three bytes that are known name what the known ones name
pub named_as : {x y z a b c : ℕ} → x ≡ a → y ≡ b → z ≡ c → kind_named (a ∷ b ∷ c ∷ []) ≡ kind_named (x ∷ y ∷ z ∷ [])
named_as p q r = cc

-- a tag that is not three bytes long names no service segment
pub named_user : (tag : List ℕ) → (length tag ≡ 3 → ⊥) → User ≡ kind_named tag
unfolding kind_named
named_user tag h =
    simp (
      same_length tag (text "UNB") h,
      same_length tag (text "UNG") h,
      same_length tag (text "UNH") h,
      same_length tag (text "UNS") h,
      same_length tag (text "UNT") h,
      same_length tag (text "UNE") h,
      same_length tag (text "UNZ") h,
    )

-- nor does one that begins with another byte than `U`
named_other : (b : ℕ) (bs : List ℕ) → (b ≡ 85 → ⊥) → User ≡ kind_named (b ∷ bs)
unfolding kind_named same
named_other b bs h = simp (ne_eqb b 85 h)

-- a tag that is not three bytes long breaks the rule for tags
pub well_named_not : (tag : List ℕ) (alone : Bool) → (length tag ≡ 3 → ⊥) → false ≡ well_named tag alone
unfolding well_named is_tag
well_named_not tag alone h = simp (ne_eqb (length tag) 3 h)

-- a user segment, kind by kind
pub user_is : (kind : Kind) → is_user kind ≡ is User kind
unfolding is
user_is Unb = refl
user_is Ung = refl
user_is Unh = refl
user_is Uns = refl
user_is Unt = refl
user_is Une = refl
user_is Unz = refl
user_is User = refl

-- ---- values of one, three and four bytes, from the word that was read

one_byte : (v : List ℕ) → length v ≡ 1 → v ≡ (last_four v).fourth ∷ []
unfolding last_four moved_on
one_byte [] h = absurd (omega arith)
one_byte (a ∷ []) h = refl
one_byte (a ∷ b ∷ v) h = absurd (omega arith)

three_bytes : (v : List ℕ) → length v ≡ 3 → v ≡ (last_four v).second ∷ (last_four v).third ∷ (last_four v).fourth ∷ []
unfolding last_four moved_on
three_bytes [] h = absurd (omega arith)
three_bytes (a ∷ []) h = absurd (omega arith)
three_bytes (a ∷ b ∷ []) h = absurd (omega arith)
three_bytes (a ∷ b ∷ d ∷ []) h = refl
three_bytes (a ∷ b ∷ d ∷ e ∷ v) h = absurd (omega arith)

four_bytes : (v : List ℕ) → length v ≡ 4
    → v ≡ (last_four v).first ∷ (last_four v).second ∷ (last_four v).third ∷ (last_four v).fourth ∷ []
unfolding last_four moved_on
four_bytes [] h = absurd (omega arith)
four_bytes (a ∷ []) h = absurd (omega arith)
four_bytes (a ∷ b ∷ []) h = absurd (omega arith)
four_bytes (a ∷ b ∷ d ∷ []) h = absurd (omega arith)
four_bytes (a ∷ b ∷ d ∷ e ∷ []) h = refl
four_bytes (a ∷ b ∷ d ∷ e ∷ f ∷ v) h = absurd (omega arith)

-- ---- the tag of a segment is the value that begins with it

module _ (c : Characters) (s : List ℕ) (at : ℕ) where
  pub tag_piece_lem : tag_piece (segment_at c s at) ≡ piece_at c s at
  unfolding tag_piece segment_at
  tag_piece_lem = through_ends 0 3 (lit≤ tt) (tokens_at c s at)

  tag_repeat_lem : tag_repeat (segment_at c s at) ≡ repeat_at c s at
  unfolding tag_repeat segment_at
  tag_repeat_lem = through_ends 0 2 (lit≤ tt) (tokens_at c s at)

  pub kind_of_tag : kind_named (value_at c s at) ≡ kind_of (segment_at c s at)
  unfolding kind_of tag_of
  kind_of_tag = ap (λ (ts : List Token). kind_named (bytes_of ts)) (sym tag_piece_lem)

  -- a segment that begins with another byte than `U` is a user segment
  pub kind_begun : {b place next : ℕ} → Lexes c s at (Byte b place next) → (b ≡ 85 → ⊥) → User ≡ kind_of (segment_at c s at)
  kind_begun {b} {place} {next} l h = named_other b (value_at c s next) h ∙ ap kind_named (sym (value_byte_lem c s at l)) ∙ kind_of_tag

  pub rule_of_tag : (well_named (value_at c s at) (ended_by 2 (piece_at c s at)) && ended_by 1 (repeat_at c s at)) ≡ tag_rule (segment_at c s at)
  unfolding tag_rule kind_of tag_of well_named
  rule_of_tag =
      ap₂ (λ (ts us : List Token). well_named (bytes_of ts) (ended_by 2 ts) && ended_by 1 us) (sym tag_piece_lem) (sym tag_repeat_lem)
      ∙ swapped (is_tag (tag_of (segment_at c s at))) _ (ended_by 1 (tag_repeat (segment_at c s at)))
    where
      swapped : (a b d : Bool) → (a && b && d) ≡ (a && d && b)
      swapped true b d = and_comm b d
      swapped false b d = refl

  module _ (w : Word) (h : Words c s at w) where
    pub word_one : w.size ≡ 1 → value_at c s at ≡ w.fourth ∷ []
    word_one e = one_byte (value_at c s at) (sym h.sized ∙ e) ∙ ap (λ q. q.fourth ∷ []) (sym h.last)

    pub word_three : w.size ≡ 3 → value_at c s at ≡ w.second ∷ w.third ∷ w.fourth ∷ []
    word_three e =
        three_bytes (value_at c s at) (sym h.sized ∙ e) ∙ ap (λ q. q.second ∷ q.third ∷ q.fourth ∷ []) (sym h.last)

    pub word_four : w.size ≡ 4 → value_at c s at ≡ w.first ∷ w.second ∷ w.third ∷ w.fourth ∷ []
    word_four e =
        four_bytes (value_at c s at) (sym h.sized ∙ e)
        ∙ ap (λ q. q.first ∷ q.second ∷ q.third ∷ q.fourth ∷ []) (sym h.last)

    -- a tag of three bytes
    pub kind_three : w.size ≡ 3 → kind_named (w.second ∷ w.third ∷ w.fourth ∷ []) ≡ kind_of (segment_at c s at)
    kind_three e = ap kind_named (sym (word_three e)) ∙ kind_of_tag

    -- it keeps the rule: what its bytes say, and one repeat
    module _ (e : w.size ≡ 3) {named : Bool} (n : named ≡ well_named (w.second ∷ w.third ∷ w.fourth ∷ []) (leb w.rank 2)) where
      rule_three : (named && ended_by 1 (repeat_at c s at)) ≡ tag_rule (segment_at c s at)
      rule_three =
          ap (λ (b : Bool). b && ended_by 1 (repeat_at c s at))
          (n ∙ ap₂ well_named (sym (word_three e)) (sym (h.ended 2 (lit≤ tt))))
          ∙ rule_of_tag

      pub rule_unnamed : named ≡ false → false ≡ tag_rule (segment_at c s at)
      rule_unnamed f = ap (λ (b : Bool). b && ended_by 1 (repeat_at c s at)) (sym f) ∙ rule_three

      pub rule_named : named ≡ true → ended_by 1 (repeat_at c s at) ≡ tag_rule (segment_at c s at)
      rule_named t = ap (λ (b : Bool). b && ended_by 1 (repeat_at c s at)) (sym t) ∙ rule_three

    -- a tag of any other size
    pub kind_other : (w.size ≡ 3 → ⊥) → User ≡ kind_of (segment_at c s at)
    kind_other n = named_user (value_at c s at) (λ e. n (h.sized ∙ e)) ∙ kind_of_tag

    pub rule_other : (w.size ≡ 3 → ⊥) → false ≡ tag_rule (segment_at c s at)
    rule_other n =
        ap (λ (b : Bool). b && ended_by 1 (repeat_at c s at))
        (well_named_not (value_at c s at) (ended_by 2 (piece_at c s at)) (λ e. n (h.sized ∙ e)))
        ∙ rule_of_tag
