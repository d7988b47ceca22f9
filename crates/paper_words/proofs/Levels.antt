-- The level that UNB names, and where 7 and 8 are met. Assumes nothing.
use Prim.Native.Nat.{ℕ, ◌+◌}
use mathlib.Core.Path.{◌≡◌, refl, sym, ap, subst, ◌∙◌}
use mathlib.Core.Logic.{inl, inr, ⊎_elim, ◌↔◌}
use mathlib.Core.List.Memᴰ
use mathlib.Core.List.{List, [], ◌∷◌, ◌++◌, map, nil≢cons, cons≢nil, head-eq_of_cons-eq, Memᴰ}
use mathlib.Core.Option.{Option, none, some, none-ne-some, some-injective}
use Rattle.lists.specs.Lists.{text, begins, cut, gather, at}
use Rattle.lists.proofs.Tests.{Says, says_begins, fails}
use Rattle.lists.proofs.Pieces.{cut_first}
use Rattle.refusals.specs.declared.Fault.TheVariants.{ForeignLevel, OutsideLevel}
use Rattle.characters.specs.declared.Characters.{Characters}
use Rattle.characters.specs.declared.Role.{Role}
use Rattle.characters.specs.declared.Role.TheVariants.{Separator, Release, Plain}
use Rattle.characters.specs.Characters.{characters_of, body_start, body, opens, role}
use Rattle.refusals.proofs.Stages.{place_none_not}
use Rattle.values.specs.Tokens.{Token, byte, inside, released, unreleased, reading, taken, tokens_from, tokens, Segment, ends, segments}
use Rattle.values.specs.Trimming.{contents_of}
use Rattle.levels.specs.Levels.{level_of, in_level}
use Rattle.levels.specs.Notions.{LevelA, LevelB, Names}
use Rattle.levels.proofs.Words.{in_level_says, names_level, level_names, level_none}
use Rattle.stages.specs.Contents.{body_tokens, segments_of, contents}
use Rattle.stages.specs.Places.{no_opening, foreign_level, place_outside, outside_level}
use Rattle.stages.proofs.Words.{seven_at, eight_at}
use Rattle.paper_words.specs.PaperWords.{Elements, Level}
use Rattle.paper_words.proofs.Meanings.{OutsideOf, Meant}

-- ---- the first segment

-- bytes have tokens
some_token : (c : Characters) (place b : ℕ) (bs : List ℕ) → tokens c place (b ∷ bs) ≡ [] → ⊥
unfolding tokens tokens_from unreleased reading taken
some_token c place b bs e = step (role c b) e
  where
    second : (r : Role) (d : ℕ) (rest : List Token) → taken r d place (place + 1) rest ≡ [] → ⊥
    second (Separator rank) d rest k = cons≢nil k
    second Release d rest k = cons≢nil k
    second Plain d rest k = cons≢nil k

    released_some : (more : List ℕ) → tokens_from c (released place) (place + 1) more ≡ [] → ⊥
    released_some [] k = cons≢nil k
    released_some (d ∷ ds) k = second (role c d) d (tokens_from c inside (place + 1 + 1) ds) k

    step : (r : Role) → unreleased r b place (tokens_from c (reading r place) (place + 1) bs) ≡ [] → ⊥
    step (Separator rank) k = cons≢nil k
    step Release k = released_some bs k
    step Plain k = cons≢nil k

module _ (s : List ℕ) where
  -- the first of the contents are those of the first segment
  abbrev First : Elements → Type 0
  First unb = (g : Segment) × (rest : List Segment) × (segments_of s ≡ g ∷ rest) × (contents_of g ≡ unb)

  first_is : (unb : Elements) → (at (contents s) 0 ≡ some unb) ↔ First unb
  unfolding contents at
  first_is unb = (
    there (segments_of s) refl,
    λ (g, rest, e, own). ap (λ (gs : List Segment). at (map contents_of gs) 0) e ∙ ap some own,
  )
    where
      there : (gs : List Segment) → segments_of s ≡ gs → at (map contents_of gs) 0 ≡ some unb → First unb
      there [] e h = absurd (none-ne-some unb h)
      there (g ∷ rest) e h = (g, rest, e, some-injective (contents_of g) unb h)

  -- without segments there are no tokens
  no_tokens : segments_of s ≡ [] → body_tokens s ≡ []
  unfolding segments_of segments cut
  no_tokens e = step (body_tokens s) e
    where
      step : (ts : List Token) → cut (ends 0) ts ≡ [] → ts ≡ []
      step [] h = refl
      step (t ∷ ts) h = absurd (nil≢cons (sym h ∙ cut_first (ends 0) t ts))

  -- where 3 is not met, the body has bytes, and so there is a segment
  pub some_segment : no_opening s ≡ [] → segments_of s ≡ [] → ⊥
  unfolding no_opening opens body_tokens
  some_segment clear e =
      let front : List ℕ = text "UNB" ++ (characters_of s).element ∷ [] in
      let (rest, k) = (says_begins front (body s)).0 ((place_none_not (begins front (body s)) (body_start s)).0 clear) in
      some_token (characters_of s) (body_start s) 85 (text "NB" ++ (characters_of s).element ∷ rest)
      (ap (tokens (characters_of s) (body_start s)) (sym k) ∙ no_tokens e)

  -- what it names
  own : (g : Segment) (rest : List Segment) → segments_of s ≡ g ∷ rest → (letter : ℕ) → Level s letter → Names (characters_of s) (contents_of g) letter
  own g rest e letter (unb, k, n) =
      let (h, more, split, same) = (first_is unb).0 k in
      let first : h ≡ g = head-eq_of_cons-eq (sym split ∙ e) in
      subst (λ (c : Elements). Names (characters_of s) c letter) (sym same ∙ ap contents_of first) n

  -- ---- 7

  -- where there is a segment, it is UNB that is asked
  pub seven_met : (segments_of s ≡ [] → ⊥) → (p : ℕ) → Memᴰ p (foreign_level s) ↔ Meant s ForeignLevel p
  seven_met begun p = by (segments_of s) refl
    where
      by : (gs : List Segment) → segments_of s ≡ gs → Memᴰ p (foreign_level s) ↔ Meant s ForeignLevel p
      by [] e = absurd (begun e)
      by (g ∷ rest) e =
          let exactly = seven_at s p g rest e in
          let named : (letter : ℕ) → Names (characters_of s) (contents_of g) letter → Level s letter =
          λ letter n. (contents_of g, (first_is (contents_of g)).1 (g, rest, e, refl), n)
          in (
            λ m.
                let (a, b, q) = exactly.0 m in
                (λ l. a (own g rest e 65 l), λ l. b (own g rest e 66 l), q),
            λ (a, b, q). exactly.1 (λ n. a (named 65 n), λ n. b (named 66 n), q),
          )

  -- ---- 8

  -- by the level that UNB names
  outside : (p m : ℕ) (Holds : ℕ → Type 0) → ((b : ℕ) → Says (in_level m b) (Holds b))
      → (g : Segment) (rest : List Segment) → segments_of s ≡ g ∷ rest → level_of (characters_of s) g ≡ some m
      → Memᴰ p (outside_level s) ↔ ((b : ℕ) × (from : ℕ) × Memᴰ (byte b from p) (body_tokens s) × (Holds b → ⊥))
  outside p m Holds says g rest e named =
      let exactly = eight_at s p g rest e m named in (
        λ h. let k = exactly.0 h in (k.0, k.1, k.2, (fails (in_level m k.0) (says k.0)).0 k.3),
        λ k. exactly.1 (k.0, k.1, k.2, (fails (in_level m k.0) (says k.0)).1 k.3),
      )

  -- where 7 is not met
  pub eight_met : foreign_level s ≡ [] → (p : ℕ) → Memᴰ p (outside_level s) ↔ Meant s OutsideLevel p
  unfolding outside_level gather
  eight_met clear p = (there (segments_of s) refl, ⊎_elim level_a_lem level_b_lem)
    where
      there : (gs : List Segment) → segments_of s ≡ gs → Memᴰ p (outside_level s) → Meant s OutsideLevel p
      there [] e m = absurd (Memᴰ.not-nil (subst (λ (ts : List Token). Memᴰ p (gather (place_outside s) ts)) (no_tokens e) m))
      there (g ∷ rest) e m = by (level_of (characters_of s) g) refl
        where
          first : at (contents s) 0 ≡ some (contents_of g)
          first = (first_is (contents_of g)).1 (g, rest, e, refl)

          by : (o : Option ℕ) → level_of (characters_of s) g ≡ o → Meant s OutsideLevel p
          by none h =
              let (a, b) = (level_none (characters_of s) g).0 h in
              absurd (Memᴰ.not-nil (subst (Memᴰ (body_start s)) clear ((seven_at s (body_start s) g rest e).1 (a, b, refl))))
          by (some l) h =
              ⊎_elim
              (λ (k : (l ≡ 2) × Names (characters_of s) (contents_of g) 65).
              inl ((contents_of g, first, k.1), (outside p 2 LevelA (λ b. (in_level_says b).0) g rest e (h ∙ ap some k.0)).0 m))
              (λ (k : (l ≡ 1) × Names (characters_of s) (contents_of g) 66).
              inr ((contents_of g, first, k.1), (outside p 1 LevelB (λ b. (in_level_says b).1) g rest e (h ∙ ap some k.0)).0 m))
              (level_names (characters_of s) g l h)

      level_a_lem : OutsideOf s 65 LevelA p → Memᴰ p (outside_level s)
      level_a_lem ((unb, e, n), k) =
          let (g, rest, split, own) = (first_is unb).0 e in
          (outside p 2 LevelA (λ b. (in_level_says b).0) g rest split
          ((names_level (characters_of s) g).0 (subst (λ (c : Elements). Names (characters_of s) c 65) (sym own) n))).1 k

      level_b_lem : OutsideOf s 66 LevelB p → Memᴰ p (outside_level s)
      level_b_lem ((unb, e, n), k) =
          let (g, rest, split, own) = (first_is unb).0 e in
          (outside p 1 LevelB (λ b. (in_level_says b).1) g rest split
          ((names_level (characters_of s) g).1 (subst (λ (c : Elements). Names (characters_of s) c 66) (sym own) n))).1 k
