-- The walk through a table and the language of the table, for any body. Assumes nothing.
use Prim.Native.Nat.{ℕ}
use mathlib.Core.Path.{◌≡◌, refl, sym, subst, ◌∙◌}
use mathlib.Core.Logic.{◌↔◌}
use mathlib.Core.List.{List, [], ◌∷◌, map, cons≢nil}
use mathlib.Core.Option.{none, map-eq-none_iff, some-ne-none}
use Rattle.values.specs.Tokens.{Segment}
use Rattle.segments.specs.Tags.{tag_of}
use Rattle.message_tables.specs.Entries.{entries_in, whole_entries, entries_of}
use Rattle.message_tables.specs.Structure.{level, levels, structure_of}
use Rattle.message_structures.specs.Walking.{walk, left_over, unmatched}
use Rattle.message_table_laws.proofs.Tags.{sound_tags, sound_able}
use Rattle.structure_laws.specs.Notions.{Sound, Once, OnceIn, Matches, Spelled}
use Rattle.structure_laws.proofs.Mapped.{self, unmatched_mapped}
use Rattle.structure_laws.proofs.Spelled.{matched_spelled}
use Rattle.structure_laws.proofs.Taken.{spelled_matched}

module _ (table : List ℕ) where
  -- the walk over segments goes as over their tags
  matches_tags : (body : List Segment) → Matches table body ↔ (unmatched self (structure_of table) (map tag_of body) ≡ none)
  matches_tags body =
      let none-iff = map-eq-none_iff (map tag_of) (unmatched tag_of (structure_of table) body) in
      let over = unmatched_mapped tag_of (structure_of table) body in
      (λ e. sym over ∙ none-iff.1 e, λ e. none-iff.0 (over ∙ e))

  pub never_more : Sound table → (body : List Segment) → Matches table body → Spelled table body
  never_more sound body e = matched_spelled (structure_of table) (sound_able table sound) (map tag_of body) ((matches_tags body).0 e)

  pub exactly : Sound table → OnceIn table → (body : List Segment) → Matches table body ↔ Spelled table body
  exactly sound once body = (
    never_more sound body,
    λ s. (matches_tags body).1 (spelled_matched (structure_of table) (subst Once (sym (sound_tags table sound)) once) (map tag_of body) s),
  )

pub no_entries : (body : List Segment) → Matches [] body ↔ (body ≡ [])
unfolding unmatched left_over walk structure_of levels level entries_of entries_in whole_entries
no_entries [] = (λ e. refl, λ e. refl)
no_entries (g ∷ gs) = (λ e. absurd (some-ne-none (g ∷ gs) e), λ e. absurd (cons≢nil e))
