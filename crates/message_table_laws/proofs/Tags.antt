-- The tags of a sound table: those in its tree, and which tags never stand in it. Assumes nothing.
use Rattle.std.specs.Prelude.{if◌then◌else◌}
use Prim.Native.Nat.{ℕ, suc}
use mathlib.Core.Path.{◌≡◌, refl, sym, subst, ◌∙◌}
use mathlib.Core.Bool.{Bool, true, false, false≢true}
use mathlib.Core.Logic.{⊎_elim}
use mathlib.Core.List.Memᴰ
use mathlib.Core.List.{List, [], ◌∷◌, Memᴰ}
use lib.ListN.{length}
use Rattle.message_tables.specs.Entries.{Entry, entries_of, is_group}
use Rattle.message_tables.specs.Soundness.{most_depth, is_table_tag, is_sound}
use Rattle.message_tables.specs.Structure.{structure_of, tags_in, segment_tags}
use Rattle.message_table_laws.specs.Nesting.{Fits, Levels, Able}
use Rattle.message_table_laws.proofs.Fitting.{segment_fits_lem}
use Rattle.message_table_laws.proofs.Nesting.{nested}
use Rattle.message_table_laws.proofs.Tree.{levels_tags, levels_able}
use Rattle.message_table_laws.proofs.Scanning.{sound_fits}

-- the segments' tags keep the rule
fits_tags : (past es : List Entry) → Fits past es → (tag : List ℕ) → Memᴰ tag (segment_tags es) → is_table_tag tag ≡ true
unfolding segment_tags
fits_tags past [] fs tag m = absurd (Memᴰ.not-nil m)
fits_tags past (e ∷ es) fs tag m = step (is_group e) refl m (fits_tags (e ∷ past) es fs.1 tag)
  where
    step : (g : Bool) → is_group e ≡ g → Memᴰ tag (if g then segment_tags es else e.tag ∷ segment_tags es)
        → (Memᴰ tag (segment_tags es) → is_table_tag tag ≡ true) → is_table_tag tag ≡ true
    step true g m rest = rest m
    step false g m rest =
        ⊎_elim (λ (q : tag ≡ e.tag). subst (λ (x : List ℕ). is_table_tag x ≡ true) (sym q) (segment_fits_lem past (length es) e fs.0 g).1) rest
        (Memᴰ.cases_cons m)

module _ (table : List ℕ) (sound : is_sound table ≡ true) where
  -- its groups lie in one another, at most eight deep
  pub sound_levels : Levels (suc most_depth) (entries_of table)
  sound_levels = nested (entries_of table) (sound_fits table sound)

  -- the tags in the tree are those of the table's segments
  pub sound_tags : tags_in (structure_of table) ≡ segment_tags (entries_of table)
  unfolding structure_of
  sound_tags = levels_tags (suc most_depth) (entries_of table) sound_levels

  -- every entry of the tree may stand at least once
  pub sound_able : Able (structure_of table)
  unfolding structure_of
  sound_able = levels_able (suc most_depth) (entries_of table) sound_levels

  -- a tag that breaks the rule does not stand in the tree
  pub never_tagged : (tag : List ℕ) → is_table_tag tag ≡ false → Memᴰ tag (tags_in (structure_of table)) → ⊥
  never_tagged tag h m =
      false≢true (sym h ∙ fits_tags [] (entries_of table) (sound_fits table sound) tag (subst (Memᴰ tag) sound_tags m))
