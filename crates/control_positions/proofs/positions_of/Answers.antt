-- `control_positions::positions_of` meets its contract: the constant table is the paper's once its bytes are
-- widened, and a kind's index is below 8. Assumes nothing.
use Prim.Native.Nat.{ℕ, ◌<◌}
use mathlib.Core.Path.{sym, ap, ap₂, ◌∙◌}
use mathlib.Core.List.{List, [], ◌∷◌}
use native.Mathlib.Omega.{arith}
use lib.Dec.{lit<}
use lib.ListN.{get_or, get_or-map}
use Rattle.segments.specs.declared.Kind.{Kind}
use Rattle.segments.specs.declared.Kind.TheVariants.{Unb, Ung, Unh, Uns, Unt, Une, Unz, User}
use Rattle.segments.specs.Kinds.{index}
use Rattle.control_elements.specs.declared.Positions.{Positions}
use Rattle.control_elements.specs.Positions.{position_table, positions_of}
use Rattle.control_positions.specs.declared.Entry.{Entry}
use Rattle.control_positions.proofs.positions_of.Goals as goal

index_below : (kind : Kind) → index kind < 8
index_below Unb = lit< tt
index_below Ung = lit< tt
index_below Unh = lit< tt
index_below Uns = lit< tt
index_below Unt = lit< tt
index_below Une = lit< tt
index_below Unz = lit< tt
index_below User = lit< tt

abbrev entry : ℕ → ℕ → Entry
entry count reference = record { count = count; reference = reference }

-- the constant table,
abbrev entries : List Entry
entries = entry 0 5 ∷ entry 0 5 ∷ entry 0 1 ∷ entry 0 0 ∷ entry 1 2 ∷ entry 1 2 ∷ entry 1 2 ∷ entry 0 0 ∷ []

-- and its entries as wide as the paper's table is stated
abbrev wide : ℕ → ℕ → Positions
wide count reference = record { count = count; reference = reference }

abbrev widened : Entry → Positions
widened e = wide e.count e.reference

pub offset_bounds-at : goal.offset_bounds-at
offset_bounds-at c = record { fits = omega (arith, c.index_of-at.ensures, index_below c.args.kind) }

pub bounds-at-at : goal.bounds-at-at
bounds-at-at c = omega (arith, c.index_of-at.ensures, index_below c.args.kind)

pub returns : goal.returns
unfolding positions_of position_table
returns c =
    let told = c.index_of-at in
    ap₂ wide c.from.ensures c.from-2.ensures
    ∙ sym (get_or-map widened entries told.result (entry 0 0))
    ∙ ap (λ (n : ℕ). get_or position_table n (record { count = 0; reference = 0 })) told.ensures
