-- `shelf_summary::head_of` meets its contract: three numbers, which are spelled there. Assumes nothing.
-- the summary of the three numbers
use Prim.Native.Nat.{ℕ}
use mathlib.Core.Path.{◌≡◌, ap, ◌∙◌}
use mathlib.Core.List.{List}
use Rattle.shelves.specs.declared.Summary.{Summary}
use Rattle.shelves.specs.Summary.{summary_of}
use Rattle.shelves.specs.Layout.{map_of, held_figure, duplicates_of}
use Rattle.shelf_summary.proofs.Backs.{heads}
use Rattle.shelf_summary.proofs.head_of.Goals as goal

made : (s : List ℕ) {m h d : ℕ} → m ≡ map_of s → h ≡ held_figure s → d ≡ duplicates_of s
    → ◌≡◌ {A = Summary} (record { map = m; held = h; duplicates = d }) (summary_of s)
unfolding summary_of
made s {m} {h} {d} e f g =
    ap (λ (n : ℕ). record { map = n; held = h; duplicates = d }) e
    ∙ ap (λ (n : ℕ). record { map = map_of s; held = n; duplicates = d }) f
    ∙ ap (λ (n : ℕ). record { map = map_of s; held = held_figure s; duplicates = n }) g

pub returns : goal.returns
returns c =
    let x = c.args in
    let u : Summary = record { map = c.map_of.result; held = c.held_figure.result; duplicates = c.duplicates_of.result } in
    heads x.s.now u (λ j h. (c.type_inv.s j).fits) c.requires
    (made x.s.now c.map_of.ensures c.held_figure.ensures c.duplicates_of.ensures)
