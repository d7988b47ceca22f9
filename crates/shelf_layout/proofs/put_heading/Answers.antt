-- `shelf_layout::put_heading` meets its contract: three letters and the version are the heading's five bytes. Assumes nothing.
use Prim.Native.Nat.{ℕ, ◌≤◌}
use mathlib.Core.Path.{◌≡◌, refl}
use mathlib.Core.List.{List, [], ◌∷◌, ◌++◌}
use native.Mathlib.Omega.{arith}
use lib.ListN.{length, drop}
use lib.Seq.{sets}
use Rattle.lists.specs.Lists.{text}
use Rattle.numbers.specs.Numbers.{in_bytes}
use Rattle.shelves.specs.Layout.{heading}
use Rattle.storing.proofs.Stores.{stored_after}
use Rattle.shelf_layout.proofs.put_heading.Goals as goal

letters : (s : List ℕ) → 3 ≤ length s → text "EDS" ++ drop 3 s ≡ sets s 0 (text "EDS")
letters [] h = absurd (omega arith)
letters (a ∷ []) h = absurd (omega arith)
letters (a ∷ b ∷ []) h = absurd (omega arith)
letters (a ∷ b ∷ c ∷ s) h = refl

pub returns : goal.returns
unfolding heading
returns c =
    let x = c.args in
    let e = letters x.s.now (omega arith) in
    stored_after x.s.now 0 (text "EDS") (in_bytes 2 x.l.version) (cc (e, c.copy_from_slice.ensures.after)) refl c.put.ensures
