-- `value_lists::lacks_release` meets its contract: the library's test of any byte is the definition's. Assumes nothing.
use Rattle.std.proofs.Common.{◌≡◌, ℕ, List, [], ◌∷◌, Bool, ◌||◌, refl, ap, eq-eqb, ne_eqb}
use Rattle.std.specs.List.{list_any}
use Rattle.lists.specs.Lists.{any}
use Rattle.characters.specs.Characters.{is_service, has_release}
use Rattle.operations.specs.Write.{lacks_release}
use Rattle.value_lists.proofs.lacks_release.Goals as goal

any_listed : (t : ℕ → Bool) (xs : List ℕ) → list_any t xs ≡ any t xs
unfolding any
any_listed t [] = refl
any_listed t (x ∷ xs) = ap (λ (b : Bool). t x || b) (any_listed t xs)

pub returns-then-c-eq32 : goal.returns-then-c-eq32
unfolding lacks_release has_release
returns-then-c-eq32 c =
    simp (c.holds_service.ensures, any_listed (is_service c.args.c) c.args.value.now, eq-eqb _ _ c.if-c-eq32.true)

pub returns-else-c-eq32 : goal.returns-else-c-eq32
unfolding lacks_release has_release
returns-else-c-eq32 c = simp (ne_eqb _ _ c.if-c-eq32.false)
