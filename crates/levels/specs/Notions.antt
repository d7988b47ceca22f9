-- The paper's notions for the statements about this crate's definitions, with its numbers written out: none of them goes through the
-- definition that it is held against. `P → ⊥` says that P does not hold. Assumes nothing.
use Rattle.std.specs.Prelude.{ℕ, ◌≤◌, ◌≡◌, ◌⊎◌, List, [], ◌∷◌}
use Rattle.std.proofs.Math.Option.{some}
use Rattle.lists.specs.Lists.{at}
use Rattle.characters.specs.declared.Characters.{Characters}

-- "Level A: `A`-`Z`, `0`-`9`, space and `. , - ( ) / = ' + : ? ! " % & * ; < >`": as byte values
abbrev pub LevelA : ℕ → Type 0
LevelA b = ((32 ≤ b) × (b ≤ 34)) ⊎ ((37 ≤ b) × (b ≤ 63)) ⊎ ((65 ≤ b) × (b ≤ 90))

-- "Level B adds `a`-`z`."
abbrev pub LevelB : ℕ → Type 0
LevelB b = LevelA b ⊎ ((97 ≤ b) × (b ≤ 122))

-- "The first component of UNB's element 1 is `UNOA` or `UNOB`, its second is `1` or `2`": in UNB's contents, by the name's last letter.
-- Request 2026-10: the element has one repeat; the version may be `4`, and is where "the fifth byte isn't a space".
abbrev pub Names : Characters → List (List (List (List ℕ))) → ℕ → Type 0
Names c contents letter =
    (values : List (List ℕ))
    × (at contents 1 ≡ some (values ∷ []))
    × (at values 0 ≡ some (85 ∷ 78 ∷ 79 ∷ letter ∷ []))
    × ((at values 1 ≡ some (52 ∷ [])) ⊎ ((c.repetition ≡ 32) × ((at values 1 ≡ some (49 ∷ [])) ⊎ (at values 1 ≡ some (50 ∷ [])))))

-- the version is `4`: in UNB's contents
abbrev pub FourthVersion : List (List (List (List ℕ))) → Type 0
FourthVersion contents = (values : List (List ℕ)) × (at contents 1 ≡ some (values ∷ [])) × (at values 1 ≡ some (52 ∷ []))
