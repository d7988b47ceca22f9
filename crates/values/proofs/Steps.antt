-- Reading from a place on, token by token: what stands at a place, and where reading goes on. Assumes nothing.
use Rattle.std.specs.Prelude.{if◌then◌else◌}
use Prim.Native.Nat.{ℕ, zero, suc, ◌+◌, ◌≤◌, ◌<◌}
use mathlib.Core.Path.{◌≡◌, refl, ap, ◌∙◌}
use mathlib.Core.List.{List, [], ◌∷◌}
use native.Mathlib.Omega.{arith}
use lib.ListN.{length, get_or, drop, drop_of_length-le}
use mathlib.Core.Bool.{Bool, true, false}
use borrow.Author.Tests.{le-leb, lt-leb}
use lib.Seq.{drop-drop}
use Rattle.lists.proofs.Numbers.{drop_next}
use Rattle.characters.specs.declared.Characters.{Characters}
use Rattle.characters.specs.declared.Role.{Role}
use Rattle.characters.specs.declared.Role.TheVariants.{Separator, Release, Plain}
use Rattle.characters.specs.Characters.{role, is_break, breaks, after_breaks}
use Rattle.values.specs.Tokens.{Token, byte, separator, fault, inside, released, passing, unreleased, reading, taken, tokens_from, tokens, tokens_at, ends}

-- a separator ends what those of its own rank and of every greater one end
pub ends_yes : (rank place : ℕ) {k : ℕ} → k ≤ rank → ends rank (separator k place) ≡ true
unfolding ends
ends_yes rank place {k} h = le-leb k rank h

pub ends_no : (rank place : ℕ) {k : ℕ} → rank < k → ends rank (separator k place) ≡ false
unfolding ends
ends_no rank place {k} h = lt-leb k rank h

-- the tokens from an unreleased byte on, by the part that it plays
pub tokens_role : (c : Characters) (place b : ℕ) (more : List ℕ) (o : Role) → role c b ≡ o
    → tokens c place (b ∷ more) ≡ unreleased o b place (tokens_from c (reading o place) (place + 1) more)
unfolding tokens tokens_from
tokens_role c place b more o r = ap (λ (o : Role). unreleased o b place (tokens_from c (reading o place) (place + 1) more)) r

-- after a terminator reading goes on past the breaks
pub tokens_passing : (c : Characters) (place : ℕ) (bs : List ℕ)
    → tokens_from c passing place bs ≡ tokens c (place + breaks bs) (drop (breaks bs) bs)
unfolding tokens tokens_from breaks
tokens_passing c place [] = refl
tokens_passing c place (b ∷ bs) = step (is_break b) (tokens_passing c (place + 1) bs)
  where
    step : (t : Bool) → tokens_from c passing (place + 1) bs ≡ tokens_from c inside (place + 1 + breaks bs) (drop (breaks bs) bs)
        → (if t then tokens_from c passing (place + 1) bs
        else unreleased (role c b) b place (tokens_from c (reading (role c b) place) (place + 1) bs))
        ≡ tokens_from c inside (place + (if t then suc (breaks bs) else zero)) (drop (if t then suc (breaks bs) else zero) (b ∷ bs))
    step true e = e ∙ ap (λ (n : ℕ). tokens_from c inside n (drop (breaks bs) bs)) (omega arith)
    step false e = ap (λ (n : ℕ). tokens_from c inside n (b ∷ bs)) (omega arith)

module _ (c : Characters) (s : List ℕ) where
  -- at the end there is nothing
  pub at_end : (at : ℕ) → length s ≤ at → tokens_at c s at ≡ []
  unfolding tokens_at tokens tokens_from
  at_end at h = ap (tokens_from c inside at) (drop_of_length-le s h)

  -- inside the input the byte at a place is read by its part
  at_role : (at : ℕ) (o : Role) → at < length s → role c (get_or s at 0) ≡ o
      → tokens_at c s at ≡ unreleased o (get_or s at 0) at (tokens_from c (reading o at) (at + 1) (drop (at + 1) s))
  unfolding tokens_at
  at_role at o h r = ap (tokens c at) (drop_next s at h) ∙ tokens_role c at (get_or s at 0) (drop (at + 1) s) o r

  -- a plain byte is a byte of a value
  pub at_plain : (at : ℕ) → at < length s → role c (get_or s at 0) ≡ Plain
      → tokens_at c s at ≡ byte (get_or s at 0) at at ∷ tokens_at c s (at + 1)
  unfolding tokens_at tokens unreleased reading
  at_plain at h r = at_role at Plain h r

  -- a terminator ends the segment, and the next one starts after the breaks
  pub at_terminator : (at : ℕ) → at < length s → role c (get_or s at 0) ≡ Separator 0
      → tokens_at c s at ≡ separator 0 at ∷ tokens_at c s (after_breaks s (at + 1))
  unfolding tokens_at unreleased reading after_breaks
  at_terminator at h r =
      at_role at (Separator 0) h r
      ∙ ap (λ (ts : List Token). separator 0 at ∷ ts)
      (tokens_passing c (at + 1) (drop (at + 1) s)
      ∙ ap (tokens c (at + 1 + breaks (drop (at + 1) s))) (drop-drop (breaks (drop (at + 1) s)) (at + 1) s))

  -- any other separator ends only a part of the segment
  pub at_separator : (at rank : ℕ) → at < length s → role c (get_or s at 0) ≡ Separator (suc rank)
      → tokens_at c s at ≡ separator (suc rank) at ∷ tokens_at c s (at + 1)
  unfolding tokens_at tokens unreleased reading
  at_separator at rank h r = at_role at (Separator (suc rank)) h r

  -- a release character leaves what follows to the byte after it
  releases : (at : ℕ) → at < length s → role c (get_or s at 0) ≡ Release
      → tokens_at c s at ≡ tokens_from c (released at) (at + 1) (drop (at + 1) s)
  unfolding tokens_at tokens unreleased reading
  releases at h r = at_role at Release h r

  -- "release followed by .. the end"
  pub at_last_release : (at : ℕ) → at + 1 ≡ length s → role c (get_or s at 0) ≡ Release → tokens_at c s at ≡ fault at ∷ []
  unfolding tokens_from
  at_last_release at h r =
      releases at (omega arith) r ∙ ap (tokens_from c (released at) (at + 1)) (drop_of_length-le s {i = at + 1} (omega arith))

  after_release_lem : (at : ℕ) → at + 1 < length s → role c (get_or s at 0) ≡ Release
      → tokens_at c s at ≡ taken (role c (get_or s (at + 1) 0)) (get_or s (at + 1) 0) at (at + 1) (tokens_at c s (at + 1 + 1))
  unfolding tokens_at tokens tokens_from
  after_release_lem at h r = releases at (omega arith) r ∙ ap (tokens_from c (released at) (at + 1)) (drop_next s (at + 1) h)

  -- "release followed by no service character"
  pub at_stray_release : (at : ℕ) → at + 1 < length s → role c (get_or s at 0) ≡ Release
      → role c (get_or s (at + 1) 0) ≡ Plain → tokens_at c s at ≡ fault at ∷ tokens_at c s (at + 1 + 1)
  unfolding taken
  at_stray_release at h r q =
      after_release_lem at h r ∙ ap (λ (o : Role). taken o (get_or s (at + 1) 0) at (at + 1) (tokens_at c s (at + 1 + 1))) q

  pub at_released_release : (at : ℕ) → at + 1 < length s → role c (get_or s at 0) ≡ Release
      → role c (get_or s (at + 1) 0) ≡ Release → tokens_at c s at ≡ byte (get_or s (at + 1) 0) at (at + 1) ∷ tokens_at c s (at + 1 + 1)
  unfolding taken
  at_released_release at h r q =
      after_release_lem at h r ∙ ap (λ (o : Role). taken o (get_or s (at + 1) 0) at (at + 1) (tokens_at c s (at + 1 + 1))) q

  pub at_released_separator : (at rank : ℕ) → at + 1 < length s → role c (get_or s at 0) ≡ Release
      → role c (get_or s (at + 1) 0) ≡ Separator rank
      → tokens_at c s at ≡ byte (get_or s (at + 1) 0) at (at + 1) ∷ tokens_at c s (at + 1 + 1)
  unfolding taken
  at_released_separator at rank h r q =
      after_release_lem at h r ∙ ap (λ (o : Role). taken o (get_or s (at + 1) 0) at (at + 1) (tokens_at c s (at + 1 + 1))) q
