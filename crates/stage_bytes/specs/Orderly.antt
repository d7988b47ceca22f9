-- A test of each byte and of the four before it, after which every byte of a value is in the level. It says so of no other body, and misses
-- some: where two or more released release characters stand before a terminator and a line break. Assumes nothing.
use Rattle.std.specs.Prelude.{ℕ, zero, suc, Bool, true, false, not, ◌&&◌, ◌||◌, List, [], ◌∷◌}
use Rattle.characters.specs.declared.Characters.{Characters}
use Rattle.characters.specs.declared.Role.{Role}
use Rattle.characters.specs.declared.Role.TheVariants.{Separator, Release, Plain}
use Rattle.characters.specs.Characters.{is_service, is_break, role}
use Rattle.levels.specs.Levels.{in_level}

-- what part a byte plays
abbrev pub is_release : Role → Bool
is_release (Separator rank) = false
is_release Release = true
is_release Plain = false

abbrev pub is_terminator : Role → Bool
is_terminator (Separator zero) = true
is_terminator (Separator (suc rank)) = false
is_terminator Release = false
is_terminator Plain = false

module _ (c : Characters) where
  unfoldable pub releases : ℕ → Bool
  releases b = is_release (role c b)

  -- request 2026-01, "directly after a segment terminator .. however many": a break may stand after another one, and after a terminator that
  -- is not released. The byte before a terminator releases it, unless it is a release character that another one releases.
  unfoldable pub may_break : (fourth third second before : ℕ) → Bool
  may_break fourth third second before =
      is_break before || (is_terminator (role c before) && (not (releases second) || (releases third && not (releases fourth))))

  -- a byte after these four is in the level, or a service character that is not released, or a break that may stand there
  unfoldable pub orderly : (level fourth third second before b : ℕ) → Bool
  orderly level fourth third second before b =
      (in_level level b && not (is_break b))
      || ((is_service c b && not (releases before)) || (is_break b && may_break fourth third second before))

  -- neither a break nor the byte 0, which stands for what is before the first byte, is a service character
  unfoldable pub service_apart : Bool
  service_apart = not (is_service c 13 || (is_service c 10 || is_service c 0))

  -- all bytes after these four
  unfoldable pub orderly_after : (level fourth third second before : ℕ) → List ℕ → Bool
  orderly_after level fourth third second before [] = true
  orderly_after level fourth third second before (b ∷ bs) =
      orderly level fourth third second before b && orderly_after level third second before b bs

  -- the first four bytes
  unfoldable pub opening_orderly : (level a b d e : ℕ) → Bool
  opening_orderly level a b d e =
      (orderly level 0 0 0 0 a && orderly level 0 0 0 a b) && (orderly level 0 0 a b d && orderly level 0 a b d e)

  -- all bytes of a body, which has four or more
  unfoldable pub all_orderly : ℕ → List ℕ → Bool
  all_orderly level [] = false
  all_orderly level (a ∷ []) = false
  all_orderly level (a ∷ b ∷ []) = false
  all_orderly level (a ∷ b ∷ d ∷ []) = false
  all_orderly level (a ∷ b ∷ d ∷ e ∷ bs) = (service_apart && opening_orderly level a b d e) && orderly_after level a b d e bs
