-- The service characters of `n` that are none of `c`, each asked for once. Assumes nothing.
use Rattle.std.specs.Prelude.{ℕ, Bool, not, ◌&&◌, ◌||◌, eqb}
use Rattle.characters.specs.declared.Characters.{Characters}
use Rattle.characters.specs.Characters.{has_release, has_repetition, is_service}
use Rattle.length_bound.specs.declared.Unshared.{Unshared}

unfoldable pub unshared : Characters → Characters → Unshared
unshared c n =
    record {
      component = not (is_service c n.component);
      element = not (is_service c n.element);
      release = has_release n && not (is_service c n.release);
      repetition = has_repetition n && not (is_service c n.repetition);
      terminator = not (is_service c n.terminator);
    }

-- the byte is one of them
unfoldable pub is_unshared : Characters → Unshared → ℕ → Bool
is_unshared n u b =
    (u.component && eqb b n.component)
    || ((u.element && eqb b n.element)
    || ((u.terminator && eqb b n.terminator) || ((u.repetition && eqb b n.repetition) || (u.release && eqb b n.release))))
