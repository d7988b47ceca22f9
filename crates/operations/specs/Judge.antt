-- Paper 01, "Operations": Judge, and Normalise into a lent buffer. Assumes nothing.
use Rattle.std.specs.Prelude.{ℕ, List, [], ◌∷◌, ◌++◌, length, drop, ltb}
use Rattle.std.proofs.Math.Option.{Option, none, some}
use Rattle.lists.specs.Lists.{maybe}
use Rattle.characters.specs.Characters.{characters_of}
use Rattle.refusals.specs.declared.Fault.TheVariants.{BufferShort}
use Rattle.refusals.specs.declared.Refusal.{Refusal}
use Rattle.refusals.specs.Refusals.{Stage, met, place_if, answering}
use Rattle.segments.specs.Order.{segments_in, messages_in, groups_in}
use Rattle.stages.specs.Contents.{kinds_of, normal_form}
use Rattle.stages.specs.Stages.{stages, refusal_of}
use Rattle.answers.specs.declared.Figures.{Figures}
use Rattle.answers.specs.Answers.{Answer, given, refused, accepted}

-- ---- Judge

-- what is said of an accepted interchange
unfoldable pub figures_of : List ℕ → Figures
figures_of s =
    record {
      characters = characters_of s;
      segments = record { 0 = segments_in (kinds_of s) };
      messages = record { 0 = messages_in (kinds_of s) };
      groups = record { 0 = groups_in (kinds_of s) };
      length = length (normal_form s);
    }

-- "service characters, counts of segments, messages and groups, length of the normal form; or a refusal"
unfoldable pub judge : List ℕ → Answer
judge s = maybe (accepted (figures_of s)) refused (refusal_of s)

-- ---- what a lent buffer holds

-- 14: "lent buffer too short": "bytes, or table numbers, needed"
unfoldable pub short_for : {A : Type 0} → List A → List A → Stage
short_for new buffer = met BufferShort (place_if (ltb (length buffer) (length new)) (length new))

-- the buffer with what is stored at its front: what is beyond keeps its values
unfoldable pub stored_in : {A : Type 0} → List A → List A → List A
stored_in buffer new = new ++ drop (length new) buffer

-- the one where nothing is refused, the other where something is
unfoldable pub unless_refused : {A : Type 0} → Option Refusal → A → A → A
unless_refused none a b = a
unless_refused (some r) a b = b

-- ---- Normalise

unfoldable pub normalise_refusal : List ℕ → List ℕ → Option Refusal
normalise_refusal buffer s = answering (stages s ++ short_for (normal_form s) buffer ∷ [])

-- "the length"
unfoldable pub normalise : List ℕ → List ℕ → Answer
normalise buffer s = maybe (given (length (normal_form s) ∷ [])) refused (normalise_refusal buffer s)

-- "bytes beyond it keep their values"; a refusal leaves the buffer unchanged
unfoldable pub normalise_buffer : List ℕ → List ℕ → List ℕ
normalise_buffer buffer s = unless_refused (normalise_refusal buffer s) (stored_in buffer (normal_form s)) buffer
