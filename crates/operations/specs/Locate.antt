-- Paper 01, "Operations": Locate and its companion; request 2026-10: "value lists gain kind 3 .., locate a repeat number". Assumes nothing.
use Rattle.std.specs.Prelude.{ℕ, List, [], ◌∷◌, map, take, drop}
use Rattle.std.proofs.Math.Option.{Option, none}
use Rattle.lists.specs.Lists.{at, maybe}
use Rattle.values.specs.Values.{Value}
use Rattle.values.specs.Trimming.{trimmed, value_at}
use Rattle.stages.specs.Contents.{segments_of}
use Rattle.stages.specs.Stages.{refusal_of}
use Rattle.answers.specs.Answers.{Answer, given, refused}

module _ (s : List ℕ) (segment element repeat component : ℕ) where
  -- the value "by segment, element", repeat "and component, each from 0 in the contents (element 0 is the tag)"
  unfoldable pub located : Option Value
  located = maybe none (λ elements. value_at elements element repeat component) (at (map trimmed (segments_of s)) segment)

  -- "offset and spelled length in the input, or "absent", or a refusal"
  unfoldable pub locate : Answer
  locate = maybe (maybe (given []) (λ v. given (v.offset ∷ v.spelled ∷ [])) located) refused (refusal_of s)

  -- the offset and the length of what the companion hands back; "zero bytes at the input's start where it's absent or refused"
  unfoldable pub part_offset : ℕ
  part_offset = maybe (maybe 0 (λ v. v.offset) located) (λ r. 0) (refusal_of s)

  unfoldable pub part_length : ℕ
  part_length = maybe (maybe 0 (λ v. v.spelled) located) (λ r. 0) (refusal_of s)

  -- "that part of the input as it is spelled there"
  unfoldable pub part : List ℕ
  part = take part_length (drop part_offset s)
