-- Inputs that are read as the same list of segments: what refusals 4 to 12 ask is the same of both. Assumes nothing.
use Prim.Native.Nat.{ℕ}
use mathlib.Core.Path.{◌≡◌, sym, ap, ◌∙◌}
use mathlib.Core.List.{List, []}
use Rattle.characters.specs.Characters.{characters_of}
use Rattle.control_elements.specs.Control.{reference_differs, count_wrong}
use Rattle.stages.specs.Contents.{body_tokens, segments_of, contents}
use Rattle.stages.specs.Places.{too_long, unusable_advice, no_opening, broken_tags, bad_controls, differing_references, wrong_counts, normal_too_long, bad_control}
use Rattle.operations.specs.ValueList.{trim_list}
use Rattle.spelling_laws.specs.Bodies.{listed, read_list, Passes}
use Rattle.normal_form_laws.specs.Forms.{Suits, BodyPasses, list_read}
use Rattle.normal_form_laws.proofs.Trimmed.{contents_read}
use Rattle.normal_form_laws.proofs.Accepted.{Accepted, passes_accepted}
use Rattle.normal_form_laws.proofs.Tags.{tags_words, all_finished}
use Rattle.normal_form_laws.proofs.Alike.{Alike, controls_by_contents, references_by_contents, counts_by_contents}
use Rattle.normal_form_laws.proofs.LevelBytes.{level_bytes}
use Rattle.normal_form_laws.proofs.Versions.{same_level, same_named}
use Rattle.normal_form_laws.proofs.Accepting.{same_starts, same_order}

module _ (n t : List ℕ) (nowhere : Accepted n) (passes : BodyPasses n) (passes' : BodyPasses t) (same : list_read t ≡ list_read n)
    (suits : Suits (characters_of t) (contents n)) where
  alike : Alike (segments_of n) (segments_of t)
  unfolding contents
  alike = contents_read n ∙ ap trim_list (sym same) ∙ sym (contents_read t)

  -- 4 to 12 are not met in the other either
  pub same_nowhere : too_long t ≡ [] → unusable_advice t ≡ [] → no_opening t ≡ [] → normal_too_long t ≡ [] → Accepted t
  unfolding broken_tags bad_controls differing_references wrong_counts segments_of body_tokens read_list listed Passes
  same_nowhere short advice opening normal =
      let reading = (passes_accepted t).1 passes' in
      record {
        short = short;
        advice = advice;
        opening = opening;
        releases = reading.0;
        ending = reading.1;
        tags =
            (tags_words [] (segments_of t) (all_finished (body_tokens t) passes')).1
            (rw same ((tags_words [] (segments_of n) (all_finished (body_tokens n) passes)).0 nowhere.tags));
        level = same_named n t alike nowhere.level suits;
        bytes = (level_bytes t).1 (rw (same, ← same_level n t alike nowhere.level suits) ((level_bytes n).0 nowhere.bytes));
        order = same_order n t alike nowhere.order;
        controls = same_starts n t alike bad_control controls_by_contents nowhere.controls;
        references = same_starts n t alike reference_differs references_by_contents nowhere.references;
        counts = same_starts n t alike count_wrong counts_by_contents nowhere.counts;
        normal = normal;
      }
