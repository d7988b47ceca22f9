-- An input is accepted exactly where it is allowed. Assumes nothing.
use Prim.Native.Nat.{ℕ}
use mathlib.Core.Path.{◌≡◌, sym, ap, subst, ◌∙◌}
use mathlib.Core.Logic.{◌↔◌}
use mathlib.Core.Bool.{true}
use mathlib.Core.List.{List, [], ◌∷◌, ◌++◌, Memᴰ}
use mathlib.Core.Option.{none}
use lib.ListN.{length}
use Rattle.lists.specs.Lists.{all}
use Rattle.characters.specs.Characters.{usable, characters_of, body_start, body, opens}
use Rattle.refusals.proofs.Stages.{place_none_not}
use Rattle.stages.specs.Contents.{normal_form}
use Rattle.stages.specs.Places.{too_long, no_opening, normal_too_long}
use Rattle.stages.specs.Stages.{refusal_of}
use Rattle.stages.proofs.Over.{within}
use Rattle.spelling_laws.specs.Bodies.{Spelled}
use Rattle.spelling_laws.proofs.Laws.{passes_exactly, list_read_lem as body_list}
use Rattle.grammar_laws.proofs.Theorem.{input-interchange}
use Rattle.normal_form_laws.specs.Forms.{list_read}
use Rattle.normal_form_laws.proofs.Openings.{opened_leads}
use Rattle.normal_form_laws.proofs.Accepted.{Accepted, accepted_exactly, passes_accepted, usable_accepted}
use Rattle.acceptance_laws.specs.Allowed.{holds, Allowed}
use Rattle.acceptance_laws.proofs.Opening.{opening_clear}
use Rattle.acceptance_laws.proofs.Tags.{tags_clear}
use Rattle.acceptance_laws.proofs.Levels.{levels_clear, clear_levels, inside_clear}

module _ (s : List ℕ) where
  -- under usable service characters, the list by which the body is spelled is the one that it is read as
  list_is : usable (characters_of s) ≡ true → (d : Spelled (characters_of s) (body s)) → d.list ≡ list_read s
  list_is u d = sym (body_list (characters_of s) u (body_start s) (body s) d)

  -- from the places, at which nothing is met, to the rules
  clear_allowed : Accepted s → Allowed s
  unfolding too_long no_opening normal_too_long
  clear_allowed a =
      let u = usable_accepted s a.advice in
      let passes = (passes_accepted s).0 (a.releases, a.ending) in
      let leads = opened_leads s ((place_none_not (opens s) (body_start s)).0 a.opening) in
      let d = (passes_exactly (characters_of s) u (body_start s) (body s)).0 (passes, leads) in
      let order = (input-interchange s).0 (a.order, a.controls, a.references, a.counts) in
      let (l, c, named) = levels_clear s order.head (order.middle ++ order.tail ∷ []) order.shape a.level in
      record {
        size = (within s 0).0 a.short;
        opening = (opening_clear s).0 (a.advice, a.opening);
        spelled = d;
        tags = λ segment m. (tags_clear s passes).0 a.tags segment (subst (Memᴰ segment) (list_is u d) m);
        order = order;
        level = l;
        named = named;
        inside = ap (all (all (all (all (all (holds l)))))) (list_is u d) ∙ (inside_clear s l c).0 a.bytes;
        normal_size = (within (normal_form s) (length (normal_form s))).0 a.normal;
      }

  -- the service characters of an allowed input are usable
  usable_allowed : Allowed s → usable (characters_of s) ≡ true
  usable_allowed a = usable_accepted s ((opening_clear s).1 a.opening).0

  -- the list by which its body is spelled is the one that it is read as
  pub list_read_lem : (a : Allowed s) → a.spelled.list ≡ list_read s
  list_read_lem a = list_is (usable_allowed a) a.spelled

  -- from the rules to the places
  allowed_clear : Allowed s → Accepted s
  unfolding too_long normal_too_long
  allowed_clear a =
      let opened = (opening_clear s).1 a.opening in
      let passes = ((passes_exactly (characters_of s) (usable_allowed a) (body_start s) (body s)).1 a.spelled).0 in
      let ended = (passes_accepted s).1 passes in
      let rest = a.order.middle ++ a.order.tail ∷ [] in
      let levels = clear_levels s a.order.head rest a.order.shape a.level a.named in
      let orders = (input-interchange s).1 a.order in
      record {
        short = (within s 0).1 a.size;
        advice = opened.0;
        opening = opened.1;
        releases = ended.0;
        ending = ended.1;
        tags = (tags_clear s passes).1 (λ segment m. a.tags segment (subst (Memᴰ segment) (sym (list_read_lem a)) m));
        level = levels.0;
        bytes = (inside_clear s a.level levels.1).1 (ap (all (all (all (all (all (holds a.level)))))) (sym (list_read_lem a)) ∙ a.inside);
        order = orders.0;
        controls = orders.1;
        references = orders.2;
        counts = orders.3;
        normal = (within (normal_form s) (length (normal_form s))).1 a.normal_size;
      }

  -- "An interchange is accepted when none of 1 to 13 is met": exactly where it is allowed
  pub allowed_exactly : (refusal_of s ≡ none) ↔ Allowed s
  allowed_exactly = (λ h. clear_allowed ((accepted_exactly s).0 h), λ a. (accepted_exactly s).1 (allowed_clear a))
