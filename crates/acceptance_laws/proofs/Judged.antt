-- What Judge answers: number 0 and the counts of the contents exactly where the input is allowed, else the one refusal that the
-- paper names. Assumes nothing.
use Prim.Native.Nat.{ℕ}
use mathlib.Core.Path.{◌≡◌, refl, sym, ap, ap₂, ◌∙◌}
use mathlib.Core.Logic.{◌↔◌, ◌⊎◌, inl, inr, ⊎_elim}
use mathlib.Core.List.{List, [], ◌∷◌, ◌++◌, map}
use mathlib.Core.Option.{Option, none, some, none-ne-some, some-injective}
use lib.ListN.{length, get_or, length-map, length-reverse}
use Rattle.lists.specs.Lists.{maybe}
use Rattle.characters.specs.Characters.{spelled_out, characters_of}
use Rattle.refusals.specs.declared.Fault.{Fault}
use Rattle.refusals.specs.declared.Refusal.{Refusal}
use Rattle.refusals.specs.Refusals.{number}
use Rattle.refusals.proofs.Order.{number_not_zero, number_tells}
use Rattle.segments.specs.declared.Kind.TheVariants.{Ung, Unh}
use Rattle.segments.specs.Tags.{kind_of}
use Rattle.segments.specs.Order.{segments_in, messages_in, groups_in}
use Rattle.stages.specs.Contents.{body_tokens, segments_of, kinds_of, normal_form}
use Rattle.stages.specs.Stages.{refusal_of}
use Rattle.answers.specs.Answers.{Answer, given, refused, accepted}
use Rattle.operations.specs.Judge.{figures_of, judge}
use Rattle.operations.proofs.Answered.{judge_by}
use Rattle.spelling_laws.specs.Bodies.{words_of, listed, read_list}
use Rattle.acceptance_laws.specs.Allowed.{Allowed}
use Rattle.acceptance_laws.specs.Refused.{Refused}
use Rattle.acceptance_laws.specs.Counts.{messages, groups, told}
use Rattle.acceptance_laws.proofs.Acceptance.{list_read_lem, allowed_exactly}
use Rattle.acceptance_laws.proofs.Stages.{refused_exactly}
use Rattle.acceptance_laws.proofs.Counts.{number_back, message_headers, group_headers}

abbrev at : Fault → ℕ → Refusal
at f p = record { fault = f; place = p }

module _ (s : List ℕ) where
  -- ---- accepted

  module _ (a : Allowed s) where
    counted_segments : segments_in (kinds_of s) ≡ length a.spelled.list
    unfolding segments_in kinds_of segments_of body_tokens listed read_list
    counted_segments =
        length-reverse (map kind_of (segments_of s))
        ∙ length-map (segments_of s) kind_of
        ∙ sym (length-map (segments_of s) words_of)
        ∙ ap length (sym (list_read_lem s a))

    counted_messages : messages_in (kinds_of s) ≡ messages a.order
    unfolding messages_in kinds_of
    counted_messages = number_back Unh (segments_of s) ∙ sym (message_headers a.order)

    counted_groups : groups_in (kinds_of s) ≡ groups a.order
    unfolding groups_in kinds_of
    counted_groups = number_back Ung (segments_of s) ∙ sym (group_headers a.order)

    -- the counts are those of the contents
    pub judged_accepted : judge s ≡ given (told s a)
    unfolding accepted figures_of maybe
    judged_accepted =
        judge_by s none ((allowed_exactly s).1 a)
        ∙ ap (λ (n : ℕ). told_as n (messages_in (kinds_of s)) (groups_in (kinds_of s))) counted_segments
        ∙ ap₂ (told_as (length a.spelled.list)) counted_messages counted_groups
      where
        told_as : ℕ → ℕ → ℕ → Answer
        told_as n m g = given (spelled_out (characters_of s) ++ n ∷ m ∷ g ∷ length (normal_form s) ∷ [])

  -- ---- refused

  -- the number and the place are those that the paper names
  pub judged_refused : (f : Fault) (p : ℕ) → (judge s ≡ record { number = number f; values = p ∷ [] }) ↔ Refused s f p
  unfolding accepted given refused maybe
  judged_refused f p = (λ e. (refused_exactly s f p).0 (step (refusal_of s) refl e), λ d. judge_by s (some (at f p)) ((refused_exactly s f p).1 d))
    where
      step : (o : Option Refusal) → refusal_of s ≡ o → judge s ≡ refused (at f p) → refusal_of s ≡ some (at f p)
      step none e h = absurd (number_not_zero f (ap (λ (x : Answer). x.number) (sym h ∙ judge_by s none e)))
      step (some q) e h =
          let k : refused q ≡ refused (at f p) = sym (judge_by s (some q) e) ∙ h in
          let n : number q.fault ≡ number f = ap (λ (x : Answer). x.number) k in
          let place : q.place ≡ p = ap (λ (x : Answer). get_or x.values 0 0) k in
          e ∙ ap₂ (λ (g : Fault) (m : ℕ). some (at g m)) (number_tells q.fault f n) place

  -- ---- one of the two

  pub judged : Allowed s ⊎ ((f : Fault) × (p : ℕ) × Refused s f p)
  judged = step (refusal_of s) refl
    where
      step : (o : Option Refusal) → refusal_of s ≡ o → Allowed s ⊎ ((f : Fault) × (p : ℕ) × Refused s f p)
      step none e = inl ((allowed_exactly s).0 e)
      step (some r) e = inr (r.fault, r.place, (refused_exactly s r.fault r.place).0 e)

  -- never both
  pub not_both_lem : {f : Fault} {p : ℕ} → Allowed s → Refused s f p → ⊥
  not_both_lem {f} {p} a d = none-ne-some (at f p) (sym ((allowed_exactly s).1 a) ∙ (refused_exactly s f p).1 d)

  -- and only one refusal
  pub one_refusal : {f g : Fault} {p q : ℕ} → Refused s f p → Refused s g q → (f ≡ g) × (p ≡ q)
  one_refusal {f} {g} {p} {q} d e =
      (ap (λ (r : Refusal). r.fault) only, ap (λ (r : Refusal). r.place) only)
    where
      only : at f p ≡ at g q
      only = some-injective (at f p) (at g q) (sym ((refused_exactly s f p).1 d) ∙ (refused_exactly s g q).1 e)

  -- the answer's number says which
  pub judged_number : ((judge s).number ≡ 0) ↔ Allowed s
  unfolding accepted given refused maybe
  judged_number = (
    λ e.
        ⊎_elim (λ a. a)
        (λ d.
        let is = (judged_refused d.0 d.1).1 d.2 in
        absurd (number_not_zero d.0 (ap (λ (x : Answer). x.number) (sym is) ∙ e)))
        judged,
    λ a. ap (λ (x : Answer). x.number) (judge_by s none ((allowed_exactly s).1 a)),
  )
