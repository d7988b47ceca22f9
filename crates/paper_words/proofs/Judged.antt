-- What Judge refuses: the numbers of the stages, one after the other, as the paper's words have them. Assumes nothing.
use Prim.Native.Nat.{ℕ}
use mathlib.Core.Path.{◌≡◌, refl, sym, ap, ap₂, subst, ◌∙◌}
use mathlib.Core.Logic.{◌↔◌, inl}
use mathlib.Core.List.{List, [], ◌∷◌, ◌++◌, Memᴰ}
use mathlib.Core.Option.{Option, none, some}
use native.Mathlib.Omega.{arith}
use lib.Dec.{lit≤}
use lib.ListN.{length, get_or}
use Rattle.lists.specs.Lists.{all, those, maybe}
use Rattle.characters.specs.Characters.{spelled_out}
use Rattle.refusals.specs.declared.Fault.{Fault}
use Rattle.refusals.specs.declared.Fault.TheVariants.{TooLong, UnusableAdvice, NoOpening, StrayRelease, UnendedSegment, BrokenTag, ForeignLevel, OutsideLevel, NormalTooLong}
use Rattle.refusals.specs.declared.Refusal.{Refusal}
use Rattle.refusals.specs.Refusals.{number, met, lowest}
use Rattle.refusals.proofs.Stages.{met_none}
use Rattle.stages.specs.Places.{too_long, unusable_advice, no_opening, stray_releases, unended_segment, broken_tags, foreign_level, outside_level, normal_too_long}
use Rattle.stages.specs.Stages.{places_of, brackets, brackets_in, bracketed, stages_in, stages, later_stages, refusal_of}
use Rattle.stages.proofs.Words.{one_at, four_at, thirteen_at, later_are}
use Rattle.answers.specs.Answers.{Answer, given, refused, accepted}
use Rattle.operations.specs.Judge.{judge}
use Rattle.operations.proofs.Answered.{judge_by}
use Rattle.paper_words.specs.PaperWords.{Meets, Answers, from3, answer}
use Rattle.paper_words.proofs.Answering.{Settled, settles_one, settles_three, Lined, Told, answers_lined}
use Rattle.paper_words.proofs.Meanings.{Meant, meant, meets}
use Rattle.paper_words.proofs.Opening.{two_met, three_met}
use Rattle.paper_words.proofs.Tags.{five_met, six_met}
use Rattle.paper_words.proofs.Levels.{some_segment, seven_met, eight_met}
use Rattle.paper_words.proofs.Misplaced.{nine_settled}
use Rattle.paper_words.proofs.Controls.{control_settled}

module _ (s : List ℕ) where
  -- ---- the stages

  -- the places of a fault are those at which it is met
  are_met : (f : Fault) (places : List ℕ) → ((p : ℕ) → Memᴰ p places ↔ Meant s f p) → (p : ℕ) → Memᴰ p places ↔ Meets s (number f) p
  are_met f places are p = (λ m. meets s f ((are p).0 m), λ h. (are p).1 (meant s f h))

  settled : (f : Fault) (places : List ℕ) → ((p : ℕ) → Memᴰ p places ↔ Meant s f p)
      → Settled (Meets s) (number f ∷ []) (lowest (met f places))
  settled f places are = settles_one (Meets s) f places (are_met f places are)

  words_settled : Settled (Meets s) (4 ∷ 5 ∷ 6 ∷ [])
      (lowest (met StrayRelease (stray_releases s) ++ (met UnendedSegment (unended_segment s) ++ met BrokenTag (broken_tags s))))
  words_settled =
      let five = are_met UnendedSegment (unended_segment s) (five_met s) in
      let six = are_met BrokenTag (broken_tags s) (six_met s) in
      settles_three (Meets s) StrayRelease UnendedSegment BrokenTag (stray_releases s) (unended_segment s) (broken_tags s) (lit≤ tt) (lit≤ tt)
      (are_met StrayRelease (stray_releases s) (four_at s))
      (λ p. (five p).0)
      (λ p h. inl ((five p).1 h))
      (λ p. (six p).0)
      (λ p h. inl ((six p).1 h))

  -- "3 to 13", where 2 is not met
  pub later_lined : unusable_advice s ≡ [] → Lined (Meets s) (later_stages s) from3
  unfolding later_stages stages_in brackets_in brackets bracketed places_of those all
  later_lined clear = (
    settled NoOpening (no_opening s) (three_met s clear),
    λ three. (
      words_settled,
      λ words. (
        settled ForeignLevel (foreign_level s) (seven_met s (some_segment s ((met_none NoOpening (no_opening s)).0 three))),
        λ seven. (
          settled OutsideLevel (outside_level s) (eight_met s ((met_none ForeignLevel (foreign_level s)).0 seven)),
          λ eight. (
            nine_settled s,
            λ nine. (control_settled s, λ control. (settled NormalTooLong (normal_too_long s) (thirteen_at s), λ thirteen. tt)),
          ),
        ),
      ),
    ),
  )

  all_lined : Lined (Meets s) (met TooLong (too_long s) ∷ met UnusableAdvice (unusable_advice s) ∷ later_stages s) ((1 ∷ []) ∷ (2 ∷ []) ∷ from3)
  all_lined = (
    settled TooLong (too_long s) (one_at s),
    λ one. (settled UnusableAdvice (unusable_advice s) (two_met s), λ two. later_lined ((met_none UnusableAdvice (unusable_advice s)).0 two)),
  )

  -- ---- the answer

  told : (n p : ℕ) → (judge s ≡ answer n (p ∷ [])) ↔ Told (Meets s) (stages s) n p
  unfolding refusal_of accepted given refused spelled_out maybe
  told n p = (
    λ e. there (refusal_of s) refl e,
    λ (r, e, number_is, place_is). judge_by s (some r) e ∙ ap₂ (λ (m q : ℕ). answer m (q ∷ [])) number_is place_is,
  )
    where
      there : (o : Option Refusal) → refusal_of s ≡ o → judge s ≡ answer n (p ∷ []) → Told (Meets s) (stages s) n p
      there none e h = absurd (omega (arith, ap (λ (a : Answer). length a.values) (sym (judge_by s none e) ∙ h)))
      there (some r) e h =
          let k : answer (number r.fault) (r.place ∷ []) ≡ answer n (p ∷ []) = sym (judge_by s (some r) e) ∙ h in
          (r, e, ap (λ (a : Answer). a.number) k, ap (λ (a : Answer). get_or a.values 0 0) k)

  pub judge_refuses : (n p : ℕ) → (judge s ≡ answer n (p ∷ [])) ↔ Answers (Meets s) n p ((1 ∷ []) ∷ (2 ∷ []) ∷ from3)
  judge_refuses n p =
      let numbers : List (List ℕ) = (1 ∷ []) ∷ (2 ∷ []) ∷ from3 in
      let all = subst (λ (l : List (List Refusal)). Lined (Meets s) l numbers) (sym (later_are s)) all_lined in
      let lined = answers_lined (Meets s) n p (stages s) numbers all in
      let answers = told n p in
      (λ e. lined.0 (answers.0 e), λ a. answers.1 (lined.1 a))
