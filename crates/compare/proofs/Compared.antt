-- What Compare answers, from what Judge says of the two inputs and from their normal forms. Assumes nothing.
use Rattle.answers.specs.declared.Unaccepted.TheVariants.{First, Second}
use Rattle.std.specs.Prelude.{if◌then◌else◌, Ok, Err}
use Prim.Native.Nat.{ℕ, ◌+◌, ◌*◌, ◌≤◌}
use mathlib.Core.Path.{◌≡◌, refl, sym, ap, ap₂, subst, ◌∙◌}
use mathlib.Core.Bool.{Bool, true, false, ◌&&◌}
use mathlib.Core.List.{List, [], ◌∷◌}
use mathlib.Core.Option.{Option, none, some}
use native.Mathlib.Omega.{arith}
use lib.ListN.{length, take, drop, get_or, replicate, length-append, length-replicate}
use lib.Seq.{take_at, length-take-le}
use Rattle.lists.specs.Lists.{same, any, maybe}
use Rattle.lists.proofs.Texts.{same_eq, same_refl}
use Rattle.refusals.specs.declared.Fault.TheVariants.{NormalTooLong}
use Rattle.refusals.specs.declared.Refusal.{Refusal}
use Rattle.stages.specs.Contents.{normal_form}
use Rattle.stages.specs.Places.{normal_too_long}
use Rattle.stages.specs.Stages.{places_of, brackets, refusal_of}
use Rattle.stages.proofs.Over.{within}
use Rattle.stages.proofs.Stages.{accepted_unmet}
use Rattle.answers.specs.declared.Figures.{Figures}
use Rattle.answers.specs.Answers.{Answer, given, refused, refused_input, told_stored, told_compared, Stored, Compared}
use Rattle.contracts.specs.Promises.{Normalises}
use Rattle.contracts.proofs.Told.{given_refused, given_is, refused_is}
use Rattle.operations.specs.Judge.{figures_of, normalise_refusal, normalise, normalise_buffer}
use Rattle.operations.specs.Compare.{is_accepted, are_same, compare}
use Rattle.operations.proofs.Answered.{compare_by, normalise_judged, normalise_given, normalises}
use Rattle.normal_form_laws.proofs.Theorems.{normal_length, normal_form_lem}
use Rattle.judge.proofs.Told.{length_of_lem}
use Rattle.refusals.specs.Limits.{most_bytes}
use Rattle.compare.specs.Forms.{IsForm, Room, compared_to}

-- ---- what is known of an accepted input

-- its normal form is not over 32,000 bytes
pub form_fits : (s : List ℕ) → refusal_of s ≡ none → length (normal_form s) ≤ most_bytes
unfolding places_of brackets any normal_too_long
form_fits s e = (within (normal_form s) (length (normal_form s))).0 (accepted_unmet s e NormalTooLong refl)

-- an array with room for any normal form begins with it, where it was stored
pub form_held : (s : List ℕ) {i : Figures} {n : ℕ} {after : List ℕ} → (refusal_of s ≡ none) × (i ≡ figures_of s) → n ≡ i.length
    → after ≡ normalise_buffer (replicate most_bytes 0) s → (n ≤ length after) × (n ≡ length (take n after)) × (take n after ≡ normal_form s)
form_held s {n = n} {after = after} known e d =
    let form = normal_form s in
    let zeros : List ℕ = replicate most_bytes 0 in
    let long : n ≡ length form = e ∙ length_of_lem s known.1 in
    let room : length form ≤ length zeros = omega (arith, form_fits s known.0, length-replicate {A = ℕ} most_bytes 0) in
    let holds = d ∙ (normalises zeros s known.0 room).1 in
    let fits : n ≤ length after = omega (arith, ap length holds, length-append form (drop (length form) zeros)) in
    (fits, sym (length-take-le n after fits), ap (take n) holds ∙ take_at form (drop (length form) zeros) n (sym long))

-- a buffer that is as long as any normal form has room for one, and so has a shorter one for that of a short input
pub long_room : (s : List ℕ) → Room (replicate most_bytes 0) s
long_room s e = omega (arith, form_fits s e, length-replicate {A = ℕ} most_bytes 0)

-- "For n input bytes it has at most 2n + 9."
pub room_for : (n : ℕ) (s : List ℕ) → 2 * length s + 9 ≤ n → Room (replicate n 0) s
room_for n s h e = omega (arith, normal_length s e, length-replicate {A = ℕ} n 0)

-- a text that is the normal form of an accepted input is one
pub form_is : (s : List ℕ) {text : List ℕ} → refusal_of s ≡ none → text ≡ normal_form s → IsForm text
form_is s e d =
    let n = normal_form_lem s e in
    subst IsForm (sym d) (n.accepted, n.own_form)

-- ---- what Normalise says of an input

module _ (buffer s : List ℕ) {r : Stored} {after : List ℕ} (said : Normalises buffer s r after) where
  -- it is accepted, and its normal form stands in front
  pub form_stored : {n : ℕ} → r ≡ Ok n → (refusal_of s ≡ none) × (n ≤ length after) × (n ≡ length (take n after)) × (take n after ≡ normal_form s)
  unfolding normalise told_stored given
  form_stored {n} d =
      let form = normal_form s in
      let (passed, told) = given_is (length form ∷ []) (n ∷ []) (normalise_refusal buffer s) (sym (ap told_stored d) ∙ said.0) in
      let long : n ≡ length form = ap (λ (l : List ℕ). get_or l 0 0) told in
      let holds = said.1 ∙ (normalise_given buffer s passed).1 in
      let fits : n ≤ length after = omega (arith, ap length holds, length-append form (drop (length form) buffer)) in
      (accepts (refusal_of s) refl passed, fits, sym (length-take-le n after fits), ap (take n) holds ∙ take_at form (drop (length form) buffer) n (sym long))
    where
      accepts : (o : Option Refusal) → refusal_of s ≡ o → normalise_refusal buffer s ≡ none → o ≡ none
      accepts none e h = refl
      accepts (some q) e h = sym (normalise_judged buffer s e) ∙ h

  -- it is refused: where there is room, the refusal is its own
  pub form_refused : {q : Refusal} → Room buffer s → r ≡ Err q → refusal_of s ≡ some q
  unfolding normalise told_stored
  form_refused {q} room d =
      let told = sym (ap told_stored d) ∙ said.0 in
      refuses told (refusal_of s) refl (refused_is (length (normal_form s) ∷ []) q (normalise_refusal buffer s) told)
    where
      refuses : refused q ≡ normalise buffer s → (o : Option Refusal) → refusal_of s ≡ o → normalise_refusal buffer s ≡ some q → o ≡ some q
      refuses told none e h = absurd (given_refused (length (normal_form s) ∷ []) q (sym (told ∙ (normalises buffer s e (room e)).0)))
      refuses told (some p) e h = sym (normalise_judged buffer s e) ∙ h

-- ---- what is answered of the second, where the first is accepted and this is its normal form

module _ (text second : List ℕ) where
  pub text_refused : {r : Refusal} → refusal_of second ≡ some r → told_compared (Err (Second r)) ≡ compared_to text second
  unfolding compared_to told_compared maybe
  text_refused e = sym (ap (maybe (given ((if same text (normal_form second) then 1 else 0) ∷ [])) (refused_input 2)) e)

  module _ (f : refusal_of second ≡ none) where
    by_text : (t : Bool) → same text (normal_form second) ≡ t → given ((if t then 1 else 0) ∷ []) ≡ compared_to text second
    unfolding compared_to maybe
    by_text t h = sym (ap₂ (λ (u : Bool) (o : Option Refusal). maybe (given ((if u then 1 else 0) ∷ [])) (refused_input 2) o) h f)

    pub text_same : same text (normal_form second) ≡ true → told_compared (Ok true) ≡ compared_to text second
    unfolding told_compared
    text_same h = by_text true h

    pub text_differs : same text (normal_form second) ≡ false → told_compared (Ok false) ≡ compared_to text second
    unfolding told_compared
    text_differs h = by_text false h

    pub text_told : (b : Bool) → same text (normal_form second) ≡ b → told_compared (Ok b) ≡ compared_to text second
    text_told true e = text_same e
    text_told false e = text_differs e

-- what has the bytes of a normal form has that normal form
pub bytes_form : (text second : List ℕ) → IsForm text → same text second ≡ true → told_compared (Ok true) ≡ compared_to text second
bytes_form text second form h =
    let e : text ≡ second = same_eq text second h in
    subst (λ (s : List ℕ). told_compared (Ok true) ≡ compared_to text s) e
    (text_same text text form.0 (ap (same text) form.1 ∙ same_refl text))

-- ---- what is answered

module _ (first second : List ℕ) where
  -- the first is refused
  pub first_refused : {r : Refusal} → refusal_of first ≡ some r → told_compared (Err (First r)) ≡ compare first second
  unfolding told_compared maybe
  first_refused {r} e = sym (compare_by first second (some r) (refusal_of second) e refl)

  -- the second is, and the first is not
  pub second_refused : {r : Refusal} → refusal_of first ≡ none → refusal_of second ≡ some r → told_compared (Err (Second r)) ≡ compare first second
  unfolding told_compared maybe
  second_refused {r} e f = sym (compare_by first second none (some r) e f)

  module _ (e : refusal_of first ≡ none) (f : refusal_of second ≡ none) where
    by_forms : (t : Bool) → same (normal_form first) (normal_form second) ≡ t → compare first second ≡ given ((if t then 1 else 0) ∷ [])
    unfolding are_same is_accepted maybe
    by_forms t h =
        compare_by first second none none e f
        ∙ ap (λ (t : Bool). given ((if t then 1 else 0) ∷ []))
        (ap₂ (λ (a b : Option Refusal). maybe true (λ r. false) a && maybe true (λ r. false) b && same (normal_form first) (normal_form second)) e f ∙ h)

    -- both are accepted, and their normal forms are equal
    pub forms_same : same (normal_form first) (normal_form second) ≡ true → told_compared (Ok true) ≡ compare first second
    unfolding told_compared
    forms_same h = sym (by_forms true h)

  -- both are accepted, and what is answered of the second where the first's normal form is known is the answer
  pub text_compared : {text : List ℕ} → refusal_of first ≡ none → text ≡ normal_form first → (r : Compared) → told_compared r ≡ compared_to text second
      → told_compared r ≡ compare first second
  text_compared {text} e d r told = told ∙ step (refusal_of second) refl
    where
      step : (o : Option Refusal) → refusal_of second ≡ o → compared_to text second ≡ compare first second
      step none f =
          sym (by_text text second f (same text (normal_form second)) refl)
          ∙ sym (by_forms e f (same text (normal_form second)) (ap (λ (l : List ℕ). same l (normal_form second)) (sym d)))
      step (some r) f = sym (text_refused text second f) ∙ second_refused e f

  -- the second has the first's bytes
  pub bytes_same : same first second ≡ true → (r : Compared) → told_compared r ≡ compare first first → told_compared r ≡ compare first second
  bytes_same h r told = told ∙ ap (compare first) (same_eq first second h)

-- an accepted input is the same as itself
pub itself_same : (s : List ℕ) → refusal_of s ≡ none → told_compared (Ok true) ≡ compare s s
itself_same s e = forms_same s s e e (same_refl (normal_form s))

-- ---- what a caller of Compare learns

-- the answer says "same"
says_same : Answer → Bool
says_same a = same a.values (1 ∷ [])

unfoldable pub is_same : Compared → Bool
is_same (Ok same) = same
is_same (Err refused) = false

told_so : (r : Compared) → is_same r ≡ says_same (told_compared r)
unfolding is_same says_same told_compared given refused_input same
told_so (Ok true) = refl
told_so (Ok false) = refl
told_so (Err (First r)) = refl
told_so (Err (Second r)) = refl

-- the answer says "same" exactly where the two are the same
pub told_same : (first second : List ℕ) (r q : Compared) → told_compared r ≡ compare first second → r ≡ q → is_same q ≡ are_same first second
unfolding compare are_same is_accepted says_same given refused_input same maybe
told_same first second r q e d =
    sym (ap is_same d) ∙ told_so r ∙ ap says_same e ∙ step (refusal_of first) (refusal_of second) (same (normal_form first) (normal_form second))
  where
    accepts : Option Refusal → Bool
    accepts o = maybe true (λ r. false) o

    step : (a b : Option Refusal) (t : Bool)
        → says_same (maybe (maybe (given ((if accepts a && accepts b && t then 1 else 0) ∷ [])) (refused_input 2) b) (refused_input 1) a)
        ≡ (accepts a && accepts b && t)
    step none none true = refl
    step none none false = refl
    step none (some r) t = refl
    step (some r) b t = refl
