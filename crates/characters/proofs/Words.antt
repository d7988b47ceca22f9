-- What the definitions say in numbers: which bytes are usable, which six an input uses, where its body begins, and what part a byte
-- plays. Assumes nothing.
use Rattle.std.specs.Prelude.{if◌then◌else◌}
use Prim.Native.Nat.{ℕ, suc, ◌+◌, ◌≤◌, ◌<◌}
use mathlib.Core.Path.{◌≡◌, refl, sym, ap, ◌∙◌}
use mathlib.Core.Bool.{Bool, true, false, not, ◌&&◌, ◌||◌, false≢true, and-false}
use mathlib.Core.List.{List, [], ◌∷◌, ◌++◌}
use mathlib.Core.Logic.{◌⊎◌, inl, inr, ⊎_elim}
use native.Mathlib.Omega.{arith}
use lib.Dec.{eqb, leb}
use lib.ListN.{length, drop}
use lib.Seq.{drop-drop}
use borrow.Author.Tests.{eq-eqb, ne_eqb, le-ltb, lt-ltb}
use Rattle.lists.specs.Lists.{text, begins, member, all_differ, all}
use Rattle.lists.proofs.Texts.{and_left, and_both}
use Rattle.lists.proofs.Tests.{Says, says_eq, says_le, says_both, says_either, says_not, says_as, fails, says_begins}
use Rattle.characters.specs.declared.Characters.{Characters}
use Rattle.characters.specs.declared.Role.TheVariants.{Separator, Release, Plain}
use Rattle.characters.specs.Characters.{between, upper, lower, digit, separates, has_release, has_repetition, service_characters, is_service, usable, six_bytes, spelled_out, advised, advice_of, plus_characters, star_characters, begins_version4, control_characters, characters_of, is_break, breaks, after_breaks, body_start, body, bad_advice, opens, role}
pub use Rattle.characters.specs.Notions.{SeparatorByte, Usable, NamesVersion4}

-- ---- bytes

abbrev pub Between : ℕ → ℕ → ℕ → Type 0
Between low high b = (low ≤ b) × (b ≤ high)

pub between_says : (low high b : ℕ) → Says (between low high b) (Between low high b)
unfolding between
between_says low high b = says_both (leb low b) (leb b high) (says_le low b) (says_le b high)

pub upper_says : (b : ℕ) → Says (upper b) ((65 ≤ b) × (b ≤ 90))
unfolding upper
upper_says b = between_says 65 90 b

pub lower_says : (b : ℕ) → Says (lower b) ((97 ≤ b) × (b ≤ 122))
unfolding lower
lower_says b = between_says 97 122 b

pub digit_says : (b : ℕ) → Says (digit b) ((48 ≤ b) × (b ≤ 57))
unfolding digit
digit_says b = between_says 48 57 b

-- one of a few, by number
one_of : {P : Type 0} (b n : ℕ) (rest : Bool) → Says rest P → Says (eqb b n || rest) ((b ≡ n) ⊎ P)
one_of b n rest p = says_either (eqb b n) rest (says_eq b n) p

one : (b n : ℕ) → Says (eqb b n || false) (b ≡ n)
one b n = says_as (says_either (eqb b n) false (says_eq b n) (λ h. absurd (false≢true h), λ (h : ⊥). absurd h)) (⊎_elim (λ e. e) (λ h. absurd h)) inl

pub separates_says : (b : ℕ) → Says (separates b) (SeparatorByte b)
unfolding separates member
separates_says b =
    let letters : Bool = upper b || lower b in
    says_as
    (says_either (between 33 126 b && not (letters || digit b)) (member b (28 ∷ 29 ∷ 31 ∷ []))
    (says_both (between 33 126 b) (not (letters || digit b)) (between_says 33 126 b)
    (says_not (letters || digit b)
    (says_either letters (digit b) (says_either (upper b) (lower b) (upper_says b) (lower_says b)) (digit_says b))))
    (one_of b 28 (member b (29 ∷ 31 ∷ [])) (one_of b 29 (member b (31 ∷ [])) (one b 31))))
    (⊎_elim (λ h. inl (h.0.0, h.0.1, λ k. h.1 (inl (inl k)), λ k. h.1 (inl (inr k)), λ k. h.1 (inr k))) inr)
    (⊎_elim (λ h. inl ((h.0, h.1), ⊎_elim (⊎_elim h.2 h.3) h.4)) inr)

-- ---- service characters

-- what follows the terminator among them: the repetition separator and the release character, each unless it is a space
module _ (x : ℕ) where
  abbrev optional : Bool → List ℕ
  optional none = if not none then x ∷ [] else []

  abbrev Given : ℕ → Type 0
  Given b = (x ≡ 32 → ⊥) × (b ≡ x)

  in_optional : (b : ℕ) (none : Bool) → Says none (x ≡ 32) → Says (member b (optional none)) (Given b)
  unfolding member
  in_optional b true s = (λ h. absurd (false≢true h), λ h. absurd (h.0 (s.0 refl)))
  in_optional b false s = says_as (one b x) (λ e. ((fails false s).0 refl, e)) (λ h. h.1)

  all_optional : (none : Bool) → Says none (x ≡ 32) → Says (all separates (optional none)) ((x ≡ 32) ⊎ SeparatorByte x)
  unfolding all
  all_optional true s = (λ h. inl (s.0 refl), λ h. refl)
  all_optional false s = (
    λ h. inr ((separates_says x).0 (and_left (separates x) true h)),
    ⊎_elim (λ e. absurd (false≢true (s.1 e))) (λ h. and_both (separates x) true ((separates_says x).1 h) refl),
  )

  one_optional : (none : Bool) → Says (all_differ (optional none)) (Unit {0})
  unfolding all_differ member
  one_optional true = (λ h. tt, λ h. refl)
  one_optional false = (λ h. tt, λ h. refl)

module _ (p r : ℕ) where
  abbrev last_ones : Bool → Bool → List ℕ
  last_ones np nr = optional p np ++ optional r nr

  in_last : (b : ℕ) (np nr : Bool) → Says np (p ≡ 32) → Says nr (r ≡ 32) → Says (member b (last_ones np nr)) (Given p b ⊎ Given r b)
  unfolding member
  in_last b true nr sp sr = says_as (in_optional r b nr sr) inr (⊎_elim (λ h. absurd (h.0 (sp.0 refl))) (λ h. h))
  in_last b false nr sp sr =
      says_as (one_of b p (member b (optional r nr)) (in_optional r b nr sr)) (⊎_elim (λ e. inl ((fails false sp).0 refl, e)) inr)
      (⊎_elim (λ h. inl h.1) inr)

  all_last : (np nr : Bool) → Says np (p ≡ 32) → Says nr (r ≡ 32)
      → Says (all separates (last_ones np nr)) (((p ≡ 32) ⊎ SeparatorByte p) × ((r ≡ 32) ⊎ SeparatorByte r))
  unfolding all
  all_last true nr sp sr = says_as (all_optional r nr sr) (λ h. (inl (sp.0 refl), h)) (λ h. h.1)
  all_last false nr sp sr =
      says_as (says_both (separates p) (all separates (optional r nr)) (separates_says p) (all_optional r nr sr)) (λ h. (inr h.0, h.1))
      (λ h. (⊎_elim (λ e. absurd (false≢true (sp.1 e))) (λ k. k) h.0, h.1))

  differ_last : (np nr : Bool) → Says np (p ≡ 32) → Says nr (r ≡ 32) → Says (all_differ (last_ones np nr)) ((p ≡ 32 → ⊥) → Given r p → ⊥)
  unfolding all_differ
  differ_last true nr sp sr = says_as (one_optional r nr) (λ h n k. n (sp.0 refl)) (λ h. tt)
  differ_last false nr sp sr =
      says_as
      (says_both (not (member p (optional r nr))) (all_differ (optional r nr)) (says_not (member p (optional r nr)) (in_optional r p nr sr))
      (one_optional r nr))
      (λ h n k. h.0 k)
      (λ h. (h ((fails false sp).0 refl), tt))

-- "a service character is one of these four (three)", or the repetition separator
pub service_says : (c : Characters) (b : ℕ)
    → Says (is_service c b)
    ((b ≡ c.component) ⊎ (b ≡ c.element) ⊎ (b ≡ c.terminator) ⊎ ((c.repetition ≡ 32 → ⊥) × (b ≡ c.repetition))
    ⊎ ((c.release ≡ 32 → ⊥) × (b ≡ c.release)))
unfolding is_service service_characters has_release has_repetition member
service_says c b =
    let np : Bool = eqb c.repetition 32 in
    let nr : Bool = eqb c.release 32 in
    let last : List ℕ = last_ones c.repetition c.release np nr in
    one_of b c.component (member b (c.element ∷ c.terminator ∷ last))
    (one_of b c.element (member b (c.terminator ∷ last))
    (one_of b c.terminator (member b last)
    (in_last c.repetition c.release b np nr (says_eq c.repetition 32) (says_eq c.release 32))))

not_space : {b : ℕ} → SeparatorByte b → b ≡ 32 → ⊥
not_space (inl h) e = omega arith
not_space (inr (inl h)) e = omega arith
not_space (inr (inr (inl h))) e = omega arith
not_space (inr (inr (inr h))) e = omega arith

-- the same, in the order of the tests
abbrev Parts : Characters → Type 0
Parts c =
    (((c.mark ≡ 46) ⊎ (c.mark ≡ 44))
    × (SeparatorByte c.component × (SeparatorByte c.element × (SeparatorByte c.terminator
    × (((c.repetition ≡ 32) ⊎ SeparatorByte c.repetition) × ((c.release ≡ 32) ⊎ SeparatorByte c.release))))))
    × (((c.mark ≡ c.component) ⊎ (c.mark ≡ c.element) ⊎ (c.mark ≡ c.terminator) ⊎ Given c.repetition c.mark ⊎ Given c.release c.mark → ⊥)
    × (((c.component ≡ c.element) ⊎ (c.component ≡ c.terminator) ⊎ Given c.repetition c.component ⊎ Given c.release c.component → ⊥)
    × (((c.element ≡ c.terminator) ⊎ Given c.repetition c.element ⊎ Given c.release c.element → ⊥)
    × ((Given c.repetition c.terminator ⊎ Given c.release c.terminator → ⊥)
    × ((c.repetition ≡ 32 → ⊥) → Given c.release c.repetition → ⊥)))))

pub usable_says : (c : Characters) → Says (usable c) (Usable c)
unfolding usable service_characters has_release has_repetition all all_differ member
usable_says c =
    let np : Bool = eqb p 32 in
    let nr : Bool = eqb r 32 in
    let last : List ℕ = last_ones p r np nr in
    let rest : (b : ℕ) → Says (member b last) (Given p b ⊎ Given r b) = λ b. in_last p r b np nr (says_eq p 32) (says_eq r 32) in
    says_as
    (says_both
    (member m (46 ∷ 44 ∷ []) && all separates (k ∷ e ∷ t ∷ last))
    (all_differ (m ∷ k ∷ e ∷ t ∷ last))
    (says_both (member m (46 ∷ 44 ∷ [])) (all separates (k ∷ e ∷ t ∷ last))
    (one_of m 46 (member m (44 ∷ [])) (one m 44))
    (says_both (separates k) (all separates (e ∷ t ∷ last)) (separates_says k)
    (says_both (separates e) (all separates (t ∷ last)) (separates_says e)
    (says_both (separates t) (all separates last) (separates_says t) (all_last p r np nr (says_eq p 32) (says_eq r 32))))))
    (says_both (not (member m (k ∷ e ∷ t ∷ last))) (all_differ (k ∷ e ∷ t ∷ last))
    (says_not (member m (k ∷ e ∷ t ∷ last))
    (one_of m k (member m (e ∷ t ∷ last)) (one_of m e (member m (t ∷ last)) (one_of m t (member m last) (rest m)))))
    (says_both (not (member k (e ∷ t ∷ last))) (all_differ (e ∷ t ∷ last))
    (says_not (member k (e ∷ t ∷ last)) (one_of k e (member k (t ∷ last)) (one_of k t (member k last) (rest k))))
    (says_both (not (member e (t ∷ last))) (all_differ (t ∷ last))
    (says_not (member e (t ∷ last)) (one_of e t (member e last) (rest e)))
    (says_both (not (member t last)) (all_differ last) (says_not (member t last) (rest t))
    (differ_last p r np nr (says_eq p 32) (says_eq r 32)))))))
    there
    back
  where
    m : ℕ
    m = c.mark

    k : ℕ
    k = c.component

    e : ℕ
    e = c.element

    t : ℕ
    t = c.terminator

    p : ℕ
    p = c.repetition

    r : ℕ
    r = c.release

    -- what is no space is an optional one only where there is one
    apart : (x b : ℕ) → (b ≡ 32 → ⊥) → (Given x b → ⊥) → b ≡ x → ⊥
    apart x b n h q = h (λ z. n (q ∙ z), q)

    mark_no_space : (m ≡ 46) ⊎ (m ≡ 44) → m ≡ 32 → ⊥
    mark_no_space (inl h) q = omega arith
    mark_no_space (inr h) q = omega arith

    -- neither of the two
    neither : (b : ℕ) → (b ≡ 32 → ⊥) → (Given p b ⊎ Given r b → ⊥) → (b ≡ p) ⊎ (b ≡ r) → ⊥
    neither b n h = ⊎_elim (apart p b n (λ q. h (inl q))) (apart r b n (λ q. h (inr q)))

    both : (b : ℕ) → ((b ≡ p) ⊎ (b ≡ r) → ⊥) → Given p b ⊎ Given r b → ⊥
    both b h = ⊎_elim (λ q. h (inl q.1)) (λ q. h (inr q.1))

    none_space : ((p ≡ 32) ⊎ SeparatorByte p) → ((p ≡ 32 → ⊥) → Given r p → ⊥) → p ≡ r → p ≡ 32
    none_space (inl h) n q = h
    none_space (inr h) n q = absurd (n (not_space h) (λ z. not_space h (q ∙ z), q))

    there : Parts c → Usable c
    there ((mk, (sk, (se, (st, (sp, sr))))), (nm, (nk, (ne, (nt, np))))) = (
      mk,
      sk,
      se,
      st,
      sp,
      sr,
      ⊎_elim (λ q. nm (inl q)) (⊎_elim (λ q. nm (inr (inl q)))
          (⊎_elim (λ q. nm (inr (inr (inl q)))) (neither m (mark_no_space mk) (λ q. nm (inr (inr (inr q))))))),
      ⊎_elim (λ q. nk (inl q)) (⊎_elim (λ q. nk (inr (inl q))) (neither k (not_space sk) (λ q. nk (inr (inr q))))),
      ⊎_elim (λ q. ne (inl q)) (neither e (not_space se) (λ q. ne (inr q))),
      neither t (not_space st) nt,
      none_space sp np,
    )

    back : Usable c → Parts c
    back (mk, sk, se, st, sp, sr, nm, nk, ne, nt, np) = (
      (mk, (sk, (se, (st, (sp, sr))))),
      (
        ⊎_elim (λ q. nm (inl q)) (⊎_elim (λ q. nm (inr (inl q))) (⊎_elim (λ q. nm (inr (inr (inl q)))) (both m (λ q. nm (inr (inr (inr q))))))),
        (
          ⊎_elim (λ q. nk (inl q)) (⊎_elim (λ q. nk (inr (inl q))) (both k (λ q. nk (inr (inr q))))),
          (⊎_elim (λ q. ne (inl q)) (both e (λ q. ne (inr q))), (both t nt, λ n q. n (np q.1))),
        ),
      ),
    )

-- ---- the opening

-- six bytes in the advice's order
pub six_are : (component element mark release repetition terminator : ℕ)
    → six_bytes (component ∷ element ∷ mark ∷ release ∷ repetition ∷ terminator ∷ [])
    ≡ record { component = component; element = element; mark = mark; release = release; repetition = repetition; terminator = terminator }
unfolding six_bytes
six_are component element mark release repetition terminator = refl

-- an advice is `UNA` and the six
pub advice_is : (c : Characters)
    → advice_of c
    ≡ 85 ∷ 78 ∷ 65 ∷ c.component ∷ c.element ∷ c.mark ∷ c.release ∷ c.repetition ∷ c.terminator ∷ []
unfolding advice_of spelled_out
advice_is c = refl

-- ---- line breaks

-- "Carriage returns and line feeds": the bytes 13 and 10
pub break_says : (b : ℕ) → Says (is_break b) ((b ≡ 13) ⊎ (b ≡ 10))
unfolding is_break member
break_says b =
    says_as
    (says_either (eqb b 13) (eqb b 10 || false) (says_eq b 13)
    (says_either (eqb b 10) false (says_eq b 10) (λ h. h, λ h. h)))
    (⊎_elim inl (⊎_elim inr (λ h. absurd (false≢true h))))
    (⊎_elim inl (λ h. inr (inl h)))

-- ".. are to be passed over, however many": up to the first other byte
pub breaks_are : (more : List ℕ)
    → (breaks [] ≡ 0)
    × (breaks (13 ∷ more) ≡ suc (breaks more))
    × (breaks (10 ∷ more) ≡ suc (breaks more))
    × ((b : ℕ) → (b ≡ 13 → ⊥) → (b ≡ 10 → ⊥) → breaks (b ∷ more) ≡ 0)
unfolding breaks is_break member
breaks_are more = (refl, refl, refl, λ b cr lf. rw (ne_eqb b 13 cr, ne_eqb b 10 lf))

-- ---- an input that begins with an advice

module _ (c : Characters) (rest : List ℕ) where
  abbrev pub advising : List ℕ
  advising = 85 ∷ 78 ∷ 65 ∷ c.component ∷ c.element ∷ c.mark ∷ c.release ∷ c.repetition ∷ c.terminator ∷ rest

  pub advised_opening : (characters_of advising ≡ c) × (body_start advising ≡ 9 + breaks rest) × (body advising ≡ drop (breaks rest) rest)
  unfolding characters_of advised begins six_bytes body_start body after_breaks
  advised_opening = (refl, refl, dropped (breaks rest))
    where
      dropped : (n : ℕ) → drop (9 + n) advising ≡ drop n rest
      dropped n = sym (drop-drop n 9 advising)

  -- 2 is met by six bytes that are not usable,
  pub advised_bad : Says (bad_advice advising) (Usable c → ⊥)
  unfolding bad_advice characters_of advised begins six_bytes
  advised_bad = rw (le-ltb (length advising) 9 (omega arith)) (says_not (usable c) (usable_says c))

  -- 3 where the body does not begin `UNB` and the element separator
  pub advised_opens : Says (opens advising) ((more : List ℕ) × (drop (breaks rest) rest ≡ 85 ∷ 78 ∷ 66 ∷ c.element ∷ more))
  unfolding opens characters_of advised begins six_bytes
  advised_opens =
      rw advised_opening.2 (says_begins (85 ∷ 78 ∷ 66 ∷ c.element ∷ []) (drop (breaks rest) rest))

-- "shorter than its 9 bytes"
pub short_bad : (rest : List ℕ) → length rest < 6 → bad_advice (85 ∷ 78 ∷ 65 ∷ rest) ≡ true
unfolding bad_advice advised begins
short_bad rest h = rw (lt-ltb (length (85 ∷ 78 ∷ 65 ∷ rest)) 9 (omega arith))

-- request 2026-10: "Input beginning `UNB+UNOA:4` or `UNB+UNOB:4`"
pub version4_says : (rest : List ℕ) → Says (begins_version4 (85 ∷ 78 ∷ 66 ∷ 43 ∷ rest)) (NamesVersion4 rest)
unfolding begins_version4 begins
version4_says rest =
    says_as
    (says_either (begins (text "UNOA:4") rest) (begins (text "UNOB:4") rest) (says_begins (text "UNOA:4") rest) (says_begins (text "UNOB:4") rest))
    (⊎_elim (λ h. (h.0, inl h.1)) (λ h. (h.0, inr h.1)))
    (λ h. ⊎_elim (λ e. inl (h.0, e)) (λ e. inr (h.0, e)) h.1)

-- such input begins `UNB+`
pub version4_plus : (s : List ℕ) → begins_version4 s ≡ true → (rest : List ℕ) × (s ≡ 85 ∷ 78 ∷ 66 ∷ 43 ∷ rest)
unfolding begins_version4
version4_plus s h =
    ⊎_elim (λ k. (text "UNOA:4" ++ k.0, k.1)) (λ k. (text "UNOB:4" ++ k.0, k.1))
    ((says_either (begins (text "UNB+UNOA:4") s) (begins (text "UNB+UNOB:4") s) (says_begins (text "UNB+UNOA:4") s)
    (says_begins (text "UNB+UNOB:4") s)).0 h)

-- "input that begins `UNB+` uses `:` `+` `.` `?` `'`"; where it names version 4, it "has `*`"
pub plus_opening : (rest : List ℕ)
    → let s : List ℕ = 85 ∷ 78 ∷ 66 ∷ 43 ∷ rest in
    ((NamesVersion4 rest → ⊥)
    → characters_of s ≡ record { component = 58; element = 43; mark = 46; release = 63; repetition = 32; terminator = 39 })
    × (NamesVersion4 rest → characters_of s ≡ record { component = 58; element = 43; mark = 46; release = 63; repetition = 42; terminator = 39 })
    × (body_start s ≡ 0)
    × (body s ≡ s)
unfolding characters_of advised begins plus_characters star_characters six_bytes body_start body
plus_opening rest = (
  λ n. rw ((fails (begins_version4 (85 ∷ 78 ∷ 66 ∷ 43 ∷ rest)) (version4_says rest)).1 n),
  λ h. rw ((version4_says rest).1 h),
  refl,
  refl,
)

-- "input that begins `UNB` and byte 29 uses 31, 29, `.`, no release, terminator 28", and no repetition separator
pub control_opening : (rest : List ℕ)
    → let s : List ℕ = 85 ∷ 78 ∷ 66 ∷ 29 ∷ rest in
    (characters_of s ≡ record { component = 31; element = 29; mark = 46; release = 32; repetition = 32; terminator = 28 })
    × (body_start s ≡ 0)
    × (body s ≡ s)
unfolding characters_of advised begins begins_version4 control_characters six_bytes body_start body
control_opening rest = (refl, refl, refl)

-- without an advice
module _ (s : List ℕ) (none : (rest : List ℕ) → s ≡ 85 ∷ 78 ∷ 65 ∷ rest → ⊥) where
  not_advised : advised s ≡ false
  unfolding advised
  not_advised = (fails (begins (text "UNA") s) (says_begins (text "UNA") s)).1 (λ h. none h.0 h.1)

  -- the body is the whole input, and 2 is not met
  pub plain_opening : (body_start s ≡ 0) × (body s ≡ s) × (bad_advice s ≡ false)
  unfolding body_start body bad_advice
  plain_opening = (rw not_advised, rw not_advised, rw not_advised)

  -- 3 is met by "neither beginning above"
  pub plain_opens : Says (opens s)
      (((rest : List ℕ) × (s ≡ 85 ∷ 78 ∷ 66 ∷ 43 ∷ rest)) ⊎ ((rest : List ℕ) × (s ≡ 85 ∷ 78 ∷ 66 ∷ 29 ∷ rest)))
  unfolding opens characters_of body_start body plus_characters star_characters control_characters six_bytes
  plain_opens =
      rw not_advised (step (begins_version4 s) (version4_plus s) (begins (text "UNB+") s) (says_begins (text "UNB+") s))
    where
      Plus : Type 0
      Plus = (rest : List ℕ) × (s ≡ 85 ∷ 78 ∷ 66 ∷ 43 ∷ rest)

      Control : Type 0
      Control = (rest : List ℕ) × (s ≡ 85 ∷ 78 ∷ 66 ∷ 29 ∷ rest)

      step : (v : Bool) → (v ≡ true → Plus) → (t : Bool) → Says t Plus
          → Says (begins (text "UNB" ++ (if v then star_characters else (if t then plus_characters else control_characters)).element ∷ []) s)
          (Plus ⊎ Control)
      step true v t p = (λ h. inl (v refl), λ h. (says_begins (text "UNB+") s).1 (v refl))
      step false v true p = (λ h. inl (p.0 refl), λ h. (says_begins (text "UNB+") s).1 (p.0 refl))
      step false v false p =
          says_as (says_begins (85 ∷ 78 ∷ 66 ∷ 29 ∷ []) s) inr (⊎_elim (λ h. absurd (false≢true (p.1 h))) (λ h. h))

-- ---- what part a byte plays

module _ (c : Characters) (u : Usable c) where
  pub terminator_role : role c c.terminator ≡ Separator 0
  unfolding role
  terminator_role = rw (eq-eqb c.terminator c.terminator refl)

  pub element_role : role c c.element ≡ Separator 1
  unfolding role
  element_role = rw (ne_eqb c.element c.terminator (λ e. u.8 (inl e)), eq-eqb c.element c.element refl)

  -- what is no repetition separator is not taken for one
  no_repetition : (b : ℕ) → (b ≡ c.repetition → ⊥) → (has_repetition c && eqb b c.repetition) ≡ false
  no_repetition b n = ap (λ (t : Bool). has_repetition c && t) (ne_eqb b c.repetition n) ∙ and-false (has_repetition c)

  pub repetition_role : (c.repetition ≡ 32 → ⊥) → role c c.repetition ≡ Separator 2
  unfolding role has_repetition
  repetition_role n =
      rw (
        ne_eqb c.repetition c.terminator (λ e. u.9 (inl (sym e))),
        ne_eqb c.repetition c.element (λ e. u.8 (inr (inl (sym e)))),
        ne_eqb c.repetition 32 n,
        eq-eqb c.repetition c.repetition refl,
      )

  pub component_role : role c c.component ≡ Separator 3
  unfolding role
  component_role =
      rw (
        ne_eqb c.component c.terminator (λ e. u.7 (inr (inl e))),
        ne_eqb c.component c.element (λ e. u.7 (inl e)),
        no_repetition c.component (λ e. u.7 (inr (inr (inl e)))),
        eq-eqb c.component c.component refl,
      )

  pub release_role : (c.release ≡ 32 → ⊥) → role c c.release ≡ Release
  unfolding role has_release
  release_role n =
      rw (
        ne_eqb c.release c.terminator (λ e. u.9 (inr (sym e))),
        ne_eqb c.release c.element (λ e. u.8 (inr (inr (sym e)))),
        no_repetition c.release (λ e. n (e ∙ u.10 (sym e))),
        ne_eqb c.release c.component (λ e. u.7 (inr (inr (inr (sym e))))),
        ne_eqb c.release 32 n,
        eq-eqb c.release c.release refl,
      )

-- every other byte plays none
pub plain_role : (c : Characters) (b : ℕ) → is_service c b ≡ false → role c b ≡ Plain
unfolding role has_release has_repetition
plain_role c b h =
    let none = (fails (is_service c b) (service_says c b)).0 h in
    rw (
      ne_eqb b c.terminator (λ e. none (inr (inr (inl e)))),
      ne_eqb b c.element (λ e. none (inr (inl e))),
      ne_eqb b c.component (λ e. none (inl e)),
      optional_none c.repetition (eqb c.repetition 32) (says_eq c.repetition 32) (λ n e. none (inr (inr (inr (inl (n, e)))))),
      optional_none c.release (eqb c.release 32) (says_eq c.release 32) (λ n e. none (inr (inr (inr (inr (n, e)))))),
    )
  where
    optional_none : (x : ℕ) (t : Bool) → Says t (x ≡ 32) → ((x ≡ 32 → ⊥) → b ≡ x → ⊥) → (not t && eqb b x) ≡ false
    optional_none x true s n = refl
    optional_none x false s n = ne_eqb b x (n ((fails false s).0 refl))

-- every service character plays one
pub service_role : (c : Characters) → Usable c → (b : ℕ) → is_service c b ≡ true
    → ((rank : ℕ) × (role c b ≡ Separator rank)) ⊎ (role c b ≡ Release)
service_role c u b h =
    ⊎_elim (λ e. inl (3, ap (role c) e ∙ component_role c u))
    (⊎_elim (λ e. inl (1, ap (role c) e ∙ element_role c u))
    (⊎_elim (λ e. inl (0, ap (role c) e ∙ terminator_role c u))
    (⊎_elim (λ e. inl (2, ap (role c) e.1 ∙ repetition_role c u e.0)) (λ e. inr (ap (role c) e.1 ∙ release_role c u e.0)))))
    ((service_says c b).0 h)
