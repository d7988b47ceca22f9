-- What Write refuses: 15, 2, 16, 1 and 14 as the paper's words have them, and then as Judge does. Assumes nothing.
use Prim.Native.Nat.{ℕ, ◌≤◌, ◌<◌}
use mathlib.Core.Path.{◌≡◌, refl, sym, ap, ap₂, subst, ◌∙◌}
use mathlib.Core.Bool.{Bool, ◌&&◌}
use mathlib.Core.Logic.{◌⊎◌, inl, inr, ⊎_elim, ◌↔◌}
use mathlib.Core.List.Memᴰ
use mathlib.Core.List.{List, [], ◌∷◌, ◌++◌, Memᴰ}
use mathlib.Core.Option.{Option, none, some}
use native.Mathlib.Omega.{arith}
use lib.Dec.{eqb, leb, ltb}
use borrow.Author.Tests.{leb-true}
use lib.ListN.{length, get_or}
use Rattle.lists.specs.Lists.{text, all}
use Rattle.lists.proofs.Texts.{and_left, and_right}
use Rattle.lists.proofs.Tests.{says_all, says_lt, decides}
use Rattle.characters.specs.declared.Characters.{Characters}
use Rattle.characters.specs.Characters.{usable, six_bytes}
use Rattle.characters.specs.Notions.{Usable}
use Rattle.characters.proofs.Words.{six_are}
use Rattle.refusals.specs.declared.Fault.TheVariants.{TooLong, UnusableAdvice, BufferShort, BadList, NeedsRelease}
use Rattle.refusals.specs.declared.Refusal.{Refusal}
use Rattle.refusals.specs.Refusals.{number, Stage, place_if, lowest}
use Rattle.refusals.proofs.Words.{place_says}
use Rattle.refusals.proofs.Stages.{met_none}
use Rattle.stages.specs.Places.{too_long, unusable_advice}
use Rattle.stages.specs.Stages.{later_stages}
use Rattle.stages.proofs.Words.{one_at}
use Rattle.answers.specs.Answers.{Answer, given, refused}
use Rattle.operations.specs.Judge.{short_for}
use Rattle.values.specs.Spelling.{spell}
use Rattle.operations.specs.ValueList.{listed_in, segments_listed, trim_list}
use Rattle.operations.specs.Write.{bad_list, unusable_bytes, needs_release, written_text, write_stages, write_refusal, write}
use Rattle.operations.specs.Notions.{Record, BadTable, BadRecord, LacksRelease}
use Rattle.operations.proofs.Words.{fifteen_at, six_says, two_at, sixteen_at, text_is}
use Rattle.operations.proofs.Cases.{write_given, write_refused}
use Rattle.paper_words.specs.PaperWords.{six, Service, Begins, Meets, WriteMeets, Answers, from3, answer}
use Rattle.paper_words.proofs.Answering.{Settled, settles_one, Lined, Told, answers_lined}
use Rattle.paper_words.proofs.Meanings.{meant, meets}
use Rattle.paper_words.proofs.Opening.{two_met}
use Rattle.paper_words.proofs.Judged.{later_lined}

-- ---- met alike

module _ {M N : ℕ → ℕ → Type 0} where
  -- where two things are met alike, what settles the one settles the other
  settled_alike : (numbers : List ℕ) (o : Option Refusal) → ((m q : ℕ) → Memᴰ m numbers → M m q ↔ N m q)
      → Settled M numbers o → Settled N numbers o
  settled_alike numbers none same h = λ m q k n. h m q k ((same m q k).1 n)
  settled_alike numbers (some r) same (own, h, least) =
      (own, (same (number r.fault) r.place own).0 h, λ m q k n. least m q k ((same m q k).1 n))

  lined_alike : (stages : List Stage) (numbers : List (List ℕ))
      → ((ns : List ℕ) → Memᴰ ns numbers → (m q : ℕ) → Memᴰ m ns → M m q ↔ N m q) → Lined M stages numbers → Lined N stages numbers
  lined_alike [] [] same l = tt
  lined_alike [] (ns ∷ numbers) same l = l
  lined_alike (stage ∷ stages) [] same l = l
  lined_alike (stage ∷ stages) (ns ∷ numbers) same (settled, on) = (
    settled_alike ns (lowest stage) (same ns (Memᴰ.head refl)) settled,
    λ e. lined_alike stages numbers (λ ms k. same ms (Memᴰ.tail k)) (on e),
  )

-- the numbers from 3 on lie from 3 to 13
from3_within : (ns : List ℕ) → Memᴰ ns from3 → (m : ℕ) → Memᴰ m ns → (3 ≤ m) × (m ≤ 13)
unfolding all
from3_within ns k m j =
    let within : ℕ → Bool = λ n. leb 3 n && leb n 13 in
    let each = (says_all within (λ n. (λ e. e, λ e. e)) ns).0
    ((says_all (all within) (λ l. (λ e. e, λ e. e)) from3).0 refl ns k) m j
    in
    (leb-true 3 m (and_left (leb 3 m) (leb m 13) each), leb-true m 13 (and_right (leb 3 m) (leb m 13) each))

-- a list without members
no_members : (ps : List ℕ) → ((p : ℕ) → Memᴰ p ps → ⊥) → ps ≡ []
no_members [] n = refl
no_members (p ∷ ps) n = absurd (n p (Memᴰ.head refl))

module _ (service bytes table output : List ℕ) where
  abbrev written : List ℕ
  written = written_text service bytes table

  abbrev Meeting : ℕ → ℕ → Type 0
  Meeting = WriteMeets service bytes table output

  -- ---- the cases, by number

  abbrev At15 : ℕ → Type 0
  At15 p = (BadTable table × (p ≡ 0)) ⊎ BadRecord bytes table p

  abbrev SixUsable : Type 0
  SixUsable = (c : Characters) × (service ≡ six c) × Usable c

  abbrev At16 : ℕ → Type 0
  At16 p = (c : Characters) × (service ≡ six c) × LacksRelease c bytes table p

  abbrev At14 : ℕ → Type 0
  At14 p = (length output < length written) × (p ≡ length written)

  abbrev Said : ℕ → ℕ → Type 0
  Said n p =
      ((n ≡ 15) × At15 p)
      ⊎ (((n ≡ 2) × ((SixUsable → ⊥) × (p ≡ 0))) ⊎ (((n ≡ 16) × At16 p) ⊎ (((n ≡ 14) × At14 p) ⊎ Meets written n p)))

  said : {n p : ℕ} → Meeting n p → Said n p
  said (WriteMeets.bad_table_lem h) = inl (refl, inl (h, refl))
  said (WriteMeets.bad_record p kind start size r h) = inl (refl, inr (kind, start, size, r, h))
  said (WriteMeets.bad_bytes n) = inr (inl (refl, (λ six. n six.0 six.1 six.2, refl)))
  said (WriteMeets.no_release c e space p kind start size b r m h) =
      inr (inr (inl (refl, (c, e, (kind, start, size, r, inl (space, (b, m, lacking h)))))))
    where
      lacking : Service c b
          → (b ≡ c.component) ⊎ (b ≡ c.element) ⊎ (b ≡ c.terminator) ⊎ ((c.repetition ≡ 32 → ⊥) × (b ≡ c.repetition))
      lacking =
          ⊎_elim inl (⊎_elim (λ k. inr (inl k))
          (⊎_elim (λ k. inr (inr (inl k))) (⊎_elim (λ k. inr (inr (inr k))) (λ k. absurd (k.0 space)))))
  said (WriteMeets.no_repetition c e space p start size r) = inr (inr (inl (refl, (c, e, (3, start, size, r, inr (refl, space))))))
  said (WriteMeets.too_short h) = inr (inr (inr (inl (refl, (h, refl)))))
  said (WriteMeets.as_judged n p h) = inr (inr (inr (inr h)))

  at_place : {n p q : ℕ} → p ≡ q → Meeting n q → Meeting n p
  at_place {n} e = subst (Meeting n) (sym e)

  -- the text begins with the six bytes
  begins_so : (c : Characters) → service ≡ six c → Begins (text "UNA" ++ six c) written
  begins_so c e = (
    spell c (trim_list (segments_listed (listed_in bytes table))),
    ap (λ (l : List ℕ). written_text l bytes table) e
        ∙ text_is c.component c.element c.mark c.release c.repetition c.terminator bytes table,
  )

  unusable_text : {p : ℕ} → Meets written 2 p → (SixUsable → ⊥) × (p ≡ 0)
  unusable_text h =
      let ((begins, unusable), p) = meant written UnusableAdvice h in (λ (c, e, u). unusable c (begins_so c e) u, p)

  -- ---- 15, 2, 16, 1 and 14

  fifteen_met : (p : ℕ) → Memᴰ p (bad_list bytes table) ↔ Meeting 15 p
  fifteen_met p =
      let exactly = fifteen_at bytes table p in (
        λ m.
            ⊎_elim (λ h. at_place h.1 (WriteMeets.bad_table_lem h.0))
            (λ (kind, start, size, r, h). WriteMeets.bad_record p kind start size r h)
            (exactly.0 m),
        λ k.
            ⊎_elim (λ h. exactly.1 h.1)
            (⊎_elim (λ h. absurd (omega arith))
            (⊎_elim (λ h. absurd (omega arith)) (⊎_elim (λ h. absurd (omega arith)) (λ h. absurd (meant written BadList h)))))
            (said k),
      )

  two_said : (p : ℕ) → Memᴰ p (unusable_bytes service) ↔ Meeting 2 p
  two_said p =
      let exactly = two_at service p in (
        λ m. let (n, e) = exactly.0 m in at_place e (WriteMeets.bad_bytes (λ c own u. n (c, own, u))),
        λ k.
            exactly.1
            (⊎_elim (λ h. absurd (omega arith))
            (⊎_elim (λ h. h.1) (⊎_elim (λ h. absurd (omega arith)) (⊎_elim (λ h. absurd (omega arith)) unusable_text))) (said k)),
      )

  module _ (c : Characters) (e : service ≡ six c) where
    six_bytes_lem : six_bytes service ≡ c
    six_bytes_lem = ap six_bytes e ∙ six_are c.component c.element c.mark c.release c.repetition c.terminator

    lacks : {p : ℕ} → LacksRelease c bytes table p → Meeting 16 p
    lacks {p} (kind, start, size, r, inl (space, (b, among, h))) =
        WriteMeets.no_release c e space p kind start size b r among
        (⊎_elim inl (⊎_elim (λ k. inr (inl k)) (⊎_elim (λ k. inr (inr (inl k))) (λ k. inr (inr (inr (inl k)))))) h)
    lacks {p} (kind, start, size, r, inr (k, space)) =
        WriteMeets.no_repetition c e space p start size (subst (λ (n : ℕ). Record table p n start size) k r)

    sixteen_met : (p : ℕ) → Memᴰ p (needs_release service bytes table) ↔ Meeting 16 p
    sixteen_met p =
        let exactly = sixteen_at service bytes table p in (
          λ m. lacks (subst (λ (d : Characters). LacksRelease d bytes table p) six_bytes_lem (exactly.0 m)),
          λ k.
              ⊎_elim (λ h. absurd (omega arith))
              (⊎_elim (λ h. absurd (omega arith))
              (⊎_elim
              (λ (n, (d, own, h)).
              let same : d ≡ six_bytes service =
              sym (ap six_bytes own ∙ six_are d.component d.element d.mark d.release d.repetition d.terminator)
              in
              exactly.1 (subst (λ (x : Characters). LacksRelease x bytes table p) same h))
              (⊎_elim (λ h. absurd (omega arith)) (λ h. absurd (meant written NeedsRelease h)))))
              (said k),
        )

  one_met : (p : ℕ) → Memᴰ p (too_long written) ↔ Meeting 1 p
  one_met p =
      let exactly = one_at written p in (
        λ m. WriteMeets.as_judged 1 p (meets written TooLong (exactly.0 m)),
        λ k.
            ⊎_elim (λ h. absurd (omega arith))
            (⊎_elim (λ h. absurd (omega arith))
            (⊎_elim (λ h. absurd (omega arith)) (⊎_elim (λ h. absurd (omega arith)) (λ h. exactly.1 (meant written TooLong h)))))
            (said k),
      )

  fourteen_met : (p : ℕ) → Memᴰ p (place_if (ltb (length output) (length written)) (length written)) ↔ Meeting 14 p
  fourteen_met p =
      let exactly = place_says (ltb (length output) (length written)) (length written) p (says_lt (length output) (length written)) in (
        λ m. let (h, e) = exactly.0 m in at_place e (WriteMeets.too_short h),
        λ k.
            ⊎_elim (λ h. absurd (omega arith))
            (⊎_elim (λ h. absurd (omega arith))
            (⊎_elim (λ h. absurd (omega arith)) (⊎_elim (λ h. exactly.1 h.1) (λ h. absurd (meant written BufferShort h)))))
            (said k),
      )

  -- ---- then as Judge

  judged_met : (m q : ℕ) → (3 ≤ m) × (m ≤ 13) → Meets written m q ↔ Meeting m q
  judged_met m q (low, high) = (
    WriteMeets.as_judged m q,
    λ k.
        ⊎_elim (λ h. absurd (omega (arith, h.0)))
        (⊎_elim (λ h. absurd (omega (arith, h.0)))
        (⊎_elim (λ h. absurd (omega (arith, h.0))) (⊎_elim (λ h. absurd (omega (arith, h.0))) (λ h. h))))
        (said k),
  )

  -- six usable bytes, where 2 is not met
  six_usable : unusable_bytes service ≡ [] → SixUsable
  six_usable e =
      ⊎_elim (λ h. h)
      (λ n. absurd (no_member ((two_at service 0).1 (n, refl))))
      (decides (eqb (length service) 6 && usable (six_bytes service)) (six_says service))
    where
      no_member : Memᴰ 0 (unusable_bytes service) → ⊥
      no_member m = Memᴰ.not-nil (subst (Memᴰ 0) e m)

  later : SixUsable → Lined Meeting (later_stages written) from3
  later (c, e, u) =
      lined_alike (later_stages written) from3 (λ ns k m q j. judged_met m q (from3_within ns k m j))
      (later_lined written
      (no_members (unusable_advice written) (λ p m. ((two_met written p).0 m).0.1 c (begins_so c e) u)))

  all_lined : Lined Meeting (write_stages service bytes table output) ((15 ∷ []) ∷ (2 ∷ []) ∷ (16 ∷ []) ∷ (1 ∷ []) ∷ (14 ∷ []) ∷ from3)
  unfolding write_stages short_for
  all_lined = (
    settles_one Meeting BadList (bad_list bytes table) fifteen_met,
    λ fifteen. (
      settles_one Meeting UnusableAdvice (unusable_bytes service) two_said,
      λ two.
          let six = six_usable ((met_none UnusableAdvice (unusable_bytes service)).0 two) in (
            settles_one Meeting NeedsRelease (needs_release service bytes table) (sixteen_met six.0 six.1),
            λ sixteen. (
              settles_one Meeting TooLong (too_long written) one_met,
              λ one. (
                settles_one Meeting BufferShort (place_if (ltb (length output) (length written)) (length written)) fourteen_met,
                λ fourteen. later six,
              ),
            ),
          ),
    ),
  )

  -- ---- the answer

  told : (n p : ℕ) → (n ≡ 0 → ⊥)
      → (write service bytes table output ≡ answer n (p ∷ [])) ↔ Told Meeting (write_stages service bytes table output) n p
  unfolding write_refusal given refused
  told n p Some-number = (
    λ e. there (write_refusal service bytes table output) refl e,
    λ (r, e, number_is, place_is).
        (write_refused service bytes table output e).0 ∙ ap₂ (λ (m q : ℕ). answer m (q ∷ [])) number_is place_is,
  )
    where
      there : (o : Option Refusal) → write_refusal service bytes table output ≡ o → write service bytes table output ≡ answer n (p ∷ [])
          → Told Meeting (write_stages service bytes table output) n p
      there none e h = absurd (Some-number (ap (λ (a : Answer). a.number) (sym h ∙ (write_given service bytes table output e).0)))
      there (some r) e h =
          let k : answer (number r.fault) (r.place ∷ []) ≡ answer n (p ∷ []) = sym (write_refused service bytes table output e).0 ∙ h in
          (r, e, ap (λ (a : Answer). a.number) k, ap (λ (a : Answer). get_or a.values 0 0) k)

  pub write_refuses : (n p : ℕ) → (n ≡ 0 → ⊥)
      → (write service bytes table output ≡ answer n (p ∷ []))
      ↔ Answers Meeting n p ((15 ∷ []) ∷ (2 ∷ []) ∷ (16 ∷ []) ∷ (1 ∷ []) ∷ (14 ∷ []) ∷ from3)
  write_refuses n p Some-number =
      let numbers : List (List ℕ) = (15 ∷ []) ∷ (2 ∷ []) ∷ (16 ∷ []) ∷ (1 ∷ []) ∷ (14 ∷ []) ∷ from3 in
      let lined = answers_lined Meeting n p (write_stages service bytes table output) numbers all_lined in
      let answers = told n p Some-number in
      (λ e. lined.0 (answers.0 e), λ a. answers.1 (lined.1 a))
