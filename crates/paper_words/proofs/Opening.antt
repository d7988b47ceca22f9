-- How an input opens: its advice and the line breaks behind it, and where 2 and 3 are met. Assumes nothing.
use Prim.Native.Nat.{ℕ, ◌+◌, ◌<◌}
use mathlib.Core.Path.{◌≡◌, refl, sym, ap, ap₂, subst, ◌∙◌}
use mathlib.Core.Logic.{◌⊎◌, inl, inr, ⊎_elim, ◌↔◌}
use mathlib.Core.List.Memᴰ
use mathlib.Core.List.{List, [], ◌∷◌, ◌++◌, nil≢cons, cons≢nil, head-eq_of_cons-eq, Memᴰ}
use native.Mathlib.Omega.{arith}
use lib.ListN.{length, drop}
use lib.Seq.{drop-append_seam}
use Rattle.lists.specs.Lists.{text, begins}
use Rattle.lists.proofs.Tests.{says_all, says_begins, fails, decides}
use Rattle.characters.specs.declared.Characters.{Characters}
use Rattle.characters.specs.Characters.{is_break, breaks, characters_of, body_start, body}
use Rattle.characters.specs.Notions.{Usable}
use Rattle.characters.proofs.Words.{break_says, advised_opening}
use Rattle.refusals.specs.declared.Fault.TheVariants.{UnusableAdvice, NoOpening}
use Rattle.values.specs.Tokens.{Token, separator, tokens}
use Rattle.values.specs.Spelling.{leads_break}
use Rattle.values.proofs.Steps.{tokens_passing}
use Rattle.values.proofs.Words.{read_separators, leads_says}
use Rattle.normal_form_laws.proofs.Openings.{breaks_before}
use Rattle.stages.specs.Places.{unusable_advice, no_opening}
use Rattle.stages.proofs.Words.{two_advised, two_short, two_plain, three_advised, three_plain}
use Rattle.paper_words.specs.PaperWords.{six, Begins, Gap}
use Rattle.paper_words.proofs.Meanings.{Meant}

-- ---- line breaks

module _ (gap rest : List ℕ) (passed : Gap gap rest) where
  -- as many stand in front as there are in the gap, and then comes the rest
  many : breaks (gap ++ rest) ≡ length gap
  many =
      breaks_before gap rest
      ((says_all is_break break_says gap).1 passed.0)
      ((fails (leads_break rest) (leads_says rest)).1 passed.1)

  follows : drop (breaks (gap ++ rest)) (gap ++ rest) ≡ rest
  follows = ap (λ (k : ℕ). drop k (gap ++ rest)) many ∙ drop-append_seam gap rest

  pub with_advice : (c : Characters)
      → let s : List ℕ = text "UNA" ++ six c ++ (gap ++ rest) in
      (characters_of s ≡ c) × (body_start s ≡ 9 + length gap) × (body s ≡ rest)
  with_advice c =
      let opening = advised_opening c (gap ++ rest) in
      (opening.0, opening.1 ∙ ap (λ (k : ℕ). 9 + k) many, opening.2 ∙ follows)

  pub after_terminator : (c : Characters) → Usable c → (place : ℕ)
      → tokens c place (c.terminator ∷ (gap ++ rest)) ≡ separator 0 place ∷ tokens c (place + 1 + length gap) rest
  after_terminator c u place =
      (read_separators c u place (gap ++ rest)).0
      ∙ ap (λ (ts : List Token). separator 0 place ∷ ts)
      (tokens_passing c (place + 1) (gap ++ rest)
      ∙ ap₂ (λ (k : ℕ) (bs : List ℕ). tokens c (place + 1 + k) bs) many follows)

  unopened : (c : Characters) (p : ℕ)
      → Memᴰ p (no_opening (text "UNA" ++ six c ++ (gap ++ rest)))
      ↔ ((Begins (text "UNB" ++ c.element ∷ []) rest → ⊥) × (p ≡ 9 + length gap))
  unopened c p =
      let bytes : List ℕ = gap ++ rest in
      let front : List ℕ = text "UNB" ++ c.element ∷ [] in
      let places : List ℕ = no_opening (text "UNA" ++ six c ++ bytes) in
      subst (λ (k : ℕ). Memᴰ p places ↔ ((Begins front rest → ⊥) × (p ≡ 9 + k))) many
      (subst (λ (bs : List ℕ). Memᴰ p places ↔ ((Begins front bs → ⊥) × (p ≡ 9 + breaks bytes))) follows
      (three_advised c bytes p))

-- all the breaks in front, and what follows them
abbrev Apart : List ℕ → Type 0
Apart bytes = (gap : List ℕ) × (rest : List ℕ) × (bytes ≡ gap ++ rest) × Gap gap rest

breaks_apart : (bytes : List ℕ) → Apart bytes
breaks_apart [] =
    ([], [], refl, (λ b m. absurd (Memᴰ.not-nil m), λ h. ⊎_elim (λ e. nil≢cons e) (λ e. nil≢cons e) h.1))
breaks_apart (b ∷ bs) = step (breaks_apart bs) (decides (is_break b) (break_says b))
  where
    step : Apart bs → ((b ≡ 13) ⊎ (b ≡ 10)) ⊎ ((b ≡ 13) ⊎ (b ≡ 10) → ⊥) → Apart (b ∷ bs)
    step (gap, rest, e, k) (inl h) = (
      b ∷ gap,
      rest,
      ap (λ (l : List ℕ). b ∷ l) e,
      (
        λ x m. ⊎_elim (λ q. ⊎_elim (λ y. inl (q ∙ y)) (λ y. inr (q ∙ y)) h) (k.0 x) (Memᴰ.cases_cons m),
        k.1,
      ),
    )
    step apart (inr n) = (
      [],
      b ∷ bs,
      refl,
      (
        λ x m. absurd (Memᴰ.not-nil m),
        λ h. n (⊎_elim (λ e. inl (head-eq_of_cons-eq e)) (λ e. inr (head-eq_of_cons-eq e)) h.1),
      ),
    )

-- ---- an advice

-- fewer than six bytes, or the six and what follows
six_apart : (bytes : List ℕ) → (length bytes < 6) ⊎ ((c : Characters) × (rest : List ℕ) × (bytes ≡ six c ++ rest))
six_apart [] = inl (omega arith)
six_apart (a ∷ []) = inl (omega arith)
six_apart (a ∷ b ∷ []) = inl (omega arith)
six_apart (a ∷ b ∷ c ∷ []) = inl (omega arith)
six_apart (a ∷ b ∷ c ∷ d ∷ []) = inl (omega arith)
six_apart (a ∷ b ∷ c ∷ d ∷ e ∷ []) = inl (omega arith)
six_apart (a ∷ b ∷ c ∷ d ∷ e ∷ f ∷ rest) =
    inr (record { component = a; element = b; mark = c; release = d; repetition = e; terminator = f }, rest, refl)

-- what an input begins with: no advice, one that is too short, or one of six bytes
data Beginning : List ℕ → Type 0 where
  plain : (s : List ℕ) → (Begins (text "UNA") s → ⊥) → Beginning s
  short : (rest : List ℕ) → length rest < 6 → Beginning (text "UNA" ++ rest)
  whole : (c : Characters) (rest : List ℕ) → Beginning (text "UNA" ++ six c ++ rest)

beginning : (s : List ℕ) → Beginning s
beginning s =
    ⊎_elim
    (λ (h : Begins (text "UNA") s).
    ⊎_elim
    (λ l. subst Beginning (sym h.1) (short h.0 l))
    (λ k. subst Beginning (sym (h.1 ∙ ap (λ (l : List ℕ). text "UNA" ++ l) k.2)) (whole k.0 k.1))
    (six_apart h.0))
    (plain s)
    (decides (begins (text "UNA") s) (says_begins (text "UNA") s))

-- ---- 2 and 3

pub two_met : (s : List ℕ) (p : ℕ) → Memᴰ p (unusable_advice s) ↔ Meant s UnusableAdvice p
two_met s p = by (beginning s)
  where
    by : {s : List ℕ} → Beginning s → Memᴰ p (unusable_advice s) ↔ Meant s UnusableAdvice p
    by (plain s n) =
        (λ m. absurd (Memᴰ.not-nil (subst (Memᴰ p) (two_plain s (λ rest e. n (rest, e))) m)), λ h. absurd (n h.0.0))
    by (short rest l) = (
      λ m. (
        (
          (rest, refl),
          λ c b u. let e : length (text "UNA" ++ rest) ≡ length (text "UNA" ++ six c ++ b.0) = ap length b.1 in omega arith,
        ),
        Memᴰ.eq_of_singleton (subst (Memᴰ p) (two_short rest l) m),
      ),
      λ h. subst (Memᴰ p) (sym (two_short rest l)) (Memᴰ.head h.1),
    )
    by (whole c rest) =
        let exactly = two_advised c rest p in
        let s : List ℕ = text "UNA" ++ six c ++ rest in (
          λ m. (
            (
              (six c ++ rest, refl),
              λ d b u.
                  let same : d ≡ c = sym (advised_opening d b.0).0 ∙ ap characters_of (sym b.1) ∙ (advised_opening c rest).0 in
                  (exactly.0 m).0 (subst Usable same u),
            ),
            (exactly.0 m).1,
          ),
          λ h. exactly.1 (h.0.1 c (rest, refl), h.1),
        )

-- where 2 is not met
pub three_met : (s : List ℕ) → unusable_advice s ≡ [] → (p : ℕ) → Memᴰ p (no_opening s) ↔ Meant s NoOpening p
three_met s clear p = (by (beginning s) clear, ⊎_elim advised unadvised)
  where
    by : {s : List ℕ} → Beginning s → unusable_advice s ≡ [] → Memᴰ p (no_opening s) → Meant s NoOpening p
    by (plain s n) clear m =
        let h = (three_plain s (λ rest e. n (rest, e)) p).0 m in inr (n, λ b. h.0 (inl b), λ b. h.0 (inr b), h.1)
    by (short rest l) clear m = absurd (cons≢nil (sym (two_short rest l) ∙ clear))
    by (whole c rest) clear m =
        let (gap, more, e, k) = breaks_apart rest in
        let s : List ℕ = text "UNA" ++ six c ++ rest in
        let own : s ≡ text "UNA" ++ six c ++ (gap ++ more) = ap (λ (l : List ℕ). text "UNA" ++ six c ++ l) e in
        let h = (unopened gap more k c p).0 (subst (λ (l : List ℕ). Memᴰ p (no_opening l)) own m) in
        inl (c, gap, more, k, own, h.0, h.1)

    advised : (c : Characters) × (gap : List ℕ) × (rest : List ℕ) × Gap gap rest × (s ≡ text "UNA" ++ six c ++ (gap ++ rest))
        × (Begins (text "UNB" ++ c.element ∷ []) rest → ⊥) × (p ≡ 9 + length gap) → Memᴰ p (no_opening s)
    advised (c, gap, rest, k, e, n, q) =
        subst (λ (l : List ℕ). Memᴰ p (no_opening l)) (sym e) ((unopened gap rest k c p).1 (n, q))

    unadvised : (Begins (text "UNA") s → ⊥) × (Begins (text "UNB+") s → ⊥) × (Begins (text "UNB" ++ 29 ∷ []) s → ⊥) × (p ≡ 0)
        → Memᴰ p (no_opening s)
    unadvised (a, b, d, q) = (three_plain s (λ rest e. a (rest, e)) p).1 (⊎_elim b d, q)
