-- What a file begins with decides how its first piece opens, whatever follows. Assumes nothing.
use Rattle.std.specs.Prelude.{if◌then◌else◌}
use Prim.Native.Nat.{ℕ, zero, suc, ◌+◌, ◌≤◌}
use mathlib.Core.Path.{◌≡◌, refl, sym, ap, ap₂, ◌∙◌}
use mathlib.Core.Bool.{Bool, true, false, not, ◌&&◌, ◌||◌, true≢false}
use mathlib.Core.List.{List, [], ◌∷◌, ◌++◌, append_assoc}
use mathlib.Core.Option.{none, some}
use native.Mathlib.Omega.{arith}
use lib.ListN.{length, drop, length-append}
use lib.Seq.{drop-append_seam}
use lib.Dec.{eqb}
use mathlib.Core.Logic.{◌↔◌, inl, inr}
use borrow.Author.Tests.{eqb-true, not-false}
use Rattle.lists.specs.Lists.{text, member, all, through, at, maybe, begins, all_differ}
use Rattle.lists.proofs.Tests.{fails}
use Rattle.lists.proofs.Texts.{and_left, and_right, or_none_left, or_none_right}
use Rattle.characters.specs.declared.Characters.{Characters}
use Rattle.characters.specs.declared.Role.{Role}
use Rattle.characters.specs.declared.Role.TheVariants.{Separator, Release, Plain}
use Rattle.characters.specs.Notions.{NamesVersion4}
use Rattle.characters.specs.Characters.{between, upper, lower, digit, separates, has_release, has_repetition, service_characters, is_service, usable, is_break, after_breaks, advice_of, spelled_out, six_bytes, advised, plus_characters, star_characters, begins_version4, control_characters, characters_of, body_start, body, bad_advice, opens, role}
use Rattle.characters.proofs.Words.{usable_says, version4_says, plus_opening, element_role, plain_role}
use Rattle.refusals.proofs.Stages.{place_none, place_none_not}
use Rattle.values.specs.Tokens.{Token, byte, separator, inside, unreleased, reading, tokens_from, tokens, ends, Segment, segments, tokens_at}
use Rattle.values.specs.Values.{end_place, ended_by}
use Rattle.values.specs.Spelling.{leads_break}
use Rattle.values.proofs.Steps.{ends_no}
use Rattle.stages.specs.Contents.{body_tokens, segments_of}
use Rattle.stages.specs.Places.{unusable_advice, no_opening}
use Rattle.normal_form_laws.proofs.Openings.{advice_characters, apart_start}
use Rattle.acceptance_laws.specs.Allowed.{WellOpened, advice, plus, control}
use Rattle.acceptance_laws.proofs.Opening.{opening_clear}
use Rattle.mailbox_files.specs.Pieces.{is_unopened, first_unz, unz_of, end_behind}
use Rattle.mailbox_files.proofs.Ends.{segment_at, ending_from_lem, ended_more, end_more}
use Rattle.mailbox_files.proofs.Walks.{whole_ended, unz_from, Found, here, on, found, unz_stands}

-- ---- 2 and 3

-- neither is met exactly where the input begins as an interchange does
pub opened_clear : (s : List ℕ) → (is_unopened s ≡ false) ↔ WellOpened s
unfolding is_unopened unusable_advice no_opening
opened_clear s = (
  λ h.
      (opening_clear s).0 (
        (place_none (bad_advice s) 0).1 (or_none_left (bad_advice s) (not (opens s)) h),
        (place_none_not (opens s) (body_start s)).1 (not-false (opens s) (or_none_right (bad_advice s) (not (opens s)) h)),
      ),
  λ w.
      let h = (opening_clear s).1 w in
      ap₂ (λ (a b : Bool). a || not b) ((place_none (bad_advice s) 0).0 h.0) ((place_none_not (opens s) (body_start s)).0 h.1),
)

-- `UNB` and the element separator, and what follows
abbrev pub unb : Characters → List ℕ → List ℕ
unb c more = 85 ∷ 78 ∷ 66 ∷ c.element ∷ more

-- a byte that ends no segment and releases none
abbrev quiet : Role → Bool
quiet (Separator zero) = false
quiet (Separator (suc rank)) = true
quiet Release = false
quiet Plain = true

-- the first segment does not end within such bytes
front_ends : (c : Characters) (n : ℕ) (front more : List ℕ) → all (λ b. quiet (role c b)) front ≡ true
    → let ts = tokens_from c inside n (front ++ more) in
    ended_by 0 (through (ends 0) ts) ≡ true → n + length front ≤ end_place (through (ends 0) ts)
unfolding all tokens_from unreleased reading ends
front_ends c n [] more q h = omega (arith, (ending_from_lem c false 0 n more h).stands)
front_ends c n (b ∷ bs) more q h =
    step (role c b) (and_left (quiet (role c b)) (all (λ x. quiet (role c x)) bs) q) h
    (front_ends c (n + 1) bs more (and_right (quiet (role c b)) (all (λ x. quiet (role c x)) bs) q))
  where
    rest : List Token
    rest = tokens_from c inside (n + 1) (bs ++ more)

    before : (t : Token) → ends 0 t ≡ false → ended_by 0 (through (ends 0) (t ∷ rest)) ≡ true
        → (ended_by 0 (through (ends 0) rest) ≡ true → n + 1 + length bs ≤ end_place (through (ends 0) rest))
        → n + suc (length bs) ≤ end_place (through (ends 0) (t ∷ rest))
    before t m k behind = omega (arith, end_more t rest m k, behind (ended_more t rest m k))

    step : (o : Role) → quiet o ≡ true
        → ended_by 0 (through (ends 0) (unreleased o b n (tokens_from c (reading o n) (n + 1) (bs ++ more)))) ≡ true
        → (ended_by 0 (through (ends 0) rest) ≡ true → n + 1 + length bs ≤ end_place (through (ends 0) rest))
        → n + suc (length bs) ≤ end_place (through (ends 0) (unreleased o b n (tokens_from c (reading o n) (n + 1) (bs ++ more))))
    step (Separator zero) f k behind = absurd (true≢false (sym f))
    step (Separator (suc rank)) f k behind = before (separator (suc rank) n) (ends_no 0 n {k = suc rank} (omega arith)) k behind
    step Release f k behind = absurd (true≢false (sym f))
    step Plain f k behind = before (byte b n n) refl k behind

-- nor does the UNZ that the walk finds
unz_front : (c : Characters) (s : List ℕ) (n : ℕ) (front more : List ℕ) → drop n s ≡ front ++ more → all (λ b. quiet (role c b)) front ≡ true
    → (g : Segment) → unz_from c s n ≡ some g → n + length front ≤ end_place g
unfolding tokens_at tokens end_behind after_breaks
unz_front c s n front more is q g h = step (found c s n g h)
  where
    first : ended_by 0 (segment_at c s n) ≡ true → n + length front ≤ end_place (segment_at c s n)
    first e =
        let same : segment_at c s n ≡ through (ends 0) (tokens_from c inside n (front ++ more)) = ap (λ (bs : List ℕ). through (ends 0) (tokens_from c inside n bs)) is in
        omega (arith, ap end_place same, front_ends c n front more q (sym (ap (ended_by 0) same) ∙ e))

    step : Found c s n g → n + length front ≤ end_place g
    step (here e w u) = omega (arith, ap end_place e, first (ap (ended_by 0) e ∙ whole_ended g w))
    step (on w u m) =
        omega (
          arith,
          first (whole_ended (segment_at c s n) w),
          (unz_stands c s (length s) (end_behind s (segment_at c s n)) g (omega arith) m).0,
        )

-- The file is what stands before the body, `UNB` and the element separator, and a rest; the first two decide, whatever follows, but for
-- the ten bytes that name version 4, and those hold no UNZ.
pub record Opening (s : List ℕ) : Type 0 where
  pub lead : List ℕ
  pub c : Characters
  pub rest : List ℕ
  pub is : s ≡ lead ++ unb c rest
  pub fit : usable c ≡ true
  pub characters : (more : List ℕ) → begins_version4 (lead ++ unb c more) ≡ begins_version4 s → characters_of (lead ++ unb c more) ≡ c
  pub start : (more : List ℕ) → body_start (lead ++ unb c more) ≡ length lead
  pub opened : (more : List ℕ) → is_unopened (lead ++ unb c more) ≡ false
  pub ten : (more : List ℕ) (g : Segment) → begins_version4 (lead ++ unb c more) ≡ true
      → unz_from c (lead ++ unb c more) (length lead) ≡ some g → 10 ≤ end_place g

-- the ten bytes, under characters of which none ends a segment or releases
ten_bytes : (c : Characters) → all (λ b. quiet (role c b)) (text "UNB+UNOA:4") ≡ true → all (λ b. quiet (role c b)) (text "UNB+UNOB:4") ≡ true
    → (more : List ℕ) (g : Segment) → begins_version4 (85 ∷ 78 ∷ 66 ∷ 43 ∷ more) ≡ true
    → unz_from c (85 ∷ 78 ∷ 66 ∷ 43 ∷ more) 0 ≡ some g → 10 ≤ end_place g
ten_bytes c a b more g v h = step ((version4_says more).0 v)
  where
    s : List ℕ
    s = 85 ∷ 78 ∷ 66 ∷ 43 ∷ more

    step : NamesVersion4 more → 10 ≤ end_place g
    step (rest, inl e) = unz_front c s 0 (text "UNB+UNOA:4") rest (ap (λ (m : List ℕ). text "UNB+" ++ m) e) a g h
    step (rest, inr e) = unz_front c s 0 (text "UNB+UNOB:4") rest (ap (λ (m : List ℕ). text "UNB+" ++ m) e) b g h

pub opening : (s : List ℕ) → is_unopened s ≡ false → Opening s
unfolding advice_of spelled_out all usable separates has_release has_repetition service_characters all_differ member between upper lower digit plus_characters star_characters control_characters begins_version4 six_bytes characters_of advised begins body_start leads_break at maybe is_break role
opening s h = by ((opened_clear s).0 h)
  where
    by : WellOpened s → Opening s
    by (advice c gap rest u only e) =
        let apart : (more : List ℕ) → (advice_of c ++ gap) ++ unb c more ≡ advice_of c ++ (gap ++ unb c more) =
        λ more. append_assoc (advice_of c) gap (unb c more) in
        record {
          lead = advice_of c ++ gap;
          c = c;
          rest = rest;
          is = e ∙ sym (apart rest);
          fit = u;
          characters = λ more v. ap characters_of (apart more) ∙ advice_characters c (gap ++ unb c more);
          start = λ more. ap body_start (apart more) ∙ apart_start c gap (unb c more) only refl ∙ sym (length-append (advice_of c) gap);
          opened = λ more. (opened_clear ((advice_of c ++ gap) ++ unb c more)).1 (advice c gap more u only (apart more));
          ten = λ more g v k. absurd (true≢false (sym v));
        }
    by (plus rest e) = version (begins_version4 s) refl
      where
        version : (b : Bool) → begins_version4 s ≡ b → Opening s
        version true v =
            record {
              lead = [];
              c = star_characters;
              rest = rest;
              is = e;
              fit = refl;
              characters = λ more w. (plus_opening more).1 ((version4_says more).0 (w ∙ v));
              start = λ more. refl;
              opened = λ more. (opened_clear (unb star_characters more)).1 (plus more refl);
              ten = ten_bytes star_characters refl refl;
            }
        version false v =
            record {
              lead = [];
              c = plus_characters;
              rest = rest;
              is = e;
              fit = refl;
              characters = λ more w. (plus_opening more).0 ((fails (begins_version4 (unb plus_characters more)) (version4_says more)).0 (w ∙ v));
              start = λ more. refl;
              opened = λ more. (opened_clear (unb plus_characters more)).1 (plus more refl);
              ten = ten_bytes plus_characters refl refl;
            }
    by (control rest e) =
        record {
          lead = [];
          c = control_characters;
          rest = rest;
          is = e;
          fit = refl;
          characters = λ more v. refl;
          start = λ more. refl;
          opened = λ more. (opened_clear (unb control_characters more)).1 (control more refl);
          ten = λ more g v k. absurd (true≢false (sym v));
        }

-- ---- the first segment

-- what is not one of them
not_member : (t : ℕ → Bool) (b : ℕ) (xs : List ℕ) → all t xs ≡ true → t b ≡ false → member b xs ≡ false
unfolding all member
not_member t b [] h n = refl
not_member t b (x ∷ xs) h n = step (eqb b x) refl (not_member t b xs (and_right (t x) (all t xs) h) n)
  where
    step : (e : Bool) → eqb b x ≡ e → member b xs ≡ false → (e || member b xs) ≡ false
    step true e k = absurd (true≢false (sym (and_left (t x) (all t xs) h) ∙ ap t (sym (eqb-true b x e)) ∙ n))
    step false e k = k

-- a byte that may be no separator is no service character
plain : (c : Characters) → usable c ≡ true → (b : ℕ) → separates b ≡ false → role c b ≡ Plain
unfolding is_service usable
plain c u b n =
    let mark : Bool = member c.mark (text ".,") in
    let each : Bool = all separates (service_characters c) in
    plain_role c b (not_member separates b (service_characters c) (and_right mark each (and_left (mark && each) (all_differ (c.mark ∷ service_characters c)) u)) n)

-- `UNB` and the element separator
unb_quiet : (c : Characters) → usable c ≡ true → all (λ b. quiet (role c b)) (unb c []) ≡ true
unfolding all separates between upper lower digit member
unb_quiet c u =
    rw (plain c u 85 refl, plain c u 78 refl, plain c u 66 refl, element_role c ((usable_says c).0 u))

-- ---- the UNZ of a file that opens

-- a file in which a UNZ is reached opens
pub unz_opens : (s : List ℕ) (g : Segment) → unz_of s ≡ some g → is_unopened s ≡ false
unfolding unz_of
unz_opens s g h = step (is_unopened s) h
  where
    step : (b : Bool) → (if b then none else first_unz (segments_of s)) ≡ some g → b ≡ false
    step true k = let z : ◌≡◌ {A = ℕ} 0 1 = cc in absurd (omega arith)
    step false k = refl

module _ {s : List ℕ} (o : Opening s) where
  -- the walk begins with the body, whatever follows the opening and names the same version
  pub unz_from_lem : (more : List ℕ)
      → let t : List ℕ = o.lead ++ unb o.c more in
      begins_version4 t ≡ begins_version4 s → unz_of t ≡ unz_from o.c t (length o.lead)
  unfolding unz_of segments_of body_tokens tokens_at body
  unz_from_lem more v =
      let t : List ℕ = o.lead ++ unb o.c more in
      ap (λ (b : Bool). if b then none else first_unz (segments_of t)) (o.opened more)
      ∙ ap₂ (λ (c : Characters) (n : ℕ). first_unz (segments (tokens_at c t n))) (o.characters more v) (o.start more)

  -- and the UNZ ends behind `UNB` and the element separator
  pub unz_behind : (g : Segment) → unz_from o.c s (length o.lead) ≡ some g → length o.lead + 4 ≤ end_place g
  unz_behind g h =
      unz_front o.c s (length o.lead) (unb o.c []) o.rest
      (ap (drop (length o.lead)) o.is ∙ drop-append_seam o.lead (unb o.c o.rest))
      (unb_quiet o.c o.fit)
      g
      h
