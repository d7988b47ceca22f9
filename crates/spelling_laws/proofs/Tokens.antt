-- The bytes of a body and its tokens, each from the other: releases and line breaks are settled here, and nothing is nested.
-- Assumes nothing.
use Rattle.std.specs.Prelude.{if◌then◌else◌}
use Prim.Native.Nat.{ℕ, zero, suc, ◌+◌, ◌-◌}
use mathlib.Core.Path.{◌≡◌, refl, sym, ap, ap₂, ◌∙◌, subst}
use mathlib.Core.Bool.{Bool, true, false, not, ◌&&◌, ◌||◌, false≢true, true≢false, or-true}
use mathlib.Core.List.{List, [], ◌∷◌, ◌++◌, map, append_assoc, append-nil, nil≢cons, tail-eq_of_cons-eq}
use native.Mathlib.Omega.{arith}
use lib.Dec.{leb}
use borrow.Author.Tests.{not-true}
use lib.ListN.{length, get_or, drop, length-append}
use Rattle.lists.specs.Lists.{at, maybe, all, those}
use Rattle.lists.proofs.Texts.{and_left, and_right, and_both, if_true, if_false}
use Rattle.characters.specs.declared.Characters.{Characters}
use Rattle.characters.specs.declared.Role.{Role}
use Rattle.characters.specs.declared.Role.TheVariants.{Separator, Release, Plain}
use Rattle.characters.specs.Characters.{role, has_release, is_service, usable, is_break}
use Rattle.values.specs.Tokens.{Token, byte, separator, fault, Reading, inside, passing, unreleased, reading, taken, tokens_from, tokens, ends, place_of}
use Rattle.values.specs.Values.{is_fault}
use Rattle.values.specs.Spelling.{Bytes, separator_of, spell_byte, leads_break}
use Rattle.values.proofs.Steps.{ends_yes, ends_no, tokens_role}
use Rattle.spelling_laws.proofs.Service.{serves, separable, Part, separates, releases, plain, part, service_serves, role_separator, role_release, service_no_break}

-- a token without its places
unfoldable pub placeless : Token → Token
placeless (byte b from place) = byte b 0 0
placeless (separator rank place) = separator rank 0
placeless (fault place) = fault 0

-- the token is a value's byte that is a line break
unfoldable pub breaking : Token → Bool
breaking (byte b from place) = is_break b
breaking (separator rank place) = false
breaking (fault place) = false

-- no token directly after a terminator is a line break; `after` says whether one stands directly before the first
unfoldable pub unbroken_from : Bool → List Token → Bool
unbroken_from after [] = true
unbroken_from after (t ∷ ts) = not (after && breaking t) && unbroken_from (ends 0 t) ts

-- where reading stands, directly after a terminator or not
abbrev pub reading_after : Bool → Reading
reading_after true = passing
reading_after false = inside

-- whether a terminator stands directly before what follows the tokens
unfoldable pub after_all : Bool → List Token → Bool
after_all after [] = after
after_all after (t ∷ ts) = after_all (ends 0 t) ts

-- ---- what does not go by places

pub ends_placeless : (rank : ℕ) (t : Token) → ends rank (placeless t) ≡ ends rank t
unfolding placeless ends
ends_placeless rank (byte b from place) = refl
ends_placeless rank (separator r place) = refl
ends_placeless rank (fault place) = refl

breaking_placeless : (t : Token) → breaking (placeless t) ≡ breaking t
unfolding placeless breaking
breaking_placeless (byte b from place) = refl
breaking_placeless (separator rank place) = refl
breaking_placeless (fault place) = refl

pub unbroken_placeless : (after : Bool) (ts : List Token) → unbroken_from after (map placeless ts) ≡ unbroken_from after ts
unfolding unbroken_from
unbroken_placeless after [] = refl
unbroken_placeless after (t ∷ ts) =
    ap₂ (λ (e b : Bool). not (after && b) && unbroken_from e (map placeless ts)) (ends_placeless 0 t) (breaking_placeless t)
    ∙ ap (λ (b : Bool). not (after && breaking t) && b) (unbroken_placeless (ends 0 t) ts)

-- how many terminators there are
pub ended_placeless : (ts : List Token) → length (those (ends 0) (map placeless ts)) ≡ length (those (ends 0) ts)
unfolding those
ended_placeless [] = refl
ended_placeless (t ∷ ts) = step (ends 0 (placeless t)) (ends 0 t) (ends_placeless 0 t) (ended_placeless ts)
  where
    step : (e f : Bool) → e ≡ f → length (those (ends 0) (map placeless ts)) ≡ length (those (ends 0) ts)
        → length (if e then placeless t ∷ those (ends 0) (map placeless ts) else those (ends 0) (map placeless ts))
        ≡ length (if f then t ∷ those (ends 0) ts else those (ends 0) ts)
    step true true e h = ap suc h
    step true false e h = absurd (true≢false e)
    step false true e h = absurd (false≢true e)
    step false false e h = h

-- what no terminator ends is what a terminator would have ended before
pub unbroken_inside : (ts : List Token) → unbroken_from true ts ≡ true → unbroken_from false ts ≡ true
unfolding unbroken_from
unbroken_inside [] h = refl
unbroken_inside (t ∷ ts) h = and_right (not (breaking t)) (unbroken_from (ends 0 t) ts) h

module _ (c : Characters) where
  -- the byte can stand in a value: where there is no release character, it is no service character
  abbrev pub spellable : ℕ → Bool
  spellable b = has_release c || not (is_service c b)

  -- how a token is spelled
  unfoldable pub spell_token : Token → Bytes
  spell_token (byte b from place) = spell_byte c b
  spell_token (separator rank place) = separator_of c (3 - rank) ∷ []
  spell_token (fault place) = []

  -- the tokens spelled, with bytes after each terminator, of which there may be fewer, and then none follow
  unfoldable pub spell_tokens : List Token → List Bytes → Bytes
  spell_tokens [] between = []
  spell_tokens (t ∷ ts) between =
      spell_token t ++ (if ends 0 t then get_or between 0 [] ++ spell_tokens ts (drop 1 between) else spell_tokens ts between)

  -- the token is spelled: it is a byte that can stand in a value, or a separator
  unfoldable pub sayable : Token → Bool
  sayable (byte b from place) = spellable b
  sayable (separator rank place) = separable c rank
  sayable (fault place) = false

  -- none of them goes by places
  pub spelled_alone : (t : Token) → spell_token (placeless t) ≡ spell_token t
  unfolding placeless spell_token
  spelled_alone (byte b from place) = refl
  spelled_alone (separator rank place) = refl
  spelled_alone (fault place) = refl

  pub spelled_placeless : (ts : List Token) (between : List Bytes) → spell_tokens (map placeless ts) between ≡ spell_tokens ts between
  unfolding spell_tokens
  spelled_placeless [] between = refl
  spelled_placeless (t ∷ ts) between =
      ap₂
      (λ (bs : Bytes) (e : Bool).
      bs
      ++ (if e then get_or between 0 [] ++ spell_tokens (map placeless ts) (drop 1 between) else spell_tokens (map placeless ts) between))
      (spelled_alone t)
      (ends_placeless 0 t)
      ∙ ap₂ (λ (xs ys : Bytes). spell_token t ++ (if ends 0 t then get_or between 0 [] ++ xs else ys))
      (spelled_placeless ts (drop 1 between))
      (spelled_placeless ts between)

  pub said_placeless : (ts : List Token) → all sayable (map placeless ts) ≡ all sayable ts
  unfolding all sayable placeless
  said_placeless [] = refl
  said_placeless (byte b from place ∷ ts) = ap (λ (t : Bool). spellable b && t) (said_placeless ts)
  said_placeless (separator rank place ∷ ts) = ap (λ (t : Bool). separable c rank && t) (said_placeless ts)
  said_placeless (fault place ∷ ts) = refl

  -- The token stands at the place, directly after a terminator or not: its spelling there is read as it, and what follows as if that stood
  -- alone.
  pub record Stands (after : Bool) (p : ℕ) (t : Token) : Type 0 where
    pub said : sayable t ≡ true
    pub placed : place_of t ≡ p
    pub starts : (after && breaking t) ≡ false
    pub reads : (more : Bytes)
        → tokens_from c (reading_after after) p (spell_token t ++ more) ≡ t ∷ tokens_from c (reading_after (ends 0 t)) (p + length (spell_token t)) more

  -- tokens that stand one after the other from a place on, and the body that they spell, with the line breaks that stand in it
  pub data Lexed : Bool → ℕ → Bytes → List Token → Type 0 where
    nothing : {after : Bool} {p : ℕ} → Lexed after p [] []
    passed : {p b : ℕ} {rest : Bytes} {ts : List Token} → is_break b ≡ true → Lexed true (p + 1) rest ts → Lexed true p (b ∷ rest) ts
    next : {after : Bool} {p : ℕ} {t : Token} {rest : Bytes} {ts : List Token} → Stands after p t
        → Lexed (ends 0 t) (p + length (spell_token t)) rest ts → Lexed after p (spell_token t ++ rest) (t ∷ ts)

  -- such a body is read as they are, whatever follows it
  pub lexed_tokens : {after : Bool} {p : ℕ} {body : Bytes} {ts : List Token} → Lexed after p body ts → (more : Bytes)
      → tokens_from c (reading_after after) p (body ++ more) ≡ ts ++ tokens_from c (reading_after (after_all after ts)) (p + length body) more
  unfolding tokens_from after_all
  lexed_tokens {after} nothing more = ap (λ (n : ℕ). tokens_from c (reading_after after) n more) (omega arith)
  lexed_tokens (passed {p} {b} {rest} {ts} h l) more =
      if_true (is_break b) (tokens_from c passing (p + 1) (rest ++ more))
      (unreleased (role c b) b p (tokens_from c (reading (role c b) p) (p + 1) (rest ++ more))) h
      ∙ lexed_tokens l more
      ∙ ap (λ (n : ℕ). ts ++ tokens_from c (reading_after (after_all true ts)) n more) (omega arith)
  lexed_tokens (next {after} {p} {t} {rest} {ts} s l) more =
      ap (tokens_from c (reading_after after) p) (append_assoc (spell_token t) rest more)
      ∙ s.reads (rest ++ more)
      ∙ ap (λ (us : List Token). t ∷ us)
      (lexed_tokens l more
      ∙ ap (λ (n : ℕ). ts ++ tokens_from c (reading_after (after_all (ends 0 t) ts)) n more) (omega (arith, length-append (spell_token t) rest)))

  -- nothing is left of nothing
  read_nothing : (after : Bool) (p : ℕ) → tokens_from c (reading_after after) p [] ≡ []
  unfolding tokens_from
  read_nothing true p = refl
  read_nothing false p = refl

  pub lexed_alone : {after : Bool} {p : ℕ} {body : Bytes} {ts : List Token} → Lexed after p body ts → tokens_from c (reading_after after) p body ≡ ts
  lexed_alone {after} {p} {body} {ts} l =
      ap (tokens_from c (reading_after after) p) (sym (append-nil body))
      ∙ lexed_tokens l []
      ∙ ap (λ (us : List Token). ts ++ us) (read_nothing (after_all after ts) (p + length body))
      ∙ append-nil ts

  pub lexed_said : {after : Bool} {p : ℕ} {body : Bytes} {ts : List Token} → Lexed after p body ts → all sayable ts ≡ true
  unfolding all
  lexed_said nothing = refl
  lexed_said (passed h l) = lexed_said l
  lexed_said (next {t = t} {ts = ts} s l) = and_both (sayable t) (all sayable ts) s.said (lexed_said l)

  -- no token directly after a terminator is a break
  pub lexed_unbroken : {after : Bool} {p : ℕ} {body : Bytes} {ts : List Token} → Lexed after p body ts → unbroken_from after ts ≡ true
  unfolding unbroken_from
  lexed_unbroken nothing = refl
  lexed_unbroken (passed h l) = lexed_unbroken l
  lexed_unbroken (next {after} {t = t} {ts = ts} s l) =
      and_both (not (after && breaking t)) (unbroken_from (ends 0 t) ts) (ap not s.starts) (lexed_unbroken l)

  -- ---- the breaks that stand in a body

  -- breaks in front, only directly after a terminator, and the tokens spelled with breaks after each terminator
  pub record Apart (after : Bool) (body : Bytes) (ts : List Token) : Type 0 where
    pub front : Bytes
    pub between : List Bytes
    pub front_none : after ≡ false → front ≡ []
    pub front_breaks : all is_break front ≡ true
    pub only_breaks : all (all is_break) between ≡ true
    pub each : length between ≡ length (those (ends 0) ts)
    pub spelled : front ++ spell_tokens ts between ≡ body

  pub lexed_apart : {after : Bool} {p : ℕ} {body : Bytes} {ts : List Token} → Lexed after p body ts → Apart after body ts
  unfolding all those spell_tokens
  lexed_apart nothing = record {
    front = [];
    between = [];
    front_none = λ e. refl;
    front_breaks = refl;
    only_breaks = refl;
    each = refl;
    spelled = refl;
  }
  lexed_apart (passed {b = b} h l) =
      let a = lexed_apart l in
      record {
        front = b ∷ a.front;
        between = a.between;
        front_none = λ e. absurd (true≢false e);
        front_breaks = and_both (is_break b) (all is_break a.front) h a.front_breaks;
        only_breaks = a.only_breaks;
        each = a.each;
        spelled = ap (λ (bs : Bytes). b ∷ bs) a.spelled;
      }
  lexed_apart (next {after} {t = t} {rest} {ts} s l) = step (ends 0 t) refl (lexed_apart l)
    where
      step : (e : Bool) → ends 0 t ≡ e → Apart e rest ts → Apart after (spell_token t ++ rest) (t ∷ ts)
      step true h a = record {
        front = [];
        between = a.front ∷ a.between;
        front_none = λ e. refl;
        front_breaks = refl;
        only_breaks = and_both (all is_break a.front) (all (all is_break) a.between) a.front_breaks a.only_breaks;
        each = ap suc a.each ∙ sym (ap length (if_true (ends 0 t) (t ∷ those (ends 0) ts) (those (ends 0) ts) h));
        spelled =
            ap (λ (bs : Bytes). spell_token t ++ bs)
            (if_true (ends 0 t) (a.front ++ spell_tokens ts a.between) (spell_tokens ts (a.front ∷ a.between)) h ∙ a.spelled);
      }
      step false h a = record {
        front = [];
        between = a.between;
        front_none = λ e. refl;
        front_breaks = refl;
        only_breaks = a.only_breaks;
        each = a.each ∙ sym (ap length (if_false (ends 0 t) (t ∷ those (ends 0) ts) (those (ends 0) ts) h));
        spelled =
            ap (λ (bs : Bytes). spell_token t ++ bs)
            (if_false (ends 0 t) (get_or a.between 0 [] ++ spell_tokens ts (drop 1 a.between)) (spell_tokens ts a.between) h
            ∙ sym (ap (λ (front : Bytes). front ++ spell_tokens ts a.between) (a.front_none refl))
            ∙ a.spelled);
      }

  -- what is spelled is no fault
  pub said_faultless : (ts : List Token) → all sayable ts ≡ true → all (λ t. not (is_fault t)) ts ≡ true
  unfolding all sayable is_fault
  said_faultless [] h = refl
  said_faultless (byte b from place ∷ ts) h = said_faultless ts (and_right (spellable b) (all sayable ts) h)
  said_faultless (separator rank place ∷ ts) h = said_faultless ts (and_right (separable c rank) (all sayable ts) h)
  said_faultless (fault place ∷ ts) h = absurd (false≢true h)

module _ (c : Characters) (u : usable c ≡ true) where
  -- ---- where a token stands

  -- what a spelled token begins with is a break exactly where the token is one
  pub leads_token : (t : Token) → sayable c t ≡ true → (more : Bytes) → leads_break (spell_token c t ++ more) ≡ breaking t
  unfolding leads_break at maybe spell_token spell_byte sayable breaking
  leads_token (fault place) h more = absurd (false≢true h)
  leads_token (separator rank place) h more =
      service_no_break c u (separator_of c (3 - rank))
      (service_serves c (separator_of c (3 - rank)) ∙ ap serves (role_separator c u rank h))
  leads_token (byte b from place) h more = step (is_service c b) refl (has_release c) refl h
    where
      step : (i : Bool) → is_service c b ≡ i → (r : Bool) → has_release c ≡ r → (r || not i) ≡ true
          → leads_break ((if i then c.release ∷ b ∷ [] else b ∷ []) ++ more) ≡ is_break b
      step true i true r k =
          service_no_break c u c.release (service_serves c c.release ∙ ap serves (role_release c u r))
          ∙ sym (service_no_break c u b i)
      step true i false r k = absurd (false≢true k)
      step false i r e k = refl

  -- where no break follows, reading goes on in the same way directly after a terminator and elsewhere
  pub passing_inside : (after : Bool) (p : ℕ) (bs : Bytes) → leads_break bs ≡ false → tokens_from c (reading_after after) p bs ≡ tokens c p bs
  unfolding tokens tokens_from leads_break at maybe
  passing_inside false p bs h = refl
  passing_inside true p [] h = refl
  passing_inside true p (b ∷ bs) h =
      if_false (is_break b) (tokens_from c passing (p + 1) bs) (unreleased (role c b) b p (tokens_from c (reading (role c b) p) (p + 1) bs)) h

  -- so a token that is no break stands directly after a terminator as it stands elsewhere
  stands_after : (after : Bool) (p : ℕ) (t : Token) → Stands c false p t → (after && breaking t) ≡ false → Stands c after p t
  unfolding tokens
  stands_after false p t s h = s
  stands_after true p t s h = record {
    said = s.said;
    placed = s.placed;
    starts = h;
    reads = λ more. passing_inside true p (spell_token c t ++ more) (leads_token t s.said more ∙ h) ∙ s.reads more;
  }

  -- after a terminator reading passes over breaks, and after any other separator it does not
  after_separator_lem : (rank p : ℕ) → reading (Separator rank) p ≡ reading_after (ends 0 (separator rank p))
  unfolding reading
  after_separator_lem zero p = ap reading_after (sym (ends_yes 0 p (omega arith)))
  after_separator_lem (suc rank) p = ap reading_after (sym (ends_no 0 p (omega arith)))

  stands_separator : (p rank : ℕ) → separable c rank ≡ true → Stands c false p (separator rank p)
  unfolding tokens unreleased spell_token sayable place_of
  stands_separator p rank h = record {
    said = h;
    placed = refl;
    starts = refl;
    reads = λ more.
        tokens_role c p (separator_of c (3 - rank)) more (Separator rank) (role_separator c u rank h)
        ∙ ap (λ (r : Reading). separator rank p ∷ tokens_from c r (p + 1) more) (after_separator_lem rank p);
  }

  -- a byte that is spelled so
  stands_byte : (p b place : ℕ) (spelling : Bytes) → spell_byte c b ≡ spelling → spellable c b ≡ true
      → ((more : Bytes) → tokens c p (spelling ++ more) ≡ byte b p place ∷ tokens c (p + length spelling) more) → Stands c false p (byte b p place)
  unfolding tokens spell_token sayable place_of ends
  stands_byte p b place spelling e k h = record { said = k; placed = refl; starts = refl; reads = rw e h }

  stands_plain : (p b : ℕ) → role c b ≡ Plain → Stands c false p (byte b p p)
  unfolding spell_byte tokens unreleased reading
  stands_plain p b r =
      let k : is_service c b ≡ false = service_serves c b ∙ ap serves r in
      stands_byte p b p (b ∷ []) (if_false (is_service c b) (c.release ∷ b ∷ []) (b ∷ []) k)
      (ap (λ (i : Bool). has_release c || not i) k ∙ or-true (has_release c))
      (λ more. tokens_role c p b more Plain r)

  stands_released : (p b : ℕ) → has_release c ≡ true → serves (role c b) ≡ true → Stands c false p (byte b p (p + 1))
  unfolding spell_byte tokens tokens_from unreleased reading taken
  stands_released p b r h =
      stands_byte p b (p + 1) (c.release ∷ b ∷ []) (if_true (is_service c b) (c.release ∷ b ∷ []) (b ∷ []) (service_serves c b ∙ h))
      (ap (λ (i : Bool). i || not (is_service c b)) r)
      (λ more.
      tokens_role c p c.release (b ∷ more) Release (role_release c u r)
      ∙ after (role c b) h more
      ∙ ap (λ (n : ℕ). byte b p (p + 1) ∷ tokens_from c inside n more) (omega arith))
    where
      after : (o : Role) → serves o ≡ true → (more : Bytes)
          → taken o b p (p + 1) (tokens_from c inside (p + 1 + 1) more) ≡ byte b p (p + 1) ∷ tokens_from c inside (p + 1 + 1) more
      after (Separator rank) k more = refl
      after Release k more = refl
      after Plain k more = absurd (false≢true k)

  -- ---- what is spelled is read

  -- a byte that can stand in a value stands at any place inside a segment
  pub byte_stands : (p b : ℕ) → spellable c b ≡ true → (place : ℕ) × Stands c false p (byte b p place)
  byte_stands p b h = step (role c b) refl (has_release c) refl (sym (ap (λ (s : Bool). has_release c || not s) (service_serves c b)) ∙ h)
    where
      served : (r : Bool) → has_release c ≡ r → serves (role c b) ≡ true → (r || false) ≡ true → (place : ℕ) × Stands c false p (byte b p place)
      served true f i k = (p + 1, stands_released p b f i)
      served false f i k = absurd (false≢true k)

      step : (o : Role) → role c b ≡ o → (r : Bool) → has_release c ≡ r → (r || not (serves o)) ≡ true
          → (place : ℕ) × Stands c false p (byte b p place)
      step Plain e r f k = (p, stands_plain p b e)
      step Release e r f k = served r f (ap serves e) k
      step (Separator rank) e r f k = served r f (ap serves e) k

  -- and so does each token that is spelled, with places of its own
  stands_inside : (p : ℕ) (t : Token) → sayable c t ≡ true → (s : Token) × Stands c false p s × (placeless s ≡ placeless t)
  unfolding placeless sayable
  stands_inside p (fault place) h = absurd (false≢true h)
  stands_inside p (separator rank place) h = (separator rank p, stands_separator p rank h, refl)
  stands_inside p (byte b from place) h = let s = byte_stands p b h in (byte b p s.0, s.1, refl)

  -- the body is that of these tokens, with places of their own
  pub record Standing (after : Bool) (p : ℕ) (body : Bytes) (ts : List Token) : Type 0 where
    pub own : List Token
    pub lexed : Lexed c after p body own
    pub alike : map placeless own ≡ map placeless ts

  -- one token, and the others
  one_more : (after : Bool) (p : ℕ) (t : Token) (s : Token) → Stands c false p s → placeless s ≡ placeless t → (after && breaking t) ≡ false
      → (rest : Bytes) (ts : List Token) → Standing (ends 0 t) (p + length (spell_token c s)) rest ts
      → Standing after p (spell_token c t ++ rest) (t ∷ ts)
  one_more after p t s st e n rest ts more =
      let same : spell_token c s ≡ spell_token c t = sym (spelled_alone c s) ∙ ap (spell_token c) e ∙ spelled_alone c t in
      let ended : ends 0 t ≡ ends 0 s = sym (ends_placeless 0 t) ∙ ap (ends 0) (sym e) ∙ ends_placeless 0 s in
      let broken : breaking s ≡ breaking t = sym (breaking_placeless s) ∙ ap breaking e ∙ breaking_placeless t in
      record {
        own = s ∷ more.own;
        lexed =
            subst (λ (bs : Bytes). Lexed c after p (bs ++ rest) (s ∷ more.own)) same
            (next (stands_after after p s st (ap (λ (b : Bool). after && b) broken ∙ n))
            (subst (λ (a : Bool). Lexed c a (p + length (spell_token c s)) rest more.own) ended more.lexed));
        alike = ap₂ ◌∷◌ e more.alike;
      }

  -- breaks in front
  breaks_more : (gap : Bytes) → all is_break gap ≡ true → (p : ℕ) (rest : Bytes) (ts : List Token) → Standing true (p + length gap) rest ts
      → Standing true p (gap ++ rest) ts
  unfolding all
  breaks_more [] h p rest ts more = subst (λ (n : ℕ). Standing true n rest ts) (omega arith) more
  breaks_more (b ∷ gap) h p rest ts more =
      let others = breaks_more gap (and_right (is_break b) (all is_break gap) h) (p + 1) rest ts
      (subst (λ (n : ℕ). Standing true n rest ts) (omega arith) more)
      in
      record {
        own = others.own;
        lexed = passed (and_left (is_break b) (all is_break gap) h) others.lexed;
        alike = others.alike;
      }

  -- tokens that are spelled, none of which is a break directly after a terminator, with breaks after terminators
  pub spelled_lexed : (after : Bool) (p : ℕ) (ts : List Token) (between : List Bytes) → all (sayable c) ts ≡ true
      → unbroken_from after ts ≡ true → all (all is_break) between ≡ true → Standing after p (spell_tokens c ts between) ts
  unfolding spell_tokens all unbroken_from
  spelled_lexed after p [] between h n o = record { own = []; lexed = nothing; alike = refl }
  spelled_lexed after p (t ∷ ts) between h n o =
      let s = stands_inside p t (and_left (sayable c t) (all (sayable c) ts) h) in
      let first : Bool = not (after && breaking t) in
      one_more after p t s.0 s.1 s.2 (not-true (after && breaking t) (and_left first (unbroken_from (ends 0 t) ts) n))
      (if ends 0 t then get_or between 0 [] ++ spell_tokens c ts (drop 1 between) else spell_tokens c ts between)
      ts
      (step (ends 0 t) (p + length (spell_token c s.0)) between o
      (λ q rest k.
      spelled_lexed (ends 0 t) q ts rest (and_right (sayable c t) (all (sayable c) ts) h) (and_right first (unbroken_from (ends 0 t) ts) n) k))
    where
      step : (e : Bool) (q : ℕ) (between : List Bytes) → all (all is_break) between ≡ true
          → ((q : ℕ) (rest : List Bytes) → all (all is_break) rest ≡ true → Standing e q (spell_tokens c ts rest) ts)
          → Standing e q (if e then get_or between 0 [] ++ spell_tokens c ts (drop 1 between) else spell_tokens c ts between) ts
      step true q [] o more = more q [] o
      step true q (gap ∷ between) o more =
          breaks_more gap (and_left (all is_break gap) (all (all is_break) between) o) q (spell_tokens c ts between) ts
          (more (q + length gap) between (and_right (all is_break gap) (all (all is_break) between) o))
      step false q between o more = more q between o

  -- what they spell does not begin with a break, if none is allowed in front of them
  pub spelled_leads : (ts : List Token) (between : List Bytes) → all (sayable c) ts ≡ true → unbroken_from true ts ≡ true
      → leads_break (spell_tokens c ts between) ≡ false
  unfolding spell_tokens all unbroken_from leads_break at maybe
  spelled_leads [] between h n = refl
  spelled_leads (t ∷ ts) between h n =
      leads_token t (and_left (sayable c t) (all (sayable c) ts) h)
      (if ends 0 t then get_or between 0 [] ++ spell_tokens c ts (drop 1 between) else spell_tokens c ts between)
      ∙ not-true (breaking t) (and_left (not (breaking t)) (unbroken_from (ends 0 t) ts) n)

  -- ---- what is read without a fault is spelled

  abbrev Faultless : List Token → Type 0
  Faultless ts = all (λ t. not (is_fault t)) ts ≡ true

  -- the body from a place on is what its tokens spell, where none of them is a fault
  abbrev Read : Bool → ℕ → Bytes → Type 0
  Read after p bs =
      Faultless (tokens_from c (reading_after after) p bs) → Lexed c after p bs (tokens_from c (reading_after after) p bs)

  -- one token, and the others
  onward : (p : ℕ) (t : Token) (rest : Bytes) → Stands c false p t → Read (ends 0 t) (p + length (spell_token c t)) rest
      → Read false p (spell_token c t ++ rest)
  unfolding all
  onward p t rest s more h =
      let others : Bool = all (λ u. not (is_fault u)) (tokens_from c (reading_after (ends 0 t)) (p + length (spell_token c t)) rest) in
      rw (s.reads rest) (next s (more (and_right (not (is_fault t)) others (rw (s.reads rest) at h))))

  -- a release character, which takes a service character with it
  after_release_lem : (p : ℕ) (bs : Bytes) → has_release c ≡ true → ((b : ℕ) (rest : Bytes) → bs ≡ b ∷ rest → Read false (p + 2) rest)
      → Read false p (c.release ∷ bs)
  unfolding tokens tokens_from unreleased reading taken all is_fault spell_token spell_byte ends
  after_release_lem p [] r more h = absurd (false≢true (rw (tokens_role c p c.release [] Release (role_release c u r)) at h))
  after_release_lem p (b ∷ bs) r more h = step (role c b) refl (rw (tokens_role c p c.release (b ∷ bs) Release (role_release c u r)) at h)
    where
      served : serves (role c b) ≡ true → Lexed c false p (c.release ∷ b ∷ bs) (tokens c p (c.release ∷ b ∷ bs))
      served i =
          subst (λ (spelled : Bytes). Read false (p + length spelled) bs → Read false p (spelled ++ bs))
          (if_true (is_service c b) (c.release ∷ b ∷ []) (b ∷ []) (service_serves c b ∙ i))
          (onward p (byte b p (p + 1)) bs (stands_released p b r i)) (more b bs refl) h

      step : (o : Role) → role c b ≡ o → Faultless (taken o b p (p + 1) (tokens_from c inside (p + 1 + 1) bs))
          → Lexed c false p (c.release ∷ b ∷ bs) (tokens c p (c.release ∷ b ∷ bs))
      step (Separator rank) e k = served (ap serves e)
      step Release e k = served (ap serves e)
      step Plain e k = absurd (false≢true k)

  -- any byte
  first_byte : (p b : ℕ) (bs : Bytes) → ((after : Bool) → Read after (p + 1) bs) → (has_release c ≡ true → Read false p (c.release ∷ bs))
      → Read false p (b ∷ bs)
  unfolding spell_token spell_byte ends
  first_byte p b bs more other = step (part c b) refl
    where
      step : {o : Role} → Part c b o → role c b ≡ o → Read false p (b ∷ bs)
      step (separates rank l e) r = rw e (onward p (separator rank p) bs (stands_separator p rank l) (more (leb rank 0)))
      step (releases e k) r = rw e (other k)
      step plain r =
          subst (λ (spelled : Bytes). Read false (p + length spelled) bs → Read false p (spelled ++ bs))
          (if_false (is_service c b) (c.release ∷ b ∷ []) (b ∷ []) (service_serves c b ∙ ap serves r))
          (onward p (byte b p p) bs (stands_plain p b r)) (more false)

  -- tokens that stand before no break stand directly after a terminator too
  pub lexed_start : {after : Bool} {p : ℕ} {body : Bytes} {ts : List Token} → leads_break body ≡ false → Lexed c after p body ts
      → Lexed c true p body ts
  lexed_start h nothing = nothing
  lexed_start h (passed k l) = passed k l
  lexed_start h (next {after} {p} {t} {rest} s l) = next (step after s (sym (leads_token t s.said rest) ∙ h)) l
    where
      step : (after : Bool) → Stands c after p t → breaking t ≡ false → Stands c true p t
      step true s k = s
      step false s k = stands_after true p t s k

  -- past the breaks in front of them, tokens stand as they do inside a segment
  pub lexed_inside : {after : Bool} {p : ℕ} {body : Bytes} {ts : List Token} → Lexed c after p body ts
      → (front : Bytes) × (rest : Bytes) × (body ≡ front ++ rest) × Lexed c false (p + length front) rest ts
  unfolding tokens
  lexed_inside nothing = ([], [], refl, nothing)
  lexed_inside (passed {p} {b} {rest} {ts} h l) =
      let (front, more, e, k) = lexed_inside l in
      (b ∷ front, more, ap (λ (bs : Bytes). b ∷ bs) e, subst (λ (n : ℕ). Lexed c false n more ts) (omega arith) k)
  lexed_inside (next {after} {p} {t} {rest} {ts} s l) =
      ([], spell_token c t ++ rest, refl, subst (λ (n : ℕ). Lexed c false n (spell_token c t ++ rest) (t ∷ ts)) (omega arith) (next (step after s) l))
    where
      step : (after : Bool) → Stands c after p t → Stands c false p t
      step true s = record {
        said = s.said;
        placed = s.placed;
        starts = refl;
        reads = λ more.
            sym (passing_inside true p (spell_token c t ++ more) (leads_token t s.said more ∙ s.starts)) ∙ s.reads more;
      }
      step false s = s

  -- directly after a terminator a break is passed over
  from_there : (p b : ℕ) (bs : Bytes) → Read true (p + 1) bs → Read false p (b ∷ bs) → (after : Bool) → Read after p (b ∷ bs)
  unfolding tokens tokens_from leads_break at maybe
  from_there p b bs more own false = own
  from_there p b bs more own true = step (is_break b) refl
    where
      others : List Token
      others = unreleased (role c b) b p (tokens_from c (reading (role c b) p) (p + 1) bs)

      step : (t : Bool) → is_break b ≡ t → Read true p (b ∷ bs)
      step true k =
          subst (λ (ts : List Token). Faultless ts → Lexed c true p (b ∷ bs) ts)
          (sym (if_true (is_break b) (tokens_from c passing (p + 1) bs) others k))
          (λ h. passed k (more h))
      step false k =
          subst (λ (ts : List Token). Faultless ts → Lexed c true p (b ∷ bs) ts)
          (sym (if_false (is_break b) (tokens_from c passing (p + 1) bs) others k))
          (λ h. lexed_start k (own h))

  pub read_lexed : (p : ℕ) (body : Bytes) (after : Bool) → Read after p body
  unfolding tokens_from
  read_lexed p [] true h = nothing
  read_lexed p [] false h = nothing
  read_lexed p (b ∷ []) after h =
      from_there p b [] (read_lexed (p + 1) [] true)
      (first_byte p b [] (read_lexed (p + 1) []) (λ r. after_release_lem p [] r (λ d rest e. absurd (nil≢cons e))))
      after h
  read_lexed p (b ∷ d ∷ bs) after h =
      from_there p b (d ∷ bs) (read_lexed (p + 1) (d ∷ bs) true)
      (first_byte p b (d ∷ bs) (read_lexed (p + 1) (d ∷ bs))
      (λ r. after_release_lem p (d ∷ bs) r (λ x rest e. subst (Read false (p + 2)) (tail-eq_of_cons-eq e) (read_lexed (p + 2) bs false))))
      after h
