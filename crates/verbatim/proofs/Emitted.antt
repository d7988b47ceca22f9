-- Bytes between which nothing is idle, and in which no fault 4 lies and no byte of a value below the space, are emitted as they stand, without
-- line breaks: the last of them, which is a byte of a value, and then each byte before others. Assumes nothing.
use Rattle.std.specs.Prelude.{if◌then◌else◌}
use Prim.Native.Nat.{ℕ, zero, suc, ◌+◌, ◌-◌}
use mathlib.Core.Path.{◌≡◌, refl, sym, ap, ap₂, subst, ◌∙◌}
use mathlib.Core.Bool.{Bool, true, false, not, ◌&&◌, false≢true}
use mathlib.Core.List.{List, [], ◌∷◌, ◌++◌}
use mathlib.Core.Logic.{⊎_elim}
use lib.Dec.{leb}
use Rattle.lists.specs.Lists.{all}
use Rattle.lists.proofs.Tests.{says_all, says_member, fails}
use Rattle.lists.proofs.Texts.{and_left, and_right, if_true, if_false, same_eq}
use Rattle.characters.specs.declared.Characters.{Characters}
use Rattle.characters.specs.declared.Role.{Role}
use Rattle.characters.specs.declared.Role.TheVariants.{Separator, Release, Plain}
use Rattle.characters.specs.Characters.{role, is_service, service_characters, has_repetition, has_release, is_break, six_bytes, spelled_out}
use Rattle.characters.proofs.Words.{break_says}
use Rattle.values.specs.Tokens.{Token, byte, separator, fault, Reading, inside, released, passing, unreleased, reading, taken, tokens_from}
use Rattle.values.specs.Values.{is_fault}
use Rattle.values.specs.Spelling.{spell_byte, separator_of}
use Rattle.stages.specs.Contents.{normal_characters}
use Rattle.spelling_laws.proofs.Service.{serves, separable, separable_low, Part, separates, releases, plain, part, service_serves}
use Rattle.emission_laws.specs.declared.Held.{Held}
use Rattle.emission_laws.specs.Emission.{nothing, separated, let_out, emitted}
use Rattle.emission_laws.proofs.Steps.{byte_first}
use Rattle.verbatim.specs.Verbatim.{is_normal, idle, faultless, visible, is_visible}
use Rattle.verbatim.proofs.Held.{Kept, nothing_kept, follows_separator, kept, separator_stands}

-- ---- the service characters of a normal form

-- no service character is below the space
abbrev pub Printed : Characters → Type 0
Printed c = (b : ℕ) → is_service c b ≡ true → leb 32 b ≡ true

-- none of a normal form is, whose fifth byte is none
pub normal_printed : (mark repetition : ℕ) → leb 32 repetition ≡ true → Printed (normal_characters mark repetition)
unfolding is_service service_characters has_repetition has_release all normal_characters six_bytes
normal_printed mark repetition p b h =
    let service = service_characters (normal_characters mark repetition) in
    (says_all (leb 32) (λ x. (λ e. e, λ e. e)) service).0 (step (has_repetition (normal_characters mark repetition))) b ((says_member b service).0 h)
  where
    step : (t : Bool) → all (leb 32) ((if t then repetition ∷ [] else []) ++ (63 ∷ [])) ≡ true
    step true = ap (λ (u : Bool). u && true) p
    step false = refl

-- characters that pass the test are those of a normal form
pub named : (c : Characters) (repetition : ℕ) → is_normal c repetition ≡ true → normal_characters c.mark repetition ≡ c
unfolding is_normal six_bytes spelled_out
named c repetition v = sym (ap six_bytes (same_eq (spelled_out c) (spelled_out (normal_characters c.mark repetition)) v))

-- ---- a byte in front of a text, unless it is below the space

abbrev pub led_by : ℕ → List ℕ → List ℕ
led_by b text = if leb 32 b then b ∷ text else text

module _ (b : ℕ) (text : List ℕ) where
  led : leb 32 b ≡ true → b ∷ text ≡ led_by b text
  led e = sym (if_true (leb 32 b) (b ∷ text) text e)

  -- a line break is below the space
  left_out : is_break b ≡ true → text ≡ led_by b text
  left_out e =
      sym (if_false (leb 32 b) (b ∷ text) text (⊎_elim (λ (q : b ≡ 13). ap (leb 32) q) (λ (q : b ≡ 10). ap (leb 32) q) ((break_says b).0 e)))

-- ---- bytes that stand in what is emitted

module _ (c : Characters) where
  -- a release character that stands directly before the text
  unfoldable pub after_release : Reading → List ℕ → List ℕ
  after_release inside text = text
  after_release (released from) text = c.release ∷ text
  after_release passing text = text

  -- The byte drops nothing of what is held back where it separates. After a release character it separates nothing, and after a terminator
  -- nothing is held back.
  unfoldable pub Keeps : Reading → Held → ℕ → Type 0
  Keeps inside h b = (rank : ℕ) → separable c rank ≡ true → b ≡ separator_of c (3 - rank) → Kept h rank
  Keeps (released from) h b = Unit {0}
  Keeps passing h b = h ≡ nothing

  -- what is read of the bytes, of which the first is named, is emitted as the text, after what is held back
  abbrev pub Stands : ℕ → ℕ → List ℕ → List ℕ → Type 0
  Stands first place bs text = (state : Reading) (h : Held) → Keeps state h first
      → faultless (tokens_from c state place bs) ≡ true → visible (tokens_from c state place bs) ≡ true
      → emitted c h (tokens_from c state place bs) ≡ let_out c h ++ after_release state text

  -- a byte of a value, spelled so, lets out what is held back
  lets_out : (b at place : ℕ) (h : Held) (ts : List Token) (spelled text : List ℕ) → spell_byte c b ≡ spelled → emitted c nothing ts ≡ text
      → emitted c h (byte b at place ∷ ts) ≡ let_out c h ++ (spelled ++ text)
  lets_out b at place h ts spelled text e r = byte_first c h b at place ts ∙ ap₂ (λ (l m : List ℕ). let_out c h ++ (l ++ m)) e r

  -- a byte that is no service character, as itself
  bare_out : (b at place : ℕ) (h : Held) (ts : List Token) (text : List ℕ) → is_service c b ≡ false → emitted c nothing ts ≡ text
      → emitted c h (byte b at place ∷ ts) ≡ let_out c h ++ (b ∷ text)
  unfolding spell_byte
  bare_out b at place h ts text v r = lets_out b at place h ts (b ∷ []) text (if_false (is_service c b) (c.release ∷ b ∷ []) (b ∷ []) v) r

  -- ---- one byte more in front

  module _ (printed : Printed c) (b next place : ℕ) (bs text : List ℕ) (i : idle c b next ≡ false) (go : Stands next (place + 1) bs text) where
    abbrev onward : Reading → List Token
    onward state = tokens_from c state (place + 1) bs

    -- where nothing is held back after this byte
    rest : faultless (onward inside) ≡ true → visible (onward inside) ≡ true → emitted c nothing (onward inside) ≡ text
    unfolding after_release Keeps let_out
    rest s w = go inside nothing (λ rank q e. nothing_kept rank) s w

    -- and after a terminator, where line breaks are passed over
    rest_passing : faultless (onward passing) ≡ true → visible (onward passing) ≡ true → emitted c nothing (onward passing) ≡ text
    unfolding after_release Keeps let_out
    rest_passing s w = go passing nothing refl s w

    module _ (h : Held) where
      after : {one other : List ℕ} → one ≡ other → let_out c h ++ one ≡ let_out c h ++ other
      after e = ap (λ (l : List ℕ). let_out c h ++ l) e

      -- a separator that drops nothing, by what is emitted after it
      separated_stands : (rank : ℕ) → separable c rank ≡ true → b ≡ separator_of c (3 - rank) → Kept h rank → is_service c b ≡ true
          → (ts : List Token) → emitted c (separated h rank) ts ≡ let_out c (separated h rank) ++ text
          → emitted c h (separator rank place ∷ ts) ≡ let_out c h ++ led_by b text
      separated_stands rank q e k v ts r =
          separator_stands c h rank (separable_low c rank q) k place ts text r ∙ after (ap (λ (x : ℕ). x ∷ text) (sym e) ∙ led b text (printed b v))

      unreleased_stands : Keeps inside h b → {r : Role} → Part c b r → is_service c b ≡ serves r
          → faultless (unreleased r b place (onward (reading r place))) ≡ true → visible (unreleased r b place (onward (reading r place))) ≡ true
          → emitted c h (unreleased r b place (onward (reading r place))) ≡ let_out c h ++ led_by b text
      unfolding faultless visible is_visible all is_fault unreleased reading separated let_out after_release Keeps
      unreleased_stands k (separates zero q e) v s w = separated_stands zero q e (k zero q e) v (onward passing) (rest_passing s w)
      unreleased_stands k (separates (suc rank) q e) v s w =
          separated_stands (suc rank) q e (k (suc rank) q e) v (onward inside)
          (go inside (separated h (suc rank)) (kept c b next (follows_separator c b h (suc rank) q e) (ap not i)) s w)
      unreleased_stands k (releases e q) v s w =
          go (released place) h tt s w ∙ after (ap (λ (x : ℕ). x ∷ text) (sym e) ∙ led b text (printed b v))
      unreleased_stands k plain v s w =
          bare_out b place place h (onward inside) text v (rest s (and_right (leb 32 b) (visible (onward inside)) w))
          ∙ after (led b text (and_left (leb 32 b) (visible (onward inside)) w))

      -- a line break is passed over, and another byte begins a segment
      passing_stands : (t : Bool) → is_break b ≡ t → h ≡ nothing
          → faultless (if t then onward passing else unreleased (role c b) b place (onward (reading (role c b) place))) ≡ true
          → visible (if t then onward passing else unreleased (role c b) b place (onward (reading (role c b) place))) ≡ true
          → emitted c h (if t then onward passing else unreleased (role c b) b place (onward (reading (role c b) place))) ≡ let_out c h ++ led_by b text
      unfolding after_release Keeps
      passing_stands true e f s w = go passing h f s w ∙ after (left_out b text e)
      passing_stands false e f s w =
          unreleased_stands (λ rank q d. subst (λ (k : Held). Kept k rank) (sym f) (nothing_kept rank)) (part c b) (service_serves c b) s w

      -- a service character is spelled after a release character again
      released_stands : (from : ℕ) → is_service c b ≡ true → faultless (onward inside) ≡ true → visible (byte b from place ∷ onward inside) ≡ true
          → emitted c h (byte b from place ∷ onward inside) ≡ let_out c h ++ (c.release ∷ led_by b text)
      unfolding spell_byte visible is_visible all
      released_stands from v s w =
          lets_out b from place h (onward inside) (c.release ∷ b ∷ []) text (if_true (is_service c b) (c.release ∷ b ∷ []) (b ∷ []) v)
          (rest s (and_right (leb 32 b) (visible (onward inside)) w))
          ∙ after (ap (λ (l : List ℕ). c.release ∷ l) (led b text (printed b v)))

      -- and another byte is a fault there
      taken_stands : (from : ℕ) {r : Role} → Part c b r → is_service c b ≡ serves r
          → faultless (taken r b from place (onward inside)) ≡ true → visible (taken r b from place (onward inside)) ≡ true
          → emitted c h (taken r b from place (onward inside)) ≡ let_out c h ++ (c.release ∷ led_by b text)
      unfolding faultless all is_fault taken
      taken_stands from (separates rank q e) v s w = released_stands from v s w
      taken_stands from (releases e q) v s w = released_stands from v s w
      taken_stands from plain v s w = absurd (false≢true s)

    pub stands_on : Stands b place (b ∷ bs) (led_by b text)
    unfolding tokens_from after_release Keeps
    stands_on inside h k s w = unreleased_stands h k (part c b) (service_serves c b) s w
    stands_on (released from) h k s w = taken_stands h from (part c b) (service_serves c b) s w
    stands_on passing h k s w = passing_stands h (is_break b) refl k s w

  -- ---- a byte of a value, and what is read after it

  -- its token, as reading stands: after a release character it is a fault
  unfoldable token_of : ℕ → ℕ → Reading → Token
  token_of v place inside = byte v place place
  token_of v place (released from) = fault from
  token_of v place passing = byte v place place

  module _ (v place : ℕ) (bs : List ℕ) (bare : is_service c v ≡ false) (high : leb 32 v ≡ true) where
    abbrev after_value : List Token
    after_value = tokens_from c inside (place + 1) bs

    plays_none : serves (role c v) ≡ false
    plays_none = sym (service_serves c v) ∙ bare

    no_break : is_break v ≡ false
    no_break =
        (fails (is_break v) (break_says v)).1
        (⊎_elim (λ (q : v ≡ 13). false≢true (sym (ap (leb 32) q) ∙ high)) (λ (q : v ≡ 10). false≢true (sym (ap (leb 32) q) ∙ high)))

    -- it is read as a byte of a value, unless it is released
    value_read : (o : Role) → serves o ≡ false → unreleased o v place (tokens_from c (reading o place) (place + 1) bs) ≡ byte v place place ∷ after_value
    unfolding unreleased reading
    value_read (Separator rank) e = absurd (false≢true (sym e))
    value_read Release e = absurd (false≢true (sym e))
    value_read Plain e = refl

    value_faults : (from : ℕ) (o : Role) → serves o ≡ false → taken o v from place after_value ≡ fault from ∷ after_value
    unfolding taken
    value_faults from (Separator rank) e = absurd (false≢true (sym e))
    value_faults from Release e = absurd (false≢true (sym e))
    value_faults from Plain e = refl

    value_first_lem : (state : Reading) → tokens_from c state place (v ∷ bs) ≡ token_of v place state ∷ after_value
    unfolding tokens_from token_of
    value_first_lem inside = value_read (role c v) plays_none
    value_first_lem (released from) = value_faults from (role c v) plays_none
    value_first_lem passing =
        if_false (is_break v) (tokens_from c passing (place + 1) bs) (unreleased (role c v) v place (tokens_from c (reading (role c v) place) (place + 1) bs)) no_break
        ∙ value_read (role c v) plays_none

    spelled : (h : Held) {ts : List Token} → ts ≡ byte v place place ∷ after_value → emitted c h ts ≡ let_out c h ++ led_by v (emitted c nothing after_value)
    spelled h e =
        let text = emitted c nothing after_value in
        ap (emitted c h) e ∙ bare_out v place place h after_value text bare refl ∙ ap (λ (l : List ℕ). let_out c h ++ l) (led v text high)

    pub value_stands : Stands v place (v ∷ bs) (led_by v (emitted c nothing after_value))
    unfolding faultless all is_fault token_of after_release
    value_stands inside h k s w = spelled h (value_first_lem inside)
    value_stands (released from) h k s w = absurd (false≢true (sym (ap faultless (value_first_lem (released from))) ∙ s))
    value_stands passing h k s w = spelled h (value_first_lem passing)

-- ---- a test that every token of the bytes passes, and so every token that is read after some of them

module _ (t : Token → Bool) (c : Characters) where
  -- every token but the first
  behind : (x : Token) (ts : List Token) → all t (x ∷ ts) ≡ true → all t ts ≡ true
  unfolding all
  behind x ts a = and_right (t x) (all t ts) a

  -- where the tokens of the bytes pass the test, these tokens do
  abbrev pub Leads : ℕ → List ℕ → List Token → Type 0
  Leads place bs end = (state : Reading) → all t (tokens_from c state place bs) ≡ true → all t end ≡ true

  module _ (b place : ℕ) (bs : List ℕ) (end : List Token) (go : Leads (place + 1) bs end) where
    abbrev later : Reading → List Token
    later state = tokens_from c state (place + 1) bs

    unreleased_leads : (o : Role) → all t (unreleased o b place (later (reading o place))) ≡ true → all t end ≡ true
    unfolding unreleased
    unreleased_leads (Separator rank) a = go (reading (Separator rank) place) (behind (separator rank place) (later (reading (Separator rank) place)) a)
    unreleased_leads Release a = go (reading Release place) a
    unreleased_leads Plain a = go (reading Plain place) (behind (byte b place place) (later (reading Plain place)) a)

    taken_leads : (from : ℕ) (o : Role) → all t (taken o b from place (later inside)) ≡ true → all t end ≡ true
    unfolding taken
    taken_leads from (Separator rank) a = go inside (behind (byte b from place) (later inside) a)
    taken_leads from Release a = go inside (behind (byte b from place) (later inside) a)
    taken_leads from Plain a = go inside (behind (fault from) (later inside) a)

    passing_leads : (x : Bool)
        → all t (if x then later passing else unreleased (role c b) b place (later (reading (role c b) place))) ≡ true
        → all t end ≡ true
    passing_leads true a = go passing a
    passing_leads false a = unreleased_leads (role c b) a

    pub leads_on : Leads place (b ∷ bs) end
    unfolding tokens_from
    leads_on inside a = unreleased_leads (role c b) a
    leads_on (released from) a = taken_leads from (role c b) a
    leads_on passing a = passing_leads (is_break b) a

  pub value_leads : (v place : ℕ) (bs : List ℕ) → is_service c v ≡ false → leb 32 v ≡ true → Leads place (v ∷ bs) (tokens_from c inside (place + 1) bs)
  value_leads v place bs bare high state a =
      behind (token_of c v place state) (tokens_from c inside (place + 1) bs) (sym (ap (all t) (value_first_lem c v place bs bare high state)) ∙ a)
