-- How an input begins: a text stands at a place exactly where its bytes stand there, one after another. Assumes nothing.
use Rattle.std.specs.Prelude.{if◌then◌else◌}
use Prim.Native.Nat.{ℕ, ◌+◌, ◌≤◌, ◌<◌, zero-le, suc-le-suc}
use mathlib.Core.Path.{◌≡◌, refl, sym, ap, ap₂, ◌∙◌}
use mathlib.Core.Bool.{Bool, true, false, not, ◌&&◌, ◌||◌, and_assoc, and-true, or-false, or_self, false≢true}
use mathlib.Core.List.{List, [], ◌∷◌, ◌++◌}
use native.Mathlib.Nat.{add-zero}
use native.Mathlib.Omega.{arith}
use lib.ListN.{length, get_or, drop, drop_of_length-le, length-drop}
use lib.Seq.{drop-cons, drop-drop, get_or-drop}
use lib.Dec.{eqb, ltb}
use Rattle.lists.specs.Lists.{text, begins}
use Rattle.lists.proofs.Texts.{and_right, if_true}
use Rattle.characters.specs.declared.Characters.{Characters}
use Rattle.characters.specs.Characters.{six_bytes, advised, usable, plus_characters, star_characters, control_characters, begins_version4, characters_of, after_breaks, body_start, body, bad_advice, opens}

-- a text in two parts: the second stands after the first
pub begins_append : (ps qs xs : List ℕ) → begins (ps ++ qs) xs ≡ (begins ps xs && begins qs (drop (length ps) xs))
unfolding begins
begins_append [] qs xs = refl
begins_append (p ∷ ps) qs [] = refl
begins_append (p ∷ ps) qs (x ∷ xs) =
    ap (λ (t : Bool). eqb p x && t) (begins_append ps qs xs) ∙ sym (and_assoc (eqb p x) (begins ps xs) (begins qs (drop (length ps) xs)))

-- what begins with a text is at least as long as the text
pub begins_length : (ps xs : List ℕ) → begins ps xs ≡ true → length ps ≤ length xs
unfolding begins
begins_length [] xs h = zero-le
begins_length (p ∷ ps) [] h = absurd (false≢true h)
begins_length (p ∷ ps) (x ∷ xs) h = suc-le-suc (begins_length ps xs (and_right (eqb p x) (begins ps xs) h))

module _ (s : List ℕ) (at : ℕ) where
  -- the same, from a place of the input on
  pub begins_at : (ps qs : List ℕ) → begins (ps ++ qs) (drop at s) ≡ (begins ps (drop at s) && begins qs (drop (at + length ps) s))
  begins_at ps qs =
      begins_append ps qs (drop at s) ∙ ap (λ (l : List ℕ). begins ps (drop at s) && begins qs l) (drop-drop (length ps) at s)

  -- `UN` and a third byte, each asked for at its own place
  pub begins_tag : (third : ℕ) {u n t : Bool} → u ≡ begins (text "U") (drop (at + 0) s) → n ≡ begins (text "N") (drop (at + 1) s)
      → t ≡ begins (third ∷ []) (drop (at + 2) s) → (u && n && t) ≡ begins (text "UN" ++ third ∷ []) (drop at s)
  begins_tag third e f g =
      let first = ap (λ (n : ℕ). begins (text "U") (drop n s)) (add-zero at) in
      cc (begins_at (text "UN") (third ∷ []), begins_at (text "U") (text "N"), first, e, f, g)

  module _ (b : ℕ) where
    -- no byte stands after the last
    pub stands_none : length s ≤ at → begins (b ∷ []) (drop at s) ≡ false
    unfolding begins
    stands_none h = ap (begins (b ∷ [])) (drop_of_length-le s h)

    pub stands_byte : at < length s → begins (b ∷ []) (drop at s) ≡ eqb b (get_or s at 0)
    unfolding begins
    stands_byte h = ap (begins (b ∷ [])) (drop-cons s at 0 h) ∙ and-true (eqb b (get_or s at 0))

-- ---- what an input uses

module _ (s : List ℕ) where
  -- the six bytes of an advice stand after `UNA`
  pub characters_advised : {a b m r v t : ℕ} → advised s ≡ true → a ≡ get_or s 3 0 → b ≡ get_or s 4 0 → m ≡ get_or s 5 0 → r ≡ get_or s 6 0
      → v ≡ get_or s 7 0 → t ≡ get_or s 8 0
      → record { component = a; element = b; mark = m; release = r; repetition = v; terminator = t } ≡ characters_of s
  unfolding characters_of six_bytes
  characters_advised e p q x y z w = simp (e, get_or-drop, p, q, x, y, z, w)

  -- `UNB+`, asked for as `UNB` and the byte after it
  pub begins_plus : {tag plus t : Bool} → tag ≡ begins (text "UNB") s → plus ≡ begins (text "+") (drop 3 s) → (tag && plus) ≡ t
      → begins (text "UNB+") s ≡ t
  begins_plus e f g = cc (begins_append (text "UNB") (text "+") s)

  -- `UNO`, a byte for the level and `:4`, each asked for at its own place
  module _ {tag colon four : Bool} (e : tag ≡ begins (text "UNO") (drop 4 s)) (f : colon ≡ begins (text ":") (drop 8 s))
      (g : four ≡ begins (text "4") (drop 9 s)) where
    version4_named : (b : ℕ) {level : Bool} → level ≡ begins (b ∷ []) (drop 7 s)
        → begins (text "UNO" ++ b ∷ text ":4") (drop 4 s) ≡ (tag && (level && (colon && four)))
    version4_named b h =
        cc (begins_at s 4 (text "UNO") (b ∷ text ":4"), begins_at s 7 (b ∷ []) (text ":4"), begins_at s 8 (text ":") (text "4"), e, f, g, h)

    pub version4_tests : {a b : Bool} → a ≡ begins (text "A") (drop 7 s) → b ≡ begins (text "B") (drop 7 s)
        → (tag && (a || b) && colon && four) ≡ (begins (text "UNOA:4") (drop 4 s) || begins (text "UNOB:4") (drop 4 s))
    version4_tests {a} {b} p q = either tag a b ∙ sym (ap₂ ◌||◌ (version4_named 65 p) (version4_named 66 q))
      where
        either : (t x y : Bool) → (t && (x || y) && colon && four) ≡ ((t && (x && (colon && four))) || (t && (y && (colon && four))))
        either true true true = sym (or_self (colon && four))
        either true true false = sym (or-false (colon && four))
        either true false true = refl
        either true false false = refl
        either false x y = refl

  -- after `UNB+` they name version 4
  module _ {named : Bool} (n : named ≡ (begins (text "UNOA:4") (drop 4 s) || begins (text "UNOB:4") (drop 4 s))) where
    after_plus : begins (text "UNB+") s ≡ true → begins_version4 s ≡ named
    unfolding begins_version4
    after_plus f =
        ap₂ ◌||◌ (begins_append (text "UNB+") (text "UNOA:4") s) (begins_append (text "UNB+") (text "UNOB:4") s)
        ∙ (simp f)
        ∙ sym n

    pub characters_plus : {c : Characters} → advised s ≡ false → begins (text "UNB+") s ≡ true
        → c ≡ (if named then star_characters else plus_characters) → c ≡ characters_of s
    unfolding characters_of
    characters_plus e f d = d ∙ sym (simp (e, f, after_plus f))

  pub characters_control : advised s ≡ false → begins (text "UNB+") s ≡ false → control_characters ≡ characters_of s
  unfolding characters_of begins_version4
  characters_control e f =
      simp (e, begins_append (text "UNB+") (text "UNOA:4") s, begins_append (text "UNB+") (text "UNOB:4") s, f)

  pub start_advised : advised s ≡ true → {start : ℕ} → start ≡ after_breaks s 9 → start ≡ body_start s
  unfolding body_start
  start_advised e d = d ∙ sym (if_true (advised s) (after_breaks s 9) 0 e)

  pub start_plain : advised s ≡ false → 0 ≡ body_start s
  unfolding body_start
  start_plain e = simp e

  pub bad_advice_tests : {c : Characters} {advice fit : Bool} → advice ≡ advised s → c ≡ characters_of s → fit ≡ usable c
      → (advice && (ltb (length s) 9 || not fit)) ≡ bad_advice s
  unfolding bad_advice
  bad_advice_tests e f g = cc

  -- the body's opening, asked for as `UNB` and the byte after it
  pub opens_tests : {start : ℕ} {c : Characters} {tag separator : Bool} → start ≡ body_start s → c ≡ characters_of s
      → tag ≡ begins (text "UNB") (drop start s) → separator ≡ begins (c.element ∷ []) (drop (start + 3) s) → (tag && separator) ≡ opens s
  unfolding opens body
  opens_tests e f g h =
      cc (begins_at s (body_start s) (text "UNB") ((characters_of s).element ∷ []), e, f, g, h)

  -- what opens a body is in the input
  pub opens_fits : opens s ≡ true → body_start s + 4 ≤ length s
  unfolding opens body
  opens_fits h =
      omega (arith, begins_length (text "UNB" ++ (characters_of s).element ∷ []) (body s) h, length-drop (body_start s) s)
