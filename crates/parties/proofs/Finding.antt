-- The first value of an element, found in one pass over UNB, is the part that Locate's companion hands back. Assumes nothing.
use Rattle.std.specs.Prelude.{if◌then◌else◌, Ok, Err, Option as Perhaps, Some, None}
use Prim.Native.Nat.{ℕ, zero, suc, ◌+◌, ◌-◌, ◌≤◌, ◌<◌}
use mathlib.Core.Path.{◌≡◌, refl, sym, ap, subst, ◌∙◌}
use mathlib.Core.Bool.{Bool, true, false, not, ◌&&◌, ◌||◌}
use mathlib.Core.List.{List, [], ◌∷◌}
use mathlib.Core.Option.{Option, none, some}
use native.Mathlib.Omega.{arith}
use native.Mathlib.Decide.{dec_le}
use native.Mathlib.Nat.{lt_of_not-le}
use lib.ListN.{length, get_or}
use lib.Dec.{eqb}
use Rattle.lists.specs.Lists.{is_empty, through, gather, maybe}
use Rattle.lists.proofs.Texts.{or_none_left}
use Rattle.characters.specs.Characters.{role, body_start}
use Rattle.characters.specs.declared.Role.TheVariants.{Separator}
use Rattle.characters.specs.declared.Characters.{Characters}
use Rattle.refusals.specs.declared.Refusal.{Refusal}
use Rattle.values.specs.Tokens.{Token, byte, ends, tokens_at}
use Rattle.values.specs.Values.{Value, value_of, bytes_of}
use Rattle.values.specs.Trimming.{trimmed, value_at}
use Rattle.values.proofs.Steps.{at_separator, ends_yes, ends_no}
use Rattle.stages.specs.Stages.{refusal_of}
use Rattle.answers.specs.declared.Figures.{Figures}
use Rattle.operations.specs.Judge.{figures_of}
use Rattle.scanner.specs.Scan.{segment_at}
use Rattle.elements.specs.Elements.{piece_from, element_from, holds_byte, PieceAt, ElementAt}
use Rattle.elements.specs.Sixteen.{weight, Separators}
use Rattle.elements.specs.Values.{value_end, EndsAt}
use Rattle.elements.proofs.Elements.{from_next, from_plain, holds_byte_lem}
use Rattle.elements.proofs.Sixteen.{separators_none, separators_next}
use Rattle.plain_runs.specs.Runs.{PlainRun}
use Rattle.plain_runs.proofs.Runs.{by_bytes, run_inside}
use Rattle.trimmed_values.specs.Trimmed.{placed, stays_in}
use Rattle.trimmed_values.proofs.Ends.{Whole, from_whole}
use Rattle.trimmed_values.proofs.Places.{value_found}
use Rattle.trimmed_values.proofs.Trimmed.{trimmed_value}
use Rattle.values.specs.declared.Span.{Span}
use Rattle.locate.specs.Locating.{part_of}
use Rattle.locate.proofs.Locating.{start_whole, locate_found, part_found, part_absent}
use Rattle.parties.specs.Parties.{spelled_parties, span_of, first_value, parties_of}

-- ---- elements one after another

module _ {A : Type 0} (t u : A → Bool) where
  from_nothing : (n : ℕ) → piece_from t u n [] ≡ []
  unfolding piece_from
  from_nothing zero = refl
  from_nothing (suc n) = refl

  -- so many pieces on, and then so many more
  from_again : (n m : ℕ) (xs : List A) → piece_from t u (n + m) xs ≡ piece_from t u n (piece_from t u m xs)
  unfolding piece_from
  from_again n zero xs = let e : n + 0 ≡ n = omega arith in ap (λ (k : ℕ). piece_from t u k xs) e
  from_again n (suc m) [] = from_nothing (n + suc m) ∙ sym (from_nothing n)
  from_again n (suc m) (x ∷ xs) =
      let e : n + suc m ≡ suc (n + m) = omega arith in
      ap (λ (k : ℕ). piece_from t u k (x ∷ xs)) e
      ∙ step (t x) (u x) (from_again n m xs) (ap (λ (k : ℕ). piece_from t u k xs) (sym e) ∙ from_again n (suc m) xs)
    where
      step : (a b : Bool) → piece_from t u (n + m) xs ≡ piece_from t u n (piece_from t u m xs)
          → piece_from t u (suc (n + m)) xs ≡ piece_from t u n (piece_from t u (suc m) xs)
          → (if a then [] else (if b then piece_from t u (n + m) xs else piece_from t u (suc (n + m)) xs))
          ≡ piece_from t u n (if a then [] else (if b then piece_from t u m xs else piece_from t u (suc m) xs))
      step true b one more = sym (from_nothing n)
      step false true one more = one
      step false false one more = more

-- the element of a number from where another begins
pub element_on : (c : Characters) (s : List ℕ) (start from next n m : ℕ) → tokens_at c s from ≡ element_from m (tokens_at c s start)
    → ElementAt c s from n next → tokens_at c s next ≡ element_from (n + m) (tokens_at c s start)
element_on c s start from next n m e d = d.0 ∙ ap (element_from n) e ∙ sym (from_again (ends 0) (ends 1) n m (tokens_at c s start))

-- ---- where the next element begins

-- past bytes that end no element
abbrev pub Past : Characters → List ℕ → ℕ → ℕ → Type 0
Past c s from at = Separators c s from at 0 × (from ≤ length s → at ≤ length s)

pub past_none : (c : Characters) (s : List ℕ) (from : ℕ) → Past c s from from
past_none c s from = (separators_none c s from, λ h. h)

-- what `piece_at` finds from there on
pub past_found : (c : Characters) (s : List ℕ) (from at next : ℕ) → Past c s from at → PieceAt c s at 1 1 next → ElementAt c s from 1 next
past_found c s from at next (p, l) (e, m) = (e ∙ sym (p (omega arith) 1 (omega arith)), λ h. m (l h))

module _ (c : Characters) (s : List ℕ) (from at : ℕ) (past : Past c s from at) (inside : at < length s)
    (t : (eqb (get_or s at 0) c.terminator || eqb (get_or s at 0) c.release) ≡ false) where
  -- a byte that is no element separator, no terminator and no release character
  pub past_next : eqb (get_or s at 0) c.element ≡ false → Past c s from (at + 1)
  past_next e =
      let w : 0 + weight c (get_or s at 0) ≡ 0 = rw (t, e) (omega arith) in
      (subst (Separators c s from (at + 1)) w (separators_next c s at inside from 0 past.0), λ h. omega arith)

  -- the element separator
  pub past_separator : eqb (get_or s at 0) c.element ≡ true → ElementAt c s from 1 (at + 1)
  unfolding role piece_from
  past_separator e =
      let r : role c (get_or s at 0) ≡ Separator 1 = simp (or_none_left (eqb (get_or s at 0) c.terminator) (eqb (get_or s at 0) c.release) t, e) in (
        sym (past.0 (omega arith) 1 (omega arith)
            ∙ from_next (ends 0) (ends 1) 1 (omega arith) (at_separator c s at 0 inside r) (ends_no 0 at {k = 1} (omega arith)) (ends_yes 1 at {k = 1} (omega arith))),
        λ h. omega arith,
      )

-- and the one after it
pub element_again : (c : Characters) (s : List ℕ) (from next after : ℕ) → ElementAt c s from 1 next → ElementAt c s next 1 after → ElementAt c s from 2 after
element_again c s from next after d e = (element_on c s from next after 1 1 d.0 e, λ h. e.1 (d.1 h))

-- ---- the first value of an element

-- a plain byte in front stays
pub run_kept : (c : Characters) (s : List ℕ) (from to : ℕ) → PlainRun c s from to → from < to → holds_byte 0 (tokens_at c s from) ≡ true
run_kept c s from to run l =
    by_bytes c s (λ k. from < k → holds_byte 0 (tokens_at c s from) ≡ true) run step (λ h. absurd (omega arith)) l
  where
    step : (k : ℕ) → from ≤ k → k < to → k < length s → tokens_at c s k ≡ byte (get_or s k 0) k k ∷ tokens_at c s (k + 1)
        → (from < k → holds_byte 0 (tokens_at c s from) ≡ true) → from < k + 1 → holds_byte 0 (tokens_at c s from) ≡ true
    step k h m i e p q =
        elim (dec_le k from) [
          | yes g ↦ let w : from ≡ k = omega arith in holds_byte_lem 0 (ap (tokens_at c s) w ∙ e)
          | no g ↦ p (lt_of_not-le g)
        ]

-- an element is found from behind the run as well
pub element_past : (c : Characters) (s : List ℕ) (start from at next n m : ℕ) → tokens_at c s from ≡ element_from m (tokens_at c s start)
    → PlainRun c s from at → ElementAt c s at (suc n) next → tokens_at c s next ≡ element_from (suc n + m) (tokens_at c s start)
unfolding ends
element_past c s start from at next n m e run d =
    let same = by_bytes c s (λ k. element_from (suc n) (tokens_at c s from) ≡ element_from (suc n) (tokens_at c s k)) run
    (λ k h l i t p. p ∙ from_plain 1 (suc n) (omega arith) t (λ q. refl)) refl in
    element_on c s start from next (suc n) m e (d.0 ∙ sym same, λ h. d.1 (run_inside c s run h))

-- and the value ends where it ends from there on
run_ends : (c : Characters) (s : List ℕ) (from at end : ℕ) → PlainRun c s from at → EndsAt c s at end → EndsAt c s from end
unfolding value_end ends
run_ends c s from at end run (e, l, m) =
    let same = by_bytes c s (λ k. value_end (tokens_at c s from) ≡ value_end (tokens_at c s k)) run (λ k h n i t p. p ∙ ap value_end t) refl in
    (e ∙ sym same, omega (arith, run.0), λ h. m (run_inside c s run h))

-- the part that was found
abbrev found_span : Perhaps Span → Span
found_span (Some part) = part
found_span None = record { offset = 0; length = 0 }

placed_span : (v : Option Value) → found_span (placed v) ≡ span_of v
unfolding placed span_of maybe
placed_span none = refl
placed_span (some v) = refl

-- where a byte stands there are tokens
holds_some : (ts : List Token) → holds_byte 0 ts ≡ true → true ≡ not (is_empty ts)
unfolding holds_byte through bytes_of gather is_empty
holds_some [] h = sym h
holds_some (t ∷ ts) h = refl

pub value_none : (ts : List Token) → holds_byte 0 ts ≡ false → record { offset = 0; length = 0 } ≡ first_value ts
unfolding first_value span_of maybe
value_none ts h = rw h refl

pub value_some : (c : Characters) (s : List ℕ) (from at end : ℕ) → Whole (tokens_at c s from) → PlainRun c s from at
    → holds_byte 0 (tokens_at c s from) ≡ true → EndsAt c s at end → record { offset = from; length = end - from } ≡ first_value (tokens_at c s from)
unfolding first_value piece_from stays_in segment_at
value_some c s from at end w run h l =
    let ts = tokens_at c s from in
    let g = holds_some ts h in
    let f = (value_found c s from 0 0 0 (refl, λ k. k) from (refl, λ k. k) g refl g from (refl, λ k. k) refl g end w refl (run_ends c s from at end run l)).0 in
    ap found_span
    (f
    ∙ ap placed
    (trimmed_value ts 0 0 0
    ∙ ap (λ (b : Bool). if (b && b) && b then some (value_of (through (ends 3) ts)) else none) (sym g)))
    ∙ placed_span (some (value_of (through (ends 3) ts)))
    ∙ ap (λ (b : Bool). span_of (if b then some (value_of (through (ends 3) ts)) else none)) (sym h)

-- ---- the part that the companion hands back

module _ (s : List ℕ) (a : refusal_of s ≡ none) {i : Figures} (j : i ≡ figures_of s) {body : ℕ} (b : body ≡ body_start s) where
  abbrev here : List Token
  here = tokens_at i.characters s body

  pub whole_from : (from n : ℕ) → tokens_at i.characters s from ≡ element_from n here → Whole (tokens_at i.characters s from)
  unfolding piece_from
  whole_from from n e =
      subst Whole (sym e) (from_whole (ends 0) (ends 1) n here (start_whole s 0 0 0 0 a j b body (refl, λ k. k)))

  -- what is found of an element, told as a part
  found_part : (element : ℕ) (f : Perhaps Span) → f ≡ placed (value_at (trimmed (segment_at i.characters s body)) element 0 0)
      → found_span f ≡ part_of s 0 element 0 0
  unfolding piece_from
  found_part element (Some part) e = part_found s 0 element 0 0 (locate_found s 0 element 0 0 a j b body (refl, λ k. k) e) refl
  found_part element None e = part_absent s 0 element 0 0 (locate_found s 0 element 0 0 a j b body (refl, λ k. k) e) refl

  -- trimming leaves the first value of an element where it leaves the element
  stays_with : (ts : List Token) → ((holds_byte 0 ts && not (is_empty ts)) && not (is_empty ts)) ≡ holds_byte 0 ts
  unfolding holds_byte through bytes_of gather is_empty
  stays_with [] = refl
  stays_with (t ∷ ts) = step (holds_byte 0 (t ∷ ts))
    where
      step : (x : Bool) → ((x && true) && true) ≡ x
      step true = refl
      step false = refl

  pub part_is : (from n : ℕ) {p : Span} → tokens_at i.characters s from ≡ element_from (suc n) here
      → p ≡ first_value (tokens_at i.characters s from) → p ≡ part_of s 0 (suc n) 0 0
  unfolding first_value piece_from stays_in segment_at
  part_is from n e q =
      let ts = element_from (suc n) here in
      q
      ∙ ap first_value e
      ∙ sym
      (placed_span _
      ∙ ap span_of
      (trimmed_value here (suc n) 0 0
      ∙ ap (λ (x : Bool). if x then some (value_of (through (ends 3) ts)) else none) (stays_with ts)))
      ∙ found_part (suc n) _ refl

  pub parties_found : {sender recipient reference : Span} → sender ≡ part_of s 0 2 0 0 → recipient ≡ part_of s 0 3 0 0
      → reference ≡ part_of s 0 5 0 0
      → Ok (record { sender = sender; recipient = recipient; reference = reference }) ≡ parties_of s
  unfolding parties_of spelled_parties maybe
  parties_found x y z =
      (λ k. Ok (record { sender = x k; recipient = y k; reference = z k })) ∙ sym (ap (maybe (Ok (spelled_parties s)) Err) a)

-- Judge's refusal answers
pub parties_refused : (s : List ℕ) {r : Refusal} → refusal_of s ≡ some r → Err r ≡ parties_of s
unfolding parties_of maybe
parties_refused s {r} e = sym (ap (maybe (Ok (spelled_parties s)) Err) e)
