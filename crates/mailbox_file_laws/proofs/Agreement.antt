-- Two files that begin with the same bytes: where the walk to the first UNZ ends within these, it is the same in both. Assumes nothing.
use Rattle.std.specs.Prelude.{if◌then◌else◌}
use Prim.Native.Nat.{ℕ, zero, suc, ◌+◌, ◌≤◌, ◌<◌}
use mathlib.Core.Path.{◌≡◌, refl, sym, ap, ◌∙◌}
use mathlib.Core.Bool.{Bool, true, false}
use mathlib.Core.List.{List, [], ◌∷◌, ◌++◌}
use mathlib.Core.Option.{some}
use native.Mathlib.Omega.{arith}
use lib.ListN.{length, drop, length-drop}
use lib.Seq.{drop-append-le}
use Rattle.lists.specs.Lists.{through}
use Rattle.characters.specs.declared.Characters.{Characters}
use Rattle.characters.specs.declared.Role.{Role}
use Rattle.characters.specs.declared.Role.TheVariants.{Separator, Release, Plain}
use Rattle.characters.specs.Characters.{role, is_break, breaks, after_breaks}
use Rattle.values.specs.Tokens.{Token, byte, separator, fault, Reading, inside, released, unreleased, reading, taken, tokens_from, tokens, ends, Segment, tokens_at}
use Rattle.values.specs.Values.{end_place, ended_by}
use Rattle.values.proofs.Steps.{ends_no}
use Rattle.segments.specs.declared.Kind.TheVariants.{Unz}
use Rattle.segments.specs.Kinds.{is}
use Rattle.segments.specs.Tags.{kind_of}
use Rattle.mailbox_files.specs.Pieces.{is_whole, end_behind}
use Rattle.mailbox_files.proofs.Ends.{segment_at, ending_from_lem, through_more, ended_more, end_more, ended}
use Rattle.mailbox_files.proofs.Walks.{whole_ended, unz_from, Found, here, on, found, over_whole, unz_stands}

-- ---- one segment

module _ (c : Characters) (a b : List ℕ) where
  -- the first segment of bytes that begin in the same way is the same, where it ends within these
  abbrev Alike : Reading → ℕ → List ℕ → Type 0
  Alike r place ys =
      let ts = tokens_from c r place (ys ++ a) in
      ended_by 0 (through (ends 0) ts) ≡ true → end_place (through (ends 0) ts) < place + length ys
      → through (ends 0) (tokens_from c r place (ys ++ b)) ≡ through (ends 0) ts

  -- a token that ends no segment, in front
  alike_more : (t : Token) (place : ℕ) (ys : List ℕ) → ends 0 t ≡ false → (ts us : List Token)
      → ended_by 0 (through (ends 0) (t ∷ ts)) ≡ true → end_place (through (ends 0) (t ∷ ts)) < place + suc (length ys)
      → (ended_by 0 (through (ends 0) ts) ≡ true → end_place (through (ends 0) ts) < place + 1 + length ys → through (ends 0) us ≡ through (ends 0) ts)
      → through (ends 0) (t ∷ us) ≡ through (ends 0) (t ∷ ts)
  alike_more t place ys n ts us h k rest =
      through_more t us n
      ∙ ap (λ (l : List Token). t ∷ l) (rest (ended_more t ts n h) (omega (arith, end_more t ts n h)))
      ∙ sym (through_more t ts n)

  alike_from : (release : Bool) (from place : ℕ) (ys : List ℕ) → Alike (if release then released from else inside) place ys
  unfolding tokens_from unreleased reading taken through ends
  alike_from true from place [] h k = absurd (omega (arith, (ending_from_lem c true from place a h).stands))
  alike_from false from place [] h k = absurd (omega (arith, (ending_from_lem c false from place a h).stands))
  alike_from true from place (y ∷ ys) h k = step (role c y) h k (alike_from false 0 (place + 1) ys)
    where
      step : (o : Role)
          → ended_by 0 (through (ends 0) (taken o y from place (tokens_from c inside (place + 1) (ys ++ a)))) ≡ true
          → end_place (through (ends 0) (taken o y from place (tokens_from c inside (place + 1) (ys ++ a)))) < place + suc (length ys)
          → Alike inside (place + 1) ys
          → through (ends 0) (taken o y from place (tokens_from c inside (place + 1) (ys ++ b)))
          ≡ through (ends 0) (taken o y from place (tokens_from c inside (place + 1) (ys ++ a)))
      step (Separator rank) h k rest = alike_more (byte y from place) place ys refl (tokens_from c inside (place + 1) (ys ++ a)) (tokens_from c inside (place + 1) (ys ++ b)) h k rest
      step Release h k rest = alike_more (byte y from place) place ys refl (tokens_from c inside (place + 1) (ys ++ a)) (tokens_from c inside (place + 1) (ys ++ b)) h k rest
      step Plain h k rest = alike_more (fault from) place ys refl (tokens_from c inside (place + 1) (ys ++ a)) (tokens_from c inside (place + 1) (ys ++ b)) h k rest
  alike_from false from place (y ∷ ys) h k =
      step (role c y) h k (alike_from false 0 (place + 1) ys) (alike_from true place (place + 1) ys)
    where
      tokens_of : Role → List ℕ → List Token
      tokens_of o zs = unreleased o y place (tokens_from c (reading o place) (place + 1) zs)

      step : (o : Role)
          → ended_by 0 (through (ends 0) (tokens_of o (ys ++ a))) ≡ true
          → end_place (through (ends 0) (tokens_of o (ys ++ a))) < place + suc (length ys)
          → Alike inside (place + 1) ys → Alike (released place) (place + 1) ys
          → through (ends 0) (tokens_of o (ys ++ b)) ≡ through (ends 0) (tokens_of o (ys ++ a))
      step (Separator zero) h k rest more = refl
      step (Separator (suc rank)) h k rest more =
          alike_more (separator (suc rank) place) place ys (ends_no 0 place {k = suc rank} (omega arith)) (tokens_from c inside (place + 1) (ys ++ a)) (tokens_from c inside (place + 1) (ys ++ b)) h k rest
      step Release h k rest more = more h (omega arith)
      step Plain h k rest more = alike_more (byte y place place) place ys refl (tokens_from c inside (place + 1) (ys ++ a)) (tokens_from c inside (place + 1) (ys ++ b)) h k rest

-- ---- breaks

-- as many breaks stand in front, where a byte of the same beginning ends them
breaks_alike : (ys a b : List ℕ) → breaks (ys ++ a) < length ys → breaks (ys ++ b) ≡ breaks (ys ++ a)
unfolding breaks
breaks_alike [] a b h = absurd (omega arith)
breaks_alike (y ∷ ys) a b h = step (is_break y) h (breaks_alike ys a b)
  where
    step : (t : Bool) → (if t then suc (breaks (ys ++ a)) else zero) < suc (length ys)
        → (breaks (ys ++ a) < length ys → breaks (ys ++ b) ≡ breaks (ys ++ a))
        → (if t then suc (breaks (ys ++ b)) else zero) ≡ (if t then suc (breaks (ys ++ a)) else zero)
    step true h rest = ap suc (rest (omega arith))
    step false h rest = refl

-- ---- the walk

module _ (c : Characters) (x a b : List ℕ) where
  -- the segment that begins at a place, where it ends within x
  segment_alike : (at : ℕ) → ended_by 0 (segment_at c (x ++ a) at) ≡ true → end_place (segment_at c (x ++ a) at) < length x
      → segment_at c (x ++ b) at ≡ segment_at c (x ++ a) at
  unfolding tokens_at tokens
  segment_alike at h k =
      let within : at ≤ length x = omega (arith, (ended c (x ++ a) at h).above) in
      let first : List ℕ → Segment = λ bs. through (ends 0) (tokens_from c inside at bs) in
      let da : first (drop at (x ++ a)) ≡ first (drop at x ++ a) = ap first (drop-append-le at x a within) in
      let db : first (drop at (x ++ b)) ≡ first (drop at x ++ b) = ap first (drop-append-le at x b within) in
      db
      ∙ alike_from c a b false 0 at (drop at x) (sym (ap (ended_by 0) da) ∙ h) (omega (arith, ap end_place da, length-drop at x))
      ∙ sym da

  -- and the place behind its breaks
  behind_alike : (g : Segment) → end_behind (x ++ a) g < length x → end_behind (x ++ b) g ≡ end_behind (x ++ a) g
  unfolding end_behind after_breaks
  behind_alike g h =
      let p : ℕ = end_place g + 1 in
      let within : p ≤ length x = omega arith in
      let da : breaks (drop p (x ++ a)) ≡ breaks (drop p x ++ a) = ap breaks (drop-append-le p x a within) in
      let db : breaks (drop p (x ++ b)) ≡ breaks (drop p x ++ b) = ap breaks (drop-append-le p x b within) in
      ap (λ (n : ℕ). p + n) (db ∙ breaks_alike (drop p x) a b (omega (arith, da, length-drop p x)) ∙ sym da)

  -- the UNZ that the walk finds, where it ends within x
  pub unz_alike : (n at : ℕ) (g : Segment) → length (x ++ a) ≤ at + n → unz_from c (x ++ a) at ≡ some g → end_place g < length x
      → unz_from c (x ++ b) at ≡ some g
  unfolding end_behind after_breaks
  unz_alike zero at g l h k = absurd (omega (arith, unz_stands c (x ++ a) zero at g l h))
  unz_alike (suc n) at g l h k = step (found c (x ++ a) at g h) (λ next m i. unz_alike n next g m i k)
    where
      s : Segment
      s = segment_at c (x ++ a) at

      -- over a whole segment that ends within x
      over : is_whole s ≡ true → end_place s < length x
          → unz_from c (x ++ b) at ≡ (if is Unz (kind_of s) then some s else unz_from c (x ++ b) (end_behind (x ++ b) s))
      over w e =
          let same = segment_alike at (whole_ended s w) e in
          over_whole c (x ++ b) at (ap is_whole same ∙ w)
          ∙ ap (λ (q : Segment). if is Unz (kind_of q) then some q else unz_from c (x ++ b) (end_behind (x ++ b) q)) same

      step : Found c (x ++ a) at g → ((next : ℕ) → length (x ++ a) ≤ next + n → unz_from c (x ++ a) next ≡ some g → unz_from c (x ++ b) next ≡ some g)
          → unz_from c (x ++ b) at ≡ some g
      step (here e w u) rest =
          over (ap is_whole e ∙ w) (omega (arith, ap end_place e))
          ∙ ap (λ (q : Segment). if is Unz (kind_of q) then some q else unz_from c (x ++ b) (end_behind (x ++ b) q)) e
          ∙ ap (λ (t : Bool). if t then some g else unz_from c (x ++ b) (end_behind (x ++ b) g)) u
      step (on w u m) rest =
          let next : ℕ = end_behind (x ++ a) s in
          let above = (ended c (x ++ a) at (whole_ended s w)).above in
          let stands = unz_stands c (x ++ a) (length (x ++ a)) next g (omega arith) m in
          over w (omega (arith, stands.0))
          ∙ ap (λ (t : Bool). if t then some s else unz_from c (x ++ b) (end_behind (x ++ b) s)) u
          ∙ ap (unz_from c (x ++ b)) (behind_alike s (omega (arith, stands.0)))
          ∙ rest next (omega (arith, above)) m
