-- The records of marks that are let out, one after the other and kind by kind. Assumes nothing.
use Prim.Native.Nat.{ℕ, suc, ◌+◌, ◌*◌, ◌-◌, ◌≤◌, ◌<◌}
use mathlib.Core.Path.{◌≡◌, refl, sym, ap, subst, ◌∙◌}
use mathlib.Core.List.{List, [], ◌++◌}
use native.Mathlib.Omega.{arith}
use lib.ListN.{length, drop_of_length-le}
use lib.Seq.{sets, length-sets}
use Rattle.operations.specs.ValueList.{Entry}
use Rattle.emission_laws.specs.Emission.{waiting}
use Rattle.storing.specs.Sinks.{SinkLaws}
use Rattle.storing.proofs.Stores.{stored_after}
use Rattle.storing.proofs.Putting.{put_after}
use Rattle.read_counts.specs.declared.Listing.{Listing}
use Rattle.read_counts.specs.Marks.{run_out, run_next, numbers_out, entry_next}
use Rattle.read_counts.specs.Tally.{entry_of, listing, end, marks_out, entry_after, after_marks, past_elements, past_repeats, past_held, byte_numbers}
use Rattle.read_counts.proofs.Steps.{after_none, marks_length, end_marks, records_byte}

-- ---- marks of one kind

module _ (kind count i : ℕ) (h : i < count) where
  one_more : count - i ≡ suc (count - (i + 1))
  one_more = omega arith

  -- the first of the marks that are left writes out the open record
  pub marks_first : (e : Entry) → marks_out kind (count - i) e ≡ numbers_out e ++ marks_out kind (count - (i + 1)) (entry_next kind e)
  unfolding run_out
  marks_first e = ap (λ (n : ℕ). marks_out kind n e) one_more

  -- and the others follow it
  pub after_first : (m : Listing) → after_marks kind (count - i) m ≡ after_marks kind (count - (i + 1)) (after_marks kind 1 m)
  unfolding after_marks run_next
  after_first m =
      ap (λ (n : ℕ). after_marks kind n m) one_more
      ∙ ap (λ (n : ℕ). listing n (entry_after kind (count - (i + 1)) (entry_next kind (entry_of m))) m.held) sum
    where
      sum : m.records + suc (count - (i + 1)) ≡ m.records + 1 + (count - (i + 1))
      sum = omega arith

-- Where `count` marks are to be let out, and i of them are: the records that are left, stored from here, give the whole, and
-- the listing after them is the same.
pub record Lets (kind count : ℕ) (t₀ t₁ : List ℕ) (l m : Listing) (i : ℕ) : Type 0 where
  pub stored : sets t₀ (l.records * 3) (marks_out kind count (entry_of l)) ≡ sets t₁ (m.records * 3) (marks_out kind (count - i) (entry_of m))
  pub after : after_marks kind count l ≡ after_marks kind (count - i) m
  pub as_long : length t₁ ≡ length t₀
  pub passed : i ≤ count
  pub records : m.records ≡ l.records + i
  pub ended : end m ≡ end l

-- the open record is stored, and the next one is open
pub lets_step : {kind count : ℕ} {t₀ t₁ t₂ : List ℕ} {l : Listing} (m : Listing) {n : Listing} {i : ℕ} → Lets kind count t₀ t₁ l m i → i < count
    → t₂ ≡ sets t₁ (m.records * 3) (numbers_out (entry_of m)) → n ≡ after_marks kind 1 m → Lets kind count t₀ t₂ l n (i + 1)
unfolding after_marks run_next
lets_step {kind} {count} {t₀} {t₁} {t₂} {l} m {n} {i} s h e d =
    subst (λ (x : Listing). Lets kind count t₀ t₂ l x (i + 1)) (sym d)
    (record {
      stored =
          s.stored
          ∙ ap (sets t₁ (m.records * 3)) (marks_first kind count i h (entry_of m))
          ∙ sym (stored_after t₁ (m.records * 3) (numbers_out (entry_of m)) (marks_out kind (count - (i + 1)) (entry_next kind (entry_of m))) e next refl);
      after = s.after ∙ after_first kind count i h m;
      as_long = ap length e ∙ length-sets t₁ (m.records * 3) (numbers_out (entry_of m)) ∙ s.as_long;
      passed = omega arith;
      records = omega (arith, s.records);
      ended = end_marks kind 1 m ∙ s.ended;
    })
  where
    next : (m.records + 1) * 3 ≡ m.records * 3 + 3
    next = omega arith

-- where none is left all is stored
pub lets_end : {kind count : ℕ} {t₀ t₁ : List ℕ} {l : Listing} (m : Listing) {i : ℕ} → Lets kind count t₀ t₁ l m i → count ≤ i
    → (t₁ ≡ sets t₀ (l.records * 3) (marks_out kind count (entry_of l))) × (m ≡ after_marks kind count l)
unfolding run_out
lets_end {kind} {count} {t₀} {t₁} {l} m {i} s h =
    (sym (s.stored ∙ ap (λ (n : ℕ). sets t₁ (m.records * 3) (marks_out kind n (entry_of m))) none_left), after_none kind (count - i) m none_left ∙ sym s.after)
  where
    none_left : count - i ≡ 0
    none_left = omega arith

-- ---- what is held back

-- where nothing is held back it lets out no record
pub no_held : (l : Listing) → waiting l.held ≡ 0 → byte_numbers l ≡ []
unfolding past_held after_marks
no_held l e = drop_of_length-le (byte_numbers l) {i = 0} (omega (arith, records_byte l))

-- the records that it lets out: those of elements, after them those of repeats, and after them those of components
pub held_put : {holds : List ℕ → ℕ → List ℕ → List ℕ} {room : List ℕ → ℕ} → SinkLaws holds room → (t₀ : List ℕ) {t₁ t₂ t₃ : List ℕ} (l o p : Listing) → t₁ ≡ holds t₀ (l.records * 3) (marks_out 1 l.held.elements (entry_of l))
    → o ≡ past_elements l → t₂ ≡ holds t₁ (o.records * 3) (marks_out 3 l.held.repeats (entry_of o))
    → p ≡ after_marks 3 l.held.repeats o → t₃ ≡ holds t₂ (p.records * 3) (marks_out 2 l.held.components (entry_of p))
    → t₃ ≡ holds t₀ (l.records * 3) (byte_numbers l)
unfolding after_marks byte_numbers
held_put {holds} laws t₀ {t₁} {t₂} {t₃} l o p a d b f g =
    put_after laws t₀ (l.records * 3) (marks_out 1 l.held.elements (entry_of l)) (repeats o ++ components (past_repeats l))
    a
    (ap (λ (x : Listing). x.records * 3) d ∙ omega (arith, marks_length 1 l.held.elements (entry_of l)))
    rest
    ∙ ap (λ (x : Listing). holds t₀ (l.records * 3) (marks_out 1 l.held.elements (entry_of l) ++ (repeats x ++ components (past_repeats l)))) d
  where
    repeats : Listing → List ℕ
    repeats x = marks_out 3 l.held.repeats (entry_of x)

    components : Listing → List ℕ
    components x = marks_out 2 l.held.components (entry_of x)

    -- those of repeats and of components
    rest : t₃ ≡ holds t₁ (o.records * 3) (repeats o ++ components (past_repeats l))
    rest =
        put_after laws t₁ (o.records * 3) (repeats o) (components p) b
        (ap (λ (x : Listing). x.records * 3) f ∙ omega (arith, marks_length 3 l.held.repeats (entry_of o)))
        g
        ∙ ap (λ (x : Listing). holds t₁ (o.records * 3) (repeats o ++ components x)) (f ∙ ap (after_marks 3 l.held.repeats) d)
