-- The round trips follow from the contracts: each answer gives what the laws about the definitions ask for. Assumes nothing.
use Rattle.std.specs.Prelude.{if◌then◌else◌, Ok}
use Prim.Native.Nat.{ℕ, ◌≤◌}
use mathlib.Core.Path.{◌≡◌, refl, sym, ap, ap₂, subst, ◌∙◌}
use mathlib.Core.Bool.{Bool, true, false}
use mathlib.Core.List.{List, [], ◌∷◌, ◌++◌}
use mathlib.Core.Option.{Option, none, some}
use lib.ListN.{length, take, drop, get_or}
use lib.Seq.{take_at}
use lib.Dec.{ltb}
use Rattle.lists.specs.Lists.{all, maybe}
use Rattle.characters.specs.Characters.{is_break}
use Rattle.refusals.specs.declared.Fault.{Fault}
use Rattle.refusals.specs.declared.Fault.TheVariants.{BufferShort}
use Rattle.refusals.specs.declared.Refusal.{Refusal}
use Rattle.refusals.specs.Limits.{most_bytes}
use Rattle.refusals.specs.Refusals.{or_else, answering}
use Rattle.refusals.proofs.Stages.{answering_append, lowest_if}
use Rattle.stages.specs.Contents.{contents, normal_form}
use Rattle.stages.specs.Stages.{stages, refusal_of}
use Rattle.stage_walks.specs.Walks.{refuse}
use Rattle.answers.specs.declared.Figures.{Figures}
use Rattle.answers.specs.Answers.{Answer, given, accepted, told_judged, told_stored, told_compared, told_listed}
use Rattle.operations.specs.Judge.{figures_of, judge, short_for, stored_in, unless_refused, normalise_refusal, normalise, normalise_buffer}
use Rattle.operations.specs.Compare.{compare}
use Rattle.operations.specs.Read.{value_bytes, value_table, read_refusal, read}
use Rattle.operations.specs.Write.{written_text, write_refusal, write}
use Rattle.operations.specs.ValueList.{list_of, listed_in}
use Rattle.contracts.specs.Promises.{Judges, Normalises, Reads, Writes}
use Rattle.contracts.proofs.Told.{judged_tells, compared_tells, given_is, refused_is}
use Rattle.trimming_laws.proofs.Tables.{listed_table}
use Rattle.normal_form_laws.proofs.Theorems.{normal_form_lem}
use Rattle.acceptance_laws.specs.Allowed.{Allowed}
use Rattle.acceptance_laws.specs.Breaks.{ButForBreaks}
use Rattle.acceptance_laws.proofs.Same.{compared_same}
use Rattle.acceptance_laws.proofs.Acceptance.{allowed_exactly}
use Rattle.acceptance_laws.proofs.Judged.{judged_number}
use Rattle.acceptance_laws.proofs.Breaks.{breaks_same}
use Rattle.acceptance_laws.proofs.Respaced.{breaks_behind}
use Rattle.round_trip_laws.proofs.Written.{bytes_stand, table_stands}
use Rattle.round_trip_laws.proofs.Theorems.{written_accepted, written_back, read_back}
use Rattle.theorems.specs.FromContracts.{IsAccepted, AreSame, ReadAfterWrite, WriteAfterRead, Contracts}

-- ---- what the definitions answer is what the code answers

judge_accepts : (text : List ℕ) → judge text ≡ accepted (figures_of text) → IsAccepted text
unfolding told_judged
judge_accepts text e r h = judged_tells r (Ok (figures_of text)) (h ∙ e)

compare_same : (a b : List ℕ) → compare a b ≡ given (1 ∷ []) → AreSame a b
unfolding told_compared
compare_same a b e r h = compared_tells r (Ok true) (h ∙ e)

-- the first and the second of an answer's values
first : {l m : List ℕ} → l ≡ m → get_or l 0 0 ≡ get_or m 0 0
first e = ap (λ (l : List ℕ). get_or l 0 0) e

second : {l m : List ℕ} → l ≡ m → get_or l 1 0 ≡ get_or m 1 0
second e = ap (λ (l : List ℕ). get_or l 1 0) e

-- ---- Write

module _ (service bytes table output : List ℕ) (n : ℕ) (after : List ℕ) (h : Writes service bytes table output (Ok n) after) where
  abbrev text : List ℕ
  text = written_text service bytes table

  -- nothing was refused, and the answer is the text's length
  write_told : (write_refusal service bytes table output ≡ none) × (n ∷ [] ≡ length text ∷ [])
  unfolding write told_stored
  write_told = given_is (length text ∷ []) (n ∷ []) (write_refusal service bytes table output) h.0

  write_zero : (write service bytes table output).number ≡ 0
  unfolding told_stored given
  write_zero = sym (ap (λ (a : Answer). a.number) h.0)

  -- the text stands at the front
  text_is : take n after ≡ text
  text_is = ap₂ take (first write_told.1) h.1 ∙ (written_back service bytes table output write_zero).stored

-- ---- Read

module _ (buffer numbers s : List ℕ) (b k : ℕ) (bytesAfter tableAfter : List ℕ)
    (h : Reads buffer numbers s (Ok (record { bytes = b; numbers = k })) bytesAfter tableAfter) where
  -- nothing was refused, and the answer is both lengths
  read_told : (read_refusal buffer numbers s ≡ none) × (b ∷ k ∷ [] ≡ length (value_bytes s) ∷ length (value_table s) ∷ [])
  unfolding read told_listed
  read_told = given_is (length (value_bytes s) ∷ length (value_table s) ∷ []) (b ∷ k ∷ []) (read_refusal buffer numbers s) h.0

  read_zero : (read buffer numbers s).number ≡ 0
  unfolding told_listed given
  read_zero = sym (ap (λ (a : Answer). a.number) h.0)

  -- the value list stands at the front of both
  bytes_are : take b bytesAfter ≡ value_bytes s
  bytes_are = ap₂ take (first read_told.1) h.1 ∙ bytes_stand buffer numbers s read_told.0

  table_is : take k tableAfter ≡ value_table s
  table_is = ap₂ take (second read_told.1) h.2 ∙ table_stands buffer numbers s read_told.0

  list_is : listed_in (take b bytesAfter) (take k tableAfter) ≡ list_of (contents s)
  unfolding value_bytes value_table
  list_is = ap₂ listed_in bytes_are table_is ∙ listed_table (list_of (contents s))

-- of an accepted text Read is refused by 14 alone
read_short : (buffer numbers s : List ℕ) → refusal_of s ≡ none → (r : Refusal) → read_refusal buffer numbers s ≡ some r → r.fault ≡ BufferShort
unfolding read_refusal refusal_of answering or_else short_for maybe
read_short buffer numbers s a r e =
    ap fault_of
    (sym e
    ∙ answering_append (stages s) (short_for (value_bytes s) buffer ∷ short_for (value_table s) numbers ∷ [])
    ∙ ap (λ (o : Option Refusal). or_else o (answering (short_for (value_bytes s) buffer ∷ short_for (value_table s) numbers ∷ []))) a
    ∙ ap₂ (λ (o p : Option Refusal). or_else o (or_else p none))
    (lowest_if BufferShort (ltb (length buffer) (length (value_bytes s))) (length (value_bytes s)))
    (lowest_if BufferShort (ltb (length numbers) (length (value_table s))) (length (value_table s))))
    ∙ step (ltb (length buffer) (length (value_bytes s))) (ltb (length numbers) (length (value_table s)))
  where
    fault_of : Option Refusal → Fault
    fault_of o = maybe BufferShort (λ q. q.fault) o

    step : (t u : Bool)
        → fault_of (or_else (if t then refuse BufferShort (length (value_bytes s)) else none) (or_else (if u then refuse BufferShort (length (value_table s)) else none) none))
        ≡ BufferShort
    step true u = refl
    step false true = refl
    step false false = refl

-- ---- Normalise

module _ (buffer s : List ℕ) (n : ℕ) (after : List ℕ) (h : Normalises buffer s (Ok n) after) where
  -- nothing was refused, and the answer is the length
  normalise_told : (normalise_refusal buffer s ≡ none) × (n ∷ [] ≡ length (normal_form s) ∷ [])
  unfolding normalise told_stored
  normalise_told = given_is (length (normal_form s) ∷ []) (n ∷ []) (normalise_refusal buffer s) h.0

  input_accepted : refusal_of s ≡ none
  unfolding normalise_refusal refusal_of or_else
  input_accepted =
      step (refusal_of s) (sym (answering_append (stages s) (short_for (normal_form s) buffer ∷ [])) ∙ normalise_told.0)
    where
      step : (o : Option Refusal) → or_else o (answering (short_for (normal_form s) buffer ∷ [])) ≡ none → o ≡ none
      step none e = refl
      step (some r) e = e

  -- the normal form stands at the front
  form_is : take n after ≡ normal_form s
  unfolding normalise_buffer unless_refused stored_in
  form_is =
      ap (take n) (h.1 ∙ ap (λ (o : Option Refusal). unless_refused o (stored_in buffer (normal_form s)) buffer) normalise_told.0)
      ∙ take_at (normal_form s) (drop (length (normal_form s)) buffer) n (sym (first normalise_told.1))

  form_same : compare s (normal_form s) ≡ given (1 ∷ [])
  form_same =
      let form = normal_form_lem s input_accepted in
      (compared_same s (normal_form s)).1
      (record {
        first = (allowed_exactly s).0 input_accepted;
        second = (allowed_exactly (normal_form s)).0 form.accepted;
        normal = sym form.own_form;
      })

-- ---- one after another

write_read : (service bytes table output : List ℕ) (n : ℕ) (after : List ℕ)
    → Writes service bytes table output (Ok n) after → ReadAfterWrite bytes table (take n after)
unfolding read told_listed
write_read service bytes table output n after h =
    let back = written_back service bytes table output (write_zero service bytes table output n after h) in
    let passed = written_accepted service bytes table output (write_told service bytes table output n after h).0 in
    subst (ReadAfterWrite bytes table) (sym (text_is service bytes table output n after h))
    (record {
      accepts = judge_accepts (written_text service bytes table) back.accepts;
      gives_back = λ buffer numbers b k x t r. list_is buffer numbers (written_text service bytes table) b k x t r ∙ ap list_of back.same_contents;
      only_short = λ buffer numbers q x t r.
          read_short buffer numbers (written_text service bytes table) passed q
          (refused_is (length (value_bytes (written_text service bytes table)) ∷ length (value_table (written_text service bytes table)) ∷ []) q
          (read_refusal buffer numbers (written_text service bytes table)) r.0);
    })

read_write : (buffer numbers s : List ℕ) (b k : ℕ) (bytesAfter tableAfter : List ℕ)
    → Reads buffer numbers s (Ok (record { bytes = b; numbers = k })) bytesAfter tableAfter → (service output : List ℕ) (n : ℕ) (after : List ℕ)
    → Writes service (take b bytesAfter) (take k tableAfter) output (Ok n) after → WriteAfterRead s service (take n after)
read_write buffer numbers s b k bytesAfter tableAfter r service output n after w =
    let text : List ℕ = written_text service (value_bytes s) (value_table s) in
    let h : Writes service (value_bytes s) (value_table s) output (Ok n) after =
    subst (λ (bytes : List ℕ). Writes service bytes (value_table s) output (Ok n) after) (bytes_are buffer numbers s b k bytesAfter tableAfter r)
    (subst (λ (table : List ℕ). Writes service (take b bytesAfter) table output (Ok n) after) (table_is buffer numbers s b k bytesAfter tableAfter r) w)
    in
    let zero = write_zero service (value_bytes s) (value_table s) output n after h in
    let back = read_back s buffer numbers service output (read_zero buffer numbers s b k bytesAfter tableAfter r) zero in
    subst (WriteAfterRead s service) (sym (text_is service (value_bytes s) (value_table s) output n after h))
    (record {
      accepts = judge_accepts text back.accepts;
      characters = (written_back service (value_bytes s) (value_table s) output zero).characters;
      same_contents = back.same_contents;
      same = λ mark. compare_same s text (back.same mark);
    })

-- ---- line breaks

-- what Judge accepts, the rules allow
judge_allows : (s : List ℕ) (i : Figures) → Judges s (Ok i) → Allowed s
unfolding told_judged accepted given
judge_allows s i h = (judged_number s).0 (sym (ap (λ (a : Answer). a.number) h))

breaks_alike : (s t : List ℕ) (i : Figures) → Judges s (Ok i) → ButForBreaks s t → length t ≤ most_bytes → AreSame s t
breaks_alike s t i h alike short = compare_same s t ((compared_same s t).1 (breaks_same s t alike (judge_allows s i h) short))

breaks_compare : (s gap : List ℕ) (i : Figures) → Judges s (Ok i) → all is_break gap ≡ true → length (s ++ gap) ≤ most_bytes
    → AreSame s (s ++ gap)
breaks_compare s gap i h only short = breaks_alike s (s ++ gap) i h (breaks_behind s (judge_allows s i h) gap only) short

pub contracts : Contracts
contracts =
    record {
      write_read = write_read;
      read_write = read_write;
      normalise_compare = λ buffer s n after h.
          subst (AreSame s) (sym (form_is buffer s n after h)) (compare_same s (normal_form s) (form_same buffer s n after h));
      breaks_alike = breaks_alike;
      breaks_compare = breaks_compare;
    }
