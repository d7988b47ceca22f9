-- What each contract allows, case by case: which answer, which bytes in each buffer, which part of which slice. Assumes nothing.
use Rattle.answers.specs.declared.Unaccepted.TheVariants.{First, Second}
use Rattle.std.specs.Prelude.{Ok, Err, Some, Result}
use Prim.Native.Nat.{ℕ, ◌+◌, ◌≤◌, ◌<◌}
use mathlib.Core.Path.{◌≡◌, ap, subst, ◌∙◌}
use mathlib.Core.Bool.{true, false}
use mathlib.Core.List.{List, [], ◌∷◌, ◌++◌}
use mathlib.Core.Option.{none, some}
use lib.ListN.{length, take, drop}
use denote.Ref.{Bor}
use Rattle.refusals.specs.declared.Refusal.{Refusal}
use Rattle.values.specs.Values.{Value}
use Rattle.stages.specs.Contents.{normal_form}
use Rattle.stages.specs.Stages.{refusal_of}
use Rattle.answers.specs.declared.Listed.{Listed}
use Rattle.answers.specs.Answers.{given, told_judged, told_stored, told_compared, told_located, told_listed, Stored, Judged, Compared, Located}
use Rattle.operations.specs.Judge.{figures_of}
use Rattle.operations.specs.Compare.{are_same, Part, of_first, of_second, keep}
use Rattle.operations.specs.Locate.{located, locate, part_offset}
use Rattle.operations.specs.Read.{value_bytes, value_table, read_refusal}
use Rattle.operations.specs.Write.{written_text, write_refusal}
use Rattle.operations.proofs.Answered.{normalises, read_given}
use Rattle.operations.proofs.Located.{locate_found, part_is}
use Rattle.operations.proofs.Cases.{judge_is, first_refused, second_refused, keep_is, write_given}
use Rattle.contracts.specs.Promises.{Judges, Normalises, Compares, Locates, Reads, Writes, IsPart, Handed, Keeps, HandsBack}
use Rattle.contracts.specs.Tight.{SameSlice}
use Rattle.contracts.proofs.Told.{judged_tells, stored_tells, compared_tells, located_tells, listed_tells}

pub judges : (s : List ℕ) (r : Judged) → Judges s r
    → (refusal_of s ≡ none → r ≡ Ok (figures_of s)) × ((q : Refusal) → refusal_of s ≡ some q → r ≡ Err q)
unfolding told_judged
judges s r h = (
  λ e. judged_tells r (Ok (figures_of s)) (h ∙ (judge_is s).0 e),
  λ q e. judged_tells r (Err q) (h ∙ (judge_is s).1 q e),
)

-- the form goes to the front of the buffer
pub stores_form : (buffer s : List ℕ) (r : Stored) (after : List ℕ) → Normalises buffer s r after
    → refusal_of s ≡ none → length (normal_form s) ≤ length buffer
    → (r ≡ Ok (length (normal_form s))) × (after ≡ normal_form s ++ drop (length (normal_form s)) buffer)
unfolding told_stored
stores_form buffer s r after h e fits =
    let told = normalises buffer s e fits in
    (stored_tells r (Ok (length (normal_form s))) (h.0 ∙ told.0), h.1 ∙ told.1)

-- the first input is judged first
pub compares : (a b : List ℕ) (r : Compared) → Compares a b r
    → ((q : Refusal) → refusal_of a ≡ some q → r ≡ Err (First q))
    × ((q : Refusal) → refusal_of a ≡ none → refusal_of b ≡ some q → r ≡ Err (Second q))
unfolding told_compared
compares a b r h = (
  λ q e. compared_tells r (Err (First q)) (h ∙ first_refused a b e),
  λ q e d. compared_tells r (Err (Second q)) (h ∙ second_refused a b e d),
)

pub locates : (s : List ℕ) (segment element repeat component : ℕ) (r : Located) → Locates s segment element repeat component r
    → refusal_of s ≡ none → (v : Value) → located s segment element repeat component ≡ some v → r ≡ Ok (Some (record { offset = v.offset; length = v.spelled }))
unfolding told_located
locates s segment element repeat component r h e v d =
    located_tells r (Ok (Some (record { offset = v.offset; length = v.spelled }))) (h ∙ locate_found s segment element repeat component e v d)

-- the values' bytes go to the front of the first buffer, their table to the front of the second
pub lists_values : (buffer table s : List ℕ) (r : Result Listed Refusal) (bytesAfter tableAfter : List ℕ) → Reads buffer table s r bytesAfter tableAfter
    → read_refusal buffer table s ≡ none
    → (r ≡ Ok (record { bytes = length (value_bytes s); numbers = length (value_table s) }))
    × (bytesAfter ≡ value_bytes s ++ drop (length (value_bytes s)) buffer)
    × (tableAfter ≡ value_table s ++ drop (length (value_table s)) table)
unfolding told_listed
lists_values buffer table s r bytesAfter tableAfter h e =
    let told = read_given buffer table s e in
    (listed_tells r (Ok (record { bytes = length (value_bytes s); numbers = length (value_table s) })) (h.0 ∙ told.0), h.1 ∙ told.1, h.2 ∙ told.2)

-- the text goes to the front of the output buffer
pub stores_text : (service bytes table output : List ℕ) (r : Stored) (after : List ℕ) → Writes service bytes table output r after
    → write_refusal service bytes table output ≡ none
    → let text : List ℕ = written_text service bytes table in
    (r ≡ Ok (length text)) × (after ≡ text ++ drop (length text) output)
unfolding told_stored
stores_text service bytes table output r after h e =
    let told = write_given service bytes table output e in
    (stored_tells r (Ok (length (written_text service bytes table))) (h.0 ∙ told.0), h.1 ∙ told.1)

-- the whole of the first slice, the whole of the second, or zero bytes of the first
pub keeps : (first second r : Bor (List ℕ)) → Keeps first second r
    → (are_same first.now second.now ≡ true → length first.now ≤ length second.now → IsPart first 0 (length first.now) r)
    × (are_same first.now second.now ≡ true → length second.now < length first.now → IsPart second 0 (length second.now) r)
    × (are_same first.now second.now ≡ false → IsPart first 0 0 r)
keeps first second r h =
    let which = keep_is first.now second.now in
    let handed : (part : Part) → keep first.now second.now ≡ part → Handed part first second r =
    λ part e. subst (λ (p : Part). Handed p first second r) e h
    in (
      λ e l. handed (of_first 0 (length first.now)) (which.0 e l),
      λ e l. handed (of_second 0 (length second.now)) (which.1 e l),
      λ e. handed (of_first 0 0) (which.2 e),
    )

-- the part that Locate's answer names
pub hands_back : (s : Bor (List ℕ)) (segment element repeat component : ℕ) (r : Bor (List ℕ)) → HandsBack s segment element repeat component r
    → (offset size : ℕ) → locate s.now segment element repeat component ≡ given (offset ∷ size ∷ []) → IsPart s offset size r
hands_back s segment element repeat component r h offset size e =
    let bounds = part_is s.now segment element repeat component offset size e in
    subst (λ (n : ℕ). IsPart s n size r) bounds.0
    (subst (λ (n : ℕ). IsPart s (part_offset s.now segment element repeat component) n r) bounds.1 h)

-- written out: where the part begins in memory, how long it is, and its bytes
pub part_back : (s : Bor (List ℕ)) (segment element repeat component : ℕ) (r : Bor (List ℕ)) → HandsBack s segment element repeat component r
    → (offset size : ℕ) → locate s.now segment element repeat component ≡ given (offset ∷ size ∷ [])
    → (r.ref_ptr ≡ (s.ref_ptr.0, offset + s.ref_ptr.1)) × (length r.now ≡ size) × (r.now ≡ take size (drop offset s.now))
part_back s segment element repeat component r h offset size e =
    let part = hands_back s segment element repeat component r h offset size e in
    (part.place, part.long, part.bytes)

-- the same slice: the same memory, from the same place on, and the same bytes, so that it is as long
pub same_slice : (r q : Bor (List ℕ)) → SameSlice r q
    → (r.ref_ptr.0 ≡ q.ref_ptr.0) × (r.ref_ptr.1 ≡ q.ref_ptr.1) × (r.now ≡ q.now) × (length r.now ≡ length q.now)
same_slice r q h = (ap (λ p. p.0) h.0, ap (λ p. p.1) h.0, h.1, ap length h.1)
