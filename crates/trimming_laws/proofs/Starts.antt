-- Which segments begin with a line break, in a value list and in the list of segments; trimming leaves what a segment begins with.
-- Assumes nothing.
use Prim.Native.Nat.{ℕ, zero, suc, ◌≤◌}
use mathlib.Core.Path.{◌≡◌, refl, sym, ap, ap₂, fun_ext, ◌∙◌}
use mathlib.Core.Bool.{Bool, true, not, ◌&&◌, and-true}
use mathlib.Core.List.{List, [], ◌∷◌}
use native.Mathlib.Omega.{arith}
use borrow.Author.Tests.{ne_eqb}
use Rattle.lists.specs.Lists.{is_empty, all, at, maybe, gather, trim_end}
use Rattle.lists.proofs.Texts.{and_left, and_right, and_both, all_append, all_mapped}
use Rattle.nesting.specs.Nesting.{Nest, shaped, flat}
use Rattle.nesting_laws.proofs.Shape.{shaped_some, shaped_first}
use Rattle.nesting_laws.proofs.Flat.{flat_last, flat_next}
use Rattle.values.specs.Trimming.{trim_repeat, trim_element, trim_segment, value_at}
use Rattle.values.specs.Spelling.{Bytes, SegmentList, leads_break, begins_broken}
use Rattle.operations.specs.ValueList.{Item, list_segment, list_of, segments_listed, trim_list}
use Rattle.spelling_laws.specs.Bodies.{shaped_segment, Shaped, Unbroken}
use Rattle.spelling_laws.proofs.Listing.{firstly, begins_first}
use Rattle.trimming_laws.specs.Kinds.{Kinds, starts_well, unbroken_starts}
use Rattle.trimming_laws.proofs.Nesting.{item, kind_of, segment_flat, shaped_listed, list_of_listed}

-- no part of a segment begins another one
kind_inside : (depth : ℕ) → suc depth ≤ 3 → kind_of depth ≡ 0 → ⊥
kind_inside zero h e = omega (arith, e)
kind_inside (suc zero) h e = omega (arith, e)
kind_inside (suc (suc zero)) h e = omega (arith, e)
kind_inside (suc (suc (suc depth))) h e = omega (arith, h)

-- what begins no segment may begin with a break
well_kept : (kind : ℕ) (v : Bytes) → (kind ≡ 0 → ⊥) → starts_well (item kind v) ≡ true
well_kept kind v n = ap (λ (b : Bool). not (b && leads_break v)) (ne_eqb kind 0 n)

-- a part that begins no segment
part_well : (n kind : ℕ) → n ≤ 3 → (kind ≡ 0 → ⊥) → (x : Nest Bytes n) → all starts_well (flat kind_of item n kind x) ≡ true
unfolding all
part_well zero kind h k v = and_both (starts_well (item kind v)) true (well_kept kind v k) refl
part_well (suc zero) kind h k [] = refl
part_well (suc (suc n)) kind h k [] = refl
part_well (suc n) kind h k (x ∷ []) = ap (all starts_well) (flat_last kind_of item n kind x) ∙ part_well n kind (omega arith) k x
part_well (suc n) kind h k (x ∷ y ∷ ys) =
    ap (all starts_well) (flat_next kind_of item n kind x y ys)
    ∙ all_append starts_well (flat kind_of item n kind x) (flat kind_of item (suc n) (kind_of n) (y ∷ ys))
    ∙ ap₂ ◌&&◌ (part_well n kind (omega arith) k x) (part_well (suc n) (kind_of n) h (kind_inside n h) (y ∷ ys))

-- a part that begins a segment begins well exactly where its first value does not begin with a break
begins_well : (n : ℕ) → n ≤ 3 → (x : Nest Bytes n) → shaped Bytes n x ≡ true → all starts_well (flat kind_of item n 0 x) ≡ not (leads_break (firstly n x))
unfolding all
begins_well zero h v s = and-true (not (leads_break v))
begins_well (suc n) h [] s = absurd (shaped_some Bytes n s)
begins_well (suc n) h (x ∷ []) s = ap (all starts_well) (flat_last kind_of item n 0 x) ∙ begins_well n (omega arith) x (shaped_first Bytes n x [] s)
begins_well (suc n) h (x ∷ y ∷ ys) s =
    ap (all starts_well) (flat_next kind_of item n 0 x y ys)
    ∙ all_append starts_well (flat kind_of item n 0 x) (flat kind_of item (suc n) (kind_of n) (y ∷ ys))
    ∙ ap₂ ◌&&◌ (begins_well n (omega arith) x (shaped_first Bytes n x (y ∷ ys) s)) (part_well (suc n) (kind_of n) h (kind_inside n h) (y ∷ ys))
    ∙ and-true (not (leads_break (firstly n x)))

-- the values of a segment begin it well exactly where it does not begin with a break
segment_well : (g : List (List (List Bytes))) → shaped_segment g ≡ true → all starts_well (list_segment g) ≡ not (begins_broken g)
unfolding shaped_segment
segment_well g s = ap (all starts_well) (segment_flat g) ∙ begins_well 3 (omega arith) g s ∙ ap not (begins_first g s)

pub unbroken_list_of : (list : SegmentList) → Shaped list → unbroken_starts (list_of list) ≡ all (λ g. not (begins_broken g)) list
unfolding Shaped unbroken_starts all list_of gather
unbroken_list_of [] s = refl
unbroken_list_of (g ∷ list) s =
    all_append starts_well (list_segment g) (gather list_segment list)
    ∙ ap₂ ◌&&◌ (segment_well g (and_left (shaped_segment g) (all shaped_segment list) s))
    (unbroken_list_of list (and_right (shaped_segment g) (all shaped_segment list) s))

-- a value list in which no value of kind 0 begins with a break is that of segments none of which does
pub unbroken_listed : (items : List Item) → Kinds items → unbroken_starts items ≡ true → Unbroken (segments_listed items)
unfolding Unbroken
unbroken_listed items k n =
    sym (unbroken_list_of (segments_listed items) (shaped_listed items k)) ∙ ap unbroken_starts (list_of_listed items k) ∙ n

-- trimming leaves the first value of a segment
trim_begins : (g : List (List (List Bytes))) → begins_broken (trim_segment is_empty g) ≡ begins_broken g
unfolding begins_broken value_at at maybe trim_segment trim_element trim_repeat trim_end
trim_begins [] = refl
trim_begins ([] ∷ es) = refl
trim_begins (([] ∷ rs) ∷ es) = refl
trim_begins (((v ∷ vs) ∷ rs) ∷ es) = refl

pub trim_unbroken : (list : SegmentList) → Unbroken list → Unbroken (trim_list list)
unfolding Unbroken trim_list
trim_unbroken list n =
    all_mapped (trim_segment is_empty) (λ g. not (begins_broken g)) list
    ∙ ap (λ (t : List (List (List Bytes)) → Bool). all t list) (fun_ext (λ g. ap not (trim_begins g)))
    ∙ n
