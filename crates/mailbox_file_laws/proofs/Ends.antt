-- A piece that ends in its UNZ: by itself, in front of others, and cut off from them. Assumes nothing.
use Rattle.std.specs.Prelude.{if◌then◌else◌}
use Prim.Native.Nat.{ℕ, zero, suc, ◌+◌, ◌-◌, ◌≤◌, ◌<◌}
use mathlib.Core.Path.{◌≡◌, refl, sym, ap, ap₂, ◌∙◌, subst}
use mathlib.Core.Logic.{⊎_elim}
use mathlib.Core.Bool.{Bool, true, false, ◌&&◌, ◌||◌}
use mathlib.Core.List.Memᴰ
use mathlib.Core.List.{List, [], ◌∷◌, ◌++◌, append_assoc, append-nil, Memᴰ}
use mathlib.Core.Option.{Option, none, some}
use native.Mathlib.Omega.{arith}
use lib.ListN.{length, take, drop, length-drop, take-append-drop}
use lib.Seq.{drop-append-le, take-append-add, take-append_seam, length-take-le, drop-drop}
use lib.Dec.{eqb}
use Rattle.lists.specs.Lists.{text, begins, all, cut, maybe}
use Rattle.lists.proofs.Texts.{and_both, and_left, and_right, if_true}
use Rattle.characters.specs.declared.Characters.{Characters}
use Rattle.characters.specs.Characters.{begins_version4, is_break, breaks, after_breaks, characters_of, body_start, body}
use Rattle.values.specs.Tokens.{Segment, segments, tokens_at}
use Rattle.values.specs.Values.{end_place}
use Rattle.values.specs.Spelling.{leads_break}
use Rattle.values.proofs.Steps.{at_end}
use Rattle.stages.specs.Contents.{body_tokens, segments_of}
use Rattle.normal_form_laws.proofs.Openings.{breaks_before, breaks_passed}
use Rattle.mailbox_files.specs.Pieces.{is_whole, is_unopened, first_unz, unz_of, end_behind, piece_end}
use Rattle.mailbox_files.proofs.Ends.{segment_at, ended}
use Rattle.mailbox_files.proofs.Walks.{whole_ended, unz_from, Found, here, on, found, segments_whole, unz_stands}
use Rattle.mailbox_files.proofs.Pieces.{unz_within, end_within}
use Rattle.mailbox_file_laws.specs.Cutting.{Faultless, EndsInUnz}
use Rattle.mailbox_file_laws.proofs.Agreement.{unz_alike}
use Rattle.mailbox_file_laws.proofs.Openings.{opened_clear, unb, opening, unz_opens, unz_from_lem, unz_behind}
use Rattle.mailbox_file_laws.proofs.Firsts.{First, first_here, first_on, first_as, first_is}

-- ---- breaks

breaks_all : (bs : List ℕ) → all is_break bs ≡ true → breaks bs ≡ length bs
unfolding all breaks
breaks_all [] h = refl
breaks_all (b ∷ bs) h =
    if_true (is_break b) (suc (breaks bs)) zero (and_left (is_break b) (all is_break bs) h)
    ∙ ap suc (breaks_all bs (and_right (is_break b) (all is_break bs) h))

all_breaks : (bs : List ℕ) → length bs ≤ breaks bs → all is_break bs ≡ true
unfolding all breaks
all_breaks [] h = refl
all_breaks (b ∷ bs) h = step (is_break b) refl h (all_breaks bs)
  where
    step : (t : Bool) → is_break b ≡ t → suc (length bs) ≤ (if t then suc (breaks bs) else zero)
        → (length bs ≤ breaks bs → all is_break bs ≡ true) → all is_break (b ∷ bs) ≡ true
    step true e k rest = and_both (is_break b) (all is_break bs) e (rest (omega arith))
    step false e k rest = absurd (omega arith)

-- those that stand in front, alone
breaks_taken : (bs : List ℕ) → breaks (take (breaks bs) bs) ≡ breaks bs
unfolding breaks
breaks_taken [] = refl
breaks_taken (b ∷ bs) = step (is_break b) refl (breaks_taken bs)
  where
    step : (t : Bool) → is_break b ≡ t → breaks (take (breaks bs) bs) ≡ breaks bs
        → breaks (take (if t then suc (breaks bs) else zero) (b ∷ bs)) ≡ (if t then suc (breaks bs) else zero)
    step true e ih = if_true (is_break b) (suc (breaks (take (breaks bs) bs))) zero e ∙ ap suc ih
    step false e ih = refl

-- the end of a part
drop_taken : (n m k : ℕ) (xs : List ℕ) → k ≡ n + m → drop n (take k xs) ≡ take m (drop n xs)
drop_taken zero m k xs e = let same : k ≡ m = omega arith in ap (λ (i : ℕ). take i xs) same
drop_taken (suc n) m zero xs e = absurd (omega arith)
drop_taken (suc n) m (suc k) [] e = sym (taken_none m)
  where
    taken_none : (i : ℕ) → ◌≡◌ {A = List ℕ} (take i []) []
    taken_none zero = refl
    taken_none (suc i) = refl
drop_taken (suc n) m (suc k) (x ∷ xs) e = drop_taken n m k xs (omega arith)

-- ---- the UNZ of a file

-- where the first piece of a file with a UNZ ends
pub end_is : (s : List ℕ) (g : Segment) → unz_of s ≡ some g → piece_end s ≡ end_behind s g
unfolding piece_end maybe
end_is s g h = ap (maybe (length s) (end_behind s)) h

-- what begins with some bytes is decided by as many
front_alike : (front x a b : List ℕ) → length front ≤ length x → begins front (x ++ a) ≡ begins front (x ++ b)
unfolding begins
front_alike [] x a b h = refl
front_alike (p ∷ ps) [] a b h = absurd (omega arith)
front_alike (p ∷ ps) (y ∷ ys) a b h = ap (λ (t : Bool). eqb p y && t) (front_alike ps ys a b (omega arith))

version_alike : (x a b : List ℕ) → 10 ≤ length x → begins_version4 (x ++ a) ≡ begins_version4 (x ++ b)
unfolding begins_version4
version_alike x a b h = ap₂ (λ (s t : Bool). s || t) (front_alike (text "UNB+UNOA:4") x a b h) (front_alike (text "UNB+UNOB:4") x a b h)

-- it is the same in two files that begin with the same bytes, where it ends within these
unz_same : (x a b : List ℕ) (g : Segment) → unz_of (x ++ a) ≡ some g → end_place g < length x → unz_of (x ++ b) ≡ some g
unz_same x a b g h l =
    let o = opening (x ++ a) (unz_opens (x ++ a) g h) in
    let n : ℕ = length o.lead in
    let c : Characters = o.c in
    let there : unz_from c (x ++ a) n ≡ some g =
    subst (λ (t : List ℕ). unz_from c t n ≡ some g) (sym o.is) (sym (unz_from_lem o o.rest (ap begins_version4 (sym o.is))) ∙ ap unz_of (sym o.is) ∙ h) in
    let here : unz_from c (x ++ b) n ≡ some g = unz_alike c x a b (length (x ++ a)) n g (omega arith) there l in
    let rest : ℕ = length x - (n + 4) in
    let size : length x ≡ n + suc (suc (suc (suc rest))) = omega (arith, unz_behind o g there) in
    let begun : x ≡ o.lead ++ unb c (take rest o.rest) =
    sym (take-append_seam x a)
    ∙ ap₂ (λ (i : ℕ) (t : List ℕ). take i t) size o.is
    ∙ take-append-add o.lead (unb c o.rest) (suc (suc (suc (suc rest)))) in
    let both : x ++ b ≡ o.lead ++ unb c (take rest o.rest ++ b) =
    ap (λ (t : List ℕ). t ++ b) begun ∙ append_assoc o.lead (unb c (take rest o.rest)) b in
    let ten : (more s : List ℕ) → s ≡ o.lead ++ unb c more → unz_from c s n ≡ some g → begins_version4 s ≡ true → begins_version4 (x ++ b) ≡ begins_version4 (x ++ a) =
    λ more s e k v. version_alike x b a (omega (
      arith,
      o.ten more g (ap begins_version4 (sym e) ∙ v) (subst (λ (t : List ℕ). unz_from c t n ≡ some g) e k),
    )) in
    let version : begins_version4 (x ++ b) ≡ begins_version4 (x ++ a) =
    alike (begins_version4 (x ++ a)) (begins_version4 (x ++ b)) (λ v. ten o.rest (x ++ a) o.is there v)
    (λ v. ten (take rest o.rest ++ b) (x ++ b) both here v) in
    ap unz_of both
    ∙ unz_from_lem o (take rest o.rest ++ b) (ap begins_version4 (sym both) ∙ version)
    ∙ ap (λ (t : List ℕ). unz_from c t n) (sym both)
    ∙ here
  where
    -- two tests that agree where either holds
    alike : (s t : Bool) → (s ≡ true → t ≡ s) → (t ≡ true → t ≡ s) → t ≡ s
    alike true t f k = f refl
    alike false true f k = k refl
    alike false false f k = refl

-- in front of more
pub unz_followed : (p more : List ℕ) (g : Segment) → unz_of p ≡ some g → unz_of (p ++ more) ≡ some g
unz_followed p more g h = unz_same p [] more g (ap unz_of (append-nil p) ∙ h) (unz_within p g h)

-- and where the file is cut behind it
pub unz_cut : (s : List ℕ) (n : ℕ) (g : Segment) → unz_of s ≡ some g → end_place g < n → n ≤ length s → unz_of (take n s) ≡ some g
unz_cut s n g h l k =
    ap unz_of (sym (append-nil (take n s)))
    ∙ unz_same (take n s) (drop n s) [] g (ap unz_of (take-append-drop n s) ∙ h) (omega (arith, length-take-le n s k))

-- ---- where the piece ends

-- by itself, where breaks alone stand behind its UNZ
end_alone : (p : List ℕ) (g : Segment) → unz_of p ≡ some g → all is_break (drop (end_place g + 1) p) ≡ true → piece_end p ≡ length p
unfolding end_behind after_breaks
end_alone p g h b =
    end_is p g h ∙ omega (arith, unz_within p g h, breaks_all (drop (end_place g + 1) p) b, length-drop (end_place g + 1) p)

alone_end : (p : List ℕ) (g : Segment) → unz_of p ≡ some g → piece_end p ≡ length p → all is_break (drop (end_place g + 1) p) ≡ true
unfolding end_behind after_breaks
alone_end p g h e =
    all_breaks (drop (end_place g + 1) p) (omega (arith, end_is p g h, length-drop (end_place g + 1) p))

-- in front of more that does not begin with a break
pub end_followed : (p more : List ℕ) (g : Segment) → unz_of p ≡ some g → piece_end p ≡ length p → leads_break more ≡ false
    → piece_end (p ++ more) ≡ length p
unfolding end_behind after_breaks
end_followed p more g h e n =
    let q : ℕ = end_place g + 1 in
    let inside : q ≤ length p = omega (arith, unz_within p g h) in
    end_is (p ++ more) g (unz_followed p more g h)
    ∙ omega (
      arith,
      ap breaks (drop-append-le q p more inside),
      breaks_before (drop q p) more (alone_end p g h e) n,
      length-drop q p,
    )

-- cut off from what follows
module _ (s : List ℕ) (g : Segment) (h : unz_of s ≡ some g) where
  cut_place : (end_place g < piece_end s) × (piece_end s ≤ length s)
  unfolding end_behind after_breaks
  cut_place = (omega (arith, end_is s g h), (end_within s).0)

  pub cut_unz : unz_of (take (piece_end s) s) ≡ some g
  cut_unz = unz_cut s (piece_end s) g h cut_place.0 cut_place.1

  pub cut_end : piece_end (take (piece_end s) s) ≡ length (take (piece_end s) s)
  unfolding end_behind after_breaks
  cut_end =
      let q : ℕ = end_place g + 1 in
      let bs : List ℕ = drop q s in
      end_is (take (piece_end s) s) g cut_unz
      ∙ omega (
        arith,
        end_is s g h,
        ap breaks (drop_taken q (breaks bs) (piece_end s) s (end_is s g h)),
        breaks_taken bs,
        length-take-le (piece_end s) s cut_place.1,
      )

  -- which does not begin with a break
  pub cut_leads : leads_break (drop (piece_end s) s) ≡ false
  unfolding end_behind after_breaks
  cut_leads =
      let q : ℕ = end_place g + 1 in
      ap (λ (n : ℕ). leads_break (drop n s)) (end_is s g h)
      ∙ ap leads_break (sym (drop-drop (breaks (drop q s)) q s))
      ∙ breaks_passed (drop q s)

-- ---- in words

-- the walk's UNZ is the first, and what follows it and its breaks is what follows it
pub walk_first : (c : Characters) (s : List ℕ) (n at : ℕ) (g : Segment) → length s ≤ at + n → unz_from c s at ≡ some g
    → First (segments (tokens_at c s at)) g (segments (tokens_at c s (end_behind s g)))
unfolding end_behind after_breaks
walk_first c s zero at g l h = absurd (omega (arith, unz_stands c s zero at g l h))
walk_first c s (suc n) at g l h = step (found c s at g h) (λ next m k. walk_first c s n next g m k)
  where
    Walked : ℕ → Type 0
    Walked place = First (segments (tokens_at c s place)) g (segments (tokens_at c s (end_behind s g)))

    q : Segment
    q = segment_at c s at

    step : Found c s at g → ((next : ℕ) → length s ≤ next + n → unz_from c s next ≡ some g → Walked next) → Walked at
    step (here e w u) rest =
        let after : List Segment = segments (tokens_at c s (end_behind s g)) in
        let split : segments (tokens_at c s at) ≡ g ∷ after =
        segments_whole c s at (ap is_whole e ∙ w) ∙ ap (λ (x : Segment). x ∷ segments (tokens_at c s (end_behind s x))) e in
        first_as split (first_here g after w u)
    step (on w u m) rest =
        let f = rest (end_behind s q) (omega (arith, (ended c s at (whole_ended q w)).above)) m in
        first_as (segments_whole c s at w) (first_on q w u f)

-- the segments of a file that opens are those that the walk goes over
pub segments_walked : (s : List ℕ) → segments_of s ≡ segments (tokens_at (characters_of s) s (body_start s))
unfolding segments_of body_tokens tokens_at body
segments_walked s = refl

pub unz_opened : (s : List ℕ) {o : Option Segment} → is_unopened s ≡ false → first_unz (segments_of s) ≡ o → unz_of s ≡ o
unfolding unz_of
unz_opened s e h = ap (λ (b : Bool). if b then none else first_unz (segments_of s)) e ∙ h

first_opened : (s : List ℕ) (g : Segment) → unz_of s ≡ some g → first_unz (segments_of s) ≡ some g
first_opened s g h = sym (unz_opened s (unz_opens s g h) refl) ∙ h

module _ (p : List ℕ) where
  -- a piece that ends with its UNZ and the breaks behind it
  pub ends_in_unz : (g : Segment) → unz_of p ≡ some g → piece_end p ≡ length p → EndsInUnz p
  unfolding segments cut
  ends_in_unz g h e =
      let c : Characters = characters_of p in
      let f = walk_first c p (length p) (body_start p) g (omega arith) (ap first_unz (sym (segments_walked p)) ∙ first_opened p g h) in
      let nothing : segments (tokens_at c p (end_behind p g)) ≡ [] =
      ap (λ (n : ℕ). segments (tokens_at c p n)) (sym (end_is p g h) ∙ e) ∙ ap segments (at_end c p (length p) (omega arith)) in
      let all_of : segments_of p ≡ f.before ++ g ∷ [] =
      segments_walked p ∙ f.split ∙ ap (λ (l : List Segment). f.before ++ g ∷ l) nothing in
      record {
        opening = (opened_clear p).0 (unz_opens p g h);
        before = f.before;
        unz = g;
        segments = all_of;
        faultless = λ q m.
            ⊎_elim (f.faultless q) (λ i. subst Faultless (sym (Memᴰ.eq_of_singleton i)) f.own)
            (Memᴰ.append_cases f.before (subst (λ (l : List Segment). Memᴰ q l) all_of m));
        first = f.none_before;
        last = f.kind;
        behind = alone_end p g h e;
      }

  -- and nothing else
  pub unz_ends : (e : EndsInUnz p) → (unz_of p ≡ some e.unz) × (piece_end p ≡ length p)
  unz_ends e =
      let every : (q : Segment) → Memᴰ q (e.before ++ e.unz ∷ []) → Faultless q =
      λ q m. e.faultless q (subst (λ (l : List Segment). Memᴰ q l) (sym e.segments) m) in
      let found-so : unz_of p ≡ some e.unz =
      unz_opened p ((opened_clear p).1 e.opening)
      (ap first_unz e.segments
      ∙ first_is e.before e.unz [] e.first (λ q m. every q (Memᴰ.append_left (e.unz ∷ []) m))
      (every e.unz (Memᴰ.append_right e.before (Memᴰ.head refl)))
      e.last) in
      (found-so, end_alone p e.unz found-so e.behind)
