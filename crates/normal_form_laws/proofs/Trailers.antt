-- In an accepted input UNZ stands last and nowhere else. Assumes nothing.
use Rattle.std.specs.Prelude.{if◌then◌else◌}
use mathlib.Core.Path.{◌≡◌, refl, sym, ◌∙◌}
use mathlib.Core.Bool.{Bool, true, false, not, ◌&&◌, ◌||◌, false≢true, true≢false, or-false}
use mathlib.Core.List.{List, [], ◌∷◌, ◌++◌, map, reverse, reverse_aux, append-eq-nil_iff}
use Rattle.lists.specs.Lists.{any}
use Rattle.lists.proofs.Texts.{and_left}
use Rattle.refusals.specs.Refusals.{place_if}
use Rattle.refusals.proofs.Stages.{place_none_not}
use Rattle.values.specs.Tokens.{Segment, start}
use Rattle.segments.specs.declared.Kind.{Kind}
use Rattle.segments.specs.declared.Kind.TheVariants.{Unb, Unz}
use Rattle.segments.specs.Kinds.{is}
use Rattle.segments.specs.Tags.{kind_of}
use Rattle.segments.specs.Order.{is_open, standing, allowed_at, allowed, is_complete}
use Rattle.control_elements.specs.Sections.{section_rule}
use Rattle.stages.specs.Places.{starts_where, misplaced}
use Rattle.normal_form_laws.specs.Forms.{after_trailer}

-- where something is open, what opens it has passed
open_any : (nearer farther : Kind) (past : List Kind) → is_open nearer farther past ≡ true → any (is nearer) past ≡ true
unfolding is_open any
open_any nearer farther [] h = h
open_any nearer farther (kind ∷ past) h = step (is nearer kind) (is farther kind) (open_any nearer farther past) h
  where
    step : (a b : Bool) → (is_open nearer farther past ≡ true → any (is nearer) past ≡ true)
        → (if a then true else (if b then false else is_open nearer farther past)) ≡ true → (a || any (is nearer) past) ≡ true
    step true b ih h = refl
    step false true ih h = absurd (false≢true h)
    step false false ih h = ih h

-- one of them passes, in whichever order
any_reverse : {A : Type 0} (t : A → Bool) (xs ys : List A) → any t (reverse_aux xs ys) ≡ (any t xs || any t ys)
unfolding any
any_reverse t [] ys = refl
any_reverse t (x ∷ xs) ys = any_reverse t xs (x ∷ ys) ∙ swap (any t xs) (t x)
  where
    swap : (a b : Bool) → (a || (b || any t ys)) ≡ ((b || a) || any t ys)
    swap true true = refl
    swap true false = refl
    swap false true = refl
    swap false false = refl

-- a whole interchange has its UNZ
pub complete_any : (kinds : List Kind) → is_complete (reverse kinds) ≡ true → any (is Unz) kinds ≡ true
unfolding is_complete any
complete_any kinds h =
    sym (any_reverse (is Unz) kinds [] ∙ or-false (any (is Unz) kinds)) ∙ open_any Unz Unb (reverse kinds) h

-- after UNZ nothing is allowed
none_after : (trailer : Kind) (past : List Kind) (kind : Kind) → is Unz trailer ≡ true → allowed (trailer ∷ past) kind ≡ false
unfolding allowed standing is_open allowed_at
none_after trailer past kind h = rw h

-- so what follows segments of which each is allowed and one is UNZ is what stands after the first UNZ
pub trailer_last : (past gs more : List Segment) → starts_where misplaced past gs ≡ []
    → any (is Unz) (map kind_of gs) ≡ true → after_trailer (gs ++ more) ≡ more
unfolding starts_where any after_trailer
trailer_last past [] more o a = absurd (false≢true a)
trailer_last past (g ∷ gs) more o a =
    let parts = (append-eq-nil_iff {p = place_if (misplaced past g) (start g)}).0 o in
    step (is Unz (kind_of g)) refl gs parts.1 a (trailer_last (g ∷ past) gs more parts.1)
  where
    step : (b : Bool) → is Unz (kind_of g) ≡ b → (gs : List Segment)
        → starts_where misplaced (g ∷ past) gs ≡ []
        → (b || any (is Unz) (map kind_of gs)) ≡ true → (any (is Unz) (map kind_of gs) ≡ true → after_trailer (gs ++ more) ≡ more)
        → (if b then gs ++ more else after_trailer (gs ++ more)) ≡ more
    step true e [] o a ih = refl
    step true e (h ∷ hs) o a ih =
        let fits = allowed (kind_of g ∷ map kind_of past) (kind_of h) in
        let marks = section_rule (g ∷ past) h in
        let parts = (append-eq-nil_iff {p = place_if (not (fits && marks)) (start h)}).0 o in
        absurd (true≢false
        (sym (and_left fits marks ((place_none_not (fits && marks) (start h)).0 parts.0))
        ∙ none_after (kind_of g) (map kind_of past) (kind_of h) e))
    step false e gs o a ih = ih a
