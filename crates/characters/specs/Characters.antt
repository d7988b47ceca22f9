-- Paper 01, "Service characters"; request 2026-01, line breaks; request 2026-10, the repetition separator. A byte is a number below 256.
-- Assumes nothing.
use Rattle.std.specs.Prelude.{ℕ, zero, suc, ◌+◌, Bool, not, ◌&&◌, ◌||◌, List, [], ◌∷◌, ◌++◌, length, get_or, drop, eqb, leb, ltb, if◌then◌else◌}
use Rattle.lists.specs.Lists.{text, begins, member, all_differ, all}
use Rattle.characters.specs.declared.Characters.{Characters}
use Rattle.characters.specs.declared.Role.{Role}
use Rattle.characters.specs.declared.Role.TheVariants.{Separator, Release, Plain}

-- ---- bytes

unfoldable pub between : ℕ → ℕ → ℕ → Bool
between low high b = leb low b && leb b high

unfoldable pub upper : ℕ → Bool
upper b = between 65 90 b

unfoldable pub lower : ℕ → Bool
lower b = between 97 122 b

unfoldable pub digit : ℕ → Bool
digit b = between 48 57 b

abbrev pub space : ℕ
space = 32

-- ---- when six bytes are usable

-- "a byte 33 to 126 that is no letter or digit, or one of 28, 29, 31"
unfoldable pub separates : ℕ → Bool
separates b = (between 33 126 b && not (upper b || lower b || digit b)) || member b (28 ∷ 29 ∷ 31 ∷ [])

-- "A release character that is a space means "none""
unfoldable pub has_release : Characters → Bool
has_release c = not (eqb c.release space)

-- request 2026-10: "the advice's fifth byte is the repetition separator .. It is a space (none), or a service character"
unfoldable pub has_repetition : Characters → Bool
has_repetition c = not (eqb c.repetition space)

-- "From here on a service character is one of these four (three); the mark .. not"; and the repetition separator, where there is one
unfoldable pub service_characters : Characters → List ℕ
service_characters c =
    c.component
    ∷ c.element
    ∷ c.terminator
    ∷ ((if has_repetition c then c.repetition ∷ [] else []) ++ (if has_release c then c.release ∷ [] else []))

unfoldable pub is_service : Characters → ℕ → Bool
is_service c b = member b (service_characters c)

-- "They are usable when": the mark, the separators, and "these four (three without release) and the mark all differ"; the repetition
-- separator "under the same rules as the other separators"
unfoldable pub usable : Characters → Bool
usable c =
    member c.mark (text ".,")
    && all separates (service_characters c)
    && all_differ (c.mark ∷ service_characters c)

-- ---- line breaks

-- "Carriage returns and line feeds"
unfoldable pub is_break : ℕ → Bool
is_break b = member b (13 ∷ 10 ∷ [])

-- how many breaks stand in front: "passed over, however many"
unfoldable pub breaks : List ℕ → ℕ
breaks [] = zero
breaks (b ∷ bs) = if is_break b then suc (breaks bs) else zero

-- the place after the breaks that stand at a place
unfoldable pub after_breaks : List ℕ → ℕ → ℕ
after_breaks s at = at + breaks (drop at s)

-- ---- the opening, with and without advice

-- six bytes in the advice's order; a missing one is 0, which is never usable
unfoldable pub six_bytes : List ℕ → Characters
six_bytes s =
    record { component = get_or s 0 0; element = get_or s 1 0; mark = get_or s 2 0; release = get_or s 3 0; repetition = get_or s 4 0; terminator = get_or s 5 0 }

-- the six bytes, as an advice spells them
unfoldable pub spelled_out : Characters → List ℕ
spelled_out c = c.component ∷ c.element ∷ c.mark ∷ c.release ∷ c.repetition ∷ c.terminator ∷ []

-- "With a service string advice, the input begins `UNA` and six bytes"
unfoldable pub advised : List ℕ → Bool
advised s = begins (text "UNA") s

unfoldable pub advice_of : Characters → List ℕ
advice_of c = text "UNA" ++ spelled_out c

-- "input that begins `UNB+` uses `:` `+` `.` `?` `'`"
unfoldable pub plus_characters : Characters
plus_characters = six_bytes (text ":+.? '")

-- request 2026-10: "Input beginning `UNB+UNOA:4` or `UNB+UNOB:4` has `*`."
unfoldable pub star_characters : Characters
star_characters = six_bytes (text ":+.?*'")

unfoldable pub begins_version4 : List ℕ → Bool
begins_version4 s = begins (text "UNB+UNOA:4") s || begins (text "UNB+UNOB:4") s

-- "input that begins `UNB` and byte 29 uses 31, 29, `.`, no release, terminator 28"
unfoldable pub control_characters : Characters
control_characters = six_bytes (31 ∷ 29 ∷ 46 ∷ space ∷ space ∷ 28 ∷ [])

-- the service characters that an input uses; where it has none of the three beginnings, refusal 3 answers
unfoldable pub characters_of : List ℕ → Characters
characters_of s =
    if advised s then six_bytes (drop 3 s)
    else (if begins_version4 s then star_characters
    else (if begins (text "UNB+") s then plus_characters else control_characters))

-- "The body is all that follows the advice, or the whole input." Breaks "directly after the service string advice, are to be passed over"
unfoldable pub body_start : List ℕ → ℕ
body_start s = if advised s then after_breaks s 9 else 0

unfoldable pub body : List ℕ → List ℕ
body s = drop (body_start s) s

-- "unusable advice, or shorter than its 9 bytes"
unfoldable pub bad_advice : List ℕ → Bool
bad_advice s = advised s && (ltb (length s) 9 || not (usable (characters_of s)))

-- the body begins `UNB` and the element separator, or 3 is met: "(without advice: neither beginning above)"
unfoldable pub opens : List ℕ → Bool
opens s = begins (text "UNB" ++ (characters_of s).element ∷ []) (body s)

-- ---- what part a byte plays

unfoldable pub role : Characters → ℕ → Role
role c b =
    if eqb b c.terminator then Separator 0
    else (if eqb b c.element then Separator 1
    else (if has_repetition c && eqb b c.repetition then Separator 2
    else (if eqb b c.component then Separator 3
    else (if has_release c && eqb b c.release then Release else Plain))))
