-- Paper 01, heading by heading, with requests 2026-01 (line breaks), 2026-03 (sections) and 2026-10 (version 4), to be read with the paper beside it.
-- Assumes nothing.
-- A name with a capital letter is a notion of the paper, in its letters and numbers; it goes through no definition that it is held against. Those not
-- declared here stand in `specs/Notions.antt`: `Usable` of `characters`, `LeadsBreak`, `Unended` of `values`, `LevelA`, `LevelB`, `Names`,
-- `FourthVersion` of `levels`, `Reference`, `Count`, `Nearest` of `control_elements`, `Record` of `operations`. A name in small letters is a definition that computes;
-- `PaperWords/Imports.antt` has its file. The fields of a record are theorems: the definitions say what the notions say.
-- `×` is "and", `⊎` "or", `¬` "not", `∈` "is one of", `↔` "exactly where". Of whole operations `crates/theorems/specs/Demands.antt` says the rest:
-- trimming (part 2), Judge's figures (3), lent buffers (5, 7), Write's output (7), Locate (8), Compare and Keep (9), value lists there and back (10).
mod Imports
use Rattle.std.specs.Prelude.{true, false, Some, None, Ok, Err}
use Imports.*

infix 40 ◌∈◌
abbrev pub ◌∈◌ : {A : Type 0} → A → List A → Type 0
x ∈ xs = Memᴰ x xs

-- a segment's elements, each a list of repeats, each a list of values
abbrev pub Elements : Type 0
Elements = List (List (List Bytes))

-- ---- "Service characters"

-- "component separator, element separator, decimal mark, release character, reserved byte, segment terminator"; 2026-10: "In version 4 the advice's
-- fifth byte is the repetition separator"
abbrev pub six : Characters → List ℕ
six c = c.component ∷ c.element ∷ c.mark ∷ c.release ∷ c.repetition ∷ c.terminator ∷ []

-- "one of these four (three)": "A release character that is a space means "none""; 2026-10: the fifth byte "is a space (none), or a service character"
abbrev pub Service : Characters → ℕ → Type 0
Service c b =
    (b ≡ c.component) ⊎ (b ≡ c.element) ⊎ (b ≡ c.terminator) ⊎ (¬ (c.repetition ≡ 32) × (b ≡ c.repetition)) ⊎ (¬ (c.release ≡ 32) × (b ≡ c.release))

-- the bytes begin so
abbrev pub Begins : List ℕ → List ℕ → Type 0
Begins front s = (rest : List ℕ) × (s ≡ front ++ rest)

-- "Carriage returns and line feeds .. however many": all that stand before the rest
abbrev pub Gap : List ℕ → List ℕ → Type 0
Gap gap rest = ((b : ℕ) → b ∈ gap → (b ≡ 13) ⊎ (b ≡ 10)) × ¬ LeadsBreak rest

pub record ServiceCharacters : Type 0 where
  pub usable_when : (c : Characters) → (usable c ≡ true) ↔ Usable c  -- "They are usable when"
  pub service_character : (c : Characters) (b : ℕ) → (is_service c b ≡ true) ↔ Service c b
  -- "the input begins `UNA` and six bytes"; "The body is all that follows the advice", and its breaks, "or the whole input."
  pub with_advice : (c : Characters) (gap rest : List ℕ) → Gap gap rest
      → let s : List ℕ = text "UNA" ++ six c ++ (gap ++ rest) in
      (characters_of s ≡ c) × (body_start s ≡ 9 + length gap) × (body s ≡ rest)
  pub without_advice : (s : List ℕ) → ¬ Begins (text "UNA") s → (body_start s ≡ 0) × (body s ≡ s)
  -- "`UNB+` uses `:` `+` `.` `?` `'`"; 2026-10: "Input beginning `UNB+UNOA:4` or `UNB+UNOB:4` has `*`."
  pub with_plus : (rest : List ℕ) → ¬ Begins (text "UNOA:4") rest → ¬ Begins (text "UNOB:4") rest → six (characters_of (text "UNB+" ++ rest)) ≡ text ":+.? '"
  pub with_star : (rest : List ℕ) (level : ℕ) → level ∈ text "AB" → six (characters_of (text "UNB+UNO" ++ level ∷ text ":4" ++ rest)) ≡ text ":+.?*'"
  -- "`UNB` and byte 29 uses 31, 29, `.`, no release, terminator 28"
  pub with_control : (rest : List ℕ) → six (characters_of (text "UNB" ++ 29 ∷ rest)) ≡ 31 ∷ 29 ∷ 46 ∷ 32 ∷ 32 ∷ 28 ∷ []

-- ---- "From bytes to values"

-- bytes from a place on, as tokens: a byte of a value, with where it is spelled from and where it stands; a separator of a rank; a fault
pub record Reading (c : Characters) (place : ℕ) : Type 0 where
  pub nothing : tokens c place [] ≡ []
  -- "An unreleased terminator ends a segment, an element separator an element, a component separator a component.": ranks 0, 1, 3; 2026-10: a repetition
  -- separator a repeat: rank 2
  pub terminator : (gap more : List ℕ) → Gap gap more
      → tokens c place (c.terminator ∷ (gap ++ more)) ≡ separator 0 place ∷ tokens c (place + 1 + length gap) more
  pub element : (more : List ℕ) → tokens c place (c.element ∷ more) ≡ separator 1 place ∷ tokens c (place + 1) more
  pub repetition : ¬ (c.repetition ≡ 32) → (more : List ℕ) → tokens c place (c.repetition ∷ more) ≡ separator 2 place ∷ tokens c (place + 1) more
  pub component : (more : List ℕ) → tokens c place (c.component ∷ more) ≡ separator 3 place ∷ tokens c (place + 1) more
  pub plain : (b : ℕ) (more : List ℕ) → ¬ Service c b → tokens c place (b ∷ more) ≡ byte b place place ∷ tokens c (place + 1) more
  -- "The release character takes the next byte with it."; 4: "release followed by no service character, or by the end"
  pub release : ¬ (c.release ≡ 32) → (b : ℕ) (more : List ℕ)
      → (Service c b → tokens c place (c.release ∷ b ∷ more) ≡ byte b place (place + 1) ∷ tokens c (place + 2) more)
      × (¬ Service c b → tokens c place (c.release ∷ b ∷ more) ≡ fault place ∷ tokens c (place + 2) more)
      × (tokens c place (c.release ∷ []) ≡ fault place ∷ [])

-- "UNB, UNG, UNH, UNS, UNT, UNE or UNZ"
abbrev pub service_tags : List Bytes
service_tags = text "UNB" ∷ text "UNG" ∷ text "UNH" ∷ text "UNS" ∷ text "UNT" ∷ text "UNE" ∷ text "UNZ" ∷ []

pub record BytesToValues : Type 0 where
  pub reading : (c : Characters) → Usable c → (place : ℕ) → Reading c place
  pub body_tokens_lem : (s : List ℕ) → body_tokens s ≡ tokens (characters_of s) (body_start s) (body s)
  pub body_segments : (s : List ℕ) → (segments_of s ≡ segments (body_tokens s)) × (contents s ≡ map contents_of (segments_of s))
  pub nothing : (segments [] ≡ []) × (words_of [] ≡ []) × (bytes_of [] ≡ [])
  -- a terminator is the last token of its segment, and a segment starts where its first token is spelled
  pub segment_ended : (inside : List Token) (q : ℕ) (rest : List Token) → Unended inside
      → segments (inside ++ separator 0 q ∷ rest) ≡ (inside ++ separator 0 q ∷ []) ∷ segments rest
  pub segment_unended : (t : Token) (ts : List Token) → Unended (t ∷ ts) → segments (t ∷ ts) ≡ (t ∷ ts) ∷ []
  pub starts : (ts : List Token) (b from place rank : ℕ)
      → (start (byte b from place ∷ ts) ≡ from) × (start (separator rank place ∷ ts) ≡ place) × (start (fault place ∷ ts) ≡ place)
  -- "A segment is one or more elements, an element one or more values"; 2026-10: "An element is now a list of repeats, one in the older versions"; "Values
  -- keep every byte"
  pub value_ended : (u : List Token) (rank q : ℕ) (rest : List Token) → ((k p : ℕ) → ¬ (separator k p ∈ u))
      → (rank ≤ 1 → words_of (u ++ separator rank q ∷ rest) ≡ ((bytes_of u ∷ []) ∷ []) ∷ words_of rest)
      × ((values : List Bytes) (repeats : List (List Bytes)) (elements : Elements) → words_of rest ≡ (values ∷ repeats) ∷ elements
      → (words_of (u ++ separator 2 q ∷ rest) ≡ ((bytes_of u ∷ []) ∷ values ∷ repeats) ∷ elements)
      × (words_of (u ++ separator 3 q ∷ rest) ≡ ((bytes_of u ∷ values) ∷ repeats) ∷ elements))
  pub value_bytes_lem : (b from place : ℕ) (ts : List Token) → bytes_of (byte b from place ∷ ts) ≡ b ∷ bytes_of ts
  -- "The contents are the trimmed list."; 2026-10: "empty components at the end of every repeat, .. then empty repeats at an element's end, .. then elements"
  pub contents_trimmed : (g : Segment) → contents_of g ≡ trim_segment is_empty (words_of g)
  pub trimmed : contents (text "UNB+UNOA:4+A::B:**C:*:+:*+D+*:+'*+'")
      ≡ (((text "UNB" ∷ []) ∷ []) ∷ ((text "UNOA" ∷ text "4" ∷ []) ∷ []) ∷ ((text "A" ∷ [] ∷ text "B" ∷ []) ∷ ([] ∷ []) ∷ (text "C" ∷ []) ∷ [])
      ∷ (([] ∷ []) ∷ []) ∷ ((text "D" ∷ []) ∷ []) ∷ []) ∷ ((([] ∷ []) ∷ []) ∷ []) ∷ []
  -- "The first element is the tag": it names the kind of segment
  pub kind : (g : Segment) (tag : Bytes) (figures : List Bytes) (repeats : List (List Bytes)) (elements : Elements)
      → words_of g ≡ ((tag ∷ figures) ∷ repeats) ∷ elements → kind_of g ≡ kind_named tag
  pub service_kinds : map kind_named service_tags ≡ Unb ∷ Ung ∷ Unh ∷ Uns ∷ Unt ∷ Une ∷ Unz ∷ []
  pub user_kind : (tag : Bytes) → ¬ (tag ∈ service_tags) → kind_named tag ≡ User
  pub levels : (b : ℕ) → ((in_level_a b ≡ true) ↔ LevelA b) × ((in_level_b b ≡ true) ↔ LevelB b)  -- "Level A: ..", "Level B adds `a`-`z`."

-- "three bytes, each `A`-`Z` or `0`-`9`"; "A tag beginning `UN` must be [one of these], and no component separator may follow it."; 2026-10: "6 also when a
-- repetition separator follows within a tag element": the tag element has one repeat
pub data Tagged : Elements → Type 0 where
  tagged : (tag : Bytes) (figures : List Bytes) (elements : Elements)
      → length tag ≡ 3 → ((b : ℕ) → b ∈ tag → ((65 ≤ b) × (b ≤ 90)) ⊎ ((48 ≤ b) × (b ≤ 57)))
      → (Begins (text "UN") tag → (tag ∈ service_tags) × (figures ≡ [])) → Tagged (((tag ∷ figures) ∷ []) ∷ elements)

-- UNB, the first segment, names the level of this letter; 2026-10: 7 "also when UNB's first element has more, or the fifth byte isn't a space and the
-- version isn't 4"
abbrev pub Level : List ℕ → ℕ → Type 0
Level s letter = (unb : Elements) × (at (contents s) 0 ≡ some unb) × Names (characters_of s) unb letter

-- UNB names version 4
abbrev pub Fourth : List ℕ → Type 0
Fourth s = (unb : Elements) × (at (contents s) 0 ≡ some unb) × FourthVersion unb

-- a header, what stands inside, and a trailer
pub data Framed (header trailer : Kind) (Within : List Segment → Type 0) : List Segment → Type 0 where
  framed : (head tail : Segment) (inside : List Segment) → kind_of head ≡ header → Within inside → kind_of tail ≡ trailer
      → Framed header trailer Within (head ∷ (inside ++ tail ∷ []))

-- "any number of user segments and UNS"; 2026-03: "a single component `D` or `S`, each at most once in a message, D before S", by the letters to come; 2026-10: "one repeat"
pub data Inside : List ℕ → List Segment → Type 0 where
  end : (letters : List ℕ) → Inside letters []
  user : (letters : List ℕ) (g : Segment) (gs : List Segment) → kind_of g ≡ User → Inside letters gs → Inside letters (g ∷ gs)
  marker : (letter : ℕ) (letters : List ℕ) (g : Segment) (gs : List Segment) → kind_of g ≡ Uns
      → at (contents_of g) 1 ≡ some (((letter ∷ []) ∷ []) ∷ []) → Inside letters gs → Inside (letter ∷ letters) (g ∷ gs)
  without : (letter : ℕ) (letters : List ℕ) (gs : List Segment) → Inside letters gs → Inside (letter ∷ letters) gs

abbrev pub Message : List Segment → Type 0
Message = Framed Unh Unt (Inside (text "DS"))  -- "A message is UNH, any number of user segments and UNS, UNT."

abbrev pub Group : List Segment → Type 0
Group = Framed Ung Une (OneOrMore Message)  -- "A group is UNG, one or more messages, UNE."

-- "UNB; then one or more groups, or one or more messages, not both; then UNZ and nothing more."
abbrev pub Interchange : List Segment → Type 0
Interchange = Framed Unb Unz (λ gs. OneOrMore Group gs ⊎ OneOrMore Message gs)

-- ---- "Control elements"

-- "where its count and its reference stand"; "UNS has neither."
abbrev pub Controlled : Kind → Elements → Type 0
Controlled kind contents =
    (kind ∈ (Unb ∷ Ung ∷ []) → Reference contents 5)
    × (kind ≡ Unh → Reference contents 1)
    × (kind ∈ (Unt ∷ Une ∷ Unz ∷ []) → Count contents 1 × Reference contents 2)

-- the header that a trailer closes, and where the header's reference stands
pub data Closes : Kind → Kind → ℕ → Type 0 where
  message : Closes Unt Unh 1
  group : Closes Une Ung 5
  interchange : Closes Unz Unb 5

abbrev pub number_of : Kind → List Segment → ℕ
number_of kind gs = length (those (is kind) (map kind_of gs))

-- what a trailer has to count, of what passed, the nearest first
pub data Counts (past : List Segment) : Kind → ℕ → Type 0 where
  segments_since : (n : Nearest Unh past) → Counts past Unt (length n.0 + 2)  -- "the segments from UNH to UNT, both included"
  messages_since : (n : Nearest Ung past) → Counts past Une (number_of Unh n.0)  -- "the messages of the group"
  groups : ¬ (number_of Ung past ≡ 0) → Counts past Unz (number_of Ung past)  -- "the groups,
  messages : number_of Ung past ≡ 0 → Counts past Unz (number_of Unh past)  -- or the messages where there are no groups"

pub record ControlElements : Type 0 where
  -- "judged as they stand in the trimmed contents": 10, 11 and 12 judge equal contents alike
  pub alike : (past other : List Segment) (g h : Segment) → map contents_of past ≡ map contents_of other → contents_of g ≡ contents_of h
      → (control_rule g ≡ control_rule h) × (reference_differs past g ≡ reference_differs other h) × (count_wrong past g ≡ count_wrong other h)
  pub digits : (ds : List ℕ) (d : ℕ) → (decimal [] ≡ 0) × (decimal (ds ++ (48 + d) ∷ []) ≡ decimal ds * 10 + d)  -- what digits spell

-- ---- "Normal form"

pub record NormalForm (c : Characters) : Type 0 where
  -- "each service character inside a value being released and nothing else"
  pub spelled_value : (b : ℕ) (more : Bytes)
      → (spell_value c [] ≡ [])
      × (Service c b → spell_value c (b ∷ more) ≡ c.release ∷ b ∷ spell_value c more)
      × (¬ Service c b → spell_value c (b ∷ more) ≡ b ∷ spell_value c more)
  pub spelled : (u v : Bytes) (vs r : List Bytes) (rs e : List (List Bytes)) (es : Elements) (gs : SegmentList)
      → (spell c [] ≡ [])
      × (spell c ((((u ∷ []) ∷ []) ∷ []) ∷ gs) ≡ spell_value c u ++ c.terminator ∷ spell c gs)
      × (spell c ((((u ∷ v ∷ vs) ∷ rs) ∷ es) ∷ gs) ≡ spell_value c u ++ c.component ∷ spell c ((((v ∷ vs) ∷ rs) ∷ es) ∷ gs))
      × (spell c ((((u ∷ []) ∷ r ∷ rs) ∷ es) ∷ gs) ≡ spell_value c u ++ c.repetition ∷ spell c (((r ∷ rs) ∷ es) ∷ gs))
      × (spell c ((((u ∷ []) ∷ []) ∷ e ∷ es) ∷ gs) ≡ spell_value c u ++ c.element ∷ spell c ((e ∷ es) ∷ gs))
  -- "`UNA:+`, the mark, `? '`, then the contents spelled with those characters."; 2026-10: "A version 4 normal form has `*` in the fifth place"
  pub byte_by_byte : (s : List ℕ)
      → (¬ Fourth s → six c ≡ text ":+" ++ (characters_of s).mark ∷ text "? '") → (Fourth s → six c ≡ text ":+" ++ (characters_of s).mark ∷ text "?*'")
      → normal_form s ≡ text "UNA" ++ six c ++ spell c (contents s)

-- ---- "Operations"

abbrev pub answer : ℕ → List ℕ → Answer
answer n values = record { number = n; values = values }

-- the number and the values of each case of each answer
pub record Told : Type 0 where
  -- "service characters, counts of segments, messages and groups, length of the normal form"; "the length"; "same, different"; ..
  pub given : (i : Figures) (m n : ℕ)
      → (told_judged (Ok i) ≡ answer 0 (six i.characters ++ i.segments.0 ∷ i.messages.0 ∷ i.groups.0 ∷ i.length ∷ []))
      × (told_stored (Ok n) ≡ answer 0 (n ∷ []))
      × (told_compared (Ok true) ≡ answer 0 (1 ∷ [])) × (told_compared (Ok false) ≡ answer 0 (0 ∷ []))
      × (told_located (Ok (Some (record { offset = m; length = n }))) ≡ answer 0 (m ∷ n ∷ [])) × (told_located (Ok None) ≡ answer 0 [])
      × (told_listed (Ok (record { bytes = m; numbers = n })) ≡ answer 0 (m ∷ n ∷ []))
  -- "or a refusal"; "with 1st or 2nd input"
  pub refused : (r : Refusal)
      → let n : ℕ = number r.fault in
      (told_judged (Err r) ≡ answer n (r.place ∷ [])) × (told_stored (Err r) ≡ answer n (r.place ∷ []))
      × (told_located (Err r) ≡ answer n (r.place ∷ [])) × (told_listed (Err r) ≡ answer n (r.place ∷ []))
      × (told_compared (Err (First r)) ≡ answer n (1 ∷ r.place ∷ []))
      × (told_compared (Err (Second r)) ≡ answer n (2 ∷ r.place ∷ []))

abbrev pub item : ℕ → Bytes → Item
item kind value = record { kind = kind; value = value }

-- the list with this kind for its first value's
abbrev pub begun : ℕ → List Item → List Item
begun kind [] = []
begun kind (l ∷ ls) = item kind l.value ∷ ls

-- what a value list means, trimmed or not
pub record ValueLists : Type 0 where
  -- "kind (0 new segment, 1 new element, 2 next component)"; 2026-10: "kind 3 (a next repeat's first value)"
  pub kinds : (u v : Bytes) (vs : List Bytes) (rs : List (List Bytes)) (es : Elements) (gs : SegmentList)
      → (list_of [] ≡ [])
      × (list_of ((((u ∷ []) ∷ []) ∷ []) ∷ gs) ≡ item 0 u ∷ list_of gs)
      × (list_of ((((u ∷ v ∷ vs) ∷ rs) ∷ es) ∷ gs) ≡ item 0 u ∷ begun 2 (list_of ((((v ∷ vs) ∷ rs) ∷ es) ∷ gs)))
      × (list_of ((((u ∷ []) ∷ (v ∷ vs) ∷ rs) ∷ es) ∷ gs) ≡ item 0 u ∷ begun 3 (list_of ((((v ∷ vs) ∷ rs) ∷ es) ∷ gs)))
      × (list_of ((((u ∷ []) ∷ []) ∷ ((v ∷ vs) ∷ rs) ∷ es) ∷ gs) ≡ item 0 u ∷ begun 1 (list_of ((((v ∷ vs) ∷ rs) ∷ es) ∷ gs)))
  -- "values .. end to end"; "three 32-bit numbers a value: kind .., start, length": each starts where those before it end
  pub bytes : (l : Item) (ls : List Item) → (list_bytes [] ≡ []) × (list_bytes (l ∷ ls) ≡ l.value ++ list_bytes ls)
  pub table : (items : List Item) (n : ℕ) (l : Item) → at items n ≡ some l
      → Record (list_table items) n l.kind (length (list_bytes (take n items))) (length l.value)
  pub table_length : (items : List Item) → length (list_table items) ≡ 3 * length items
  -- "Read into a value list of the contents"
  pub read_list_lem : (s : List ℕ) → (value_bytes s ≡ list_bytes (list_of (contents s))) × (value_table s ≡ list_table (list_of (contents s)))
  -- of a lent list: a record names the bytes from its start on, as many as its length; "always an advice, then the trimmed list"
  pub record_names : (bytes table : List ℕ) (n kind start size : ℕ) → Record table n kind start size
      → at {A = Item} (listed_in bytes table) n ≡ some (record { kind = kind; value = take size (drop start bytes) })
  pub text_is : (c : Characters) (bytes table : List ℕ)
      → written_text (six c) bytes table ≡ text "UNA" ++ six c ++ spell c (trim_list (segments_listed (listed_in bytes table)))

-- ---- "Refusals by number"

-- 6 and 9 to 12, of a segment after those before it
pub data Fails (before : List Segment) (g : Segment) : ℕ → Type 0 where
  -- "tag rule broken, in a finished segment": "its terminator ends it and no fault 4 lies in it"
  tag : (inside : List Token) (q : ℕ) → g ≡ inside ++ separator 0 q ∷ [] → ((p : ℕ) → ¬ (fault p ∈ g)) → ¬ Tagged (words_of g) → Fails before g 6
  -- "segment not allowed there": an interchange begins with those before it, none with it too
  order : (rest : List Segment) → Interchange (before ++ rest) → ((more : List Segment) → ¬ Interchange (before ++ g ∷ more)) → Fails before g 9
  control : ¬ Controlled (kind_of g) (contents_of g) → Fails before g 10  -- "control element of a service segment not as above"
  -- "trailer's reference differs from its header's": no value is both
  reference : (header : Kind) (position : ℕ) → Closes (kind_of g) header position
      → ((n : Nearest header (reverse before)) (v : Bytes) → at (contents_of g) 2 ≡ some ((v ∷ []) ∷ [])
      → ¬ (at (contents_of n.1) position ≡ some ((v ∷ []) ∷ []))) → Fails before g 11
  -- "trailer's count wrong"
  count : kind_of g ∈ (Unt ∷ Une ∷ Unz ∷ [])
      → ((v : Bytes) → at (contents_of g) 1 ≡ some ((v ∷ []) ∷ []) → ¬ Counts (reverse before) (kind_of g) (decimal v)) → Fails before g 12

-- 1 to 13: the input meets the number at the place
pub data Meets (s : List ℕ) : ℕ → ℕ → Type 0 where
  too_long : 32000 < length s → Meets s 1 0  -- "input or text over 32,000 bytes": 0
  -- "unusable advice, or shorter than its 9 bytes": 0
  bad_advice_lem : Begins (text "UNA") s → ((c : Characters) → Begins (text "UNA" ++ six c) s → ¬ Usable c) → Meets s 2 0
  -- "the body doesn't begin `UNB` and the element separator": 9 and the breaks; "(without advice: neither beginning above)": 0
  no_opening_lem : (c : Characters) (gap rest : List ℕ) → Gap gap rest → s ≡ text "UNA" ++ six c ++ (gap ++ rest)
      → ¬ Begins (text "UNB" ++ c.element ∷ []) rest → Meets s 3 (9 + length gap)
  no_beginning : ¬ Begins (text "UNA") s → ¬ Begins (text "UNB+") s → ¬ Begins (text "UNB" ++ 29 ∷ []) s → Meets s 3 0
  stray_release : (p : ℕ) → fault p ∈ body_tokens s → Meets s 4 p  -- "the release character"
  -- "the body ends inside a segment": "input length"
  unended : (before : List Token) (t : Token) → body_tokens s ≡ before ++ t ∷ [] → ((q : ℕ) → ¬ (t ≡ separator 0 q)) → Meets s 5 (length s)
  foreign : ¬ Level s 65 → ¬ Level s 66 → Meets s 7 (body_start s)  -- "level or version not ours": "UNB's start"
  outside_a : Level s 65 → (b from p : ℕ) → byte b from p ∈ body_tokens s → ¬ LevelA b → Meets s 8 p  -- "byte outside the level":
  outside_b : Level s 66 → (b from p : ℕ) → byte b from p ∈ body_tokens s → ¬ LevelB b → Meets s 8 p  -- "that byte"
  no_end : ¬ Interchange (segments_of s) → Meets s 9 (length s)  -- "or the end before UNZ": "input length"
  segment : (n : ℕ) (before : List Segment) (g : Segment) (after : List Segment) → segments_of s ≡ before ++ g ∷ after
      → Fails before g n → Meets s n (start g)  -- "segment start", "trailer start"
  too_long_form : 32000 < length (normal_form s) → Meets s 13 (length (normal_form s))  -- "normal form over 32,000 bytes": "its length"

-- the same of Write
module _ (service bytes table output : List ℕ) where
  pub data WriteMeets : ℕ → ℕ → Type 0 where
    -- "table over 96,000 numbers or not a multiple of 3; first kind not 0": 0
    bad_table_lem : (96000 < length table) ⊎ ¬ (length table % 3 ≡ 0) ⊎ ((kind : ℕ) × (at table 0 ≡ some kind) × ¬ (kind ≡ 0)) → WriteMeets 15 0
    -- 2026-10: "kind above 3"; "start plus length above the number of bytes"; 2026-01: "No segment of a list may begin with a break"
    bad_record : (p kind start size : ℕ) → Record table p kind start size
        → (3 < kind) ⊎ (length bytes < start + size) ⊎ ((kind ≡ 0) × LeadsBreak (take size (drop start bytes))) → WriteMeets 15 p
    bad_bytes : ((c : Characters) → service ≡ six c → ¬ Usable c) → WriteMeets 2 0  -- "not six usable bytes": 0
    -- "a value holds a service character and there is no release"
    no_release : (c : Characters) → service ≡ six c → c.release ≡ 32
        → (p kind start size b : ℕ) → Record table p kind start size → b ∈ take size (drop start bytes) → Service c b → WriteMeets 16 p
    -- 2026-10: "also at a kind 3 record where the writer's fifth byte is a space"
    no_repetition : (c : Characters) → service ≡ six c → c.repetition ≡ 32 → (p start size : ℕ) → Record table p 3 start size → WriteMeets 16 p
    -- "lent buffer too short": "bytes .. needed"
    too_short : length output < length (written_text service bytes table) → WriteMeets 14 (length (written_text service bytes table))
    as_judged : (n p : ℕ) → Meets (written_text service bytes table) n p → WriteMeets n p  -- "as Judge would answer for the text"

-- "The first failing stage answers; within a stage, bracketed or single, the lowest place, then the lowest number."
pub data Answers (Met : ℕ → ℕ → Type 0) (n p : ℕ) : List (List ℕ) → Type 0 where
  here : (stage : List ℕ) (after : List (List ℕ)) → n ∈ stage → Met n p
      → ((m q : ℕ) → m ∈ stage → Met m q → (p < q) ⊎ ((p ≡ q) × (n ≤ m))) → Answers Met n p (stage ∷ after)
  later : (stage : List ℕ) (after : List (List ℕ)) → ((m q : ℕ) → m ∈ stage → ¬ Met m q) → Answers Met n p after → Answers Met n p (stage ∷ after)

abbrev pub from3 : List (List ℕ)
from3 = (3 ∷ []) ∷ (4 ∷ 5 ∷ 6 ∷ []) ∷ (7 ∷ []) ∷ (8 ∷ []) ∷ (9 ∷ []) ∷ (10 ∷ 11 ∷ 12 ∷ []) ∷ (13 ∷ []) ∷ []

pub record Refusals : Type 0 where
  -- "Stages: 1, 2, 3, (4 5 6), 7, 8, 9, (10 11 12), 13"; "Writer: 15, 2, 16, 1, 14, then 3 to 13"
  pub judge_refuses : (s : List ℕ) (n p : ℕ) → (judge s ≡ answer n (p ∷ [])) ↔ Answers (Meets s) n p ((1 ∷ []) ∷ (2 ∷ []) ∷ from3)
  pub write_refuses : (service bytes table output : List ℕ) (n p : ℕ) → ¬ (n ≡ 0)
      → (write service bytes table output ≡ answer n (p ∷ []))
      ↔ Answers (WriteMeets service bytes table output) n p ((15 ∷ []) ∷ (2 ∷ []) ∷ (16 ∷ []) ∷ (1 ∷ []) ∷ (14 ∷ []) ∷ from3)
  -- of the cases; 17 to 20 are of request 2026-04, 21 and 22 of 2026-08, 23 of 2026-11, 24 of 2026-12
  pub numbers : map number (TooLong ∷ UnusableAdvice ∷ NoOpening ∷ StrayRelease ∷ UnendedSegment ∷ BrokenTag ∷ ForeignLevel ∷ OutsideLevel
      ∷ MisplacedSegment ∷ BadControl ∷ ReferenceDiffers ∷ CountWrong ∷ NormalTooLong ∷ BufferShort ∷ BadList ∷ NeedsRelease
      ∷ NoFreeSlot ∷ NoRoom ∷ UnsoundShelf ∷ FreeSlot ∷ UnsoundTable ∷ UnmatchedBody ∷ NoAcknowledgement ∷ NoColumns ∷ [])
      ≡ 1 ∷ 2 ∷ 3 ∷ 4 ∷ 5 ∷ 6 ∷ 7 ∷ 8 ∷ 9 ∷ 10 ∷ 11 ∷ 12 ∷ 13 ∷ 14 ∷ 15 ∷ 16 ∷ 17 ∷ 18 ∷ 19 ∷ 20 ∷ 21 ∷ 22 ∷ 23 ∷ 24 ∷ []

-- all of them
abbrev pub PaperWords : Type 0
PaperWords = ServiceCharacters × BytesToValues × ControlElements × ((c : Characters) → NormalForm c) × Told × ValueLists × Refusals
