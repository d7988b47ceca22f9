-- Paper 01, "Operations": what comes back of what was written, read or located. Assumes nothing.
use Rattle.std.specs.Prelude.{ℕ, zero, suc, ◌-◌, ◌≤◌, ◌≡◌, true, false, ◌⊎◌, List, [], ◌∷◌, ◌++◌, length, take, drop}
use Rattle.std.proofs.Math.Option.{Option, none}
use Rattle.lists.specs.Lists.{is_empty, through, at, maybe}
use Rattle.characters.specs.declared.Characters.{Characters}
use Rattle.characters.specs.Characters.{usable, six_bytes, characters_of}
use Rattle.values.specs.Tokens.{Token, byte, separator, fault, tokens, ends, start}
use Rattle.values.specs.Values.{Value, bytes_of, end_place, ended_by}
use Rattle.values.specs.Trimming.{value_at}
use Rattle.values.specs.Spelling.{Bytes, SegmentList, spell_value}
use Rattle.stages.specs.Contents.{contents, interchange}
use Rattle.answers.specs.Answers.{given, accepted}
use Rattle.operations.specs.Judge.{figures_of, judge}
use Rattle.operations.specs.Compare.{compare}
use Rattle.operations.specs.Read.{value_bytes, value_table, read, read_bytes, read_table}
use Rattle.operations.specs.ValueList.{list_of, list_bytes, list_table, listed_in, segments_listed, trim_list}
use Rattle.operations.specs.Write.{write_output}
use Rattle.spelling_laws.specs.Bodies.{Spellable}
use Rattle.normal_form_laws.specs.Forms.{Suits}
use Rattle.refusals.specs.Limits.{most_bytes}

-- the list of segments that a value list stands for, with its empty ends trimmed
unfoldable pub list_given : Bytes → List ℕ → SegmentList
list_given bytes table = trim_list (segments_listed (listed_in bytes table))

-- What a Write that is not refused leaves to whoever reads its text.
pub record WrittenBack (service bytes table output : List ℕ) (text : List ℕ) : Type 0 where
  -- the text stands in the front of the output buffer,
  pub stored : take (length text) (write_output service bytes table output) ≡ text
  -- Judge accepts it,
  pub accepts : judge text ≡ accepted (figures_of text)
  -- its service characters are the six bytes,
  pub characters : characters_of text ≡ six_bytes service
  -- its contents are the trimmed list,
  pub same_contents : contents text ≡ list_given bytes table
  -- and Read gives the bytes and the table of that list, where its buffers hold them.
  pub bytes_back : value_bytes text ≡ list_bytes (list_of (list_given bytes table))
  pub table_back : value_table text ≡ list_table (list_of (list_given bytes table))
  pub reads : (buffer numbers : List ℕ) → length (value_bytes text) ≤ length buffer → length (value_table text) ≤ length numbers
      → (read buffer numbers text ≡ given (length (value_bytes text) ∷ length (value_table text) ∷ []))
      × (read_bytes buffer numbers text ≡ value_bytes text ++ drop (length (value_bytes text)) buffer)
      × (read_table buffer numbers text ≡ value_table text ++ drop (length (value_table text)) numbers)

-- What lets Write take what Read gave for s: six usable bytes that can spell the contents, and of which the fifth is a space unless the
-- contents name version 4, a text of 32,000 bytes at most, and room for it.
pub record Rewritable (s service output : List ℕ) : Type 0 where
  pub six : length service ≡ 6
  pub usable_bytes : usable (six_bytes service) ≡ true
  pub spellable : Spellable (six_bytes service) (contents s)
  pub suits : Suits (six_bytes service) (contents s)
  pub short : length (interchange (six_bytes service) (contents s)) ≤ most_bytes
  pub fits : length (interchange (six_bytes service) (contents s)) ≤ length output

-- What a Write of what Read gave for s leaves, where neither is refused.
pub record ReadBack (s buffer numbers service : List ℕ) (text : List ℕ) : Type 0 where
  -- what was written stood in the fronts of Read's buffers,
  pub bytes_stored : take (length (value_bytes s)) (read_bytes buffer numbers s) ≡ value_bytes s
  pub table_stored : take (length (value_table s)) (read_table buffer numbers s) ≡ value_table s
  -- the text is the contents of s, spelled with the six bytes,
  pub spelled : text ≡ interchange (six_bytes service) (contents s)
  -- Judge accepts it, with the contents of s,
  pub accepts : judge text ≡ accepted (figures_of text)
  pub same_contents : contents text ≡ contents s
  -- and Compare says "same" where the decimal mark is that of s.
  pub same : (six_bytes service).mark ≡ (characters_of s).mark → compare s text ≡ given (1 ∷ [])

-- what stands at a position, by segment, element, repeat and component
unfoldable pub standing_at : {A : Type 0} → List (List (List (List A))) → ℕ → ℕ → ℕ → ℕ → Option A
standing_at list segment element repeat component = maybe none (λ elements. value_at elements element repeat component) (at list segment)

-- The part of the input that a value names is the value's spelling; and that part alone, its release characters taken off, is the value.
pub record NamesValue (c : Characters) (s : List ℕ) (v : Value) : Type 0 where
  pub spelling : take v.spelled (drop v.offset s) ≡ spell_value c v.bytes
  pub alone : bytes_of (tokens c v.offset (take v.spelled (drop v.offset s))) ≡ v.bytes

-- ---- where a value stands among the tokens of the body

-- by segment, element, repeat and component, each from 0
pub record Position : Type 0 where
  pub segment : ℕ
  pub element : ℕ
  pub repeat : ℕ
  pub component : ℕ

abbrev pub origin : Position
origin = record { segment = 0; element = 0; repeat = 0; component = 0 }

-- After a terminator the next segment begins, after an element separator the next element, after a repetition separator the next repeat,
-- after a component separator the next component. There is no separator of another rank.
unfoldable pub passed : Position → Token → Position
passed p (byte b from place) = p
passed p (separator zero place) = record { segment = suc p.segment; element = 0; repeat = 0; component = 0 }
passed p (separator (suc zero) place) = record { segment = p.segment; element = suc p.element; repeat = 0; component = 0 }
passed p (separator (suc (suc zero)) place) =
    record { segment = p.segment; element = p.element; repeat = suc p.repeat; component = 0 }
passed p (separator (suc (suc (suc zero))) place) =
    record { segment = p.segment; element = p.element; repeat = p.repeat; component = suc p.component }
passed p (separator (suc (suc (suc (suc k)))) place) = p
passed p (fault place) = p

-- the position after tokens, from left to right
unfoldable pub reached : Position → List Token → Position
reached p [] = p
reached p (t ∷ ts) = reached (passed p t) ts

-- The value stands at the position: what stands before it reaches the position and is nothing or ends in a separator, so that no byte of
-- the value is in it; the value begins where the rest begins, and goes on to the next separator of any rank.
pub record Placed (ts : List Token) (p : Position) (v : Value) : Type 0 where
  pub before : List Token
  pub rest : List Token
  pub parts : ts ≡ before ++ rest
  pub reaches : reached origin before ≡ p
  pub separated : (before ≡ []) ⊎ (ended_by 3 before ≡ true)
  pub there : is_empty rest ≡ false
  pub bytes : v.bytes ≡ bytes_of (through (ends 3) rest)
  pub offset : v.offset ≡ start rest
  pub spelled : v.spelled ≡ end_place (through (ends 3) rest) - start rest
