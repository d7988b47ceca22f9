-- What the one walk says: that none of three stages finds anything; and on the way, of a segment's tag and of the segment. Assumes nothing.
use Rattle.std.specs.Prelude.{ℕ, ◌+◌, ◌<◌, ◌≡◌, true, ◌||◌, List, length, get_or, eqb, if◌then◌else◌, Ok}
use Rattle.std.specs.declared.option.Option.{Option}
use Rattle.std.specs.declared.option.Option.TheVariants as option
use Rattle.std.proofs.Math.Option.{none}
use Rattle.characters.specs.declared.Characters.{Characters}
use Rattle.values.specs.Tokens.{tokens_at}
use Rattle.segments.specs.declared.Kind.{Kind}
use Rattle.segments.specs.declared.Kind.TheVariants.{User}
use Rattle.segments.specs.declared.Section.{Section}
use Rattle.segments.specs.declared.Section.TheVariants.{None}
use Rattle.segments.specs.declared.Walk.{Walk}
use Rattle.segments.specs.Tags.{kind_of, tag_rule}
use Rattle.control_elements.specs.Positions.{positions_of}
use Rattle.walk_laws.specs.Walking.{section_begun, fits_by, stepped_by, begun_by}
use Rattle.stage_walks.specs.Walks.{worded, controlled}
use Rattle.scanner.specs.Scan.{segment_at}
use Rattle.elements.specs.Elements.{ElementAt}
use Rattle.stage_order.specs.Ordering.{ordered_as}
use Rattle.stage_control.specs.declared.Headers.{Headers}
use Rattle.stage_control.specs.Controlling.{header_kept, headers_after, count_due, controlled_by}
use Rattle.ordinary_runs.specs.Runs.{is_ordinary, quiet}
use Rattle.clean_walk.specs.declared.Tag.{Tag}
use Rattle.clean_walk.specs.declared.Kept.{Kept}

-- ---- the tag

module _ (c : Characters) (s : List ℕ) (at : ℕ) where
  -- three letters or digits stand there, and then the element separator or the terminator; no service character is a letter or a digit
  pub record SpellsTag : Type 0 where
    pub inside : at + 1 + 1 + 1 < length s
    pub calm : quiet c ≡ true
    pub first : is_ordinary (get_or s at 0) ≡ true
    pub second : is_ordinary (get_or s (at + 1) 0) ≡ true
    pub third : is_ordinary (get_or s (at + 1 + 1) 0) ≡ true
    pub ended : (eqb (get_or s (at + 1 + 1 + 1) 0) c.terminator || eqb (get_or s (at + 1 + 1 + 1) 0) c.element) ≡ true

  -- the tag of the segment that begins there keeps the rule, and it is a segment of this kind
  abbrev pub NamedAs : Kind → Type 0
  NamedAs of = (tag_rule (segment_at c s at) ≡ true) × (of ≡ kind_of (segment_at c s at))

  abbrev pub Tells : Option Tag → Type 0
  Tells (option.Some tag) = NamedAs tag.kind × (tag.spelled ≡ true → SpellsTag)
  Tells option.None = Unit {0}

-- ---- the segment

-- the walk and the headers after a user segment, where it fits
unfoldable pub user_step : Kept → Option Kept
user_step kept =
    if fits_by kept.walk User None then option.Some (record { walk = stepped_by kept.walk User; headers = kept.headers }) else option.None

module _ (c : Characters) (s : List ℕ) (at : ℕ) (walk : Walk) (headers : Headers) where
  -- the segment that begins there keeps the rule for tags, fits where the walk stands, and stage (10 11 12) passes it; this is the walk after
  -- it, and these are the headers that are kept
  pub record Passes (after : Walk) (kept : Headers) : Type 0 where
    pub rule : tag_rule (segment_at c s at) ≡ true
    pub kind : Kind
    pub kind_is : kind ≡ kind_of (segment_at c s at)
    pub section : Section
    pub section_is : section ≡ section_begun kind (segment_at c s at)
    pub fits : fits_by walk kind section ≡ true
    pub after_is : after ≡ begun_by (stepped_by walk kind) section
    pub reference : ℕ
    pub reference_at : ElementAt c s at (positions_of kind).reference reference
    pub control : controlled_by c s at (positions_of kind) reference (header_kept headers kind) (count_due walk kind) ≡ Ok tt
    pub kept_is : kept ≡ headers_after headers kind reference

  abbrev pub Steps : Option Kept → Type 0
  Steps (option.Some after) = Passes after.walk after.headers
  Steps option.None = Unit {0}

-- ---- the whole

module _ (c : Characters) (s : List ℕ) (start : ℕ) where
  -- none of the stages (4 5 6), 9 and (10 11 12) finds anything from the place on, and this is the walk over all segments
  abbrev pub Cleans : Option Walk → Type 0
  Cleans (option.Some walk) =
      (worded (length s) (tokens_at c s start) ≡ none)
      × (ordered_as (length s) (tokens_at c s start) ≡ Ok walk)
      × (controlled (tokens_at c s start) ≡ none)
  Cleans option.None = Unit {0}
