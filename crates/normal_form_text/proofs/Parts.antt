-- A body put part by part, into any sink: a run of ordinary bytes, a segment, a stretch or a part without empty ends, and one part after another. Assumes
-- nothing.
use Prim.Native.Nat.{ℕ, ◌+◌, ◌-◌, ◌≤◌}
use mathlib.Core.Path.{◌≡◌, refl, sym, ap, subst, ◌∙◌}
use mathlib.Core.Bool.{Bool, ◌&&◌}
use mathlib.Core.List.{List, [], ◌∷◌, ◌++◌}
use native.Mathlib.Omega.{arith}
use lib.ListN.{length, take, drop, length-append}
use Rattle.characters.specs.declared.Characters.{Characters}
use Rattle.values.specs.Tokens.{Token, separator, tokens_at}
use Rattle.stages.specs.Contents.{normal_characters}
use Rattle.line_breaks.specs.Unbroken.{unbroken}
use Rattle.verbatim.specs.Verbatim.{Sound}
use Rattle.clear_parts.specs.Clear.{ClearPart}
use Rattle.storing.specs.Sinks.{SinkLaws}
use Rattle.storing.proofs.Putting.{put_after, room_left, Going, front_goes, going_step}
use Rattle.emission_laws.specs.declared.Held.{Held}
use Rattle.emission_laws.specs.declared.Measure.{Measure}
use Rattle.emission_laws.specs.Emission.{nothing, emitted}
use Rattle.held_separators.specs.Putting.{Puts}
use Rattle.held_separators.proofs.Steps.{separator_put}
use Rattle.ordinary_runs.specs.Runs.{quiet, Run, RunFits, longer}
use Rattle.ordinary_runs.proofs.Runs.{run_inside, run_text, run_length, none_after}
use Rattle.stretches.specs.declared.Reached.{Reached}
use Rattle.stretches.specs.Stretches.{respelling, emitted_at, Stretch}
use Rattle.stretches.proofs.Stretching.{emitted_none}
use Rattle.stretches.proofs.Steps.{respelling_length}
use Rattle.normal_form_text.specs.Measured.{Measured}
use Rattle.normal_form_text.proofs.Measuring.{measured_none, measured_more, stretch_measured, clear_measured}
use Rattle.normal_form_text.specs.Put.{Fits, Put, PutAt}

-- ---- a segment

module _ {holds : List ℕ → ℕ → List ℕ → List ℕ} {room : List ℕ → ℕ} (laws : SinkLaws holds room) where
  -- a run, where nothing is held back
  module _ (c n : Characters) (s : List ℕ) {calm : Bool} (q : calm ≡ (quiet c && quiet n)) (m : Measure) (z : m.held ≡ nothing)
      {l₀ l₁ : List ℕ} {from next : ℕ} {whole : List ℕ} (i : next ≤ length s)
      (g : Going holds room l₀ l₁ from m.total whole (emitted n m.held (tokens_at c s next))) where
    text : {to : ℕ} → Run calm s next to
        → emitted n m.held (tokens_at c s next) ≡ take (to - next) (drop next s) ++ emitted n m.held (tokens_at c s to)
    text {to} run =
        ap (λ (h : Held). emitted n h (tokens_at c s next)) z
        ∙ run_text c n s q run
        ∙ ap (λ (h : Held). take (to - next) (drop next s) ++ emitted n h (tokens_at c s to)) (sym z)

    pub run_fits : RunFits calm s next m.total (room l₁)
    run_fits to run =
        omega (
          arith,
          front_goes laws g (take (to - next) (drop next s)) (emitted n m.held (tokens_at c s to)) (text run),
          run_length s run.0 (run_inside s run i),
        )

    pub run_put : {to : ℕ} {l₂ : List ℕ} {k : Measure} → Run calm s next to → l₂ ≡ holds l₁ m.total (take (to - next) (drop next s))
        → k ≡ longer m (to - next) → Going holds room l₀ l₂ from k.total whole (emitted n k.held (tokens_at c s to))
    run_put {to} {l₂} {k} run e d =
        going_step laws g (take (to - next) (drop next s)) (emitted n k.held (tokens_at c s to))
        (text run ∙ ap (λ (v : Measure). take (to - next) (drop next s) ++ emitted n v.held (tokens_at c s to)) (sym d)) e
        (ap (λ (v : Measure). v.total) d ∙ ap (λ (j : ℕ). m.total + j) (sym (run_length s run.0 (run_inside s run i))))

  -- what is left is emitted anew
  again : (n : Characters) (m : Measure) {l₀ l₁ : List ℕ} {from : ℕ} {whole : List ℕ} (ts : List Token)
      → Going holds room l₀ l₁ from m.total whole (emitted n m.held ts) → emitted n m.held ts ≡ emitted n nothing ts
      → Going holds room l₀ l₁ from m.total whole (emitted n nothing ts)
  again n m {l₁ = l₁} ts g e =
      record { put = g.put ∙ ap (holds l₁ m.total) e; fits = omega (arith, g.fits, ap length e); same_room = g.same_room }

  module _ (n : Characters) (m : Measure) {l₀ l₁ : List ℕ} {from : ℕ} {whole : List ℕ} (ts : List Token)
      (g : Going holds room l₀ l₁ from m.total whole (emitted n m.held ts)) where
    -- at the end
    pub none_put : ts ≡ [] → Going holds room l₀ l₁ from m.total whole (emitted n nothing ts)
    unfolding emitted
    none_put e = again n m ts g (ap (emitted n m.held) e ∙ sym (ap (emitted n nothing) e))

    -- after a terminator
    pub terminator_put : {rank place : ℕ} {rest : List Token} → ts ≡ separator rank place ∷ rest → rank ≡ 0 → {l₂ : List ℕ} {k : Measure}
        → Puts holds n l₁ m (separator rank 0 ∷ []) l₂ k → Going holds room l₀ l₂ from k.total whole (emitted n nothing rest)
    terminator_put {rest = rest} e z {l₂} {k} p =
        again n k rest (separator_put laws n m ts g e p) (ap (λ (h : Held). emitted n h rest) (none_after n m z p.1))

-- ---- one part after another

module _ {holds : List ℕ → ℕ → List ℕ → List ℕ} {room : List ℕ → ℕ} (laws : SinkLaws holds room) (c n : Characters) (s : List ℕ) where
  -- nothing is put yet
  pub put_none : (buffer : List ℕ) (r : Reached) → Put holds room c n s buffer buffer r r
  put_none buffer r = record { same = refl; same_room = refl; measured = measured_none c n s r }

  module _ {l₀ l₁ : List ℕ} {from mid : Reached} (p : Put holds room c n s l₀ l₁ from mid) where
    -- what is left fits
    pub rest_fits : Fits room c n s l₀ from → Fits room c n s l₁ mid
    rest_fits f = omega (arith, f, p.measured.counted, p.same_room)

    pub put_more : {l₂ : List ℕ} {to : Reached} → Put holds room c n s l₁ l₂ mid to → Put holds room c n s l₀ l₂ from to
    put_more q =
        record {
          same = p.same ∙ q.same;
          same_room = q.same_room ∙ p.same_room;
          measured = measured_more c n s p.measured q.measured;
        }

  -- nothing is left: all is put
  pub put_all : {l₀ l₁ : List ℕ} {from r : Reached} → Put holds room c n s l₀ l₁ from r → length s ≤ r.at
      → PutAt holds l₀ from.total (emitted_at c n s from.at) l₁ r.total
  put_all {l₁ = l₁} {r = r} p h =
      let none = emitted_none c n s r.at h in
      (sym (p.same ∙ ap (holds l₁ r.total) none ∙ laws.none l₁ r.total), omega (arith, p.measured.counted, ap length none))

-- the same with characters that are the same
pub fits_with : (room : List ℕ → ℕ) (c : Characters) (s buffer : List ℕ) (r : Reached) {m n : Characters} → m ≡ n → Fits room c m s buffer r
    → Fits room c n s buffer r
fits_with room c s buffer r e f = subst (λ (n : Characters). Fits room c n s buffer r) e f

pub put_with : {holds : List ℕ → ℕ → List ℕ → List ℕ} {room : List ℕ → ℕ} (c : Characters) (s : List ℕ) {m n : Characters} → m ≡ n
    → {l₀ l₁ : List ℕ} {from r : Reached} → Put holds room c m s l₀ l₁ from r → Put holds room c n s l₀ l₁ from r
put_with {holds} {room} c s e {l₀} {l₁} {from} {r} p = subst (λ (n : Characters). Put holds room c n s l₀ l₁ from r) e p

-- ---- what is emitted first

module _ {holds : List ℕ → ℕ → List ℕ → List ℕ} {room : List ℕ → ℕ} (laws : SinkLaws holds room) (c n : Characters) (s buffer : List ℕ)
    (from r : Reached) where
  module _ (front : List ℕ) (w : emitted_at c n s from.at ≡ front ++ emitted_at c n s r.at) where
    first_fits : Fits room c n s buffer from → from.total + length front ≤ room buffer
    first_fits f = omega (arith, f, ap length w, length-append front (emitted_at c n s r.at))

    first_put : {put : List ℕ} → Measured c n s from r → put ≡ holds buffer from.total front → r.total ≡ from.total + length front
        → Put holds room c n s buffer put from r
    first_put m e t =
        record {
          same = ap (holds buffer from.total) w ∙ sym (put_after laws buffer from.total front (emitted_at c n s r.at) e t refl);
          same_room = room_left laws buffer from.total front e;
          measured = m;
        }

  -- a stretch
  module _ (st : Stretch c n s from.at r.at) where
    abbrev bytes : List ℕ
    bytes = respelling c n s from.at (r.at - from.at)

    pub stretch_fits : Fits room c n s buffer from → from.total + (r.at - from.at) ≤ room buffer
    stretch_fits f = omega (arith, first_fits bytes st.2 f, respelling_length c n s from.at (r.at - from.at))

    pub stretch_put : {put : List ℕ} → put ≡ holds buffer from.total bytes → r.total ≡ from.total + (r.at - from.at)
        → Put holds room c n s buffer put from r
    stretch_put e t =
        first_put bytes st.2 (stretch_measured c n s st t) e
        (t ∙ ap (λ (k : ℕ). from.total + k) (sym (respelling_length c n s from.at (r.at - from.at))))

-- a part without empty ends
module _ {holds : List ℕ → ℕ → List ℕ → List ℕ} {room : List ℕ → ℕ} (laws : SinkLaws holds room) (c : Characters) (repetition : ℕ)
    (s buffer : List ℕ) (from r : Reached) (p : ClearPart c repetition s from.at r.at) (o : Sound c s from.at) where
  abbrev form : Characters
  form = normal_characters c.mark repetition

  abbrev text_of : List ℕ
  text_of = unbroken (drop from.at (take r.at s))

  pub clear_fits : Fits room c form s buffer from → from.total + length text_of ≤ room buffer
  clear_fits f = first_fits laws c form s buffer from r text_of (p.2 o).0 f

  pub clear_put : {put : List ℕ} → from.at ≤ length s → put ≡ holds buffer from.total text_of → r.total ≡ from.total + length text_of
      → Put holds room c form s buffer put from r
  clear_put i e t = first_put laws c form s buffer from r text_of (p.2 o).0 (clear_measured c repetition s p o i t) e t
