-- The number and the values of what is answered determine it, so that the promise leaves one answer. Assumes nothing.
use Rattle.refusals.specs.declared.Refusal.{Refusal}
use Rattle.std.specs.Prelude.{Result, Ok, Err}
use Prim.Native.Nat.{ℕ}
use mathlib.Core.Path.{◌≡◌, refl, sym, ap, ap₂, ◌∙◌}
use mathlib.Core.List.{List, [], ◌∷◌, ◌++◌, tail-eq_of_cons-eq, head-eq_of_cons-eq}
use native.Mathlib.Omega.{arith}
use lib.ListN.{length, take, drop, get_or, length-append}
use lib.Seq.{take-append_seam, drop-append_seam}
use Rattle.refusals.proofs.Order.{number_tells, number_not_zero}
use Rattle.answers.specs.Answers.{Answer, given, refused}
use Rattle.mailbox_files.specs.declared.Report.{Report}
use Rattle.mailbox_files.specs.Report.{listed, with_figures, told_reported}
use Rattle.mailbox_files.specs.Promises.{Tight}

-- lists with ends of the same length
ends_same : (xs ys ps qs : List ℕ) → length ps ≡ length qs → xs ++ ps ≡ ys ++ qs → (xs ≡ ys) × (ps ≡ qs)
ends_same xs ys ps qs l e =
    let n : length xs ≡ length ys = omega (arith, length-append xs ps, length-append ys qs, ap length e) in (
      sym (take-append_seam xs ps) ∙ ap₂ take n e ∙ take-append_seam ys qs,
      sym (drop-append_seam xs ps) ∙ ap₂ drop n e ∙ drop-append_seam ys qs,
    )

-- the figures of a report determine it
listed_tells : (r q : Report) → listed r ≡ listed q → r ≡ q
unfolding listed
listed_tells r q e =
    let (refusals, others) = ends_same r.refused q.refused (r.segments.0 ∷ r.messages.0 ∷ r.total ∷ r.longest ∷ [])
    (q.segments.0 ∷ q.messages.0 ∷ q.total ∷ q.longest ∷ []) refl (tail-eq_of_cons-eq e) in
    λ k.
    record {
      accepted = head-eq_of_cons-eq e k;
      refused = refusals k;
      segments = record { 0 = ap (λ (l : List ℕ). get_or l 0 0) others k };
      messages = record { 0 = ap (λ (l : List ℕ). get_or l 1 0) others k };
      total = ap (λ (l : List ℕ). get_or l 2 0) others k;
      longest = ap (λ (l : List ℕ). get_or l 3 0) others k;
    }

-- what is answered
pub reported_tells : (r q : Result Report Refusal) → told_reported r ≡ told_reported q → r ≡ q
unfolding told_reported with_figures given refused
reported_tells (Ok r) (Ok q) e = ap Ok (listed_tells r q (ap (λ (a : Answer). a.values) e))
reported_tells (Ok r) (Err q) e = absurd (number_not_zero q.fault (sym (ap (λ (a : Answer). a.number) e)))
reported_tells (Err r) (Ok q) e = absurd (number_not_zero r.fault (ap (λ (a : Answer). a.number) e))
reported_tells (Err r) (Err q) e =
    let values = ap (λ (a : Answer). a.values) e in
    ap Err (ap₂ (λ f n. record { fault = f; place = n }) (number_tells r.fault q.fault (ap (λ (a : Answer). a.number) e)) (head-eq_of_cons-eq values))

pub tight : Tight
tight file r q h k = reported_tells r q (h ∙ sym k)
