-- The reports for members in order are in order.
use Rattle.std.proofs.Common.{ℕ, zero, suc, ◌+◌, ◌<◌, ◌≤◌, ◌≡◌, true, false, List, [], ◌∷◌, length, drop, get_or, Option, Some, None, IfSome, sym, ◌∙◌, ap, subst, refl, arith, cond, ◌==◌}
use Rattle.std.specs.List.{cons_option, AllByRecursion as Each}
use Rattle.std.proofs.lemmas.List.Elements.{All-from_recursion}
use Rattle.vub_event.specs.declared.event.Event.{Event}
use Rattle.vub_event.specs.declared.member.Member.{Member}
use Rattle.vub_event.specs.declared.ready.Ready.{Ready}
use Rattle.vub_event.specs.Counter.{reported_bits}
use Rattle.vub_event.specs.HostTable.{report_of, reports_of, IsLeastOf}
use Rattle.vub_event.specs.InterestList.{AllAbove, IsOrdered}
use Rattle.vub_event.proofs.Searching.{above-drop}

-- the reports from a place on are that of the member there, if it is ready, and those from the next place on
pub reports-here : (objects : List (Option Event)) (ms : List Member) (i : ℕ) (d : Member) → i < length ms
    → reports_of objects (drop i ms) ≡ cons_option (report_of (get_or ms i d) (get_or objects (get_or ms i d).object None)) (reports_of objects (drop (i + 1) ms))
reports-here objects [] i d lt = absurd (omega arith)
reports-here objects (m ∷ ms) zero d lt = refl
reports-here objects (m ∷ ms) (suc i) d lt =
    let step : suc i + 1 ≡ suc (i + 1) = omega arith in
    rw step (reports-here objects ms i d (omega arith))

report-object : (m : Member) (event : Option Event) → IfSome (report_of m event) (λ r. r.object ≡ m.object)
report-object m None = tt
report-object m (Some event) =
    elim (reported_bits event m.set.0 == 0) as (λ b. IfSome (cond {A = Option Ready} b None (Some record { object = m.object; events = reported_bits event m.set.0; token = m.token })) (λ r. r.object ≡ m.object))
    [ true ↦ tt | false ↦ refl ]

above-cons : (k : ℕ) (report : Option Ready) (rest : List Ready) → IfSome report (λ r. k < r.object) → Each (λ (r : Ready). k < r.object) rest
    → Each (λ (r : Ready). k < r.object) (cons_option report rest)
above-cons k None rest first others = others
above-cons k (Some r) rest first others = (first, others)

above-report : (k : ℕ) (m : Member) (report : Option Ready) → k < m.object → IfSome report (λ r. r.object ≡ m.object) → IfSome report (λ r. k < r.object)
above-report k m None lt is = tt
above-report k m (Some r) lt is = omega (arith, is)

pub reports-above : (k : ℕ) (objects : List (Option Event)) (ms : List Member) → AllAbove k ms → Each (λ (r : Ready). k < r.object) (reports_of objects ms)
reports-above k objects [] above = tt
reports-above k objects (m ∷ ms) above =
    above-cons k _ _ (above-report k m _ above.0 (report-object m _)) (reports-above k objects ms above.1)

least-other : (r : Ready) (rest : List Ready) (other : Ready) (k : ℕ) → Each (λ (x : Ready). r.object < x.object) rest
    → k < length (r ∷ rest) → get_or (r ∷ rest) k other ≡ other → r.object ≤ other.object
least-other r rest other zero each lt is = omega (arith, ap (λ (x : Ready). x.object) is)
least-other r rest other (suc k) each lt is =
    omega (arith, All-from_recursion _ rest each k other (omega arith), ap (λ (x : Ready). x.object) is)

pub least-head : (r : Ready) (rest : List Ready) → Each (λ (x : Ready). r.object < x.object) rest → IsLeastOf (r ∷ rest) (Some r)
least-head r rest each = ((zero, omega arith, refl), λ other h. least-other r rest other h.0 each h.1 h.2)

-- the report for the first ready member is the least
pub least-here : (objects : List (Option Event)) (ms : List Member) (i : ℕ) (d : Member) (r : Ready) → IsOrdered ms → i < length ms
    → report_of (get_or ms i d) (get_or objects (get_or ms i d).object None) ≡ Some r → reports_of objects (drop i ms) ≡ reports_of objects ms
    → IsLeastOf (reports_of objects ms) (Some r)
least-here objects ms i d r ordered lt is rest =
    let here = sym rest ∙ reports-here objects ms i d lt ∙ ap (λ (o : Option Ready). cons_option o (reports_of objects (drop (i + 1) ms))) is in
    let P : Option Ready → Type 0 = λ o. IfSome o (λ r. r.object ≡ (get_or ms i d).object) in
    let same : r.object ≡ (get_or ms i d).object = subst P is (report-object (get_or ms i d) _) in
    let Q : ℕ → Type 0 = λ n. AllAbove n (drop (i + 1) ms) in
    let above = subst Q (sym same) (above-drop ms i d ordered lt) in
    rw here (least-head r _ (reports-above r.object objects (drop (i + 1) ms) above))
