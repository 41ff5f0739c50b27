-- The reports of members in order stand in order of their objects.
use Rattle.std.proofs.Common.{ℕ, zero, suc, ◌<◌, true, false, List, [], ◌∷◌, take, Option, Some, None, if◌then◌else◌, ◌==◌}
use Rattle.std.specs.List.{cons_option, AllByRecursion}
use Rattle.vub_event.specs.declared.event.Event.{Event}
use Rattle.vub_event.specs.declared.member.Member.{Member}
use Rattle.vub_event.specs.declared.ready.Ready.{Ready}
use Rattle.vub_event.specs.Counter.{reported_bits}
use Rattle.vub_event.specs.HostTable.{HostTable, members_at, ready_members, report_of, reports_of}
use Rattle.vub_event.specs.InterestList.{IsOrdered}
use Rattle.vub_event.specs.Orderly.{IsByObject, IsOrderly}
use Rattle.vub_event.proofs.Reporting.{reports-above}
use Rattle.std.proofs.Common.{get_or, ◌≡◌, refl, sym, subst}

-- a fact of the reports with one report more, if there is one, which is for this object
one-more : (P : List Ready → Type 0) (m : Member) (o : Option Event) (rest : List Ready) → P rest → ((r : Ready) → r.object ≡ m.object → P (r ∷ rest)) → P (cons_option (report_of m o) rest)
one-more P m None rest without with_it = without
one-more P m (Some event) rest without with_it =
    elim (reported_bits event m.set.0 == 0) as (λ b. P (cons_option (if b then None else Some record { object = m.object; events = reported_bits event m.set.0; token = m.token }) rest)) [
      | true ↦ without
      | false ↦ with_it (record { object = m.object; events = reported_bits event m.set.0; token = m.token }) refl
    ]

pub by-object : (objects : List (Option Event)) (ms : List Member) → IsOrdered ms → IsByObject (reports_of objects ms)
by-object objects [] ordered = tt
by-object objects (m ∷ ms) ordered =
    one-more IsByObject m (get_or objects m.object None) (reports_of objects ms) (by-object objects ms ordered.1)
    (λ r same. (subst (λ n. AllByRecursion (λ (s : Ready). n < s.object) (reports_of objects ms)) (sym same) (reports-above m.object objects ms ordered.0), by-object objects ms ordered.1))

above-take : (k n : ℕ) (rs : List Ready) → AllByRecursion (λ (s : Ready). k < s.object) rs → AllByRecursion (λ (s : Ready). k < s.object) (take n rs)
above-take k zero rs above = tt
above-take k (suc n) [] above = tt
above-take k (suc n) (r ∷ rs) above = (above.0, above-take k n rs above.1)

take-by-object : (n : ℕ) (rs : List Ready) → IsByObject rs → IsByObject (take n rs)
take-by-object zero rs by = tt
take-by-object (suc n) [] by = tt
take-by-object (suc n) (r ∷ rs) by = (above-take r.object n rs by.0, take-by-object n rs by.1)

pub reports-by-object : (table : HostTable) (list most : ℕ) → IsOrderly table → IsByObject (take most (ready_members table list))
reports-by-object table list most orderly = take-by-object most (ready_members table list) (by-object table.objects (members_at table list) (orderly.ordered list))
