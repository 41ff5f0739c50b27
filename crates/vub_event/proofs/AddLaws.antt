-- What an add and a delete, or two adds, answer and leave.
use Rattle.std.proofs.Common.{ℕ, zero, suc, ◌≡◌, List, [], ◌∷◌, length, get_or, set, Bool, true, false, not, ◌&&◌, if◌then◌else◌, Option, Some, None, is_some, nat_lt, Result, Ok, Err, sym, ◌∙◌, ap, subst, refl, arith, inr, length-set}
use Rattle.std.proofs.lemmas.Bool.Decides.{nat_tests}
use Rattle.vub_event.specs.declared.error.HostError.{HostError}
use Rattle.vub_event.specs.declared.error.HostError.TheVariants.{EINVAL, EEXIST, ENOENT, EBADF, Failed}
use Rattle.vub_event.specs.declared.member.Member.{Member}
use Rattle.vub_event.specs.HostTable.{HostTable, members_at, with_members}
use Rattle.vub_event.specs.HostCalls.{AddCall, DeleteCall, add_refusal, add_after, delete_refusal, delete_after}
use Rattle.vub_event.specs.Errors.{RefusesBy, IsDue}
use Rattle.vub_event.specs.InterestList.{member_of, with_member, without_member}
use Rattle.vub_event.specs.Laws.{AddsAndDeletes, AddsTwice}
use Rattle.vub_base.specs.Told.{Told}
use Rattle.vub_event.proofs.Telling.{told-then}
use Rattle.vub_event.proofs.Refusing.{due-or-fault, no-memory}

without-absent : (ms : List Member) (o : ℕ) → is_some (member_of ms o) ≡ false → without_member ms o ≡ ms
without-absent [] o absent = refl
without-absent (m ∷ ms) o absent = grind (arith, nat_tests, without-absent ms o)

without-with : (ms : List Member) (n : Member) → is_some (member_of ms n.object) ≡ false → without_member (with_member ms n) n.object ≡ ms
without-with [] n absent = grind (arith, nat_tests)
without-with (m ∷ ms) n absent = grind (arith, nat_tests, without-with ms n, without-absent ms n.object)

member-with : (ms : List Member) (n : Member) → is_some (member_of (with_member ms n) n.object) ≡ true
member-with [] n = grind (arith, nat_tests)
member-with (m ∷ ms) n = grind (arith, nat_tests, member-with ms n)

pub record Allowed (both upper member : Bool) : Type 0 where
  pub there : both ≡ true
  pub plain : upper ≡ false
  pub absent : member ≡ false

pub allowed : (both upper member : Bool) → (if not both then Some EBADF else if upper then Some EINVAL else if member then Some EEXIST else None) ≡ None → Allowed both upper member
allowed false upper member is = absurd cc
allowed true true member is = absurd cc
allowed true false true is = absurd cc
allowed true false false is = record { there = refl; plain = refl; absent = refl }

pub both-list : (a b : Bool) → (a && b) ≡ true → (a ≡ true) × (b ≡ true)
both-list true true is = (refl, refl)
both-list true false is = (refl, is)
both-list false b is = absurd cc

get-set : (xs : List (List Member)) (i : ℕ) (v d : List Member) → nat_lt i (length xs) ≡ true → get_or (set xs i v) i d ≡ v
get-set [] i v d lt = absurd (let h : ⊥ = grind (arith, nat_tests) in h)
get-set (x ∷ xs) zero v d lt = refl
get-set (x ∷ xs) (suc i) v d lt = get-set xs i v d (grind (arith, nat_tests))

set-back : (xs : List (List Member)) (i : ℕ) (v d : List Member) → set (set xs i v) i (get_or xs i d) ≡ xs
set-back [] i v d = refl
set-back (x ∷ xs) zero v d = refl
set-back (x ∷ xs) (suc i) v d = ap (λ (l : List (List Member)). x ∷ l) (set-back xs i v d)

pub added-and-deleted : {T U : Type 0} (list : ℕ) (n : Member) (x : T) (y : U) (old mid new : HostTable)
    → AddCall list n (Ok x) old mid → DeleteCall list n.object (Ok y) mid new → new ≡ old
unfolding add_refusal add_after delete_after
added-and-deleted list n x y old mid new add delete =
    let can = allowed _ _ _ add.0 in
    let there = both-list _ _ can.there in
    let here = get-set old.lists list (with_member (members_at old list) n) [] there.0 in
    let is : new ≡ with_members (add_after old list n) list (without_member (members_at (add_after old list n) list) n.object) =
    delete.2 ∙ ap (λ (t : HostTable). with_members t list (without_member (members_at t list) n.object)) add.2 in
    let back = ap (λ (l : List Member). without_member l n.object) here ∙ without-with (members_at old list) n can.absent in
    let same = ap (λ (l : List Member). set (set old.lists list (with_member (members_at old list) n)) list l) back
    ∙ set-back old.lists list (with_member (members_at old list) n) [] in
    let P : List (List Member) → HostTable = λ l. record old { lists = l } in
    is ∙ ap P same

-- a second add of the object is due EEXIST, and a delete is due no refusal
twice-due : (list : ℕ) (n : Member) (old : HostTable) → add_refusal old list n ≡ None → add_refusal (add_after old list n) list n ≡ Some EEXIST
unfolding add_refusal add_after
twice-due list n old free =
    let can = allowed _ _ _ free in
    let there = both-list _ _ can.there in
    let here = get-set old.lists list (with_member (members_at old list) n) [] there.0 in
    rw (length-set, there.0, there.1, can.plain, here, member-with (members_at old list) n) refl

delete-due : (list : ℕ) (n : Member) (old : HostTable) → add_refusal old list n ≡ None → delete_refusal (add_after old list n) list n.object ≡ None
unfolding add_refusal add_after delete_refusal
delete-due list n old free =
    let can = allowed _ _ _ free in
    let there = both-list _ _ can.there in
    let here = get-set old.lists list (with_member (members_at old list) n) [] there.0 in
    rw (length-set, there.0, there.1, here, member-with (members_at old list) n) refl

pub added-then : (list : ℕ) (n : Member) (result : Result (Unit {0}) HostError) (old mid now : HostTable)
    → RefusesBy result (Failed ∷ ENOENT ∷ EBADF ∷ []) → AddCall {T = Unit {0}} list n (Ok tt) old mid → DeleteCall list n.object result mid now
    → AddsAndDeletes list n result old now
added-then list n (Ok y) old mid now refusals add delete = (add.0, added-and-deleted {T = Unit {0}} {U = Unit {0}} list n tt y old mid now add delete)
added-then list n (Err e) old mid now refusals add delete =
    let due : delete_refusal mid list n.object ≡ None = rw add.2 (delete-due list n old add.0) in
    let P : Option HostError → Type 0 = λ d. IsDue d e in
    inr (add.0, due-or-fault None e (no-memory (Unit {0}) e (Failed ∷ ENOENT ∷ EBADF ∷ []) refusals refl) (subst P due delete.0), delete.1 ∙ add.2)

pub added-twice : (list : ℕ) (n : Member) (second : Result (Unit {0}) HostError) (old mid now : HostTable)
    → AddCall {T = Unit {0}} list n (Ok tt) old mid → AddCall list n second mid now → AddsTwice list n (Ok second) old now
added-twice list n (Ok y) old mid now add again =
    let due : add_refusal mid list n ≡ Some EEXIST = rw add.2 (twice-due list n old add.0) in
    let never : None ≡ Some EEXIST = sym again.0 ∙ due in absurd cc
added-twice list n (Err e) old mid now add again =
    let due : add_refusal mid list n ≡ Some EEXIST = rw add.2 (twice-due list n old add.0) in
    let P : Option HostError → Type 0 = λ d. IsDue d e in
    (add.0, subst P due again.0, again.1 ∙ add.2)

-- the same of a host that may tell its table
pub told-added-then : (list : ℕ) (n : Member) (result : Result (Unit {0}) HostError) (a b c : Option HostTable)
    → RefusesBy result (Failed ∷ ENOENT ∷ EBADF ∷ []) → Told a b (AddCall {T = Unit {0}} list n (Ok tt)) → Told b c (DeleteCall list n.object result)
    → Told a c (AddsAndDeletes list n result)
told-added-then list n result a b c refusals add delete =
    told-then a b c (AddCall {T = Unit {0}} list n (Ok tt)) (DeleteCall list n.object result) (AddsAndDeletes list n result)
    (λ old mid now. added-then list n result old mid now refusals) add delete

pub told-added-twice : (list : ℕ) (n : Member) (second : Result (Unit {0}) HostError) (a b c : Option HostTable)
    → Told a b (AddCall {T = Unit {0}} list n (Ok tt)) → Told b c (AddCall list n second) → Told a c (AddsTwice list n (Ok second))
told-added-twice list n second a b c add again =
    told-then a b c (AddCall {T = Unit {0}} list n (Ok tt)) (AddCall list n second) (AddsTwice list n (Ok second))
    (λ old mid now. added-twice list n second old mid now) add again
