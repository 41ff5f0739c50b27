-- One ask more, one span more, one collect more.
use Rattle.std.proofs.Common.{◌≡◌, ◌≢◌, ◌==◌, cond, find, drop, get_or, ℕ, zero, suc, ◌+◌, ◌-◌, ◌<◌, ◌≤◌, Bool, true, false, List, [], ◌∷◌, ◌++◌, length, Some, Ok, Err, Result, Option, refl, sym, ap, subst, ◌∙◌, arith, leb}
use Rattle.std.proofs.lemmas.Bool.{cond-true, cond-false, le-leb, eq-eqb, ne_eqb}
use Rattle.std.specs.Option.{option_map_or}
use Rattle.std.proofs.lemmas.List.{drop_more, drop_all}
use Rattle.vub_model.specs.declared.records.Count.{Count}
use Rattle.std.specs.Prelude.{IfErr}
use Rattle.std.specs.Result.{IsErrAnd}
use Rattle.vub_talk.specs.declared.fault.TalkFault.{TalkFault}
use Rattle.vub_mem.specs.Memory.{Guest}
use Rattle.vub_mem.specs.Place.{content_of, store_at}
use Rattle.vub_model.specs.declared.records.Span.{Span}
use Rattle.vub_model.specs.World.{stored}
use Rattle.vub_driver.specs.Calls.{collect_answer, state_submitted, submit_guest}
use Rattle.vub_driver.specs.State.{State}
use Rattle.vub_driver.specs.declared.done.Done.{Done}
use Rattle.vub_driver.specs.declared.layout.Layout.{Layout}
use Rattle.vub_talk.specs.declared.ask.Ask.{Ask}
use Rattle.vub_driver.specs.Machine.{World}
use Rattle.vub_driver.specs.declared.error.DriverError.{DriverError}
use Rattle.vub_driver.specs.declared.error.DriverError.TheVariants.{OutOfMemory}
use Rattle.vub_talk.specs.Late.{refusal_of}
use Rattle.vub_talk.specs.Talks.{IsSlow, IsTrusted}
use Rattle.vub_talk.proofs.Ending.{collected_on}
use Rattle.vub_talk.specs.Talking.{guest_asked, spans_stored, state_asked, calls_of, Collects}

pub state_pushed : (s : State) (asks : List Ask) (a : Ask) → state_asked s (asks ++ a ∷ []) ≡ state_submitted (state_asked s asks) a.room
state_pushed s [] a = refl
state_pushed s (b ∷ asks) a = state_pushed (state_submitted s b.room) asks a

pub guest_pushed : (l : Layout) (g : Guest) (n : ℕ) (asks : List Ask) (a : Ask) → guest_asked l g n (asks ++ a ∷ []) ≡ submit_guest l (guest_asked l g n asks) (n + length asks) a.request a.room
guest_pushed l g n [] a = (let same : n ≡ n + 0 = omega arith in ap (λ k. submit_guest l g k a.request a.room) same)
guest_pushed l g n (b ∷ asks) a =
    let up : n + 1 + length asks ≡ n + suc (length asks) = omega arith in
    let before : Guest = submit_guest l g n b.request b.room in
    guest_pushed l before (n + 1) asks a ∙ ap (λ k. submit_guest l (guest_asked l before (n + 1) asks) k a.request a.room) up

pub spans_pushed : (g : Guest) (spans : List Span) (s : Span) → spans_stored g (spans ++ s ∷ []) ≡ stored (spans_stored g spans) 0 s.offset s.bytes
spans_pushed g [] s = refl
spans_pushed g (x ∷ spans) s = spans_pushed (stored g 0 x.offset x.bytes) spans s

-- a store that fits, and one that does not
pub stored_in : (g : Guest) (offset : ℕ) (bs : List ℕ) → length bs ≤ length (content_of g.contents 0) → offset ≤ length (content_of g.contents 0) - length bs → store_at g 0 offset bs ≡ stored g 0 offset bs
unfolding stored
stored_in g offset bs short fits =
    sym (cond-true (leb (offset + length bs) (length (content_of g.contents 0))) (store_at g 0 offset bs) g (le-leb (offset + length bs) (length (content_of g.contents 0)) (omega arith)))

pub stored_past : (g : Guest) (offset : ℕ) (bs : List ℕ) → length (content_of g.contents 0) < offset + length bs → g ≡ stored g 0 offset bs
unfolding stored
stored_past g offset bs past = (let no : leb (offset + length bs) (length (content_of g.contents 0)) ≡ false = grind arith in sym (cond-false (leb (offset + length bs) (length (content_of g.contents 0))) (store_at g 0 offset bs) g no))

-- one collect more
pub collects_more : (n : ℕ) (s : State) (g : Guest) (old : List Done) (u t : State) (between new : List Done) → Collects n s g old u between → Collects 1 u g between t new → Collects (n + 1) s g old t new
collects_more n s g old u t between new first second =
    let up : suc n ≡ n + 1 = omega arith in
    let x : Done = second.2 in
    let from : Collects n s g old second.0 second.1 = subst (λ ds. Collects n s g old second.0 ds) (sym second.3.1) (subst (λ y. Collects n s g old y between) (sym second.3.0) first) in
    let made : Collects (suc n) s g old t new = (second.0, second.1, x, from, second.4, second.5, second.6) in
    subst (λ k. Collects k s g old t new) up made

pub collects_one : (s : State) (g : Guest) (old : List Done) (d : Done) (t : State) (new : List Done) → collect_answer s g ≡ Ok (Some d) → t ≡ record s { collected = s.collected + 1 } → new ≡ old ++ d ∷ [] → Collects 1 s g old t new
collects_one s g old d t new is moved pushed = (s, old, d, (refl, refl), is, moved, pushed)

-- A dialog is trusted on

pub slow : (e : DriverError) → ◌≡◌ {A = Result (Option Done) DriverError} (Err OutOfMemory) (Err e) → IsSlow (refusal_of e)
slow e is = (let same : OutOfMemory ≡ e = cc in subst (λ x. IsSlow (refusal_of x)) same tt)

-- collects do not look at the answers before
collects_other : (n : ℕ) (s : State) (g : Guest) (old other : List Done) (t : State) (new : List Done) → Collects n s g old t new → (fresh : List Done) × Collects n s g other t fresh
collects_other zero s g old other t new so = (other, (so.0, refl))
collects_other (suc n) s g old other t new so =
    let first = collects_other n s g old other so.0 so.1 so.3 in
    (first.0 ++ so.2 ∷ [], (so.0, first.0, so.2, first.1, so.4, so.5, refl))

pub trusted_on : (n : ℕ) (s : State) (g : Guest) (old : List Done) (t : State) (new : List Done) → Collects n s g old t new → IsTrusted s g → IsTrusted t g
trusted_on n s g old t new so trust =
    let d : World = trust.0 in
    let fresh = collects_other n s g old d.answers t new so in
    let mine : Collects n d.driver d.guest d.answers t fresh.0 = subst (λ x. Collects n x d.guest d.answers t fresh.0) (sym trust.2) (subst (λ x. Collects n s x d.answers t fresh.0) (sym trust.3) fresh.1) in
    (record d { driver = t; answers = fresh.0 }, (collected_on n d trust.1 t fresh.0 mine).0, refl, trust.3)

-- an error that was passed on
pub err_by : {T : Type 0} (r : Result T TalkFault) (e : TalkFault) (P : TalkFault → Type 0) → IsErrAnd r (λ x. x ≡ e) → P e → IfErr r P
err_by (Ok x) e P is holds = tt
err_by (Err x) e P is holds = subst P (sym is) holds

-- The count of the call, one count after the other

calls_cond : (b : Bool) (x : Count) (counts : List Count) → option_map_or (λ (c : Count). c.count) (cond {A = Option Count} b (Some x) (find (λ (c : Count). c.object == 2) counts)) 0 ≡ cond b x.count (calls_of counts)
calls_cond true x counts = refl
calls_cond false x counts = refl

abbrev count_in : List Count → ℕ → Count
count_in counts i = get_or counts i (record { object = 0; count = 0 })

pub calls_here : (counts : List Count) (i : ℕ) → i < length counts → (count_in counts i).object ≡ 2 → (count_in counts i).count ≡ calls_of (drop i counts)
calls_here counts i below same =
    let x : Count = count_in counts i in
    sym (ap calls_of (drop_more counts i (record { object = 0; count = 0 }) below)
    ∙ calls_cond (x.object == 2) x (drop (i + 1) counts) ∙ cond-true (x.object == 2) x.count (calls_of (drop (i + 1) counts)) (eq-eqb x.object 2 same))

pub calls_past : (counts : List Count) (i : ℕ) → i < length counts → (count_in counts i).object ≢ 2 → calls_of (drop i counts) ≡ calls_of (drop (i + 1) counts)
calls_past counts i below other =
    let x : Count = count_in counts i in
    ap calls_of (drop_more counts i (record { object = 0; count = 0 }) below)
    ∙ calls_cond (x.object == 2) x (drop (i + 1) counts) ∙ cond-false (x.object == 2) x.count (calls_of (drop (i + 1) counts)) (ne_eqb x.object 2 other)

pub calls_end : (counts : List Count) (i : ℕ) → length counts ≤ i → 0 ≡ calls_of (drop i counts)
calls_end counts i past = sym (ap calls_of (drop_all i counts past))
