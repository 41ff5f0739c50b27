-- What a collect gives, and what it may refuse.
use Rattle.std.proofs.Common.{◌≡◌, ◌-◌, Bool, true, false, not, cond, Option, Some, None, Result, Ok, Err, sym, ap, subst, eqb, ltb}
use Rattle.vub_mem.specs.Memory.{Guest}
use Rattle.vub_mem.specs.Place.{covers}
use Rattle.vub_driver.specs.Calls.{new_of, id_of, len_of, oldest_room, done_of, collect_answer}
use Rattle.vub_driver.specs.Places.{head_of, reply_at, used_index_at, used_element_at}
use Rattle.vub_driver.specs.State.{State}
use Rattle.vub_driver.specs.declared.done.Done.{Done}
use Rattle.vub_driver.specs.declared.error.DriverError.{DriverError}
use Rattle.vub_driver.specs.declared.error.DriverError.TheVariants.{Outside, UsedAhead, BadId, BadLength}
use Rattle.vub_talk.specs.Late.{IsLate, refusal_of}

abbrev Answer : Type 0
Answer = Result (Option Done) DriverError

-- a collect by its tests
answer : Bool → Bool → Bool → Bool → Bool → Bool → Bool → Done → Answer
answer index none ahead element id long reply d =
    cond (not index) (Err Outside) (cond none (Ok None) (cond ahead (Err UsedAhead) (cond (not element) (Err Outside) (cond (not id) (Err BadId) (cond long (Err BadLength) (cond (not reply) (Err Outside) (Ok (Some d))))))))

gives : (index none ahead element id long reply : Bool) (d e : Done) → ◌≡◌ {A = Answer} (answer index none ahead element id long reply d) (Ok (Some e)) → d ≡ e
unfolding answer
gives false none ahead element id long reply d e is = absurd (let no : ⊥ = cc in no)
gives true true ahead element id long reply d e is = absurd (let no : ⊥ = cc in no)
gives true false true element id long reply d e is = absurd (let no : ⊥ = cc in no)
gives true false false false id long reply d e is = absurd (let no : ⊥ = cc in no)
gives true false false true false long reply d e is = absurd (let no : ⊥ = cc in no)
gives true false false true true true reply d e is = absurd (let no : ⊥ = cc in no)
gives true false false true true false false d e is = absurd (let no : ⊥ = cc in no)
gives true false false true true false true d e is = cc

pub late : (e f : DriverError) → ◌≡◌ {A = Answer} (Err e) (Err f) → IsLate (refusal_of e) → IsLate (refusal_of f)
late e f is h = (let same : e ≡ f = cc in subst (λ x. IsLate (refusal_of x)) same h)

refuses : (index none ahead element id long reply : Bool) (d : Done) (e : DriverError) → ◌≡◌ {A = Answer} (answer index none ahead element id long reply d) (Err e) → IsLate (refusal_of e)
unfolding answer
refuses false none ahead element id long reply d e is = late Outside e is tt
refuses true true ahead element id long reply d e is = absurd (let no : ⊥ = cc in no)
refuses true false true element id long reply d e is = late UsedAhead e is tt
refuses true false false false id long reply d e is = late Outside e is tt
refuses true false false true false long reply d e is = late BadId e is tt
refuses true false false true true true reply d e is = late BadLength e is tt
refuses true false false true true false false d e is = late Outside e is tt
refuses true false false true true false true d e is = absurd (let no : ⊥ = cc in no)

-- an answer has the number of the oldest ask
pub number_is : (s : State) (g : Guest) (e : Done) → ◌≡◌ {A = Answer} (collect_answer s g) (Ok (Some e)) → e.number ≡ s.collected
unfolding collect_answer answer
number_is s g e is =
    sym (ap (λ (d : Done). d.number) (gives (covers g.regions (used_index_at s.layout) 2) (eqb (new_of s g) 0) (ltb (s.submitted - s.collected) (new_of s g))
    (covers g.regions (used_element_at s.layout s.collected) 8) (eqb (id_of s g) (head_of s.layout s.collected)) (ltb (oldest_room s) (len_of s g))
    (covers g.regions (reply_at s.layout s.collected) (len_of s g)) (done_of s g) e is))

-- a refusal is of a used ring
pub late_is : (s : State) (g : Guest) (e : DriverError) → ◌≡◌ {A = Answer} (collect_answer s g) (Err e) → IsLate (refusal_of e)
unfolding collect_answer answer
late_is s g e is =
    refuses (covers g.regions (used_index_at s.layout) 2) (eqb (new_of s g) 0) (ltb (s.submitted - s.collected) (new_of s g))
    (covers g.regions (used_element_at s.layout s.collected) 8) (eqb (id_of s g) (head_of s.layout s.collected)) (ltb (oldest_room s) (len_of s g))
    (covers g.regions (reply_at s.layout s.collected) (len_of s g)) (done_of s g) e is
