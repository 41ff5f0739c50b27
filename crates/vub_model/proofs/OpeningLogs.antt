-- At the opening of a valid set-up regions and logs fit each other, no page is marked, and each harvest of the guest is
-- of a word that its log has.
use Rattle.std.proofs.Common.{◌≡◌, inl, inr, ℕ, zero, suc, ◌+◌, ◌*◌, ◌/◌, ◌%◌, ◌<◌, ◌≤◌, Bool, true, false, cond, not, ◌&&◌, eqb, nat_lt, List, [], ◌∷◌, length, map, take, fold, replicate, get_or, slice_get, Option, Some, None, is_some, option_map, refl, sym, ap, ◌∙◌, subst, arith}
use Rattle.std.specs.List.{AllByRecursion}
use Rattle.std.specs.Int.{bit_at}
use Rattle.std.proofs.lemmas.Bool.{cases_Bool, cases_lt, cond_both, cond-true, cond-false, eq-eqb, ne_eqb, ltb-true, ltb-false}
use Rattle.std.proofs.lemmas.List.{length-replicate, get_or-replicate, get_or_past, take_all}
use Rattle.std.proofs.lemmas.Nat.Bits.{bit_at-zero}
use Rattle.vub_mem.specs.declared.dirty.Stored.{Stored}
use Rattle.vub_mem.specs.declared.region.Region.{Region}
use Rattle.vub_mem.specs.Marks.{Mark}
use Rattle.vub_mem.specs.Table.{table_fault, unlogged}
use Rattle.vub_mem.proofs.Finds.{all_from}
use Rattle.vub_log.specs.Plain.{Plain, fresh, word_count, page_bit, harvest_count}
use Rattle.vub_model.specs.declared.constants.Constants.{Constants}
use Rattle.vub_model.specs.declared.run.SetupFault.TheVariants as setup_fault
use Rattle.vub_model.specs.declared.setup.GivenRegion.{GivenRegion}
use Rattle.vub_model.specs.declared.setup.GivenRing.{GivenRing}
use Rattle.vub_model.specs.declared.setup.Guest.{Guest}
use Rattle.vub_model.specs.declared.setup.Guest.TheVariants.{Store, Signal, Harvest}
use Rattle.vub_model.specs.declared.setup.Object.{Object}
use Rattle.vub_model.specs.declared.setup.Object.TheVariants as object
use Rattle.vub_model.specs.declared.setup.Setup.{Setup}
use Rattle.vub_model.specs.declared.wiring.Place.{Place}
use Rattle.vub_model.specs.Logging.{Stands}
use Rattle.vub_model.specs.Logs.{log_at}
use Rattle.vub_model.specs.Opening.{opening, before_rings, registered, registered_kick, placed, claimed, logs_from, wiring_of}
use Rattle.vub_model.specs.Shared.{Shared}
use Rattle.vub_model.specs.ValidSetup.{IsValid, contents_from, given_region, given_table_fault, guest_fault, first_impossible, is_possible, has_word, log_size, log_length_in}
use Rattle.vub_model.specs.Wiring.{Wiring, place_of}
use Rattle.vub_model.proofs.LogFits.{LogsFit, fit-replaced}
use Rattle.vub_model.proofs.LogSound.{CanHarvest, LogsSound}
use Rattle.vub_model.proofs.OpeningMeets.{FailsNone, fails-none, or-parts, none-passes, map-none}

-- Registration leaves memory and logs

abbrev Same : {V : Type 0} → Shared V → Shared V → Type 0
Same h z = (z.guest ≡ h.guest) × (z.logs ≡ h.logs)

module _ {V : Type 0} (g : Wiring) where
  placed-same : (h : Shared V) (kick : ℕ) (p : Option Place) → Same h (placed g h kick p)
  placed-same h kick None = (refl, refl)
  placed-same h kick (Some p) = (refl, refl)

  kick-same : (h : Shared V) (r : GivenRing) (kick : Option ℕ) → Same h (registered_kick g h r kick)
  kick-same h r None = (refl, refl)
  kick-same h r (Some kick) =
      cond_both {A = Shared V} (r.ready && r.enabled) (placed g (claimed h kick r.queue) kick (place_of g r.queue)) (claimed h kick r.queue) (λ z. Same h z)
      (λ on. placed-same (claimed h kick r.queue) kick (place_of g r.queue)) (λ off. (refl, refl))

  all-same : (given : List GivenRing) (h : Shared V) → Same h (fold (λ h r. registered g h r) h given)
  all-same [] h = (refl, refl)
  all-same (r ∷ given) h = let one = kick-same h r r.kick in let rest = all-same given (registered g h r) in (rest.0 ∙ one.0, rest.1 ∙ one.1)

-- Regions

given-same : (regions : List GivenRegion) → map unlogged (map given_region regions) ≡ map given_region regions
given-same [] = refl
given-same (r ∷ regions) = ap (λ l. given_region r ∷ l) (given-same regions)

fit-given : (objects : List Object) (regions : List GivenRegion) (logs : List (Stored Plain)) → ((o : ℕ) → 8 * (log_at logs o).len ≤ 32 * length (log_at logs o).words) → given_table_fault objects regions ≡ None → LogsFit (map given_region regions) logs
unfolding given_table_fault
fit-given objects [] logs whole none = record { apart = tt; some = tt; paged = tt; logged = tt; whole = whole }
fit-given objects (r ∷ rs) logs whole none =
    let P : List Region → Type 0 = λ l. LogsFit l logs in
    subst P (given-same (r ∷ rs)) (fit-replaced (contents_from 0 objects) logs (map given_region (r ∷ rs)) whole (no-fault (table_fault (contents_from 0 objects) (map given_region (r ∷ rs))) none)) where
      no-fault : {E : Type 0} (f : Option E) → cond (is_some f) (Some (setup_fault.Region 0)) None ≡ None → f ≡ None
      no-fault None is = refl
      no-fault (Some e) is = absurd cc

-- Logs

-- a log is new
from-fresh : (n : ℕ) (objects : List Object) (o : ℕ) → (len : ℕ) × (log_at (logs_from n objects) o ≡ fresh len)
from-fresh n [] o = (0, refl)
from-fresh n (object.Event flags ∷ objects) o = from-fresh (n + 1) objects o
from-fresh n (object.Content bytes ∷ objects) o = from-fresh (n + 1) objects o
from-fresh n (object.Log len ∷ objects) o =
    elim (cases_Bool (eqb n o)) [
      | inl here ↦ (len, cond-true (eqb n o) (fresh len) (log_at (logs_from (n + 1) objects) o) here)
      | inr there ↦ (let rest = from-fresh (n + 1) objects o in (rest.0, cond-false (eqb n o) (fresh len) (log_at (logs_from (n + 1) objects) o) there ∙ rest.1))
    ]

-- it has words for all its bytes, and all are 0
all-zero : (n i : ℕ) → get_or {A = ℕ} (replicate n 0) i 0 ≡ 0
all-zero n i =
    elim (cases_lt i n) [
      | inl within ↦ get_or-replicate n i 0 0 within
      | inr past ↦ get_or_past (replicate n 0) i 0 (let e : length {A = ℕ} (replicate n 0) ≡ n = length-replicate n 0 in omega arith)
    ]

fresh-whole : (len : ℕ) → 8 * (fresh len).len ≤ 32 * length (fresh len).words
fresh-whole len = let e : length (fresh len).words ≡ word_count len = length-replicate (word_count len) 0 in omega arith

fresh-bit : (len page : ℕ) → page_bit (fresh len) page ≡ 0
fresh-bit len page = ap (λ w. bit_at w (page % 32)) (all-zero (word_count len) (page / 32)) ∙ bit_at-zero (page % 32)

-- it has the bytes that its object says
size-at : (objects : List Object) (n i len : ℕ) → log_length_in (slice_get objects i) ≡ Some len → (log_at (logs_from n objects) (n + i)).len ≡ len
size-at [] n i len is = absurd cc
size-at (object.Event flags ∷ objects) n zero len is = absurd cc
size-at (object.Content bytes ∷ objects) n zero len is = absurd cc
size-at (object.Log size ∷ objects) n zero len is =
    let here : eqb n (n + zero) ≡ true = eq-eqb n (n + zero) (omega arith) in
    let same : size ≡ len = cc in
    ap (λ (log : Plain). log.len) (cond-true (eqb n (n + zero)) (fresh size) (log_at (logs_from (n + 1) objects) (n + zero)) here) ∙ same
size-at (object.Event flags ∷ objects) n (suc i) len is = subst (λ k. (log_at (logs_from (n + 1) objects) k).len ≡ len) (let e : n + 1 + i ≡ n + suc i = omega arith in e) (size-at objects (n + 1) i len is)
size-at (object.Content bytes ∷ objects) n (suc i) len is = subst (λ k. (log_at (logs_from (n + 1) objects) k).len ≡ len) (let e : n + 1 + i ≡ n + suc i = omega arith in e) (size-at objects (n + 1) i len is)
size-at (object.Log size ∷ objects) n (suc i) len is =
    let there : eqb n (n + suc i) ≡ false = ne_eqb n (n + suc i) (λ same. absurd (omega arith)) in
    ap (λ (log : Plain). log.len) (cond-false (eqb n (n + suc i)) (fresh size) (log_at (logs_from (n + 1) objects) (n + suc i)) there)
    ∙ subst (λ k. (log_at (logs_from (n + 1) objects) k).len ≡ len) (let e : n + 1 + i ≡ n + suc i = omega arith in e) (size-at objects (n + 1) i len is)

has-size : (objects : List Object) (o : ℕ) (size : Option ℕ) (word : ℕ) → log_length_in (slice_get objects o) ≡ size → has_word size word ≡ true → 4 * word < (log_at (logs_from 0 objects) o).len
has-size objects o None word is has = absurd cc
has-size objects o (Some len) word is has =
    let e : 0 + o ≡ o = omega arith in
    let P : ℕ → Type 0 = λ k. (log_at (logs_from 0 objects) k).len ≡ len in
    let same : (log_at (logs_from 0 objects) o).len ≡ len = subst P e (size-at objects 0 o len is) in
    let below = ltb-true (4 * word) len has in
    omega (arith, same, below)

-- The guest

can-harvest : (objects : List Object) (action : Guest) → not (is_possible objects action) ≡ false → CanHarvest (logs_from 0 objects) action
unfolding log_size is_possible
can-harvest objects (Store number offset bytes) is = tt
can-harvest objects (Signal number) is = tt
can-harvest objects (Harvest number word) is = has-size objects number (log_size objects number) word refl (is-not (has_word (log_size objects number) word) is) where
  is-not : (b : Bool) → not b ≡ false → b ≡ true
  is-not true is = refl
  is-not false is = absurd cc

-- how many actions there are, and each can be done
guest-fits : (objects : List Object) (guest : List Guest) → guest_fault objects guest ≡ None → (length guest ≤ 1048576) × AllByRecursion (CanHarvest (logs_from 0 objects)) guest
unfolding guest_fault
guest-fits objects guest none =
    let first = option_map (λ i. setup_fault.Guest i) (first_impossible objects (take 1048576 guest)) in
    let parts = or-parts first (cond (nat_lt 1048576 (length guest)) (Some (setup_fault.Guest 1048576)) None) none in
    let few : length guest ≤ 1048576 = ltb-false 1048576 (length guest) (no-more (nat_lt 1048576 (length guest)) parts.1) in
    let able = none-passes (λ a. not (is_possible objects a)) (take 1048576 guest) (map-none (λ i. setup_fault.Guest i) (first_impossible objects (take 1048576 guest)) parts.0) in
    let All : List Guest → Type 0 = λ l. AllByRecursion (λ a. not (is_possible objects a) ≡ false) l in
    (few, all_from (λ a. not (is_possible objects a) ≡ false) (CanHarvest (logs_from 0 objects)) guest (can-harvest objects) (subst All (take_all 1048576 guest few) able)) where
      no-more : (b : Bool) → cond b (Some (setup_fault.Guest 1048576)) None ≡ None → b ≡ false
      no-more true is = absurd cc
      no-more false is = refl

-- The opening

module _ {V : Type 0} (constants : Constants) (setup : Setup) (v : V) where
  logs-given : (opening constants setup v).shared.logs ≡ logs_from 0 setup.objects
  unfolding opening
  logs-given = (all-same (wiring_of constants (length setup.objects)) setup.rings (before_rings constants setup v)).1

  regions-given : (opening constants setup v).shared.guest.regions ≡ map given_region setup.regions
  unfolding opening
  regions-given = ap (λ g. g.regions) (all-same (wiring_of constants (length setup.objects)) setup.rings (before_rings constants setup v)).0

  opening-guest : ((opening constants setup v).guest ≡ setup.guest) × ((opening constants setup v).harvests ≡ [])
  unfolding opening
  opening-guest = (refl, refl)

  -- no page is marked
  pub none-stands : (page : Mark) → Stands (opening constants setup v) page → ⊥
  none-stands page stands =
      let its = from-fresh 0 setup.objects page.object in
      let log : log_at (opening constants setup v).shared.logs page.object ≡ fresh its.0 = ap (λ l. log_at l page.object) logs-given ∙ its.1 in
      let zero_is = ap (λ (log : Plain). page_bit log page.page) log ∙ fresh-bit its.0 page.page in
      omega (arith, stands, zero_is)

  pub opening-logs : IsValid constants setup → LogsSound (opening constants setup v)
  opening-logs valid =
      let none : FailsNone constants setup = fails-none constants setup valid in
      let guest = guest-fits setup.objects setup.guest none.guest in
      let logs : List (Stored Plain) = logs_from 0 setup.objects in
      let whole : (o : ℕ) → 8 * (log_at logs o).len ≤ 32 * length (log_at logs o).words = λ o.
      let its = from-fresh 0 setup.objects o in
      let P : Plain → Type 0 = λ log. 8 * log.len ≤ 32 * length log.words in
      subst P (sym its.1) (fresh-whole its.0) in
      let fit : LogsFit (map given_region setup.regions) logs = fit-given setup.objects setup.regions logs whole none.table in
      let With : List (Stored Plain) → Type 0 = λ l. LogsFit (map given_region setup.regions) l in
      let Over : List Region → Type 0 = λ rs. LogsFit rs (opening constants setup v).shared.logs in
      let All : List (Stored Plain) → Type 0 = λ l. AllByRecursion (CanHarvest l) setup.guest in
      let Of : List Guest → Type 0 = λ l. AllByRecursion (CanHarvest (opening constants setup v).shared.logs) l in
      let len = ap length opening-guest.0 in
      let nothing = ap length opening-guest.1 in
      record {
        fit = subst Over (sym regions-given) (subst With (sym logs-given) fit);
        counted = λ o word.
            (let its = from-fresh 0 setup.objects o in
            let count = ap (λ l. harvest_count (log_at l o) word) logs-given ∙ (ap (λ (log : Plain). harvest_count log word) its.1 ∙ all-zero (word_count its.0) word) in
            omega (arith, count));
        few = omega (arith, len, nothing, guest.0);
        able = subst Of (sym opening-guest.0) (subst All (sym logs-given) guest.1);
      }
