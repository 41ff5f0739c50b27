-- What a conversation knows where a batch begins.
use Rattle.std.proofs.Common.{◌≡◌, ℕ, zero, suc, ◌+◌, ◌-◌, ◌*◌, ◌≤◌, Bool, true, false, not, cond, List, [], ◌∷◌, length, take, drop, Option, Some, None, refl, ap, ◌∙◌, arith}
use Rattle.std.specs.List.{list_any}
use Rattle.std.specs.Option.{is_some}
use Rattle.std.proofs.lemmas.Bool.{or_parts}
use Rattle.vub_mem.specs.Place.{covers}
use Rattle.vub_mem.proofs.Ranges.{covers_from}
use Rattle.vub_driver.specs.Calls.{is_too_large}
use Rattle.vub_driver.specs.Layouts.{has_size, is_aligned, new_fault}
use Rattle.vub_driver.specs.declared.error.DriverError.{DriverError}
use Rattle.vub_driver.specs.declared.error.DriverError.TheVariants.{Size, Misaligned, TooLarge, Outside}
use Rattle.vub_driver.specs.declared.layout.Layout.{Layout}
use Rattle.vub_driver.proofs.Flat.{region_in}
use Rattle.std.proofs.lemmas.List.{length-take-le, length-drop, length-replicate}
use Rattle.vub_talk.specs.Asking.{AreSmall, Covers, is_large, region, zeros}
use Rattle.std.specs.Prelude.{option_map}
use Rattle.vub_model.specs.declared.constants.Constants.{Constants}
use Rattle.vub_model.specs.declared.run.SetupFault.{SetupFault}
use Rattle.vub_talk.specs.Faults.{asks_fault, device_fault, has_worker, lies_within, setup_fault}
use Rattle.vub_talk.specs.declared.fault.TalkFault.TheVariants as talk
use Rattle.vub_talk.specs.declared.ask.Ask.{Ask}
use Rattle.vub_talk.proofs.Valid.{Within, within}

none_past : (b : Bool) (e : DriverError) (x : Option DriverError) → cond (not b) (Some e) x ≡ None → (b ≡ true) × (x ≡ None)
none_past true e x h = (refl, h)
none_past false e x h = absurd (let no : ⊥ = cc in no)

pub size_taken : (l : Layout) → new_fault l ≡ None → has_size l ≡ true
unfolding new_fault
size_taken l h = (none_past (has_size l) Size _ h).0

pub aligned_taken : (l : Layout) → new_fault l ≡ None → is_aligned l ≡ true
unfolding new_fault
aligned_taken l h = (none_past (is_aligned l) Misaligned _ (none_past (has_size l) Size _ h).1).0

two_past : (b c : Bool) → cond b (Some TooLarge) (cond (not c) (Some Outside) None) ≡ None → (b ≡ false) × (c ≡ true)
two_past true c h = absurd (let no : ⊥ = cc in no)
two_past false true h = (refl, refl)
two_past false false h = absurd (let no : ⊥ = cc in no)

pub small_asks : (l : Layout) (asks : List Ask) → asks_fault l asks ≡ None → AreSmall l asks
unfolding asks_fault
small_asks l asks h = (two_past (list_any (λ (a : Ask). is_too_large l (length a.request) a.room) asks) (lies_within l) h).0

pub lies_asks : (l : Layout) (asks : List Ask) → asks_fault l asks ≡ None → lies_within l ≡ true
unfolding asks_fault
lies_asks l asks h = (two_past (list_any (λ (a : Ask). is_too_large l (length a.request) a.room) asks) (lies_within l) h).1

covered : (a n : ℕ) → 1048576 ≤ a → a + n ≤ 2097152 → covers (region ∷ []) a n ≡ true
covered a n low high = covers_from (region ∷ []) a n (λ x from to. ap is_some (region_in region x (omega arith, omega arith)))

pub covers_layout : (l : Layout) → lies_within l ≡ true → Covers (region ∷ []) l
covers_layout l h = (let w : Within l = within l h in record {
  desc = covered l.desc (16 * l.size) w.desc.0 w.desc.1;
  avail = covered l.avail (6 + 2 * l.size) w.avail.0 w.avail.1;
  buffers = covered l.buffers (l.slot * l.size) w.buffers.0 w.buffers.1;
})

pub small-drop : (l : Layout) (n : ℕ) (asks : List Ask) → AreSmall l asks → AreSmall l (drop n asks)
small-drop l zero asks h = h
small-drop l (suc n) [] h = refl
small-drop l (suc n) (a ∷ asks) h = small-drop l n asks (or_parts (is_large l a) (list_any (λ (x : Ask). is_large l x) asks) h).1

pub small-take : (l : Layout) (n : ℕ) (asks : List Ask) → AreSmall l asks → AreSmall l (take n asks)
small-take l zero asks h = refl
small-take l (suc n) [] h = refl
small-take l (suc n) (a ∷ asks) h =
    let parts = or_parts (is_large l a) (list_any (λ (x : Ask). is_large l x) asks) h in
    rw (parts.0, small-take l n asks parts.1) refl

-- a part of a list
pub part-length : {X : Type 0} (xs : List X) (i k : ℕ) → i + k ≤ length xs → length (take (i + k - i) (drop i xs)) ≡ k
part-length xs i k within = (let rest = length-drop i xs in length-take-le (i + k - i) (drop i xs) (omega (arith, rest)) ∙ omega arith)

pub length-zeros : (n : ℕ) → length (zeros n) ≡ n
unfolding zeros
length-zeros n = length-replicate n 0

-- a device that passes its tests passes those of the set-up
one_past : (b : Bool) (o : Option SetupFault) → cond (not b) (Some talk.NoWorker) (option_map (λ f. talk.Setup f) o) ≡ None → o ≡ None
one_past false o h = absurd (let no : ⊥ = cc in no)
one_past true None h = refl
one_past true (Some f) h = absurd (let no : ⊥ = cc in no)

pub device_none : (k : Constants) (l : Layout) → device_fault k l ≡ None → setup_fault k l ≡ None
unfolding device_fault
device_none k l h = one_past (has_worker k) (setup_fault k l) h
