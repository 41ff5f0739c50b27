-- The set-up of a generated script passes all tests.
use Rattle.std.proofs.Common.{◌≡◌, ◌∙◌, ℕ, zero, suc, ◌+◌, ◌*◌, ◌%◌, ◌<◌, ◌≤◌, Bool, true, false, true≢false, not, ◌&&◌, nat_le, nat_lt, List, [], ◌∷◌, ◌++◌, length, take, get_or, Option, Some, None, option_map, position, refl, sym, ap, subst, arith, replicate, length-append}
use Rattle.std.proofs.Math.ListN.{length-replicate}
use Rattle.std.proofs.lemmas.Bool.Decides.{nat_tests}
use Rattle.std.proofs.lemmas.List.Quantifiers.{position-Some}
use Rattle.std.specs.Int.{w16, w32, w64, to_le_bytes}
use Rattle.std.specs.List.{flat_map, list_all, range_with_len}
use Rattle.vub_model.specs.declared.setup.Guest.{Guest}
use Rattle.vub_model.specs.declared.setup.Guest.TheVariants.{Store, Signal}
use Rattle.vub_model.specs.ValidSetup.{or_else, is_event, content_len, fits_in, is_possible, first_impossible, guest_fault, log_object_fault, device_fault, exit_fault, is_greatest_size, region_fault, given_table_fault, ring_fault, ring_is_sound, is_free, request_fault, fault_of}
use Rattle.vub_mem.specs.Table.{table_fault, region_fault as mem_region_fault, pairs_fault}
use Rattle.vub_share.specs.Generator.{descriptor, published_in, published, zeros, objects_made, region_made, ring_made, device_made, made}
use Rattle.vub_share.specs.ScriptRun.{constants_in, fault_in, CausedBy}
use Rattle.vub_script.specs.Directory.{is_served}
use Rattle.vub_script.specs.declared.script.Script.{Script}
use Rattle.vub_share.specs.declared.no_run.NoRun.{NoRun}
use Rattle.vub_share.specs.declared.no_run.NoRun.TheVariants.{Read, TooLong, NotAScript, Unfit, Memory}
use Rattle.vub_share.specs.declared.no_run.Unfit.TheVariants as unfit
use lib.Count

zeros_len : (n : ℕ) → length (zeros n) ≡ n
unfolding zeros
zeros_len n = length-replicate n 0

memory_len : content_len objects_made 0 ≡ Some 1048576
unfolding content_len objects_made
memory_len = ap Some (zeros_len 1048576)

kick_there : is_event objects_made 1 ≡ true
unfolding is_event objects_made
kick_there = refl

call_there : is_event objects_made 2 ≡ true
unfolding is_event objects_made
call_there = refl

abbrev possible : Guest → Bool
possible a = is_possible objects_made a

fits : (n m : ℕ) → n ≤ m → nat_le n m ≡ true
fits n m h = grind (arith, nat_tests, h)

a_store : (offset n : ℕ) (bytes : List ℕ) → length bytes ≡ n → offset + n ≤ 1048576 → possible (Store 0 offset bytes) ≡ true
unfolding is_possible
a_store offset n bytes is h = ap (λ o. fits_in o (offset + length bytes)) memory_len ∙ fits (offset + length bytes) 1048576 (omega (arith, is, h))

a_signal : possible (Signal 1) ≡ true
unfolding is_possible
a_signal = kick_there

both : (a b : Bool) → a ≡ true → b ≡ true → (a && b) ≡ true
both true b is are = are
both false b is are = is

one_entry : (i s : ℕ) → s < 128 → i % 256 < 256 → list_all possible (published_in i s) ≡ true
one_entry i s h k =
    both _ _ (a_store (65536 + 32 * s) 8 _ refl (omega (arith, h)))
    (both _ _ (a_store (32 * s) 32 _ refl (omega (arith, h)))
    (both _ _ (a_store (8196 + 2 * (i % 256)) 2 _ refl (omega (arith, k)))
    (both _ _ (a_store 8194 2 _ refl (omega arith))
    (both _ _ a_signal refl))))

split : (a b : Bool) → (a && b) ≡ true → (a ≡ true) × (b ≡ true)
split true b h = (refl, h)
split false b h = absurd (true≢false (sym h))

entry : (i : ℕ) → list_all possible (published i) ≡ true
unfolding published
entry i = one_entry i (i % 128) (omega arith) (omega arith)

append_all : (xs ys : List Guest) → list_all possible xs ≡ true → list_all possible ys ≡ true → list_all possible (xs ++ ys) ≡ true
append_all [] ys a b = b
append_all (x ∷ xs) ys a b =
    let parts = split (possible x) (list_all possible xs) a in
    both _ _ parts.0 (append_all xs ys parts.1 b)

entries : (k n : ℕ) → list_all possible (flat_map published (range_with_len k n)) ≡ true
entries k zero = refl
entries k (suc n) = append_all (published k) _ (entry k) (entries (k + 1) n)

entry_len : (i : ℕ) → length (published i) ≡ 5
unfolding published
entry_len i = refl

entries_len : (k n : ℕ) → length (flat_map published (range_with_len k n)) ≡ 5 * n
entries_len k zero = refl
entries_len k (suc n) =
    let rest = entries_len (k + 1) n in
    length-append (published k) _ ∙ omega (arith, entry_len k, rest)

all_at : (xs : List Guest) (k : ℕ) (d : Guest) → list_all possible xs ≡ true → k < length xs → possible (get_or xs k d) ≡ true
all_at [] k d h l = absurd (omega (arith, l))
all_at (x ∷ xs) zero d h l = (split (possible x) (list_all possible xs) h).0
all_at (x ∷ xs) (suc k) d h l = all_at xs k d (split (possible x) (list_all possible xs) h).1 (omega (arith, l))

take_all : (xs : List Guest) (m : ℕ) → list_all possible xs ≡ true → list_all possible (take m xs) ≡ true
take_all xs zero h = refl
take_all [] (suc m) h = refl
take_all (x ∷ xs) (suc m) h =
    let parts = split (possible x) (list_all possible xs) h in
    both _ _ parts.0 (take_all xs m parts.1)

no_fault : (xs : List Guest) (o : Option ℕ) → list_all possible xs ≡ true → position (λ a. not (possible a)) xs ≡ o → o ≡ None
no_fault xs None h is = refl
no_fault xs (Some i) h is =
    let found = position-Some (λ a. not (possible a)) xs i (Signal 1) is in
    absurd (true≢false (sym found.1 ∙ ap not (all_at xs i (Signal 1) h found.0)))

not_past : (n m : ℕ) → n ≤ m → nat_lt m n ≡ false
not_past n m h = grind (arith, nat_tests, h)

guest_fine : (n : ℕ) → n ≤ 100000 → guest_fault objects_made (flat_map published (range_with_len 0 n)) ≡ None
unfolding guest_fault
guest_fine n h =
    let g = flat_map published (range_with_len 0 n) in
    let none : first_impossible objects_made (take 1048576 g) ≡ None = no_fault (take 1048576 g) _ (take_all g 1048576 (entries 0 n)) refl in
    let short : nat_lt 1048576 (length g) ≡ false = not_past (length g) 1048576 (omega (arith, entries_len 0 n, h)) in
    rw (none, short) refl

device_fine : device_fault (constants_in device_made) objects_made ≡ None
unfolding device_fault exit_fault is_greatest_size lib.Count.ones
device_fine = refl

regions_fine : region_fault objects_made (region_made ∷ []) ≡ None
unfolding region_fault
regions_fine = rw memory_len refl

table_fine : given_table_fault objects_made (region_made ∷ []) ≡ None
unfolding given_table_fault table_fault mem_region_fault pairs_fault objects_made
table_fine = rw (zeros_len 1048576) refl

ring_fine : ring_fault (constants_in device_made) objects_made [] (ring_made ∷ []) ≡ None
unfolding ring_fault ring_is_sound is_event is_free objects_made lib.Count.ones
ring_fine = refl

requests_fine : request_fault (constants_in device_made) objects_made [] ≡ None
unfolding request_fault
requests_fine = refl

logs_fine : log_object_fault objects_made ≡ None
unfolding log_object_fault objects_made
logs_fine = refl

pub made_is_valid : (n : ℕ) → n ≤ 100000 → fault_in (made n) ≡ None
unfolding made fault_of
made_is_valid n h = rw (device_fine, regions_fine, table_fine, ring_fine, requests_fine, guest_fine n h, logs_fine) refl

-- its service is echo
pub made_served : (script : Script) (n : ℕ) → script ≡ made n → is_served script.service ≡ true
unfolding made
made_served script n is = ap (λ s. is_served s.service) is

-- so that it is never refused
pub never_refused : (script : Script) (n : ℕ) (why : NoRun) → n ≤ 100000 → script ≡ made n → CausedBy script why → why ≡ Memory
never_refused script n (Unfit (unfit.Setup fault)) h is cause =
    let none : fault_in script ≡ None = ap fault_in is ∙ made_is_valid n h in
    let both : Some fault ≡ None = sym cause ∙ none in cc
never_refused script n (Unfit (unfit.Limit limit)) h is cause = absurd cause
never_refused script n Memory h is cause = refl
never_refused script n Read h is cause = absurd cause
never_refused script n TooLong h is cause = absurd cause
never_refused script n (NotAScript fault) h is cause = absurd cause
