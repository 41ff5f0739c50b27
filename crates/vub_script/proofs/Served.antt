-- The service of a draft can be served.
use Rattle.std.proofs.Common.{◌≡◌, ◌∙◌, ℕ, [], Bool, true, false, List, Option, Some, None, IfSome, IfOk, Result, Ok, Err, is_none, refl, sym, ap, subst, if◌then◌else◌, codes}
use Rattle.serde_json.specs.Data.{Data}
use Rattle.serde_json.specs.Find.{as_object, get}
use Rattle.vub_dir.specs.Building.{first_fault}
use Rattle.vub_dir.specs.declared.entry.TreeEntry.{TreeEntry}
use Rattle.vub_script.specs.declared.draft.Draft.{Draft}
use Rattle.vub_forms.specs.declared.refusal.Refusal.{Refusal}
use Rattle.vub_forms.specs.declared.refusal.Refusal.TheVariants.{NoScript, OutOfMemory}
use Rattle.vub_script.specs.declared.service_form.ServiceForm.{ServiceForm}
use Rattle.vub_script.specs.declared.service_form.ServiceForm.TheVariants.{Echo, Dir, Block}
use Rattle.vub_forms.specs.Reading.{◌>>=◌, Gives, given, or_default}
use Rattle.vub_forms.specs.Keys.{has_form}
use Rattle.vub_script.specs.Disks.{is_disk_key, is_disk, disk_of}
use Rattle.vub_forms.specs.Keys.{object_keys_are}
use Rattle.vub_script.specs.Directory.{is_served, entries_of, directory_of, service_form, service_of}
use Rattle.std.specs.Str.{bytes_eq}
use Rattle.vub_model.specs.declared.setup.GivenRegion.{GivenRegion}
use Rattle.vub_model.specs.declared.setup.GivenRing.{GivenRing}
use Rattle.vub_model.specs.declared.setup.Guest.{Guest}
use Rattle.vub_proto.specs.declared.request.Request.{Request}
use Rattle.vub_script.specs.declared.device_form.DeviceForm.{DeviceForm}
use Rattle.vub_script.specs.declared.draft.ObjectDraft.{ObjectDraft}
use Rattle.vub_forms.specs.Numbers.{number_of, u32_of}
use Rattle.vub_forms.specs.Hexadecimal.{bytes_of}
use Rattle.vub_forms.specs.Lists.{list_of}
use Rattle.vub_script.specs.Objects.{lone_member, object_of}
use Rattle.vub_forms.specs.Regions.{region_of}
use Rattle.vub_forms.specs.Rings.{ring_of}
use Rattle.vub_forms.specs.Requests.{request_of}
use Rattle.vub_forms.specs.Guest.{guest_of}
use Rattle.vub_script.specs.Draft.{device_of, fields_of}

abbrev Fine : ServiceForm → Type 0
Fine s = is_served s ≡ true

abbrev FineDraft : Draft → Type 0
FineDraft draft = is_served draft.service ≡ true

-- what holds of all that the second part makes holds of the two together
chained : {A B : Type 0} (o : Option A) (f : A → Option B) (P : B → Type 0) → ((a : A) → o ≡ Some a → IfSome (f a) P) → IfSome (o >>= f) P
chained None f P each = tt
chained (Some a) f P each = each a refl

chosen : {A : Type 0} (b : Bool) (o other : Option A) (P : A → Type 0) → IfSome o P → IfSome other P → IfSome (if b then o else other) P
chosen true o other P one two = one
chosen false o other P one two = two

tested : (es : List TreeEntry) (b : Bool) → is_none (first_fault es) ≡ b → IfSome (if b then Some (Dir es) else None) (λ s. is_served s ≡ true)
tested es true is = is
tested es false is = tt

a_directory : (d : Data) → IfSome (directory_of d) (λ s. is_served s ≡ true)
unfolding directory_of
a_directory d = chained (entries_of d) _ _ (λ es is. tested es (is_none (first_fault es)) refl)

a_form : (k : List ℕ) (d : Data) → IfSome (service_form k d) Fine
a_form k d = chosen (bytes_eq k (codes "dir")) (directory_of d) None Fine (a_directory d) tt

tested_disk : (sectors : ℕ) (id : List ℕ) (b : Bool) → is_disk sectors id ≡ b → IfSome (if b then Some (Block sectors id) else None) Fine
tested_disk sectors id true is = is
tested_disk sectors id false is = tt

a_disk : (d : Data) → IfSome (disk_of d) Fine
unfolding disk_of
a_disk d = chained (given u32_of (get (codes "block") d)) _ Fine (λ sectors is. chained (given bytes_of (get (codes "id") d)) _ Fine (λ id also. tested_disk sectors id (is_disk sectors id) refl))

a_service : (d : Data) → IfSome (service_of d) (λ s. is_served s ≡ true)
unfolding service_of
a_service d = chosen _ (Some Echo) _ (λ s. is_served s ≡ true) refl
    (chosen (object_keys_are is_disk_key d) (disk_of d) _ Fine (a_disk d)
    (chained (as_object d) (λ ms. lone_member ms >>= λ m. service_form m.0 m.1) Fine
    (λ ms is. chained (lone_member ms) (λ m. service_form m.0 m.1) Fine (λ m are. a_form m.0 m.1))))

a_service_or_echo : (o : Option Data) → IfSome (or_default Echo service_of o) (λ s. is_served s ≡ true)
a_service_or_echo None = refl
a_service_or_echo (Some d) = a_service d

of_some : {A : Type 0} (o : Option A) (a : A) (P : A → Type 0) → o ≡ Some a → IfSome o P → P a
of_some {A} o a P is holds = let Q : Option A → Type 0 = λ x. IfSome x P in subst Q is holds

pub a_draft : (d : Data) → IfSome (fields_of d) FineDraft
unfolding fields_of
a_draft d =
    chained {A = List ObjectDraft} {B = Draft} (or_default [] (list_of object_of) (get (codes "objects") d)) (λ objects. or_default [] (list_of region_of) (get (codes "regions") d) >>= (λ (regions : List GivenRegion). or_default [] (list_of ring_of) (get (codes "rings") d) >>= (λ (rings : List GivenRing). or_default [] (list_of request_of) (get (codes "requests") d) >>= (λ (requests : List Request). or_default [] (list_of guest_of) (get (codes "guest") d) >>= (λ (guest : List Guest). device_of d >>= (λ (device : DeviceForm). or_default Echo service_of (get (codes "service") d) >>= (λ (service : ServiceForm). or_default [] (list_of u32_of) (get (codes "schedule") d) >>= (λ (listed : List ℕ). or_default 0 number_of (get (codes "rounds") d) >>= (λ (rounds : ℕ). Some (record { objects = objects; regions = regions; rings = rings; requests = requests; guest = guest; device = device; service = service; listed = listed; rounds = rounds })))))))))) FineDraft (λ objects is_objects.
    chained {A = List GivenRegion} {B = Draft} (or_default [] (list_of region_of) (get (codes "regions") d)) (λ regions. or_default [] (list_of ring_of) (get (codes "rings") d) >>= (λ (rings : List GivenRing). or_default [] (list_of request_of) (get (codes "requests") d) >>= (λ (requests : List Request). or_default [] (list_of guest_of) (get (codes "guest") d) >>= (λ (guest : List Guest). device_of d >>= (λ (device : DeviceForm). or_default Echo service_of (get (codes "service") d) >>= (λ (service : ServiceForm). or_default [] (list_of u32_of) (get (codes "schedule") d) >>= (λ (listed : List ℕ). or_default 0 number_of (get (codes "rounds") d) >>= (λ (rounds : ℕ). Some (record { objects = objects; regions = regions; rings = rings; requests = requests; guest = guest; device = device; service = service; listed = listed; rounds = rounds }))))))))) FineDraft (λ regions is_regions.
    chained {A = List GivenRing} {B = Draft} (or_default [] (list_of ring_of) (get (codes "rings") d)) (λ rings. or_default [] (list_of request_of) (get (codes "requests") d) >>= (λ (requests : List Request). or_default [] (list_of guest_of) (get (codes "guest") d) >>= (λ (guest : List Guest). device_of d >>= (λ (device : DeviceForm). or_default Echo service_of (get (codes "service") d) >>= (λ (service : ServiceForm). or_default [] (list_of u32_of) (get (codes "schedule") d) >>= (λ (listed : List ℕ). or_default 0 number_of (get (codes "rounds") d) >>= (λ (rounds : ℕ). Some (record { objects = objects; regions = regions; rings = rings; requests = requests; guest = guest; device = device; service = service; listed = listed; rounds = rounds })))))))) FineDraft (λ rings is_rings.
    chained {A = List Request} {B = Draft} (or_default [] (list_of request_of) (get (codes "requests") d)) (λ requests. or_default [] (list_of guest_of) (get (codes "guest") d) >>= (λ (guest : List Guest). device_of d >>= (λ (device : DeviceForm). or_default Echo service_of (get (codes "service") d) >>= (λ (service : ServiceForm). or_default [] (list_of u32_of) (get (codes "schedule") d) >>= (λ (listed : List ℕ). or_default 0 number_of (get (codes "rounds") d) >>= (λ (rounds : ℕ). Some (record { objects = objects; regions = regions; rings = rings; requests = requests; guest = guest; device = device; service = service; listed = listed; rounds = rounds }))))))) FineDraft (λ requests is_requests.
    chained {A = List Guest} {B = Draft} (or_default [] (list_of guest_of) (get (codes "guest") d)) (λ guest. device_of d >>= (λ (device : DeviceForm). or_default Echo service_of (get (codes "service") d) >>= (λ (service : ServiceForm). or_default [] (list_of u32_of) (get (codes "schedule") d) >>= (λ (listed : List ℕ). or_default 0 number_of (get (codes "rounds") d) >>= (λ (rounds : ℕ). Some (record { objects = objects; regions = regions; rings = rings; requests = requests; guest = guest; device = device; service = service; listed = listed; rounds = rounds })))))) FineDraft (λ guest is_guest.
    chained {A = DeviceForm} {B = Draft} (device_of d) (λ device. or_default Echo service_of (get (codes "service") d) >>= (λ (service : ServiceForm). or_default [] (list_of u32_of) (get (codes "schedule") d) >>= (λ (listed : List ℕ). or_default 0 number_of (get (codes "rounds") d) >>= (λ (rounds : ℕ). Some (record { objects = objects; regions = regions; rings = rings; requests = requests; guest = guest; device = device; service = service; listed = listed; rounds = rounds }))))) FineDraft (λ device is_device.
    chained {A = ServiceForm} {B = Draft} (or_default Echo service_of (get (codes "service") d)) (λ service. or_default [] (list_of u32_of) (get (codes "schedule") d) >>= (λ (listed : List ℕ). or_default 0 number_of (get (codes "rounds") d) >>= (λ (rounds : ℕ). Some (record { objects = objects; regions = regions; rings = rings; requests = requests; guest = guest; device = device; service = service; listed = listed; rounds = rounds })))) FineDraft (λ service is_service.
    chained {A = List ℕ} {B = Draft} (or_default [] (list_of u32_of) (get (codes "schedule") d)) (λ listed. or_default 0 number_of (get (codes "rounds") d) >>= (λ (rounds : ℕ). Some (record { objects = objects; regions = regions; rings = rings; requests = requests; guest = guest; device = device; service = service; listed = listed; rounds = rounds }))) FineDraft (λ listed is_listed.
    chained {A = ℕ} {B = Draft} (or_default 0 number_of (get (codes "rounds") d)) (λ rounds. Some (record { objects = objects; regions = regions; rings = rings; requests = requests; guest = guest; device = device; service = service; listed = listed; rounds = rounds })) FineDraft (λ rounds is_rounds.
    of_some (or_default Echo service_of (get (codes "service") d)) service Fine is_service (a_service_or_echo (get (codes "service") d)))))))))))

-- what the grammar gives is served, and so is what a reader gives
pub is_read_served : (r : Result Draft Refusal) (want : Option Draft) → Gives r want → IfSome want (λ draft. is_served draft.service ≡ true) → IfOk r (λ draft. is_served draft.service ≡ true)
is_read_served (Ok draft) want is served = of_some want draft (λ x. is_served x.service ≡ true) is served
is_read_served (Err e) want is served = tt
