-- Laws of the tests of a table.
use Rattle.std.proofs.Common.{◌≡◌, ℕ, zero, suc, ◌+◌, ◌*◌, ◌⊎◌, ◌&&◌, ◌||◌, Ok, Err, ◌<◌, ◌≤◌, List, [], ◌∷◌, length, get_or, set, take, map, ltb, true, false, cond, inl, inr, ◌++◌, ◌^◌, drop, drop-cons, drop_of_length-le, Option, Some, None, refl, sym, ap, subst, ◌∙◌, arith}
use Rattle.std.proofs.lemmas.List.{get_or_default}
use Rattle.std.proofs.lemmas.List.Edits.{map_over_more}
use Rattle.vub_mem.specs.declared.region.Region.{Region}
use Rattle.vub_mem.specs.declared.content.Content.{Content}
use Rattle.vub_mem.specs.declared.errors.MemError.{MemError}
use Rattle.std.proofs.lemmas.Bool.{cases_Bool, true≢false, ltb-true, ltb-false, cond-true, cond-false}
use Rattle.vub_mem.specs.declared.errors.MemError.TheVariants.{Order, Overlap}
use Rattle.vub_mem.specs.Sound.{IsBounded, IsBacked, IsApart, IsSound}
use Rattle.std.specs.List.{insert, remove, list_any, position}
use Rattle.std.specs.Option.{option_map_or}
use Rattle.vub_mem.specs.declared.errors.MemError.TheVariants.{NoSuchRegion}
use Rattle.vub_mem.specs.declared.dirty.Stored.{Stored}
use Rattle.vub_mem.specs.Faults.{or_else}
use Rattle.vub_mem.specs.Logs.{log_len}
use Rattle.vub_mem.specs.Sound.{IsLogged, IsSoundMemory, last_bit}
use Rattle.vub_mem.specs.Track.{IsTrackable, last_page, bitmap_of, with_log}
use Rattle.vub_mem.specs.Table.{pair_fault, pairs_from, unlogged, meets, place_of, is_region, remove_answer, without, IsTested}
use Rattle.vub_mem.proofs.Ranges.{put_back}
use Rattle.vub_mem.proofs.Finds.{first_true, first_false, find_none, position_first, all_from, all_insert, all_remove}
use Rattle.std.specs.List.{AllByRecursion}

pub pairs_step : (r : Region) (rs : List Region) (i : ℕ) (d : Region) → i < length rs → pairs_from r (drop i rs) ≡ or_else (pair_fault r (get_or rs i d)) (pairs_from (get_or rs i d) (drop (i + 1) rs))
pairs_step r rs i d h =
    ap (λ l. pairs_from r l) (drop-cons rs i d h)
    ∙ (let up : suc i ≡ i + 1 = omega arith in ap (λ k. or_else (pair_fault r (get_or rs i d)) (pairs_from (get_or rs i d) (drop k rs))) up)

pub pairs_some : (r : Region) (rs : List Region) (i : ℕ) (d : Region) (f : MemError) (o : Option MemError) → i < length rs → pairs_from r (drop i rs) ≡ o → Some f ≡ pair_fault r (get_or rs i d) → Some f ≡ o
pairs_some r rs i d f o h e is = ap (λ x. or_else x (pairs_from (get_or rs i d) (drop (i + 1) rs))) is ∙ sym (pairs_step r rs i d h) ∙ e

pub pairs_none : (r : Region) (rs : List Region) (i : ℕ) (d : Region) (o : Option MemError) → i < length rs → pairs_from r (drop i rs) ≡ o → None ≡ pair_fault r (get_or rs i d) → pairs_from (get_or rs i d) (drop (i + 1) rs) ≡ o
pairs_none r rs i d o h e is = ap (λ x. or_else x (pairs_from (get_or rs i d) (drop (i + 1) rs))) is ∙ sym (pairs_step r rs i d h) ∙ e

pub pairs_end : (r : Region) (rs : List Region) (i : ℕ) (o : Option MemError) → length rs ≤ i → pairs_from r (drop i rs) ≡ o → None ≡ o
pairs_end r rs i o h e = sym (ap (λ l. pairs_from r l) (drop_of_length-le rs h)) ∙ e

pub parts_none : (a b : Option MemError) → or_else a b ≡ None → (a ≡ None) × (b ≡ None)
parts_none None b e = (refl, e)
parts_none (Some f) b e = absurd (let h : Some f ≡ None = e in cc)

behind : (r s : Region) → pair_fault r s ≡ None → r.start + r.len ≤ s.start
unfolding pair_fault
behind r s e =
    elim (cases_Bool (ltb s.start r.start)) [
      | inl t ↦ absurd (let h : Some Order ≡ None = sym (cond-true (ltb s.start r.start) (Some Order) (cond (ltb s.start (r.start + r.len)) (Some Overlap) None) t) ∙ e in cc)
      | inr f ↦ (let rest : cond (ltb s.start (r.start + r.len)) (Some Overlap) None ≡ None = sym (cond-false (ltb s.start r.start) (Some Order) (cond (ltb s.start (r.start + r.len)) (Some Overlap) None) f) ∙ e in
          elim (cases_Bool (ltb s.start (r.start + r.len))) [
            | inl t ↦ absurd (let h : Some Overlap ≡ None = sym (cond-true (ltb s.start (r.start + r.len)) (Some Overlap) None t) ∙ rest in cc)
            | inr g ↦ ltb-false s.start (r.start + r.len) g
          ])
    ]

all_behind : (e : ℕ) (r : Region) (rs : List Region) → e ≤ r.start + r.len → pairs_from r rs ≡ None → AllByRecursion (λ s. e ≤ s.start) (map unlogged rs)
all_behind e r [] h none = tt
all_behind e r (s ∷ ss) h none =
    let parts : (pair_fault r s ≡ None) × (pairs_from s ss ≡ None) = parts_none (pair_fault r s) (pairs_from s ss) none in
    let after : r.start + r.len ≤ s.start = behind r s parts.0 in
    (omega arith, all_behind e s ss (omega arith) parts.1)

pub apart : (r : Region) (rs : List Region) → pairs_from r rs ≡ None → IsApart (map unlogged (r ∷ rs))
apart r [] none = (tt, tt)
apart r (s ∷ ss) none =
    let parts : (pair_fault r s ≡ None) × (pairs_from s ss ≡ None) = parts_none (pair_fault r s) (pairs_from s ss) none in
    (all_behind (r.start + r.len) r (s ∷ ss) (omega arith) none, apart s ss parts.1)

all_bounded : (cs : List Content) (rs : List Region) → AllByRecursion (λ r. IsTested cs r) rs → AllByRecursion IsBounded (map unlogged rs)
all_bounded cs [] all = tt
all_bounded cs (r ∷ rs) all = (all.0.bounded, all_bounded cs rs all.1)

all_backed : (cs : List Content) (rs : List Region) → AllByRecursion (λ r. IsTested cs r) rs → AllByRecursion (λ r. IsBacked cs r) (map unlogged rs)
all_backed cs [] all = tt
all_backed cs (r ∷ rs) all = (all.0.backed, all_backed cs rs all.1)

-- a table that passes every test
pub sound_table : (cs : List Content) (r : Region) (rs all : List Region) → all ≡ r ∷ rs → AllByRecursion (λ r. IsTested cs r) all → pairs_from r rs ≡ None → IsSound (record { regions = map unlogged all; contents = cs })
sound_table cs r rs all e tested none =
    record { bounded = all_bounded cs all tested; backed = all_backed cs all tested; apart = subst (λ l. IsApart (map unlogged l)) (sym e) (apart r rs none) }

-- each region of the table wraps nowhere
pub none_wraps : (cs : List Content) (rs : List Region) → AllByRecursion (λ r. IsTested cs r) rs → AllByRecursion (λ r. r.start + r.len < 2 ^ 64) rs
none_wraps cs [] all = tt
none_wraps cs (r ∷ rs) all = (all.0.bounded.ends, none_wraps cs rs all.1)

behind_map : (f : Region → Region) (rs : List Region) (e d : ℕ) → d ≡ e → ((r : Region) → ((f r).start ≡ r.start) × ((f r).len ≡ r.len)) → AllByRecursion (λ s. e ≤ s.start) rs → AllByRecursion (λ s. d ≤ s.start) (map f rs)
behind_map f [] e d same keeps all = tt
behind_map f (r ∷ rs) e d same keeps all = ((let k = keeps r in omega (arith, k.0, all.0)), behind_map f rs e d same keeps all.1)

-- regions that keep their start, their length and their place, with other logs
pub apart_map : (f : Region → Region) (rs : List Region) → ((r : Region) → ((f r).start ≡ r.start) × ((f r).len ≡ r.len)) → IsApart rs → IsApart (map f rs)
apart_map f [] keeps all = tt
apart_map f (r ∷ rs) keeps all = (behind_map f rs (r.start + r.len) ((f r).start + (f r).len) (let k = keeps r in omega (arith, k.0, k.1)) keeps all.0, apart_map f rs keeps all.1)

-- a loop that changes each region
pub each_more : (f : Region → Region) (xs ys : List Region) (i : ℕ) (d : Region) → i < length xs → length ys ≡ length xs → ys ≡ map f (take i xs) ++ drop i xs → set ys i (f (get_or ys i d)) ≡ map f (take (i + 1) xs) ++ drop (i + 1) xs
each_more f xs ys i d h len so = map_over_more f xs ys i (get_or ys i d) h so (get_or_default ys i d (get_or ys i d) (omega arith))

-- a region that meets none
clear_of : (q r : Region) → meets q r ≡ false → r.start + r.len ≤ q.start ⊎ q.start + q.len ≤ r.start
clear_of q r e =
    elim (cases_Bool (ltb q.start (r.start + r.len))) [
      | inl t ↦ inr (ltb-false r.start (q.start + q.len) (let h : (true && ltb r.start (q.start + q.len)) ≡ false = subst (λ b. (b && ltb r.start (q.start + q.len)) ≡ false) t e in h))
      | inr f ↦ inl (ltb-false q.start (r.start + r.len) f)
    ]

none_meets : (q r : Region) (rs : List Region) → list_any (λ s. meets s r) (q ∷ rs) ≡ false → (meets q r ≡ false) × (list_any (λ s. meets s r) rs ≡ false)
none_meets q r rs e =
    elim (cases_Bool (meets q r)) [
      | inl t ↦ absurd (true≢false (let h : (true || list_any (λ s. meets s r) rs) ≡ false = subst (λ b. (b || list_any (λ s. meets s r) rs) ≡ false) t e in h))
      | inr f ↦ (f, (let h : (false || list_any (λ s. meets s r) rs) ≡ false = subst (λ b. (b || list_any (λ s. meets s r) rs) ≡ false) f e in h))
    ]

-- a region that meets none joins the table
pub apart_insert : (rs : List Region) (r : Region) → 0 < r.len → AllByRecursion (λ q. 0 < q.len) rs → IsApart rs → list_any (λ q. meets q r) rs ≡ false → IsApart (insert rs (place_of rs r) r)
apart_insert [] r some each apart none = (tt, tt)
apart_insert (q ∷ qs) r some each apart none =
    let clear = none_meets q r qs none in
    elim (cases_Bool (ltb r.start q.start)) [
      | inl t ↦ (let before : r.start < q.start = ltb-true r.start q.start t in
          let ends : r.start + r.len ≤ q.start = elim (clear_of q r clear.0) [ inl low ↦ low | inr high ↦ absurd (omega (arith, each.0)) ] in
          subst (λ k. IsApart (insert (q ∷ qs) k r)) (sym (first_true (λ s. ltb r.start s.start) q qs t)) ((ends, all_from (λ s. q.start + q.len ≤ s.start) (λ s. r.start + r.len ≤ s.start) qs (λ s h. omega arith) apart.0), apart))
      | inr f ↦ (let after : q.start ≤ r.start = ltb-false r.start q.start f in
          let begins : q.start + q.len ≤ r.start = elim (clear_of q r clear.0) [ inl low ↦ absurd (omega arith) | inr high ↦ high ] in
          subst (λ k. IsApart (insert (q ∷ qs) k r)) (sym (first_false (λ s. ltb r.start s.start) q qs f)) (all_insert (λ s. q.start + q.len ≤ s.start) qs (place_of qs r) r apart.0 begins, apart_insert qs r some each.1 apart.1 clear.1))
    ]

-- a table with one more region
pub sound_insert : (rs : List Region) (cs : List Content) (r : Region) → IsSound (record { regions = rs; contents = cs }) → IsTested cs r → list_any (λ q. meets q r) rs ≡ false → IsSound (record { regions = insert rs (place_of rs r) (unlogged r); contents = cs })
sound_insert rs cs r sound tested none =
    record {
      bounded = all_insert IsBounded rs (place_of rs r) (unlogged r) sound.bounded tested.bounded;
      backed = all_insert (λ r. IsBacked cs r) rs (place_of rs r) (unlogged r) sound.backed tested.backed;
      apart = apart_insert rs (unlogged r) tested.bounded.some (all_from IsBounded (λ q. 0 < q.len) rs (λ q h. h.some) sound.bounded) sound.apart none;
    }

pub apart_remove : (rs : List Region) (k : ℕ) → IsApart rs → IsApart (remove rs k)
apart_remove [] zero apart = tt
apart_remove [] (suc k) apart = tt
apart_remove (q ∷ qs) zero apart = apart.1
apart_remove (q ∷ qs) (suc k) apart = (all_remove (λ s. q.start + q.len ≤ s.start) qs k apart.0, apart_remove qs k apart.1)

-- a memory with one region less
pub sound_remove : {L : Type 0} → (len : L → ℕ) (rs : List Region) (cs : List Content) (ss : List (Stored L)) (k : ℕ) → IsSoundMemory len (record { guest = record { regions = rs; contents = cs }; logs = ss }) → IsSoundMemory len (record { guest = record { regions = remove rs k; contents = cs }; logs = ss })
sound_remove len rs cs ss k sound =
    record {
      guest = record {
        bounded = all_remove IsBounded rs k sound.guest.bounded;
        backed = all_remove (λ r. IsBacked cs r) rs k sound.guest.backed;
        apart = apart_remove rs k sound.guest.apart;
      };
      logged = all_remove (λ r. IsLogged len ss r) rs k sound.logged;
    }

-- the region at a place was named
pub removed_is : (rs : List Region) (start len k : ℕ) (d : Region) → Some k ≡ position (λ r. is_region start len r) rs → Ok (get_or rs k d) ≡ remove_answer rs start len
removed_is rs start len k d e = sym (ap (λ o. option_map_or (λ r. Ok r) o (Err NoSuchRegion)) ((position_first (λ r. is_region start len r) rs k e).found d))

pub removed_none : (rs : List Region) (start len : ℕ) → None ≡ position (λ r. is_region start len r) rs → Err NoSuchRegion ≡ remove_answer rs start len
removed_none rs start len e = sym (ap (λ o. option_map_or (λ r. Ok r) o (Err NoSuchRegion)) (find_none (λ r. is_region start len r) rs e))

pub removed_place : (rs : List Region) (start len k : ℕ) → Some k ≡ position (λ r. is_region start len r) rs → remove rs k ≡ without rs start len
removed_place rs start len k e = ap (λ i. remove rs i) (position_first (λ r. is_region start len r) rs k e).is

-- no region has a log
pub unlogged_all : {L : Type 0} → (len : L → ℕ) (ss : List (Stored L)) (rs : List Region) → AllByRecursion (λ r. IsLogged len ss r) (map unlogged rs)
unlogged_all len ss [] = tt
unlogged_all len ss (r ∷ rs) = ((λ l is. let h : None ≡ Some l = is in cc), unlogged_all len ss rs)

pub unlogged_one : {L : Type 0} → (len : L → ℕ) (ss : List (Stored L)) (r : Region) → IsLogged len ss (unlogged r)
unlogged_one len ss r = λ l is. let h : None ≡ Some l = is in cc

-- every region gets a log
bounded_with : (o offset size have : ℕ) (r : Region) → IsBounded r → IsTrackable size r → offset + size ≤ have → have < 2 ^ 61 → IsBounded (with_log o offset r)
bounded_with o offset size have r bounded trackable within small =
    let below : last_page r < 8 * size = trackable.below in
    record { aligned = λ l is. trackable.aligned; some = bounded.some; ends = bounded.ends; offset_ends = bounded.offset_ends; log_ends = λ l is. (let h : Some (bitmap_of r o offset) ≡ Some l = is in let same : bitmap_of r o offset ≡ l = cc in subst (λ b. last_bit r b < 2 ^ 64) same (omega arith)) }

pub logged_with : {L : Type 0} → (len : L → ℕ) (ss : List (Stored L)) (o offset size : ℕ) (r : Region) → IsTrackable size r → offset + size ≤ log_len len ss o → IsLogged len ss (with_log o offset r)
logged_with len ss o offset size r trackable within = λ l is. (let below : last_page r < 8 * size = trackable.below in let h : Some (bitmap_of r o offset) ≡ Some l = is in let same : bitmap_of r o offset ≡ l = cc in subst (λ b. last_bit r b < 8 * log_len len ss b.object) same (omega arith))

with_all : {L : Type 0} → (len : L → ℕ) (cs : List Content) (ss : List (Stored L)) (o offset size have : ℕ) (rs : List Region) → AllByRecursion IsBounded rs → AllByRecursion (λ r. IsBacked cs r) rs → AllByRecursion (λ r. IsTrackable size r) rs → have ≡ log_len len ss o → offset + size ≤ have → have < 2 ^ 61 →
    AllByRecursion IsBounded (map (λ r. with_log o offset r) rs) × AllByRecursion (λ r. IsBacked cs r) (map (λ r. with_log o offset r) rs) × AllByRecursion (λ r. IsLogged len ss r) (map (λ r. with_log o offset r) rs)
with_all len cs ss o offset size have [] bounded backed trackable is within small = (tt, tt, tt)
with_all len cs ss o offset size have (r ∷ rs) bounded backed trackable is within small =
    let rest = with_all len cs ss o offset size have rs bounded.1 backed.1 trackable.1 is within small in
    ((bounded_with o offset size have r bounded.0 trackable.0 within small, rest.0), (backed.0, rest.1), (logged_with len ss o offset size r trackable.0 (omega arith), rest.2))

pub sound_with : {L : Type 0} → (len : L → ℕ) (rs : List Region) (cs : List Content) (ss : List (Stored L)) (o offset size : ℕ) → IsSoundMemory len (record { guest = record { regions = rs; contents = cs }; logs = ss }) → AllByRecursion (λ r. IsTrackable size r) rs → offset + size ≤ log_len len ss o → log_len len ss o < 2 ^ 61 →
    IsSoundMemory len (record { guest = record { regions = map (λ r. with_log o offset r) rs; contents = cs }; logs = ss })
sound_with len rs cs ss o offset size sound trackable within small =
    let all = with_all len cs ss o offset size (log_len len ss o) rs sound.guest.bounded sound.guest.backed trackable refl within small in
    record {
      guest = record { bounded = all.0; backed = all.1; apart = apart_map (λ r. with_log o offset r) rs (λ r. (refl, refl)) sound.guest.apart };
      logged = all.2;
    }

pub sound_cleared : {L : Type 0} → (len : L → ℕ) (rs new : List Region) (cs ds : List Content) (ss : List (Stored L)) (n : ℕ) → length new ≡ length rs → n ≡ length rs → cs ≡ ds → new ≡ map unlogged rs → IsSound (record { regions = map unlogged rs; contents = cs }) → IsSoundMemory len (record { guest = record { regions = take n (new ++ drop (length new) rs); contents = ds }; logs = ss })
sound_cleared len rs new cs ds ss n e k same is sound =
    rw (put_back n new rs e k) (record {
      guest = subst (λ l. IsSound (record { regions = l; contents = ds })) (sym is) (subst (λ l. IsSound (record { regions = map unlogged rs; contents = l })) same sound);
      logged = subst (λ l. AllByRecursion (λ r. IsLogged len ss r) l) (sym is) (unlogged_all len ss rs);
    })

pub sound_given : {L : Type 0} → (len : L → ℕ) (rs qs new : List Region) (cs : List Content) (ss ts : List (Stored L)) (o offset size n : ℕ) → length new ≡ length rs → n ≡ length rs → qs ≡ rs → ts ≡ ss → new ≡ map (λ r. with_log o offset r) qs → IsSoundMemory len (record { guest = record { regions = rs; contents = cs }; logs = ss }) → AllByRecursion (λ r. IsTrackable size r) rs → offset + size ≤ log_len len ts o → log_len len ts o < 2 ^ 61 →
    IsSoundMemory len (record { guest = record { regions = take n (new ++ drop (length new) rs); contents = cs }; logs = ss })
sound_given len rs qs new cs ss ts o offset size n e k qs_is ts_is is sound trackable within small =
    rw (put_back n new rs e k) (subst (λ l. IsSoundMemory len (record { guest = record { regions = l; contents = cs }; logs = ss })) (sym (is ∙ ap (λ l. map (λ r. with_log o offset r) l) qs_is))
    (sound_with len rs cs ss o offset size sound trackable (let same : log_len len ts o ≡ log_len len ss o = ap (λ l. log_len len l o) ts_is in omega arith) (let same : log_len len ts o ≡ log_len len ss o = ap (λ l. log_len len l o) ts_is in omega arith)))
