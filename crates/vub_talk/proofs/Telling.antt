-- The call counts what is put, and nothing reads it.
use Rattle.std.proofs.Common.{◌≡◌, ◌≢◌, ℕ, ◌+◌, ◌^◌, ◌<◌, inl, inr, true, false, true≢false, ◌-◌, List, [], length, set, Option, Some, None, is_some, refl, sym, ap, subst, ◌∙◌, arith, slice_index_or, length-set}
use Rattle.std.proofs.lemmas.Bool.{cases_eq, cases_lt, lt-ltb}
use Rattle.std.proofs.lemmas.List.{get_or-set_same, get_or-set_other, set_past}
use Rattle.vub_event.specs.declared.event.Event.{Event}
use Rattle.vub_event.specs.declared.member.Member.{Member}
use Rattle.vub_event.specs.HostTable.{HostTable, event_at, members_at, with_event, with_members}
use Rattle.vub_event.specs.InterestList.{member_of}
use Rattle.vub_model.specs.Frame.{is_member}
use Rattle.vub_model.specs.RingRecord.{closed_ring}
use Rattle.vub_model.specs.Shared.{Shared, ring_at, count_of, count_at, raised_option}
use Rattle.vub_model.specs.Work.{is_object, has_token}
use Rattle.vub_model.proofs.Counting.{count-other}

-- Object 2 counts what was put since so many; it is in no interest list and no kick, and it is the call of queue 0.
pub record Tells {V : Type 0} (before put : ℕ) (h : Shared V) : Type 0 where
  pub there : 2 < length h.table.objects
  pub event : is_some (event_at h.table 2) ≡ true
  pub count : put ≡ before + count_at h.table 2
  pub unlisted : (list : ℕ) → is_member (members_at h.table list) 2 ≡ false
  pub call : (ring_at h 0).call ≡ Some 2
  pub kicks : (q : ℕ) → is_object (ring_at h q).kick 2 ≡ false

-- the rings' events are the same
pub record SameEvents {V : Type 0} (h z : Shared V) : Type 0 where
  pub call : (ring_at z 0).call ≡ (ring_at h 0).call
  pub kicks : (q : ℕ) → (ring_at z q).kick ≡ (ring_at h q).kick

pub same_rings : {V : Type 0} (h z : Shared V) → z.rings ≡ h.rings → SameEvents h z
same_rings h z rings = record { call = ap (λ rs. (slice_index_or rs 0 closed_ring).call) rings; kicks = λ q. ap (λ rs. (slice_index_or rs q closed_ring).kick) rings }

module _ {V : Type 0} (before put : ℕ) (h z : Shared V) (same : SameEvents h z) (now : Tells before put h) where
  pub tells_same : z.table ≡ h.table → Tells before put z
  tells_same table = record {
    there = subst (λ (t : HostTable). 2 < length t.objects) (sym table) now.there;
    event = ap (λ t. is_some (event_at t 2)) table ∙ now.event;
    count = now.count ∙ ap (λ t. before + count_at t 2) (sym table);
    unlisted = λ list. ap (λ t. is_member (members_at t list) 2) table ∙ now.unlisted list;
    call = same.call ∙ now.call;
    kicks = λ q. ap (λ k. is_object k 2) (same.kicks q) ∙ now.kicks q;
  }

  -- another counter is changed
  pub tells_other : (object : ℕ) (event : Option Event) → object ≢ 2 → z.table ≡ with_event h.table object event → Tells before put z
  tells_other object event other table = record {
    there = subst (λ (t : HostTable). 2 < length t.objects) (sym table) (subst (λ n. 2 < n) (sym (length-set h.table.objects object event)) now.there);
    event = ap (λ t. is_some (event_at t 2)) table ∙ ap is_some (get_or-set_other h.table.objects object 2 event None (λ two. other (sym two))) ∙ now.event;
    count = now.count ∙ ap (λ n. before + n) (sym (ap (λ t. count_at t 2) table ∙ count-other h.table object 2 event (λ two. other (sym two))));
    unlisted = λ list. ap (λ t. is_member (members_at t list) 2) table ∙ now.unlisted list;
    call = same.call ∙ now.call;
    kicks = λ q. ap (λ k. is_object k 2) (same.kicks q) ∙ now.kicks q;
  }

  one_more : (event : Option Event) → is_some event ≡ true → count_of event < 2 ^ 64 - 2 → (count_of (raised_option event) ≡ count_of event + 1) × (is_some (raised_option event) ≡ true)
  one_more None some small = absurd (true≢false (sym some))
  one_more (Some e) some small = (rw (lt-ltb e.count (2 ^ 64 - 2) small) refl, refl)

  -- the call is signalled
  pub tells_raised : put < before + (2 ^ 64 - 2) → z.table ≡ with_event h.table 2 (raised_option (event_at h.table 2)) → Tells before (put + 1) z
  tells_raised small table =
      let more = one_more (event_at h.table 2) now.event (omega (arith, now.count)) in
      let new = raised_option (event_at h.table 2) in
      let own : event_at z.table 2 ≡ raised_option (event_at h.table 2) = ap (λ t. event_at t 2) table ∙ get_or-set_same h.table.objects 2 new None now.there in
      record {
        there = subst (λ (t : HostTable). 2 < length t.objects) (sym table) (subst (λ n. 2 < n) (sym (length-set h.table.objects 2 new)) now.there);
        event = ap is_some own ∙ more.1;
        count = (let raised : count_at z.table 2 ≡ count_of (event_at h.table 2) + 1 = ap count_of own ∙ more.0 in omega (arith, now.count));
        unlisted = λ list. ap (λ t. is_member (members_at t list) 2) table ∙ now.unlisted list;
        call = same.call ∙ now.call;
        kicks = λ q. ap (λ k. is_object k 2) (same.kicks q) ∙ now.kicks q;
      }

off_set : (lists : List (List Member)) (j i : ℕ) (new : List Member) → is_member new 2 ≡ false → is_member (slice_index_or lists i []) 2 ≡ false → is_member (slice_index_or (set lists j new) i []) 2 ≡ false
off_set lists j i new none old = elim (cases_eq i j) [
  | inl same ↦ elim (cases_lt j (length lists)) [
    | inl within ↦ ap (λ k. is_member (slice_index_or (set lists j new) k []) 2) same ∙ ap (λ ms. is_member ms 2) (get_or-set_same lists j new [] within) ∙ none
    | inr past ↦ ap (λ ls. is_member (slice_index_or ls i []) 2) (set_past lists j new past) ∙ old
  ]
  | inr other ↦ ap (λ ms. is_member ms 2) (get_or-set_other lists j i new [] other) ∙ old
]

-- a list has another member
pub tells_joined : {V : Type 0} (before put : ℕ) (h z : Shared V) → SameEvents h z → Tells before put h → (list : ℕ) (new : List Member) → is_member new 2 ≡ false → z.table ≡ with_members h.table list new → Tells before put z
tells_joined before put h z same now list new none table = record {
  there = subst (λ (t : HostTable). 2 < length t.objects) (sym table) now.there;
  event = ap (λ t. is_some (event_at t 2)) table ∙ now.event;
  count = now.count ∙ ap (λ t. before + count_at t 2) (sym table);
  unlisted = λ i. ap (λ t. is_member (members_at t i) 2) table ∙ off_set h.table.lists list i new none (now.unlisted i);
  call = same.call ∙ now.call;
  kicks = λ q. ap (λ k. is_object k 2) (same.kicks q) ∙ now.kicks q;
}

-- no member has a token
pub no_token : (members : List Member) (token : ℕ) → is_member members 2 ≡ false → has_token (member_of members 2) token ≡ false
no_token members token none = by (member_of members 2) none where
  by : (o : Option Member) → is_some o ≡ false → has_token o token ≡ false
  by None is = refl
  by (Some x) is = absurd (true≢false is)
