-- Rings that differ in events, flags and flight alone are served alike.
use Rattle.std.proofs.Common.{◌≡◌, ℕ, Bool, List, refl, sym, ap, ◌∙◌}
use Rattle.vub_mem.specs.declared.region.Region.{Region}
use Rattle.vub_mem.specs.Memory.{Guest}
use Rattle.vub_queue.specs.Function.{took_of, look_of}
use Rattle.vub_queue.specs.Layout.{avail_index_at}
use Rattle.vub_queue.specs.Notification.{used_event_covers}
use Rattle.vub_queue.specs.Put.{put_answer, put_guest, write_used, used_covers}
use Rattle.vub_queue.specs.Take.{head_of}
use Rattle.vub_queue.specs.declared.chain.Chain.{Chain}
use Rattle.vub_model.specs.declared.entry.Entry.{Entry}
use Rattle.vub_model.specs.declared.ring_op.RingOp.TheVariants as op
use Rattle.vub_model.specs.RingRecord.{Vring, changed}
use Rattle.vub_model.specs.Work.{entry_of}
use Rattle.vub_laws.specs.Alone.{serving_of, placing}
use Rattle.vub_laws.specs.EntriesLeft.{entries_left}

abbrev pub Alike : Vring → Vring → Type 0
Alike x y = serving_of x ≡ serving_of y

took-bare : (g : Guest) (r : Vring) → took_of g r.queue ≡ took_of g (serving_of r).queue
unfolding took_of look_of head_of
took-bare g r = refl

said-bare : (rs : List Region) (r : Vring) (c : Chain) (reply : List ℕ) (wanted : Bool) → put_answer rs r.queue c reply wanted ≡ put_answer rs (serving_of r).queue c reply wanted
unfolding put_answer used_covers used_event_covers
said-bare rs r c reply wanted = refl

guest-bare : (g : Guest) (r : Vring) (c : Chain) (reply : List ℕ) → put_guest g r.queue c reply ≡ put_guest g (serving_of r).queue c reply
unfolding put_guest write_used
guest-bare g r c reply = refl

module _ (x y : Vring) (alike : Alike x y) where
  pub took-alike : (g : Guest) → took_of g x.queue ≡ took_of g y.queue
  took-alike g = took-bare g x ∙ ap (λ (r : Vring). took_of g r.queue) alike ∙ sym (took-bare g y)

  pub said-alike : (rs : List Region) (c : Chain) (reply : List ℕ) (wanted : Bool) → put_answer rs x.queue c reply wanted ≡ put_answer rs y.queue c reply wanted
  said-alike rs c reply wanted = said-bare rs x c reply wanted ∙ ap (λ (r : Vring). put_answer rs r.queue c reply wanted) alike ∙ sym (said-bare rs y c reply wanted)

  pub guest-alike : (g : Guest) (c : Chain) (reply : List ℕ) → put_guest g x.queue c reply ≡ put_guest g y.queue c reply
  guest-alike g c reply = guest-bare g x c reply ∙ ap (λ (r : Vring). put_guest g r.queue c reply) alike ∙ sym (guest-bare g y c reply)

  pub placing-alike : (rs : List Region) (e : Entry) (reply : List ℕ) → placing rs x.queue e reply ≡ placing rs y.queue e reply
  placing-alike rs e reply = ap (λ (r : Vring). placing rs r.queue e reply) alike

  pub entry-alike : (q : ℕ) (c : Chain) → entry_of q x c ≡ entry_of q y c
  entry-alike q c = ap (λ r. entry_of q r c) alike

  pub left-alike : (g : Guest) → entries_left g x ≡ entries_left g y
  left-alike g = ap (λ r. entries_left g r) alike

  pub index-alike : avail_index_at x.queue ≡ avail_index_at y.queue
  index-alike = ap (λ (r : Vring). avail_index_at r.queue) alike

  pub taken-alike : Alike (changed x op.Taken) (changed y op.Taken)
  taken-alike = ap (λ r. serving_of (changed r op.Taken)) alike

  pub put-alike : Alike (changed x op.Put) (changed y op.Put)
  put-alike = ap (λ r. serving_of (changed r op.Put)) alike
