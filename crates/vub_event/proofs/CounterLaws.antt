-- A read of a counter gives what was written since the last read.
use Rattle.std.proofs.Common.{ℕ, ◌+◌, ◌≡◌, ◌<◌, List, [], ◌∷◌, ◌++◌, Some, None, ◌∙◌, ap, refl, arith}
use Rattle.std.proofs.lemmas.Bool.Decides.{nat_tests}
use Rattle.vub_event.specs.declared.event.Event.{Event}
use Rattle.vub_event.specs.Counter.{written, read_refusal, read_value, after_read}
use Rattle.vub_event.specs.HostTable.{HostTable, with_event}
use Rattle.vub_event.specs.Laws.{after_write, accepted_value, after_writes, accepted_sum, ReadsSum}

pub written-zero : (event : Event) → written event 0 ≡ event
written-zero event = ap (λ n. record event { count = n }) (omega arith)

written-twice : (event : Event) (a b : ℕ) → written (written event a) b ≡ written event (a + b)
written-twice event a b = ap (λ n. record event { count = n }) (omega arith)

-- one write more adds what is accepted of it
sum-more : (event : Event) (values : List ℕ) (value : ℕ)
    → accepted_sum event (values ++ value ∷ []) ≡ accepted_sum event values + accepted_value (after_writes event values) value
sum-more event [] value =
    let same = ap (λ e. accepted_value e value) (written-zero event) in omega (arith, same)
sum-more event (v ∷ values) value =
    let next = sum-more (after_write event v) values value in
    let same = ap (λ e. accepted_value e value) (written-twice event (accepted_value event v) (accepted_sum (after_write event v) values)) in
    omega (arith, next, same)

pub writes-more : (event : Event) (values : List ℕ) (value : ℕ)
    → after_writes (after_writes event values) (value ∷ []) ≡ after_writes event (values ++ value ∷ [])
writes-more event values value =
    written-twice event _ _ ∙ ap (λ n. written event n) (omega (arith, sum-more event values value))

above-zero : (sum : ℕ) (event : Event) → event.count ≡ sum → read_refusal event ≡ None → 0 < sum
above-zero sum event is none = grind (arith, nat_tests)

pub reads-sum : (object accepted read : ℕ) (event : Event) (old now : HostTable) → read_refusal (written event accepted) ≡ None
    → read ≡ read_value (written event accepted) → now ≡ with_event old object (Some (after_read (written event accepted)))
    → ReadsSum object (event.count + accepted) read event old now
reads-sum object accepted read event old now none value left =
    let P : ℕ → HostTable = λ n. with_event old object (Some record event { count = n }) in
    record {
      above = above-zero _ (written event accepted) refl none;
      counter = λ plain. (value ∙ rw plain refl, left ∙ ap P (rw plain (omega arith)));
      semaphore = λ is. (value ∙ rw is refl, left ∙ ap P (rw is refl));
    }
