-- The heads in flight, in the order in which they were taken.
use Rattle.std.specs.Prelude.{ℕ, ◌+◌, ◌-◌, ◌^◌, Bool, false, ◌||◌, ◌==◌, nat_le, if◌then◌else◌, List, [], ◌∷◌, map}
use Rattle.std.specs.List.{list_any}
use Rattle.vub_inflight.specs.declared.mark.Mark.{Mark}
use Rattle.vub_inflight.specs.declared.slot.Slot.{Slot}

-- the marks of the slots that are in flight, of which the first is that of this head
abbrev pub flying_from : ℕ → List Slot → List Mark
flying_from h [] = []
flying_from h (s ∷ ss) =
    if s.in_flight then record { counter = s.counter; head = h } ∷ flying_from (h + 1) ss else flying_from (h + 1) ss

-- a mark among others that stand in the order of their counters
abbrev pub put_in : Mark → List Mark → List Mark
put_in m [] = m ∷ []
put_in m (n ∷ ns) = if nat_le m.counter n.counter then m ∷ n ∷ ns else n ∷ put_in m ns

-- marks in the order of their counters
abbrev pub in_order : List Mark → List Mark
in_order [] = []
in_order (m ∷ ms) = put_in m (in_order ms)

-- the marks of all heads in flight, in the order of their counters: that of taking
unfoldable pub marks_of : List Slot → List Mark
marks_of ss = in_order (flying_from 0 ss)

abbrev pub heads_of : List Mark → List ℕ
heads_of ms = map (λ m. m.head) ms

-- two of the marks, which stand in order, have one counter
abbrev pub has_twins : List Mark → Bool
has_twins [] = false
has_twins (m ∷ []) = false
has_twins (m ∷ n ∷ ns) = (m.counter == n.counter) || has_twins (n ∷ ns)

-- one of the counters is the greatest of 64 bits
abbrev pub is_spent : List Mark → Bool
is_spent ms = list_any (λ m. m.counter == 2 ^ 64 - 1) ms

-- the counter after the greatest of the marks, which stand in order
abbrev pub next_after : List Mark → ℕ
next_after [] = 0
next_after (m ∷ []) = m.counter + 1
next_after (m ∷ n ∷ ns) = next_after (n ∷ ns)
