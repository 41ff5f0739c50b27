-- Steps of reading the slots of a record, and their marks.
use Rattle.std.proofs.Common.{◌≡◌, ℕ, zero, suc, ◌+◌, ◌-◌, ◌*◌, ◌<◌, ◌≤◌, ◌^◌, inl, inr, Bool, true, false, ◌&&◌, cond, List, [], ◌∷◌, ◌++◌, refl, sym, ap, ap₂, ◌∙◌, arith, leb, eqb, length, drop, get_or, append_assoc, append-nil, length-drop, drop-cons, w64, Fits as Within, rules}
use Rattle.std.proofs.lemmas.Bool.{cases_Bool, cond-true, cond-false, le-leb, leb-true, eqb-false, or_parts}
use Rattle.vub_inflight.specs.Bytes.{slot_in, slots_in, flags_fit}
use Rattle.vub_inflight.specs.Order.{flying_from, has_twins, is_spent, next_after}
use Rattle.vub_inflight.specs.State.{idle}
use Rattle.vub_inflight.specs.declared.mark.Mark.{Mark}
use Rattle.vub_inflight.specs.declared.slot.Slot.{Slot}

pub flags_step : (n i : ℕ) (rest back bs : List ℕ) → i < n → length rest ≡ 16 * (n - i) → back ≡ drop 16 rest → flags_fit (n - i) rest ≡ flags_fit n bs → get_or rest 0 0 ≤ 1 → (length back ≡ 16 * (n - (i + 1))) × (flags_fit (n - (i + 1)) back ≡ flags_fit n bs)
flags_step n i rest back bs lt long is so low =
    let k : n - i ≡ suc (n - (i + 1)) = omega arith in
    let one : flags_fit (n - i) rest ≡ flags_fit (n - (i + 1)) (drop 16 rest) = ap (λ m. flags_fit m rest) k ∙ ap (λ b. b && flags_fit (n - (i + 1)) (drop 16 rest)) (le-leb (get_or rest 0 0) 1 low) in
    ((let l : length back ≡ length (drop 16 rest) = ap length is in omega (arith, length-drop 16 rest)), ap (flags_fit (n - (i + 1))) is ∙ sym one ∙ so)

pub flags_bad : (n i : ℕ) (rest bs : List ℕ) → i < n → flags_fit (n - i) rest ≡ flags_fit n bs → 1 < get_or rest 0 0 → false ≡ flags_fit n bs
flags_bad n i rest bs lt so high =
    let k : n - i ≡ suc (n - (i + 1)) = omega arith in
    let off : leb (get_or rest 0 0) 1 ≡ false = elim (cases_Bool (leb (get_or rest 0 0) 1)) [ inl t ↦ absurd (omega (arith, leb-true (get_or rest 0 0) 1 t)) | inr f ↦ f ] in
    sym (ap (λ b. b && flags_fit (n - (i + 1)) (drop 16 rest)) off) ∙ sym (ap (λ m. flags_fit m rest) k) ∙ so

pub slots_step : (n i : ℕ) (rest back bs : List ℕ) (slots more : List Slot) (s : Slot) → i < n → length rest ≡ 16 * (n - i) → back ≡ drop 16 rest → slots ++ slots_in (n - i) rest ≡ slots_in n bs → s ≡ slot_in rest → more ≡ slots ++ s ∷ [] → (length back ≡ 16 * (n - (i + 1))) × (more ++ slots_in (n - (i + 1)) back ≡ slots_in n bs)
slots_step n i rest back bs slots more s lt long is so made pushed =
    let k : n - i ≡ suc (n - (i + 1)) = omega arith in (
      (let l : length back ≡ length (drop 16 rest) = ap length is in omega (arith, length-drop 16 rest)),
      ap₂ (λ m b. m ++ slots_in (n - (i + 1)) b) pushed is ∙ append_assoc slots (s ∷ []) (slots_in (n - (i + 1)) (drop 16 rest)) ∙ ap (λ x. slots ++ x ∷ slots_in (n - (i + 1)) (drop 16 rest)) made ∙ ap (λ m. slots ++ slots_in m rest) (sym k) ∙ so,
    )

twins_short : (ms : List Mark) → length ms ≤ 1 → has_twins ms ≡ false
twins_short [] h = refl
twins_short (m ∷ []) h = refl
twins_short (m ∷ n ∷ ns) h = absurd (omega arith)

pub twins_end : (ms : List Mark) (i : ℕ) → length ms ≤ i → has_twins (drop (i - 1) ms) ≡ has_twins ms → false ≡ has_twins ms
twins_end ms i h e = sym (twins_short (drop (i - 1) ms) (omega (arith, length-drop (i - 1) ms))) ∙ e

next_last : (ms : List Mark) (d : Mark) → 0 < length ms → next_after ms ≡ (get_or ms (length ms - 1) d).counter + 1
next_last [] d h = absurd (omega arith)
next_last (m ∷ []) d h = refl
next_last (m ∷ n ∷ ns) d h =
    let k : length (m ∷ n ∷ ns) - 1 ≡ suc (length (n ∷ ns) - 1) = omega arith in
    next_last (n ∷ ns) d (omega arith) ∙ sym (ap (λ i. (get_or (m ∷ n ∷ ns) i d).counter + 1) k)

unspent : (ms : List Mark) (i : ℕ) (d : Mark) → i < length ms → is_spent ms ≡ false → (get_or ms i d).counter ≡ 2 ^ 64 - 1 → ⊥
unspent [] i d h f = absurd (omega arith)
unspent (m ∷ ms) zero d h f = eqb-false m.counter (2 ^ 64 - 1) (or_parts (eqb m.counter (2 ^ 64 - 1)) (is_spent ms) f).0
unspent (m ∷ ms) (suc i) d h f = unspent ms i d (omega arith) (or_parts (eqb m.counter (2 ^ 64 - 1)) (is_spent ms) f).1

pub last_mark : (ms : List Mark) (m d : Mark) → 0 < length ms → m ≡ get_or ms (length ms - 1) d → is_spent ms ≡ false → (m.counter ≡ 2 ^ 64 - 1 → ⊥) × (next_after ms ≡ m.counter + 1)
last_mark ms m d h is f = (
  (λ e. unspent ms (length ms - 1) d (omega arith) f (sym (ap (λ x. x.counter) is) ∙ e)),
  next_last ms d h ∙ ap (λ x. x.counter + 1) (sym is),
)

below_greatest : (x : ℕ) → x < 2 ^ 64 → (x ≡ 2 ^ 64 - 1 → ⊥) → x + 1 < 2 ^ 64
below_greatest x h ne = grind arith

pub fits_more : (x : ℕ) → Within w64 x → (x ≡ 2 ^ 64 - 1 → ⊥) → Within w64 (x + 1)
fits_more x h ne = (let low : x < 2 ^ 64 = search rules in let high : x + 1 < 2 ^ 64 = below_greatest x low ne in search rules)

pub some_items : (ms : List Mark) (b : Bool) → b ≡ eqb (length ms) 0 → b ≡ false → 0 < length ms
some_items [] b e f = absurd (let t : true ≡ false = sym e ∙ f in cc)
some_items (m ∷ ms) b e f = omega arith

drop_past : (ss : List Slot) (i : ℕ) → length ss ≤ i → drop i ss ≡ []
drop_past [] zero le = refl
drop_past [] (suc i) le = refl
drop_past (s ∷ ss) zero le = absurd (omega arith)
drop_past (s ∷ ss) (suc i) le = drop_past ss i (omega arith)

-- the marks found so far and those of the slots that are left
flying_cut : (ss : List Slot) (i : ℕ) (s : Slot) → i < length ss → s ≡ get_or ss i idle → flying_from i (drop i ss) ≡ cond s.in_flight (record { counter = s.counter; head = i } ∷ flying_from (i + 1) (drop (i + 1) ss)) (flying_from (i + 1) (drop (i + 1) ss))
flying_cut ss i s lt is =
    let up : suc i ≡ i + 1 = omega arith in
    ap (flying_from i) (drop-cons ss i idle lt ∙ ap₂ (λ x k. x ∷ drop k ss) (sym is) up)

pub flying_more : (ss : List Slot) (i : ℕ) (s : Slot) (old new : List Mark) → i < length ss → s ≡ get_or ss i idle → s.in_flight ≡ true → new ≡ old ++ record { counter = s.counter; head = i } ∷ [] → old ++ flying_from i (drop i ss) ≡ flying_from 0 ss →
    new ++ flying_from (i + 1) (drop (i + 1) ss) ≡ flying_from 0 ss
flying_more ss i s old new lt is t put so =
    let m : Mark = record { counter = s.counter; head = i } in
    let rest : List Mark = flying_from (i + 1) (drop (i + 1) ss) in
    ap (λ l. l ++ flying_from (i + 1) (drop (i + 1) ss)) put ∙ append_assoc old (record { counter = s.counter; head = i } ∷ []) (flying_from (i + 1) (drop (i + 1) ss))
    ∙ ap (λ l. old ++ l) (sym (flying_cut ss i s lt is ∙ cond-true s.in_flight (record { counter = s.counter; head = i } ∷ flying_from (i + 1) (drop (i + 1) ss)) (flying_from (i + 1) (drop (i + 1) ss)) t)) ∙ so

pub flying_less : (ss : List Slot) (i : ℕ) (s : Slot) (old : List Mark) → i < length ss → s ≡ get_or ss i idle → s.in_flight ≡ false → old ++ flying_from i (drop i ss) ≡ flying_from 0 ss → old ++ flying_from (i + 1) (drop (i + 1) ss) ≡ flying_from 0 ss
flying_less ss i s old lt is f so =
    ap (λ l. old ++ l) (sym (flying_cut ss i s lt is ∙ cond-false s.in_flight (record { counter = s.counter; head = i } ∷ flying_from (i + 1) (drop (i + 1) ss)) (flying_from (i + 1) (drop (i + 1) ss)) f)) ∙ so

pub flying_end : (ss : List Slot) (i : ℕ) (old : List Mark) → length ss ≤ i → old ++ flying_from i (drop i ss) ≡ flying_from 0 ss → old ≡ flying_from 0 ss
flying_end ss i old le so = sym (append-nil old) ∙ ap (λ l. old ++ flying_from i l) (sym (drop_past ss i le)) ∙ so
