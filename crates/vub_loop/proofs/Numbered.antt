-- The queues of event numbers, one more number at a time, in a vector that has room for each queue.
use Rattle.std.proofs.Common.{◌≡◌, ℕ, suc, ◌+◌, ◌<◌, ◌≤◌, true, false, nat_lt, List, [], ◌∷◌, ◌++◌, length, take, drop, get_or, set, slice_index, slice_get, Some, cond, refl, ap, sym, ◌∙◌, arith, append-nil, append_assoc, subst, map, filter, Option, None, length-set}
use Rattle.std.proofs.lemmas.Bool.Decides.{nat_tests}
use Rattle.std.proofs.lemmas.List.{take_more_set}
use Rattle.vub_model.specs.Work.{queues_numbered}
use Rattle.vub_ring.specs.Pending.{AscendsFrom}

-- The numbers before the rest are done: their queues stand at the front, and none of the rest is below their count.
pub record IsDone (queues numbers rest due : List ℕ) (kept : ℕ) : Type 0 where
  pub room : length queues ≤ length due
  pub within : kept ≤ length due
  pub front : take kept due ++ queues_numbered queues rest ≡ queues_numbered queues numbers
  pub later : AscendsFrom 0 rest → AscendsFrom kept rest

-- a number of the list, and another one
numbered-listed : (queues : List ℕ) (n : ℕ) (ns : List ℕ) → nat_lt n (length queues) ≡ true → queues_numbered queues (n ∷ ns) ≡ slice_index queues n ∷ queues_numbered queues ns
numbered-listed queues n ns is = ap (λ b. map (λ m. slice_index queues m) (cond b (n ∷ filter (λ m. nat_lt m (length queues)) ns) (filter (λ m. nat_lt m (length queues)) ns))) is

numbered-unlisted : (queues : List ℕ) (n : ℕ) (ns : List ℕ) → nat_lt n (length queues) ≡ false → queues_numbered queues (n ∷ ns) ≡ queues_numbered queues ns
numbered-unlisted queues n ns is = ap (λ b. map (λ m. slice_index queues m) (cond b (n ∷ filter (λ m. nat_lt m (length queues)) ns) (filter (λ m. nat_lt m (length queues)) ns))) is

-- a list that ascends from a number ascends from a lesser one
ascends-lower : (a b : ℕ) (ns : List ℕ) → a ≤ b → AscendsFrom b ns → AscendsFrom a ns
ascends-lower a b [] le is = is
ascends-lower a b (n ∷ ns) le is = let first : b ≤ n = is.0 in (omega arith, is.1)

-- the number that an option holds
held : Option ℕ → ℕ
held None = 0
held (Some n) = n

-- what is left behind the first number
module _ (rest next : List ℕ) (number : ℕ) (first : Some number ≡ slice_get rest 0) (left : next ≡ drop 1 rest) where
  pub split : rest ≡ number ∷ next
  unfolding held
  split = by-rest rest first left
    where
      by-rest : (ns : List ℕ) → Some number ≡ slice_get ns 0 → next ≡ drop 1 ns → ns ≡ number ∷ next
      by-rest [] some is = absurd cc
      by-rest (n ∷ ns) some is = let same : number ≡ n = ap held some in ap (λ m. m ∷ ns) (sym same) ∙ ap (λ ms. number ∷ ms) (sym is)

pub done-none : (queues numbers due : List ℕ) → length queues ≤ length due → IsDone queues numbers numbers due 0
done-none queues numbers due room = record { room = room; within = omega arith; front = refl; later = λ is. is }

module _ (queues numbers rest next due : List ℕ) (kept number : ℕ) (d : IsDone queues numbers rest due kept) (ascends : AscendsFrom 0 rest) (is : rest ≡ number ∷ next) where
  least : AscendsFrom kept (number ∷ next)
  least = subst (AscendsFrom kept) is (d.later ascends)

  -- there are no more queues than numbers up to this one
  pub kept-within : kept ≤ number
  kept-within = least.0

  -- the number of a queue of the list: the queue joins the front
  pub kept-more : number < length queues → IsDone queues numbers next (set due kept (get_or queues number 0)) (kept + 1)
  kept-more listed =
      let test : nat_lt number (length queues) ≡ true = grind (arith, nat_tests) in
      let below : kept ≤ number = kept-within in
      let in-due : kept < length due = omega (arith, d.room) in
      let same : length (set due kept (get_or queues number 0)) ≡ length due = length-set due kept (get_or queues number 0) in
      record {
        room = omega (arith, d.room, same);
        within = omega (arith, same);
        front =
            ap (λ l. l ++ queues_numbered queues next) (take_more_set due kept (get_or queues number 0) in-due) ∙ append_assoc (take kept due) (get_or queues number 0 ∷ []) (queues_numbered queues next)
            ∙ ap (λ l. take kept due ++ l) (sym (numbered-listed queues number next test)) ∙ ap (λ l. take kept due ++ queues_numbered queues l) (sym is) ∙ d.front;
        later = λ from. ascends-lower (kept + 1) (suc number) next (omega arith) least.1;
      }

  -- another number is passed over
  pub passed-more : length queues ≤ number → IsDone queues numbers next due kept
  passed-more unlisted =
      let test : nat_lt number (length queues) ≡ false = grind (arith, nat_tests) in
      record {
        room = d.room;
        within = d.within;
        front = ap (λ l. take kept due ++ l) (sym (numbered-unlisted queues number next test)) ∙ ap (λ l. take kept due ++ queues_numbered queues l) (sym is) ∙ d.front;
        later = λ from. ascends-lower kept (suc number) next (let below : kept ≤ number = kept-within in omega arith) least.1;
      }

-- nothing is left
pub done-all : (queues numbers rest due : List ℕ) (kept : ℕ) (o : Option ℕ) → IsDone queues numbers rest due kept → o ≡ slice_get rest 0 → ((n : ℕ) → o ≡ Some n → ⊥) → take kept due ≡ queues_numbered queues numbers
done-all queues numbers [] due kept o d first none = sym (append-nil (take kept due)) ∙ d.front
done-all queues numbers (n ∷ ns) due kept o d first none = absurd (none n first)
