-- The interest lists of a new host.
use Rattle.std.proofs.Common.{◌≡◌, ℕ, List, [], ◌∷◌, ◌+◌, ◌<◌, ◌++◌, length, map, take, get_or, set, Option, sym, ap, ◌∙◌, arith}
use Rattle.std.proofs.Math.Seq.{set-append_seam}
use Rattle.std.proofs.lemmas.List.{set-get_or, get_or_at, map_push, take_more, append_assoc}
use Rattle.std.specs.List.{range_with_len}
use Rattle.std.proofs.lemmas.List.FromFn.{map-range_with_len_more}
use Rattle.vub_event.specs.declared.member.Member.{Member}
use Rattle.vub_event.specs.HostTable.{HostTable, members_at, with_members}
use Rattle.vub_event.specs.HostCalls.{create_list_after}
use Rattle.vub_event.specs.InterestList.{with_member}
use Rattle.vub_model.specs.declared.wiring.Opened.{Opened}
use Rattle.vub_model.specs.Opening.{listed, exit_member}

-- a list with no member stays as it is
pub with_none : (t : HostTable) (list : ℕ) → members_at t list ≡ [] → t ≡ with_members t list []
with_none t list none =
    ap (λ ls. record t { lists = ls }) (sym (set-get_or t.lists list []) ∙ ap (λ ms. set t.lists list ms) none)

-- its first member
pub with_first : (t : HostTable) (list : ℕ) (m : Member) → members_at t list ≡ [] → with_members t list (with_member (members_at t list) m) ≡ with_members t list (m ∷ [])
with_first t list m none = ap (λ ms. with_members t list (with_member ms m)) none

-- a new list has no member
pub new_list_empty : (old new : HostTable) (n : ℕ) → n ≡ length old.lists → new ≡ create_list_after old → members_at new n ≡ []
unfolding create_list_after
new_list_empty old new n is now = ap (λ t. members_at t n) now ∙ get_or_at old.lists [] [] [] n (sym is)

set_last : (ls : List (List Member)) (n : ℕ) (a b : List Member) → n ≡ length ls → set (ls ++ a ∷ []) n b ≡ ls ++ b ∷ []
set_last ls n a b is = ap (λ k. set (ls ++ a ∷ []) k b) is ∙ set-append_seam ls a [] b

-- exit object and bell
pub new_list : (old made exited new : HostTable) (n : ℕ) (exit : Option ℕ) (bell token : ℕ) → n ≡ length old.lists → made ≡ create_list_after old → exited ≡ with_members made n (exit_member exit token) → new ≡ with_members exited n (with_member (members_at exited n) (listed bell token)) → new ≡ record old { lists = old.lists ++ with_member (exit_member exit token) (listed bell token) ∷ [] }
unfolding create_list_after
new_list old made exited new n exit bell token is made_is exited_is new_is =
    let ms = exit_member exit token in
    let b = listed bell token in
    let e : exited ≡ record old { lists = old.lists ++ ms ∷ [] } = exited_is ∙ ap (λ t. with_members t n ms) made_is ∙ ap (λ ls. record old { lists = ls }) (set_last old.lists n [] ms is) in
    new_is
    ∙ ap (λ t. with_members t n (with_member (members_at t n) b)) e
    ∙ ap (λ l. with_members (record old { lists = old.lists ++ ms ∷ [] }) n (with_member l b)) (get_or_at old.lists ms [] [] n (sym is))
    ∙ ap (λ ls. record old { lists = ls }) (set_last old.lists n ms (with_member ms b) is)

-- one more worker
pub lists_next : (f : Opened → List Member) (g : ℕ → Opened) (w : ℕ) (old new : List (List Member)) (o : Opened) → old ≡ map f (map g (range_with_len 0 w)) → o ≡ g w → new ≡ old ++ f o ∷ [] → new ≡ map f (map g (range_with_len 0 (w + 1)))
lists_next f g w old new o was is now =
    now
    ∙ ap (λ ls. ls ++ f o ∷ []) was
    ∙ ap (λ x. map f (map g (range_with_len 0 w)) ++ f x ∷ []) is
    ∙ sym (ap (λ l. map f l) (map-range_with_len_more g 0 w w (omega arith)) ∙ map_push f (map g (range_with_len 0 w)) (g w))

-- one more of the same
pub constant_next : {X : Type 0} (e : X) (masks : List ℕ) (i : ℕ) (first old new : List X) → i < length masks → old ≡ first ++ map (λ mask. e) (take i masks) → new ≡ old ++ e ∷ [] → new ≡ first ++ map (λ mask. e) (take (i + 1) masks)
constant_next e masks i first old new h was now =
    now
    ∙ ap (λ l. l ++ e ∷ []) was
    ∙ append_assoc first (map (λ mask. e) (take i masks)) (e ∷ [])
    ∙ ap (λ l. first ++ l) (sym (ap (λ l. map (λ mask. e) l) (take_more masks i 0 h) ∙ map_push (λ mask. e) (take i masks) (get_or masks i 0)))
