-- Turns of a schedule and their labels, one after the other.
use Rattle.std.proofs.Common.{◌≡◌, ◌∙◌, ℕ, zero, suc, ◌+◌, ◌-◌, ◌<◌, ◌≤◌, Bool, true, false, ◌&&◌, ◌==◌, Option, Some, None, List, [], ◌∷◌, ◌++◌, length, drop, get_or, slice_index, refl, sym, ap, add-one, arith, if◌then◌else◌}
use Rattle.std.proofs.Math.Seq.{drop-cons}
use Rattle.std.proofs.Math.ListN.{drop_of_length-le}
use Rattle.vub_model.specs.declared.label.Label.{Label}
use Rattle.vub_model.specs.declared.run.Run.{Run}
use Rattle.vub_model.specs.declared.setup.Setup.{Setup}
use Rattle.vub_text.specs.Lines.{is_played}
use Rattle.vub_trace.specs.declared.kind.Follows.{Follows}
use Rattle.vub_trace.specs.declared.kind.Follows.TheVariants as follows
use Rattle.vub_trace.specs.declared.kind.Kind.{Kind}
use Rattle.vub_trace.specs.declared.past.Past.{Past}
use Rattle.vub_trace.specs.Kinds.{follows_in, or_later, follows_of, kind_of}
use Rattle.vub_trace.specs.Past.{past_after}
use Rattle.vub_trace.specs.Text.{turn_line, lines_from}

split_turn : (xs : List ℕ) (i x : ℕ) → i < length xs → x ≡ slice_index xs i → drop i xs ≡ x ∷ drop (i + 1) xs
split_turn xs i x h is =
    let next : drop (suc i) xs ≡ drop (i + 1) xs = ap (λ n. drop n xs) (sym (add-one i)) in
    drop-cons xs i 0 h ∙ ap (λ y. y ∷ drop (suc i) xs) (sym is) ∙ ap (λ ys. x ∷ ys) next

split_label : (xs : List Label) (i : ℕ) (x : Label) → i < length xs → x ≡ get_or xs i x → drop i xs ≡ x ∷ drop (i + 1) xs
split_label xs i x h is =
    let next : drop (suc i) xs ≡ drop (i + 1) xs = ap (λ n. drop n xs) (sym (add-one i)) in
    drop-cons xs i x h ∙ ap (λ y. y ∷ drop (suc i) xs) (sym is) ∙ ap (λ ys. x ∷ ys) next

-- what a party does in a turn, and else behind it
follows_next : (party : ℕ) (turns : List ℕ) (labels : List Label) (i turn : ℕ) (label : Label)
    → i < length turns → i < length labels → turn ≡ slice_index turns i → label ≡ get_or labels i label
    → follows_of party (drop i turns) (drop i labels)
    ≡ or_later (follows_in party turn label) (follows_of party (drop (i + 1) turns) (drop (i + 1) labels))
follows_next party turns labels i turn label h k is are =
    ap (λ ts. follows_of party ts (drop i labels)) (split_turn turns i turn h is)
    ∙ ap (λ ls. follows_of party (turn ∷ drop (i + 1) turns) ls) (split_label labels i label k are)

-- where it does nothing in a turn, what it does next stands behind it
pub follows_past : (party : ℕ) (turns : List ℕ) (labels : List Label) (i : ℕ) (label : Label) (want : Follows)
    → i < length turns → i < length labels → label ≡ get_or labels i label → None ≡ follows_in party (slice_index turns i) label
    → follows_of party (drop i turns) (drop i labels) ≡ want → follows_of party (drop (i + 1) turns) (drop (i + 1) labels) ≡ want
follows_past party turns labels i label want h k are none so_far =
    sym (follows_next party turns labels i (slice_index turns i) label h k refl are
    ∙ ap (λ o. or_later o (follows_of party (drop (i + 1) turns) (drop (i + 1) labels))) (sym none)) ∙ so_far

-- and else it is that
pub follows_here : (party : ℕ) (turns : List ℕ) (labels : List Label) (i : ℕ) (label : Label) (found want : Follows)
    → i < length turns → i < length labels → label ≡ get_or labels i label → Some found ≡ follows_in party (slice_index turns i) label
    → follows_of party (drop i turns) (drop i labels) ≡ want → found ≡ want
follows_here party turns labels i label found want h k are here so_far =
    sym (follows_next party turns labels i (slice_index turns i) label h k refl are
    ∙ ap (λ o. or_later o (follows_of party (drop (i + 1) turns) (drop (i + 1) labels))) (sym here)) ∙ so_far

follows_of_no_label : (party : ℕ) (turns : List ℕ) → follows_of party turns [] ≡ follows.Nothing
follows_of_no_label party [] = refl
follows_of_no_label party (t ∷ ts) = refl

-- behind the last turn, or the last label, nothing follows
pub follows_none : (party : ℕ) (turns : List ℕ) (labels : List Label) (i : ℕ) → length labels ≤ i
    → follows_of party (drop i turns) (drop i labels) ≡ follows.Nothing
follows_none party turns labels i h =
    ap (λ ls. follows_of party (drop i turns) ls) (drop_of_length-le labels h) ∙ follows_of_no_label party (drop i turns)

pub follows_no_turn : (party : ℕ) (turns : List ℕ) (labels : List Label) (i : ℕ) → length turns ≤ i
    → follows_of party (drop i turns) (drop i labels) ≡ follows.Nothing
follows_no_turn party turns labels i h = ap (λ ts. follows_of party ts (drop i labels)) (drop_of_length-le turns h)

-- the line of a turn stands before those behind it
pub lines_next : (setup : Setup) (masks : List ℕ) (run : Run) (past : Past) (turns : List ℕ) (labels : List Label) (i turn : ℕ) (label : Label) (k : Kind)
    → i < length turns → i < length labels → turn ≡ slice_index turns i → label ≡ get_or labels i label
    → k ≡ kind_of masks run past (turn - 2) label (follows_of turn (drop (i + 1) turns) (drop (i + 1) labels))
    → lines_from setup masks run past (drop i turns) (drop i labels)
    ≡ turn_line setup run past turn label k ++ lines_from setup masks run (past_after past k) (drop (i + 1) turns) (drop (i + 1) labels)
lines_next setup masks run past turns labels i turn label k h j is are kind =
    ap (λ ts. lines_from setup masks run past ts (drop i labels)) (split_turn turns i turn h is)
    ∙ ap (λ ls. lines_from setup masks run past (turn ∷ drop (i + 1) turns) ls) (split_label labels i label j are)
    ∙ ap (λ q. turn_line setup run past turn label q ++ lines_from setup masks run (past_after past q) (drop (i + 1) turns) (drop (i + 1) labels)) (sym kind)

lines_no_label : (setup : Setup) (masks : List ℕ) (run : Run) (past : Past) (turns : List ℕ) → lines_from setup masks run past turns [] ≡ []
lines_no_label setup masks run past [] = refl
lines_no_label setup masks run past (t ∷ ts) = refl

-- behind the last turn, or the last label, no line stands
pub lines_none : (setup : Setup) (masks : List ℕ) (run : Run) (past : Past) (turns : List ℕ) (labels : List Label) (i : ℕ) → length labels ≤ i
    → lines_from setup masks run past (drop i turns) (drop i labels) ≡ []
lines_none setup masks run past turns labels i h =
    ap (λ ls. lines_from setup masks run past (drop i turns) ls) (drop_of_length-le labels h) ∙ lines_no_label setup masks run past (drop i turns)

pub lines_no_turn : (setup : Setup) (masks : List ℕ) (run : Run) (past : Past) (turns : List ℕ) (labels : List Label) (i : ℕ) → length turns ≤ i
    → lines_from setup masks run past (drop i turns) (drop i labels) ≡ []
lines_no_turn setup masks run past turns labels i h = ap (λ ts. lines_from setup masks run past ts (drop i labels)) (drop_of_length-le turns h)
