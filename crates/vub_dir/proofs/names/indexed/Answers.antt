use Rattle.std.proofs.Common.{◌≡◌, ◌∙◌, ◌++◌, ◌∷◌, [], ℕ, List, ap, sym, subst, append_assoc}
use Rattle.std.specs.Cmp.Lexicographic.{slice_cmp}
use Rattle.std.specs.List.Sorted.{IsStrictlySortedBy}
use Rattle.std.specs.Map.{keys_of}
use Rattle.std.specs.Ordering.{nat_cmp}
use Rattle.std.specs.Prelude.{Vec}
use Rattle.std.specs.declared.alloc.Global.{Global}
use Rattle.vub_dir.proofs.NameOrder.{append_next}
use Rattle.vub_dir.proofs.names.indexed.Goals as goal

pub loop-name-preserved : goal.loop-name-preserved
loop-name-preserved c =
    let split : c.loop-name.nodes.entries ++ (c.in-Some.name, c.in-Some.node) ∷ c.next.new.self ≡ c.args.sorted.entries =
    ap (λ (rest : List (Vec ℕ Global × ℕ)). c.loop-name.nodes.entries ++ rest) (sym c.in-Some.ensures.steps) ∙ c.loop-name.invariant.entries in
    let rises : IsStrictlySortedBy (λ (a b : Vec ℕ Global). slice_cmp nat_cmp a.items b.items) (keys_of (c.loop-name.nodes.entries ++ (c.in-Some.name, c.in-Some.node) ∷ c.next.new.self)) =
    subst (λ (es : List (Vec ℕ Global × ℕ)). IsStrictlySortedBy (λ (a b : Vec ℕ Global). slice_cmp nat_cmp a.items b.items) (keys_of es)) (sym split) c.loop-name.invariant.rises in
    record {
      entries = ap (λ (es : List (Vec ℕ Global × ℕ)). es ++ c.next.new.self)
          (c.in_ok-_before.ensures.entries ∙ append_next (λ (k : Vec ℕ Global). k.items) c.loop-name.nodes.entries c.next.new.self c.in-Some.name c.in-Some.node rises)
          ∙ append_assoc c.loop-name.nodes.entries ((c.in-Some.name, c.in-Some.node) ∷ []) c.next.new.self
          ∙ split;
      rises = c.loop-name.invariant.rises;
    }
