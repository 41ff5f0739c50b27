-- The chain of a head gives one answer, and what a take finds at the next head is the answer for that head.
use Rattle.std.proofs.Common.{◌≡◌, ℕ, inr, List, ◌+◌, length, sym, ap, subst, ◌∙◌}
use Rattle.std.specs.Prelude.{IfOk, Result, Ok, Err}
use Rattle.vub_mem.specs.Memory.{Guest}
use Rattle.vub_queue.specs.Chain.{IsChain, chain_of}
use Rattle.vub_queue.specs.HeadChain.{ChainCosts, ChainGives}
use Rattle.vub_queue.specs.Layout.{table_of}
use Rattle.vub_queue.specs.Ring.{Ring}
use Rattle.vub_queue.specs.Take.{Costs, Looks, head_of}
use Rattle.vub_queue.specs.declared.descriptor.Descriptor.{Descriptor}
use Rattle.vub_queue.specs.declared.head.Head.TheVariants.{At}
use Rattle.vub_queue.specs.declared.took.Took.{Took}
use Rattle.vub_queue.specs.declared.took.Took.TheVariants as took
use Rattle.vub_queue.proofs.Chains.{links_one, chain_whole, fails_one}

pub gives_one : (g : Guest) (r : Ring) (h : ℕ) (t u : Took) → ChainGives g r h t → ChainGives g r h u → t ≡ u
gives_one g r h (took.Entry c) (took.Entry e) p q =
    ap took.Entry (p.2 ∙ ap (λ ds. chain_of g h ds) (links_one g (table_of r) h p.0 q.0 p.1.links q.1.links) ∙ sym q.2)
gives_one g r h (took.Entry c) (took.Damaged d) p q = absurd (chain_whole g (table_of r) h p.0 d p.1 q)
gives_one g r h (took.Damaged d) (took.Entry c) p q = absurd (chain_whole g (table_of r) h q.0 d q.1 p)
gives_one g r h (took.Damaged d) (took.Damaged e) p q = ap took.Damaged (fails_one g (table_of r) h d e p q)
gives_one g r h took.None u p q = absurd p
gives_one g r h (took.Entry c) took.None p q = absurd q
gives_one g r h (took.Damaged d) took.None p q = absurd q

-- all chains of a head have one length
pub whole_cost : (g : Guest) (r : Ring) (h : ℕ) (ds : List Descriptor) (old new : ℕ) → IsChain g (table_of r) h ds → new ≡ old + length ds → (es : List Descriptor) → IsChain g (table_of r) h es → new ≡ old + length es
whole_cost g r h ds old new chain cost es other = cost ∙ ap (λ l. old + length l) (links_one g (table_of r) h ds es chain.links other.links)

-- the chain of the next head is what looking gives
looks_chain : (g : Guest) (r : Ring) (h : ℕ) (t : Took) → head_of g r ≡ At h → ChainGives g r h t → Looks g r t
looks_chain g r h (took.Entry c) e p =
    let head : c.head ≡ h = ap (λ x. x.head) p.2 in
    (p.0, e ∙ ap At (sym head), subst (λ n. IsChain g (table_of r) n p.0) (sym head) p.1, p.2 ∙ ap (λ n. chain_of g n p.0) (sym head))
looks_chain g r h took.None e p = absurd p
looks_chain g r h (took.Damaged d) e p = inr (h, e, p)

costs_chain : (g : Guest) (r : Ring) (h old new : ℕ) (t : Took) → head_of g r ≡ At h → ChainGives g r h t → ChainCosts g r h old new t → Costs g r old new t
costs_chain g r h old new (took.Entry c) e p q =
    let head : c.head ≡ h = ap (λ x. x.head) p.2 in
    λ ds k. q ds (subst (λ n. IsChain g (table_of r) n ds) head k)
costs_chain g r h old new took.None e p q = absurd p
costs_chain g r h old new (took.Damaged d) e p q = inr (h, e, q)

pub looks_at : {E : Type 0} (g : Guest) (r : Ring) (h : ℕ) (t : Result Took E) → head_of g r ≡ At h → IfOk t (ChainGives g r h) → IfOk t (Looks g r)
looks_at g r h (Ok t) e p = looks_chain g r h t e p
looks_at g r h (Err x) e p = tt

pub costs_at : {E : Type 0} (g : Guest) (r : Ring) (h old new : ℕ) (t : Result Took E) → head_of g r ≡ At h → IfOk t (ChainGives g r h) → IfOk t (ChainCosts g r h old new) → IfOk t (Costs g r old new)
costs_at g r h old new (Ok t) e p q = costs_chain g r h old new t e p q
costs_at g r h old new (Err x) e p q = tt
