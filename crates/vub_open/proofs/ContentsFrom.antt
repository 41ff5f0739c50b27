-- The contents of a set-up, object by object.
use Rattle.std.proofs.Common.{◌≡◌, ℕ, suc, ◌+◌, ◌<◌, List, [], ◌∷◌, ◌++◌, length, get_or, take, sym, ap, ◌∙◌, arith, length-take}
use Rattle.std.proofs.lemmas.List.{take_more}
use Rattle.vub_mem.specs.declared.content.Content.{Content}
use Rattle.vub_model.specs.declared.setup.Object.{Object}
use Rattle.vub_model.specs.declared.setup.Object.TheVariants as object
use Rattle.vub_model.specs.ValidSetup.{contents_from}

-- more objects
contents_from-append : (n : ℕ) (os ps : List Object) → contents_from n (os ++ ps) ≡ contents_from n os ++ contents_from (n + length os) ps
contents_from-append n [] ps = (let none : n ≡ n + 0 = omega arith in ap (λ k. contents_from k ps) none)
contents_from-append n (object.Event flags ∷ os) ps =
    contents_from-append (n + 1) os ps
    ∙ (let same : n + 1 + length os ≡ n + suc (length os) = omega arith in ap (λ k. contents_from (n + 1) os ++ contents_from k ps) same)
contents_from-append n (object.Log len ∷ os) ps =
    contents_from-append (n + 1) os ps
    ∙ (let same : n + 1 + length os ≡ n + suc (length os) = omega arith in ap (λ k. contents_from (n + 1) os ++ contents_from k ps) same)
contents_from-append n (object.Content bytes ∷ os) ps =
    ap (λ cs. record { object = n; bytes = bytes } ∷ cs) (contents_from-append (n + 1) os ps
    ∙ (let same : n + 1 + length os ≡ n + suc (length os) = omega arith in ap (λ k. contents_from (n + 1) os ++ contents_from k ps) same))

-- one more object
pub contents_more : (os : List Object) (i : ℕ) (o : Object) (old new : List Content) → i < length os → o ≡ get_or os i o → old ≡ contents_from 0 (take i os) → new ≡ old ++ contents_from i (o ∷ []) → new ≡ contents_from 0 (take (i + 1) os)
contents_more os i o old new h at e is =
    let place : 0 + length (take i os) ≡ i = omega (arith, length-take i os) in
    is
    ∙ ap (λ cs. cs ++ contents_from i (o ∷ [])) e
    ∙ sym (ap (λ l. contents_from 0 l) (take_more os i o h ∙ ap (λ x. take i os ++ x ∷ []) (sym at)) ∙ contents_from-append 0 (take i os) (o ∷ []) ∙ ap (λ k. contents_from 0 (take i os) ++ contents_from k (o ∷ [])) place)
