use Rattle.std.proofs.Common.{rules, ◌≡◌, ◌≢◌, ◌==◌, length, Some, true≢false, sym, ap, ◌∙◌, arith}
use Rattle.vub_forms.proofs.HexBytes.{pair-step, pair-bad, none-left, one-left}
use Rattle.vub_forms.proofs.hexadecimal.bytes_in_hex.Goals as goal

pub returns-in_default-byte_of : goal.returns-in_default-byte_of
returns-in_default-byte_of c = pair-bad _ c.loop-rest.rest.now _ c.byte_of.result c.byte_of.ensures c.loop-rest.invariant c.in-len2-up.len_at_least c.in_default-byte_of.is

pub loop-rest-preserved : goal.loop-rest-preserved
loop-rest-preserved c =
    pair-step _ c.loop-rest.rest.now _ c.byte_of.result c.byte_of.ensures c.loop-rest.invariant c.in-len2-up.len_at_least c.in-Some.byte _ c.in-Some.is c.in_ok-push.ensures.items

pub returns-then-is_empty : goal.returns-then-is_empty
returns-then-is_empty c =
    let none : length c.loop-rest.rest.now ≡ 0 = search rules in
    none-left _ c.loop-rest.rest.now _ c.loop-rest.invariant none ∙ ap Some (sym c.from_vec.ensures)

pub returns-else-is_empty : goal.returns-else-is_empty
returns-else-is_empty c =
    let some : length c.loop-rest.rest.now ≢ 0 = λ none. true≢false (sym (c.is_empty.ensures ∙ ap (λ n. n == 0) none) ∙ c.if-is_empty.false) in
    one-left _ c.loop-rest.rest.now _ c.loop-rest.invariant (omega (arith, c.in_default.len_below, some))
