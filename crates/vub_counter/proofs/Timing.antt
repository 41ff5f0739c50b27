-- A timer counts each expiry once.
use Rattle.std.proofs.Common.{ℕ, ◌+◌, ◌-◌, ◌*◌, ◌/◌, ◌%◌, ◌<◌, ◌≤◌, ◌≡◌, Bool, true, false, nat_lt, ◌==◌, Option, Some, None, ◌∙◌, ap, refl, arith}
use Rattle.std.proofs.lemmas.Nat.{div-add-mod', div-mul-add, mod_below}
use Rattle.std.proofs.lemmas.Bool.Decides.{nat_tests}
use Rattle.vub_counter.specs.declared.timer.Armed.{Armed}
use Rattle.vub_counter.specs.Timer.{expiries, after_wait, CountsOnce}

-- a quotient is known by its remainder
quotient : (n q r m : ℕ) → n ≡ q * m + r → r < m → n / m ≡ q
quotient n q r m is small = ap (λ (k : ℕ). k / m) is ∙ div-mul-add q m r small

distribute : (q p i : ℕ) → (q + 1 + p) * i ≡ q * i + i + p * i
distribute q p i = grind arith

-- no expiry between the two waits
none-between : (x i a b : ℕ) → 0 < i → x ≤ a → a ≤ b → b < a - (a - x) % i + i → (a - x) / i + 1 ≡ (b - x) / i + 1
none-between x i a b some early order soon =
    let parts = div-add-mod' (a - x) i in
    let small = mod_below (a - x) i some in
    let same : (b - x) / i ≡ (a - x) / i =
    quotient (b - x) ((a - x) / i) (b - x - (a - x) / i * i) i (omega (arith, parts, small)) (omega (arith, parts, small)) in
    omega (arith, same)

-- some expiries between the two waits
some-between : (x i a b : ℕ) → 0 < i → x ≤ a → a - (a - x) % i + i ≤ b
    → (a - x) / i + 1 + ((b - (a - (a - x) % i + i)) / i + 1) ≡ (b - x) / i + 1
some-between x i a b some early late =
    let parts = div-add-mod' (a - x) i in
    let small = mod_below (a - x) i some in
    let rest : ℕ = b - (a - (a - x) % i + i) in
    let parts2 = div-add-mod' rest i in
    let small2 = mod_below rest i some in
    let spread = distribute ((a - x) / i) (rest / i) i in
    let all : (b - x) / i ≡ (a - x) / i + 1 + rest / i =
    quotient (b - x) ((a - x) / i + 1 + rest / i) (rest % i) i (omega (arith, parts, small, parts2, small2, spread)) small2 in
    omega (arith, all)

once : (t : Armed) (a b : ℕ) (early none soon : Bool) → a ≤ b → nat_lt a t.next ≡ early → (t.interval == 0) ≡ none
    → nat_lt b (a - (a - t.next) % t.interval + t.interval) ≡ soon
    → expiries (Some t) a + expiries (after_wait (Some t) a) b ≡ expiries (Some t) b
once t a b true none soon order early is_none is_soon = rw early (omega arith)
once t a b false true soon order early is_none is_soon =
    let later : nat_lt b t.next ≡ false = grind (arith, nat_tests) in
    rw (early, is_none, later) refl
once t a b false false true order early is_none is_soon =
    let later : nat_lt b t.next ≡ false = grind (arith, nat_tests) in
    let some : 0 < t.interval = grind (arith, nat_tests) in
    let reached : t.next ≤ a = grind (arith, nat_tests) in
    let before : b < a - (a - t.next) % t.interval + t.interval = grind (arith, nat_tests) in
    let same = none-between t.next t.interval a b some reached order before in
    rw (early, is_none, later) (rw is_soon (omega (arith, same)))
once t a b false false false order early is_none is_soon =
    let later : nat_lt b t.next ≡ false = grind (arith, nat_tests) in
    let some : 0 < t.interval = grind (arith, nat_tests) in
    let reached : t.next ≤ a = grind (arith, nat_tests) in
    let after : a - (a - t.next) % t.interval + t.interval ≤ b = grind (arith, nat_tests) in
    let same = some-between t.next t.interval a b some reached after in
    rw (early, is_none, later) (rw (is_soon, is_none) (omega (arith, same)))

pub once_law : (timer : Option Armed) → CountsOnce timer
once_law None now later order = refl
once_law (Some t) now later order =
    once t now later (nat_lt now t.next) (t.interval == 0) (nat_lt later (now - (now - t.next) % t.interval + t.interval)) order refl refl refl
