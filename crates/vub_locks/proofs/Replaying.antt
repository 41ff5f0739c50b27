-- One more call keeps a replay.
use Rattle.std.proofs.Common.{◌≡◌, ℕ, suc, ◌+◌, List, [], ◌∷◌, ◌++◌, length, sym, ap, ◌∙◌, subst, arith}
use Rattle.vub_model.specs.Service.{Meaning}
use Rattle.vub_locks.specs.declared.records.Served.{Served}
use Rattle.vub_locks.specs.Replays.{IsReplay}

module _ {V : Type 0} (m : Meaning V) where
  pub replay_snoc : (n : ℕ) (v : V) (cs : List Served) (w : V) (c : Served) → IsReplay m n v cs w → c.serial ≡ n + length cs → c.reply ≡ m.reply_of w c.request c.room → IsReplay m n v (cs ++ c ∷ []) (m.after w c.request c.room)
  replay_snoc n v [] w c h s e = (s ∙ add_zero n, subst (λ (u : V). c.reply ≡ m.reply_of u c.request c.room) h e, ap (λ (u : V). m.after u c.request c.room) h)
    where
      add_zero : (k : ℕ) → k + 0 ≡ k
      add_zero k = omega arith
  replay_snoc n v (d ∷ ds) w c h s e = (h.0, h.1, replay_snoc (suc n) (m.after v d.request d.room) ds w c h.2 (s ∙ moved n (length ds)) e)
    where
      moved : (a b : ℕ) → a + suc b ≡ suc a + b
      moved a b = omega arith

  pub replay_as : (v : V) (cs old : List Served) (w x : V) (c : Served) → IsReplay m 0 v old w → c.serial ≡ length old → c.reply ≡ m.reply_of w c.request c.room → x ≡ m.after w c.request c.room → cs ≡ old ++ c ∷ [] → IsReplay m 0 v cs x
  replay_as v cs old w x c h s e f g = subst (λ (l : List Served). IsReplay m 0 v l x) (sym g) (subst (λ (y : V). IsReplay m 0 v (old ++ c ∷ []) y) (sym f) (replay_snoc 0 v old w c h (s ∙ zero_add (length old)) e))
    where
      zero_add : (k : ℕ) → k ≡ 0 + k
      zero_add k = omega arith
