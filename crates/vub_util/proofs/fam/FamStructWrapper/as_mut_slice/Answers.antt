use Rattle.std.proofs.Common.{refl}
use Rattle.std.proofs.Math.Bridge.{le_prop}
use Rattle.std.proofs.Math.Nat.{ℕ_set}
use Rattle.std.specs.Vec.{with_items}
use Rattle.vub_util.proofs.fam.FamStructWrapper.as_mut_slice.Goals as goal

-- the two facts of the list have one proof each
pub returns : goal.returns
returns g c =
    let list = c.args.self.now in (
      (
        refl,
        λ w i. record {
          header = list.header;
          entries = with_items list.entries w;
          same_length = ℕ_set _ _ (c.self-1.given w).0 list.same_length i;
          within = le_prop (c.self-1.given w).1.0 list.within i;
        },
      ),
      record { writes_back = tt; entries = c.as_mut_slice.ensures.value },
    )
