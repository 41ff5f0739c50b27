-- What a list behind a header ends as, where its entries are lent to be changed in place.
use Rattle.std.specs.Prelude.{List}
use Rattle.std.specs.Borrow.{Lends, Fml, RattleType, MutBor, Array}
use Rattle.std.specs.Vec.{with_items}
use Rattle.std.specs.declared.default.Default
use Rattle.vub_util.specs.declared.fam.FamStruct
use Rattle.vub_util.specs.contracts.fam.FamStructWrapper.{the_row}

module _ (T E : RattleType) (default : Default.Ghosts T.Denot) (fam : FamStruct.Ghosts T.Denot E.Denot)
    (list : MutBor (the_row T E default fam).Denot) where
  -- once the loan ends, the entries are those that the slice shows last, as many as before, and the header stands
  abbrev pub lends_entries : MutBor (List E.Denot) → Fml
  lends_entries slice =
      Lends (the_row T E default fam) (Array E 0) list slice
      (λ last. record list.now { entries = with_items list.now.entries last })
