use Rattle.std.proofs.Common.{◌≡◌, ◌∙◌, false, length, sym, ap, subst, List}
use Rattle.vub_block.specs.Answer.{pieces_status}
use Rattle.vub_block.specs.declared.request.Piece.{Piece}
use Rattle.vub_block.specs.declared.status.Status.TheVariants as status
use Rattle.vub_block.proofs.Erasing.{all_within, any_past}
use Rattle.vub_block.proofs.disk.BlockService.erase.Goals as goal

pub erase-requires : goal.erase-requires
erase-requires c =
    let done : pieces_status c.args.erase (length c.self.inside.sectors) c.args.payload.now ≡ status.Ok =
    ap (λ n. pieces_status c.args.erase n c.args.payload.now) (sym c.count.ensures.count) ∙ sym c.pieces_status-status.ensures ∙ c.in-Ok.is in
    subst (λ (ps : List Piece). any_past (length c.self.inside.sectors) ps ≡ false) (sym (c.deref-in-Ok.ensures.value ∙ c.in_ok-pieces.ensures))
    (all_within c.args.erase (length c.self.inside.sectors) c.args.payload.now done)
