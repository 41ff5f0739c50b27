use Rattle.vub_share.proofs.GeneratorValid.{made_served}
use Rattle.vub_rows.proofs.making.text_of_three.Goals as goal

pub play_script-requires : goal.play_script-requires
play_script-requires c = made_served c.in_ok-setup.field-0 3 c.in_ok-setup.ensures
