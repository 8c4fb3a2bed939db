use Rattle.board_model.proofs.Standing.{found_stands}
use Rattle.board_model.proofs.law.found_images_stand.Goals as goal

pub returns : goal.returns
returns c = λ f format content images e. found_stands f format content images e
