use Rattle.std.proofs.Common.{◌∙◌, ap, length, List, ℕ, arith, length-drop}
use Rattle.deploy_model.specs.Banks.{holds, bank_marker}
use Rattle.board_core.proofs.AnsweredLaws.{marker_behind}
use Rattle.board_core.proofs.replies.has_bank_marker_at.Goals as goal

pub has_bank_marker-requires : goal.has_bank_marker-requires
has_bank_marker-requires c = omega (arith, ap length c.behind-bank.ensures, length-drop c.args.at c.args.bytes.now)

pub returns : goal.returns
returns c = c.has_bank_marker.ensures ∙ (ap (λ (x : List ℕ). holds bank_marker 0 x) c.behind-bank.ensures ∙ marker_behind c.args.at c.args.bytes.now)
