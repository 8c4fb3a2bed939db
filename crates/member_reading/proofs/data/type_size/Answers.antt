use Rattle.std.proofs.Common.{◌≡◌, sym, ◌∙◌, arith}
use Rattle.member_reading.proofs.DataLaws.{value_size}
use Rattle.member_reading.proofs.data.type_size.Goals as goal

pub returns-in-Value : goal.returns-in-Value
returns-in-Value c =
    let bare : c.args.of.ranks ≡ 0 = omega arith in
    c.class_size.ensures ∙ sym (value_size c.args.types.now.names.now c.args.of c.in-Value.class bare c.in-Value.is)
